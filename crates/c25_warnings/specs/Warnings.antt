-- The warnings of a source: what is allowed in it, and is most likely a mistake.
use Rattle.std.specs.Prelude.{ℕ, ◌+◌, ◌==◌, Bool, not, ◌||◌, ◌&&◌, nat_lt, is_some, List, [], ◌∷◌, ◌++◌, unwrap_or, if◌then◌else◌, Option, Some, None}
use Rattle.std.specs.List.{list_any}
use Rattle.std.specs.Str.{bytes_eq}
use Rattle.c25_meaning_assembly.specs.Sections.{Definitions, is_in}
use Rattle.c25_meaning_expansion.specs.Files.{Files}
use Rattle.c25_meaning_instructions.specs.declared.mnemonic.Spelling.{Spelling}
use Rattle.c25_meaning_language.specs.Line.{Piece, first_word}
use Rattle.c25_meaning_linking.specs.Place.{Place}
use Rattle.c25_meaning_objects.specs.Module.{Contents}
use Rattle.c25_line_warnings.specs.Labels.{directive_label, mnemonic_label}
use Rattle.c25_line_warnings.specs.Names.{warning_name}
use Rattle.c25_line_warnings.specs.Memories.{Memories, misplaced_name, register_shift}
use Rattle.c25_line_warnings.specs.Reach.{after, is_not_reached, is_wrongly_repeated, nothing}
use Rattle.c25_line_warnings.specs.Said.{operands_in, spelling_in}
use Rattle.c25_line_warnings.specs.SourceLine.{SourceLine}
use Rattle.c25_warnings.specs.Data.{any_moves, data_name}
use Rattle.c25_warnings.specs.SourceLines.{SourceLines, source_lines}
use Rattle.c25_uses.specs.Uses.{Defined, defined_in, used_names}
use Rattle.c25_line_warnings.specs.declared.reach.Before.{Before}
use Rattle.c25_line_warnings.specs.declared.warning_kind.WarningKind.{WarningKind}
use Rattle.c25_line_warnings.specs.declared.warning_kind.WarningKind.TheVariants as warning

-- a warning: its kind, the file, number and text of its line, and what it names
pub record Warning : Type 0 where
  pub kind : WarningKind
  pub file : List ℕ
  pub line : ℕ
  pub text : List ℕ
  pub name : List ℕ

-- what is known of the whole source when its lines are looked at
pub record Known : Type 0 where
  pub name : List ℕ
  pub contents : Contents
  pub memories : Memories
  pub used : List (List ℕ)
  -- whether an instruction writes the word after the one that it names
  pub moves : Bool

-- a warning of a line
abbrev pub at_line : SourceLine → WarningKind → List ℕ → Warning
at_line l kind name = record { kind = kind; file = l.file; line = l.line; text = l.text; name = name }

-- the warning of a name, if there is one
abbrev pub if_named : SourceLine → WarningKind → Option (List ℕ) → List Warning
if_named l kind None = []
if_named l kind (Some name) = at_line l kind name ∷ []

-- ---- the symbols of a line

-- the label of a line with an instruction to which branches alone lead: the processor itself may begin with one
-- of the first 32 words of a section
unfoldable pub branch_label : SourceLine → Option (List ℕ) → Option (List ℕ)
branch_label l label = if nat_lt l.offset 32 || not (is_some (spelling_in l.text)) then None else label

-- a warning of a symbol, if it is never used
abbrev pub if_unused : Known → SourceLine → WarningKind → Option (List ℕ) → List Warning
if_unused k l kind None = []
if_unused k l kind (Some name) = if is_in k.used name then [] else at_line l kind name ∷ []

-- the name of the words of data that a line reserves or makes, which nothing reaches by another name; none where an
-- instruction reaches a word by the name of the word before
abbrev pub words_name : Known → SourceLine → Defined → Option (List ℕ)
words_name k l d = if k.moves then None else data_name k.contents k.memories.symbols l d

-- the warnings of the labels and the words of a line
abbrev pub of_places : Known → SourceLine → Defined → List Warning
of_places k l d = if_unused k l warning.Unused (branch_label l d.label) ++ if_unused k l warning.Unused (words_name k l d)

-- the warnings of the symbols that a line defines
abbrev pub of_defined : Known → SourceLine → Option Defined → List Warning
of_defined k l None = []
of_defined k l (Some d) = if_unused k l warning.Unused d.value ++ of_places k l d

-- the same, unless the line is one of a copied file, which may be there for other sources
unfoldable pub of_definitions : Known → SourceLine → List Warning
of_definitions k l = if bytes_eq l.file k.name then of_defined k l (defined_in l.text) else []

-- the warnings of a line's label that was most likely meant as an instruction or, where no line uses it, as a directive
unfoldable pub of_label : Known → SourceLine → List Warning
of_label k l = if_named l warning.MnemonicLabel (mnemonic_label l.text) ++ if_unused k l warning.DirectiveLabel (directive_label l.text)

-- the warnings of the symbols of a line
unfoldable pub of_symbols : Known → SourceLine → List Warning
of_symbols k l = of_label k l ++ of_definitions k l

-- ---- the instruction of a line

-- a warning with what it names
abbrev pub of_pair : SourceLine → Option (WarningKind × List ℕ) → List Warning
of_pair l None = []
of_pair l (Some (kind, name)) = at_line l kind name ∷ []

-- the warnings of operands that are addresses, numbered from `n` on
abbrev pub of_addresses : Known → SourceLine → Spelling → ℕ → List (List Piece) → List Warning
of_addresses k l s n [] = []
of_addresses k l s n (o ∷ os) = of_pair l (misplaced_name k.memories s n o) ++ of_addresses k l s (n + 1) os

-- the warnings of an instruction's operands
unfoldable pub of_operands : Known → SourceLine → Spelling → List (List Piece) → List Warning
of_operands k l s operands = if_named l warning.RegisterShift (register_shift s operands) ++ of_addresses k l s 0 operands

-- the mnemonic of a line, as written
abbrev pub mnemonic_in : List ℕ → List ℕ
mnemonic_in text = unwrap_or (first_word text) []

-- a warning of the line's mnemonic, if there is one
unfoldable pub of_mnemonic : SourceLine → WarningKind → Bool → List Warning
of_mnemonic l kind is = if is then at_line l kind (mnemonic_in l.text) ∷ [] else []

-- the warnings of an instruction for what stands before it
unfoldable pub of_order : Known → Before → SourceLine → Spelling → List Warning
of_order k b l s =
    of_mnemonic l warning.NotRepeatable (is_wrongly_repeated b l s)
    ++ of_mnemonic l warning.NotReached (is_not_reached k.contents b l s)

-- the warnings of an instruction after these words
unfoldable pub of_instruction : Known → Before → SourceLine → Spelling → List Warning
of_instruction k b l s = of_order k b l s ++ of_operands k l s (operands_in l.text)

-- the warnings of a line's instruction, if it has one
abbrev pub of_spelling : Known → Before → SourceLine → Option Spelling → List Warning
of_spelling k b l None = []
of_spelling k b l (Some s) = of_instruction k b l s

-- ---- all lines

-- the warnings of a line after these words
unfoldable pub of_line : Known → Before → SourceLine → List Warning
of_line k b l = of_symbols k l ++ of_spelling k b l (spelling_in l.text)

-- the warnings of lines, one line after the other
abbrev pub of_lines : Known → Before → List SourceLine → List Warning
of_lines k b [] = []
of_lines k b (l ∷ ls) = of_line k b l ++ of_lines k (after b l (spelling_in l.text)) ls

-- ---- each warning once

-- whether two warnings are the same: those of one kind and of one line, whatever they name, since they are printed alike
abbrev pub same : Warning → Warning → Bool
same a b = a.line == b.line && bytes_eq a.file b.file && bytes_eq (warning_name a.kind) (warning_name b.kind)

-- the warnings and this one at the end, unless it is among them
unfoldable pub with_new : List Warning → Warning → List Warning
with_new ws w = if list_any (same w) ws then ws else ws ++ w ∷ []

-- the warnings with these others at the end, each once
abbrev pub each_once : List Warning → List Warning → List Warning
each_once seen [] = seen
each_once seen (w ∷ ws) = each_once (with_new seen w) ws

-- ---- a source

-- what says in which memory the symbols of a module lie: their values, its sections, and where these are placed
abbrev pub memories_in : Contents → Definitions → List Place → Memories
memories_in m symbols places = record { symbols = symbols; sections = m.sections; places = places }

-- what is known of a source of this name that is assembled to a module, by what its lines use
abbrev pub known_with : List ℕ → Contents → Memories → List (List ℕ) → Bool → Known
known_with name m memories used moves = record { name = name; contents = m; memories = memories; used = used; moves = moves }

-- what is known of a source that has these lines and is assembled to this module
abbrev pub known_of : Files → List ℕ → List Place → Contents → SourceLines → Known
known_of files name places m a =
    known_with name m (memories_in m a.progress.names places) (used_names files a.lines) (any_moves a.lines)

-- the warnings of a source with these lines, in their order
abbrev pub with_lines : Files → List ℕ → List Place → Contents → Option SourceLines → List Warning
with_lines files name places m None = []
with_lines files name places m (Some a) = of_lines (known_of files name places m a) nothing a.lines

-- the warnings of the source of this name, which is assembled to this module and whose sections are placed so
unfoldable pub warnings_of : Files → List ℕ → Contents → List Place → List Warning
warnings_of files name m places = with_lines files name places m (source_lines files name)

-- the warnings of the sources of these names, which are assembled to these modules, one source after the other
abbrev pub of_sources : Files → List (List ℕ) → List Contents → List Place → List Warning
of_sources files [] ms places = []
of_sources files (name ∷ names) [] places = []
of_sources files (name ∷ names) (m ∷ ms) places = warnings_of files name m places ++ of_sources files names ms places

-- the same, each once: a line that several sources copy is warned of once
abbrev pub warnings_of_sources : Files → List (List ℕ) → List Contents → List Place → List Warning
warnings_of_sources files names ms places = each_once [] (of_sources files names ms places)
