-- The symbols that lines define, and those that they use.
use Rattle.std.specs.Prelude.{ℕ, ◌==◌, Bool, true, not, ◌&&◌, List, [], ◌∷◌, ◌++◌, length, drop, take, Option, Some, None, Result, Ok, Err, if◌then◌else◌}
use Rattle.std.specs.List.{flat_map, prefix_len, slice_split}
use Rattle.std.specs.Option.{option_map_or}
use Rattle.std.specs.Str.{bytes_eq}
use Rattle.std.specs.Str.Lines.{lines}
use Rattle.c25_meaning_assembly.specs.AssemblyLine.{AssemblyAct, Equate, Label, Reserve, Statement, read_statement}
use Rattle.c25_meaning_common.specs.Bytes.{goes_on_name}
use Rattle.c25_meaning_expansion.specs.Files.{Files, text_named}
use Rattle.c25_meaning_language.specs.declared.statement.FaultKind.{FaultKind}
use Rattle.c25_meaning_language.specs.DirectiveOperands.{is_name}
use Rattle.c25_meaning_language.specs.Line.{Piece}
use Rattle.c25_line_warnings.specs.Said.{label_of, pieces_in}
use Rattle.c25_line_warnings.specs.SourceLine.{SourceLine}

-- the symbols that a line defines: its label for the place where it begins, the name of a `.set` or `.equ`, and
-- the name of a `.bss`, `.usect` or `.label`
pub record Defined : Type 0 where
  pub label : Option (List ℕ)
  pub value : Option (List ℕ)
  pub place : Option (List ℕ)

-- the name of a `.set` or `.equ`
abbrev pub value_name : AssemblyAct → Option (List ℕ)
value_name (Equate name e) = Some name
value_name act = None

-- the name of a `.bss`, `.usect` or `.label`
abbrev pub place_name : AssemblyAct → Option (List ℕ)
place_name (Reserve section name room) = Some name
place_name (Label name) = Some name
place_name act = None

-- the symbols that a statement defines
abbrev pub defined_by : Result Statement FaultKind → Option Defined
defined_by (Ok s) = Some (record { label = s.label; value = value_name s.act; place = place_name s.act })
defined_by (Err f) = None

-- the symbols that a line defines, if it is a statement of the assembler
unfoldable pub defined_in : List ℕ → Option Defined
defined_in text = defined_by (read_statement text)

-- whether a name is not this one
abbrev pub is_other : Option (List ℕ) → List ℕ → Bool
is_other None name = true
is_other (Some own) name = not (bytes_eq own name)

-- whether a token is a name that a statement uses: it is not the one that the statement's directive defines
unfoldable pub is_use : Option (List ℕ) → Piece → Bool
is_use own p = is_name p.kind && is_other own p.text

-- the name that a token is, if the statement uses it
abbrev pub name_used : Option (List ℕ) → Piece → List (List ℕ)
name_used own p = if is_use own p then p.text ∷ [] else []

-- the names among the operands of a statement that it uses
unfoldable pub operand_names : List ℕ → Option (List ℕ) → List (List ℕ)
operand_names text own = flat_map (name_used own) (pieces_in text)

-- a line without its label
abbrev pub behind_label : List ℕ → List ℕ
behind_label text = drop (option_map_or length (label_of text) 0) text

-- a text up to its first `;`
abbrev pub before_comment : List ℕ → List ℕ
before_comment text = take (prefix_len (λ b. not (b == 59)) text) text

-- all that may be a name in a line that is no statement, such as a directive of expansion, a call of a macro, or a
-- line in which texts are replaced
unfoldable pub words_in : List ℕ → List (List ℕ)
words_in text = slice_split (λ b. not (goes_on_name b)) (before_comment (behind_label text))

-- the names that a line uses, by what it defines
abbrev pub uses_by : List ℕ → Option Defined → List (List ℕ)
uses_by text (Some d) = operand_names text d.place
uses_by text None = words_in text

-- the names that a line uses
unfoldable pub uses_in : List ℕ → List (List ℕ)
uses_in text = uses_by text (defined_in text)

-- the names that the lines of a file use
unfoldable pub uses_in_file : Option (List ℕ) → List (List ℕ)
uses_in_file None = []
uses_in_file (Some text) = flat_map uses_in (lines text)

-- the names that all files use, before expansion
abbrev pub uses_in_files : Files → List (List ℕ)
uses_in_files files = flat_map (λ f. uses_in_file (text_named files f.0)) files

-- the names that lines use, after expansion
abbrev pub uses_in_lines : List SourceLine → List (List ℕ)
uses_in_lines source = flat_map (λ l. uses_in l.text) source

-- the names that lines use: those of all files before expansion, since expansion consumes some lines, and those
-- after it
unfoldable pub used_names : Files → List SourceLine → List (List ℕ)
used_names files source = uses_in_files files ++ uses_in_lines source
