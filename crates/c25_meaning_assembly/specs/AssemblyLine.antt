-- What a line of a module says after expansion, or the first fault that the line shows by itself: 10 to 13,
-- 50, 51, 52, 20, 21 (SPRU018, source statement format and assembler directives).
use Rattle.std.specs.Prelude.{ℕ, ◌+◌, ◌*◌, ◌==◌, Bool, true, false, ◌&&◌, if◌then◌else◌, List, [], ◌∷◌, ◌++◌, length, slice_index, codes, Option, Some, None, unwrap_or, Result, Ok, Err}
use Rattle.std.specs.List.{list_any}
use Rattle.std.specs.Str.{str_eq_ignore_ascii_case}
use Rattle.c25_meaning_language.specs.DirectiveOperands.{expression_in, name_in, names_in, string_in, parts_in}
use Rattle.c25_meaning_common.specs.Bytes.{is_blank}
use Rattle.c25_meaning_language.specs.Line.{Piece, Part, Parts, first_word}
use Rattle.c25_meaning_objects.specs.Module.{is_section_name}
use Rattle.c25_meaning_language.specs.Operands.{operands_of, written_of, is_string}
use Rattle.c25_meaning_language.specs.Forms.{is_expression}
use Rattle.c25_meaning_common.specs.Results.{◌>>=◌}
use Rattle.c25_meaning_assembly.specs.StatementLine.{spelled, operation_of, trees_in}
use Rattle.c25_meaning_language.specs.Tree.{Tree}
use Rattle.c25_meaning_assembly.specs.declared.assembly.DataWidth.TheVariants as width
use Rattle.c25_meaning_assembly.specs.declared.assembly.Directive.{Directive}
use Rattle.c25_meaning_assembly.specs.declared.assembly.Directive.TheVariants as directive
use Rattle.c25_meaning_assembly.specs.declared.assembly.Target.{Target}
use Rattle.c25_meaning_assembly.specs.declared.assembly.Target.TheVariants as target
use Rattle.c25_meaning_language.specs.declared.statement.FaultKind.{FaultKind}
use Rattle.c25_meaning_language.specs.declared.statement.FaultKind.TheVariants as fault

-- how much a directive reserves: a count of words, and for `.bss` a flag, whether the words must lie in one
-- data page
pub record Room : Type 0 where
  pub count : Tree
  pub flag : Option Tree

-- what a line asks of the assembler
pub data AssemblyAct : Type 0 where
  -- a line without a mnemonic, or with a directive that has no effect
  Nothing : AssemblyAct
  -- `.text`, `.data`, `.sect`
  Enter : (section : List ℕ) → AssemblyAct
  -- `.bss`, `.usect`; a fault 20 or 21 of the count or the flag is kept here, since a section of the other
  -- kind (52) is reported before it
  Reserve : (section name : List ℕ) (room : Result Room FaultKind) → AssemblyAct
  -- `.set`, `.equ`
  Equate : (name : List ℕ) (value : Tree) → AssemblyAct
  -- an instruction, `.word`, `.int`, `.byte`
  Put : (target : Target) (operands : List Tree) → AssemblyAct
  -- `.string`
  Load : (words : List ℕ) → AssemblyAct
  -- `.space`
  Space : (bits : Tree) → AssemblyAct
  -- `.global`, `.ref`
  Declare : (names : List (List ℕ)) → AssemblyAct
  -- `.def`
  Export : (names : List (List ℕ)) → AssemblyAct
  -- `.label`
  Label : (name : List ℕ) → AssemblyAct
  -- `.mmregs`
  Registers : AssemblyAct

-- what a line says: a label for the address where its words begin, and what it asks for
pub record Statement : Type 0 where
  pub label : Option (List ℕ)
  pub act : AssemblyAct

-- ---- directives by their names

-- the directives that the assembler acts on, by their names
abbrev pub directives : List (List ℕ × Directive)
directives =
    (codes ".text", directive.Text) ∷ (codes ".data", directive.Data) ∷ (codes ".sect", directive.Sect)
    ∷ (codes ".bss", directive.Bss) ∷ (codes ".usect", directive.Usect) ∷ (codes ".word", directive.Word)
    ∷ (codes ".int", directive.Word) ∷ (codes ".byte", directive.Byte) ∷ (codes ".string", directive.Characters)
    ∷ (codes ".space", directive.Space) ∷ (codes ".set", directive.Set) ∷ (codes ".equ", directive.Set)
    ∷ (codes ".global", directive.Global) ∷ (codes ".ref", directive.Global) ∷ (codes ".def", directive.Def)
    ∷ (codes ".label", directive.Label) ∷ (codes ".mmregs", directive.Registers) ∷ []

-- the directives that concern listings alone and have no effect
abbrev pub ignored : List (List ℕ)
ignored =
    codes ".title" ∷ codes ".list" ∷ codes ".nolist" ∷ codes ".page" ∷ codes ".width" ∷ codes ".length" ∷ codes ".option"
    ∷ codes ".mlist" ∷ codes ".mnolist" ∷ codes ".fclist" ∷ codes ".fcnolist" ∷ codes ".sslist" ∷ codes ".ssnolist" ∷ []

-- the first directive of this list that has this name, letters in either case
abbrev pub directive_among : List ℕ → List (List ℕ × Directive) → Option Directive
directive_among word [] = None
directive_among word (d ∷ ds) = if str_eq_ignore_ascii_case word d.0 then Some d.1 else directive_among word ds

-- whether this is the name of a directive without effect, letters in either case
unfoldable pub is_ignored : List ℕ → Bool
is_ignored word = list_any (str_eq_ignore_ascii_case word) ignored

-- the directive, or else one without effect if this is the name of one
abbrev pub or_ignored : Option Directive → List ℕ → Option Directive
or_ignored (Some d) word = Some d
or_ignored None word = if is_ignored word then Some directive.Ignored else None

-- the directive of this name, if the assembler has one
unfoldable pub directive_of : List ℕ → Option Directive
directive_of word = or_ignored (directive_among word directives) word

-- the directive in the mnemonic field, if it holds one
abbrev pub directive_in : Option (List ℕ) → Option Directive
directive_in None = None
directive_in (Some word) = directive_of word

-- ---- operands

-- the act of a directive that takes no operand
abbrev pub without : AssemblyAct → List (List Piece) → Result AssemblyAct FaultKind
without act [] = Ok act
without act (o ∷ os) = Err fault.OperandCount

-- nothing, where there is at least one operand; else OperandCount (51)
abbrev pub some : List (List Piece) → Result (Unit {0}) FaultKind
some [] = Err fault.OperandCount
some (o ∷ os) = Ok tt

-- nothing, where all operands are written as expressions; else OperandForm (52)
abbrev pub all_expressions : List (List Piece) → Result (Unit {0}) FaultKind
all_expressions [] = Ok tt
all_expressions (o ∷ os) = if is_expression (written_of o) then all_expressions os else Err fault.OperandForm

-- the trees of operands that are all expressions, at least one
abbrev pub expressions_in : List (List Piece) → Result (List Tree) FaultKind
expressions_in operands = some operands >>= λ _. all_expressions operands >>= λ _. trees_in operands

-- the texts of operands that are all names, at least one
abbrev pub some_names : List (List Piece) → Result (List (List ℕ)) FaultKind
some_names operands = some operands >>= λ _. names_in operands

-- whether the second token begins where the first ends
abbrev pub stands_behind : Piece → Piece → Bool
stands_behind p q = q.start == p.start + length p.text

-- the text of the tokens after this one, if nothing stands between any two; else OperandForm (52)
abbrev pub joined_behind : Piece → List Piece → Result (List ℕ) FaultKind
joined_behind p [] = Ok []
joined_behind p (q ∷ qs) =
    if stands_behind p q then (joined_behind q qs >>= λ rest. Ok (q.text ++ rest)) else Err fault.OperandForm

-- the text of an operand of one or more tokens with nothing between them, as in a section's name that is not
-- in quotes
abbrev pub joined : List Piece → Result (List ℕ) FaultKind
joined [] = Err fault.OperandForm
joined (p ∷ ps) = joined_behind p ps >>= λ rest. Ok (p.text ++ rest)

-- the name that an operand gives: what its string says, or else its text
abbrev pub said_in : List Piece → Result (List ℕ) FaultKind
said_in operand = if is_string operand then string_in operand else joined operand

-- the text, if it may be a section's name
abbrev pub as_section : List ℕ → Result (List ℕ) FaultKind
as_section name = if is_section_name name then Ok name else Err fault.OperandForm

-- the section's name that an operand gives
abbrev pub section_in : List Piece → Result (List ℕ) FaultKind
section_in operand = said_in operand >>= λ name. as_section name

-- the tree of an operand that is written as an expression, or its fault 20 or 21, which is kept for later; an
-- operand of another form is OperandForm (52) at once
abbrev pub later_in : List Piece → Result (Result Tree FaultKind) FaultKind
later_in operand = if is_expression (written_of operand) then Ok (expression_in operand) else Err fault.OperandForm

-- a reservation of a count without a flag, or the fault 20 or 21 of the count
abbrev pub alone : Result Tree FaultKind → Result Room FaultKind
alone count = count >>= λ e. Ok (record { count = e; flag = None })

-- a reservation of a count and a flag, or the fault of one of them: 20 of either is reported before 21
abbrev pub flagged : Result Tree FaultKind → Result Tree FaultKind → Result Room FaultKind
flagged (Ok e) (Ok f) = Ok (record { count = e; flag = Some f })
flagged (Ok e) (Err k) = Err k
flagged (Err fault.TooDeep) (Err k) = Err k
flagged (Err k) flag = Err k

-- ---- the directives with operands

-- `.sect`: one operand, a section's name
abbrev pub entering : List (List Piece) → Result AssemblyAct FaultKind
entering (o ∷ []) = section_in o >>= λ section. Ok (Enter section)
entering _ = Err fault.OperandCount

-- `.bss`: a name, a count, and perhaps a flag
abbrev pub reserving : List (List Piece) → Result AssemblyAct FaultKind
reserving (o ∷ p ∷ []) = name_in o >>= λ name. later_in p >>= λ count. Ok (Reserve (codes ".bss") name (alone count))
reserving (o ∷ p ∷ q ∷ []) =
    name_in o >>= λ name. later_in p >>= λ count. later_in q >>= λ flag. Ok (Reserve (codes ".bss") name (flagged count flag))
reserving _ = Err fault.OperandCount

-- `.usect`: a section's name and a count; the label is the name
abbrev pub reserving_in : List ℕ → List (List Piece) → Result AssemblyAct FaultKind
reserving_in label (o ∷ p ∷ []) =
    section_in o >>= λ section. later_in p >>= λ count. Ok (Reserve section label (alone count))
reserving_in label _ = Err fault.OperandCount

-- the act of a directive that takes one operand, an expression
abbrev pub with_expression : (Tree → AssemblyAct) → List (List Piece) → Result AssemblyAct FaultKind
with_expression act (o ∷ []) = expression_in o >>= λ e. Ok (act e)
with_expression act _ = Err fault.OperandCount

-- the words of a string: two characters a word, the first in the high byte; a last one alone has 0 in the low
-- byte
abbrev pub packed : List ℕ → List ℕ
packed [] = []
packed (a ∷ []) = (a * 256) ∷ []
packed (a ∷ b ∷ rest) = (a * 256 + b) ∷ packed rest

-- the words of strings, each of which begins a new word
abbrev pub strings_in : List (List Piece) → Result (List ℕ) FaultKind
strings_in [] = Ok []
strings_in (o ∷ os) = string_in o >>= λ text. strings_in os >>= λ words. Ok (packed text ++ words)

-- `.string`: strings, at least one
abbrev pub loading : List (List Piece) → Result AssemblyAct FaultKind
loading operands = some operands >>= λ _. strings_in operands >>= λ words. Ok (Load words)

-- `.label`: one operand, a name
abbrev pub naming : List (List Piece) → Result AssemblyAct FaultKind
naming (o ∷ []) = name_in o >>= λ name. Ok (Label name)
naming _ = Err fault.OperandCount

-- what a directive asks for, on a line with this label and these operands
unfoldable pub act_of : Directive → List ℕ → List (List Piece) → Result AssemblyAct FaultKind
act_of directive.Text label operands = without (Enter (codes ".text")) operands
act_of directive.Data label operands = without (Enter (codes ".data")) operands
act_of directive.Sect label operands = entering operands
act_of directive.Bss label operands = reserving operands
act_of directive.Usect label operands = reserving_in label operands
act_of directive.Word label operands = expressions_in operands >>= λ es. Ok (Put (target.Data width.Word) es)
act_of directive.Byte label operands = expressions_in operands >>= λ es. Ok (Put (target.Data width.Byte) es)
act_of directive.Characters label operands = loading operands
act_of directive.Space label operands = with_expression Space operands
act_of directive.Set label operands = with_expression (Equate label) operands
act_of directive.Global label operands = some_names operands >>= λ names. Ok (Declare names)
act_of directive.Def label operands = some_names operands >>= λ names. Ok (Export names)
act_of directive.Label label operands = naming operands
act_of directive.Registers label operands = without Registers operands
act_of directive.Ignored label operands = Ok Nothing

-- ---- whole lines

-- what an instruction's line asks for
abbrev pub instructing : List ℕ → List (List Piece) → Result AssemblyAct FaultKind
instructing word operands =
    spelled word >>= λ s. operation_of s operands >>= λ o. Ok (Put (target.Instruction o.form) o.trees)

-- what a line without a directive asks for: an instruction, or nothing
abbrev pub act_without : Option Part → List (List Piece) → Result AssemblyAct FaultKind
act_without None operands = Ok Nothing
act_without (Some word) operands = instructing word.text operands

-- what a line asks for, by its directive if it has one
abbrev pub act_by : Option Directive → Parts → Result AssemblyAct FaultKind
act_by None parts = act_without parts.word (operands_of parts.pieces)
act_by (Some d) parts = act_of d (unwrap_or parts.label []) (operands_of parts.pieces)

-- whether a directive gives its label a value of its own: `.set`, `.equ`, `.usect`
abbrev pub names_label : Option Directive → Bool
names_label (Some directive.Set) = true
names_label (Some directive.Usect) = true
names_label _ = false

-- the parts of a line: where the directive needs a label, a blank in column 1 is BadLabel before any other
-- fault
abbrev pub parts_for : Option Directive → List ℕ → Result Parts FaultKind
parts_for d text = if names_label d && is_blank (slice_index text 0) then Err fault.BadLabel else parts_in text

-- the label that stands for the address where the line's words begin
abbrev pub label_for : Option Directive → Option (List ℕ) → Option (List ℕ)
label_for d label = if names_label d then None else label

-- what a line says, by its directive if it has one
unfoldable pub statement_by : Option Directive → List ℕ → Result Statement FaultKind
statement_by d text =
    parts_for d text >>= λ parts. act_by d parts >>= λ act. Ok (record { label = label_for d parts.label; act = act })

-- what a line says, or the first fault that it shows by itself
abbrev pub read_statement : List ℕ → Result Statement FaultKind
read_statement text = statement_by (directive_in (first_word text)) text
