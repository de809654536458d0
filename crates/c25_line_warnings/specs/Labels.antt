-- Labels that were most likely meant as an instruction or a directive.
use Rattle.std.specs.Prelude.{ℕ, ◌==◌, Bool, ◌||◌, is_some, length, slice_index, List, [], ◌∷◌, Option, Some, None, codes, if◌then◌else◌}
use Rattle.std.specs.List.{list_any}
use Rattle.std.specs.Str.{str_eq_ignore_ascii_case}
use Rattle.c25_meaning_language.specs.Line.{first_word}
use Rattle.c25_meaning_instructions.specs.Spellings.{spelling_of}
use Rattle.c25_line_warnings.specs.Said.{label_of}

-- a label that has no colon after it, and stands on a line without an instruction or a directive
abbrev pub lone_by : List ℕ → Option (List ℕ) → Option (List ℕ)
lone_by text None = None
lone_by text (Some label) = if slice_index text (length label) == 58 || is_some (first_word text) then None else Some label

-- the label that stands alone on a line
unfoldable pub lone_label : List ℕ → Option (List ℕ)
lone_label text = lone_by text (label_of text)

-- a label that is a mnemonic
abbrev pub mnemonic_by : Option (List ℕ) → Option (List ℕ)
mnemonic_by None = None
mnemonic_by (Some label) = if is_some (spelling_of label) then Some label else None

-- the label of a line that was most likely meant as an instruction: `NOP` in column 1
unfoldable pub mnemonic_label : List ℕ → Option (List ℕ)
mnemonic_label text = mnemonic_by (lone_label text)

-- the directives that may stand without operands, without their dots
abbrev pub without_operands : List (List ℕ)
without_operands =
    codes "text" ∷ codes "data" ∷ codes "mmregs" ∷ codes "end"
    ∷ codes "else" ∷ codes "endif" ∷ codes "endm" ∷ codes "mexit" ∷ codes "loop" ∷ codes "break" ∷ codes "endloop"
    ∷ codes "list" ∷ codes "nolist" ∷ codes "page" ∷ []

-- whether a label is the name of such a directive, whatever the case of its letters
unfoldable pub is_directive : List ℕ → Bool
is_directive label = list_any (str_eq_ignore_ascii_case label) without_operands

-- a label that is a directive without its dot
abbrev pub directive_by : Option (List ℕ) → Option (List ℕ)
directive_by None = None
directive_by (Some label) = if is_directive label then Some label else None

-- the label of a line that was most likely meant as a directive: `END` in column 1
unfoldable pub directive_label : List ℕ → Option (List ℕ)
directive_label text = directive_by (lone_label text)
