-- The names that local labels get. Old sources have local labels `$0` to `$9`, and a label of that name in each block of lines;
-- the assembler has none outside of macros, so each gets a name of its own.
use Rattle.std.specs.Prelude.{◌≡◌, ℕ, ◌-◌, Bool, true, false, ◌&&◌, ◌==◌, slice_index, slice_index_or, if◌then◌else◌, List, [], ◌∷◌, take, Ok}
use Rattle.c25_meaning_common.specs.Bytes.{is_digit}
use Rattle.c25_meaning_language.specs.Line.{Parts, label_end, line_of, some_text, without_colon}
use Rattle.c25_meaning_language.specs.Reading.{PostfixItem, Push}
use Rattle.c25_meaning_language.specs.Tree.{Name, Operand}
use Rattle.c25_old_expressions.specs.Marks.{Sym, Part}

-- whether a name is a local label: `$` and a digit
abbrev pub is_local_label : List ℕ → Bool
is_local_label (sign ∷ digit ∷ []) = sign == 36 && is_digit digit
is_local_label name = false

-- whether local labels get names
abbrev pub are_renamed : (labels : List (List ℕ)) → Bool
are_renamed [] = false
are_renamed (l ∷ ls) = true

-- the name that takes the place of a name: a local label gets the one of its digit, and another name stays; where local labels
-- get no names, each stays
abbrev pub renamed : (labels : List (List ℕ)) → List ℕ → List ℕ
renamed [] name = name
renamed (l ∷ ls) name = if is_local_label name then slice_index_or (l ∷ ls) (slice_index name 1 - 48) name else name

-- the symbol that takes the place of a symbol
abbrev pub renamed_symbol : (labels : List (List ℕ)) → Sym → Sym
renamed_symbol labels (Part (Operand (Name name))) = Part (Operand (Name (renamed labels name)))
renamed_symbol labels s = s

-- the item that takes the place of an item of an expression
abbrev pub renamed_item : (labels : List (List ℕ)) → PostfixItem → PostfixItem
renamed_item labels (Push (Name name)) = Push (Name (renamed labels name))
renamed_item labels i = i

-- the label of an old line, without the colon that may end it; empty where there is none
abbrev pub old_label : List ℕ → List ℕ
old_label line = without_colon (take (label_end line) line)

-- the label of the new line is the one that takes the place of the old line's, and it has none where that has none
abbrev pub KeepsLabel : (labels : List (List ℕ)) → (old new : List ℕ) → Type 0
KeepsLabel labels old new = (parts : Parts) → line_of new ≡ Ok parts → parts.label ≡ some_text (renamed labels (old_label old))
