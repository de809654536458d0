-- The values of the expressions of a source under the map: whole numbers, by recursion on the trees, with the
-- addresses that sections and names have in the program (SPRU018, assembler description, expressions; linker
-- description, symbols). That an expression has a value of 32 signed bits, and bases that its operators take,
-- is checked when it is assembled; here numbers have no range, since an address under the map is larger than
-- the offset that was checked.
use Rattle.std.specs.Prelude.{ℕ, ◌+◌, ◌/◌, ◌^◌, Bool, true, false, not, ◌&&◌, ◌||◌, List, [], ◌∷◌, Option, Some, None, ℤ, pos, negsuc, ◌+ℤ◌, ◌-ℤ◌, ◌*ℤ◌, neg_ℤ, int_lt}
use Rattle.std.specs.Int.{w32, int_bit_and, int_bit_or, int_bit_xor, int_shr}
use Rattle.std.specs.Int.RustNames.{int_div, int_rem}
use Rattle.c25_bits.specs.Cut.{cut}
use Rattle.c25_meaning_objects.specs.Module.{Contents}
use Rattle.c25_meaning_linking.specs.Place.{Place}
use Rattle.c25_meaning_assembly.specs.Sections.{Definitions}
use Rattle.c25_meaning_language.specs.Tree.{Leaf, Constant, Name, Here, Tree, Single, Group, Unary, Binary}
use Rattle.c25_meaning_language.specs.Value.{is_zero, truth, value_named, start_of_text}
use Rattle.c25_meaning_linking.specs.Words.{name_value, section_base, section_run}
use Rattle.c25_meaning_language.specs.declared.expression.UnaryOperator.{UnaryOperator}
use Rattle.c25_meaning_language.specs.declared.expression.UnaryOperator.TheVariants as unary
use Rattle.c25_meaning_language.specs.declared.expression.BinaryOperator.{BinaryOperator}
use Rattle.c25_meaning_language.specs.declared.expression.BinaryOperator.TheVariants as binary
use Rattle.c25_meaning_language.specs.declared.statement.Field.{Field}
use Rattle.c25_meaning_language.specs.declared.statement.Field.TheVariants as field
use Rattle.c25_meaning_language.specs.declared.value.Base.{Base}
use Rattle.c25_meaning_language.specs.declared.value.Base.TheVariants.{Absolute, Section, Loaded, External}
use Rattle.c25_meaning_language.specs.declared.value.Value.{Value}

-- ---- operators on whole numbers

-- the result of an operator before a number
abbrev pub unary_result : UnaryOperator → ℤ → ℤ
unary_result unary.Plus x = x
unary_result unary.Minus x = neg_ℤ x
unary_result unary.Complement x = neg_ℤ x -ℤ pos 1

-- the shift count that a number gives; 0 if it is negative
abbrev pub shift : ℤ → ℕ
shift (pos n) = n
shift (negsuc n) = 0

-- the result of an operator between two numbers; `&`, `^` and `|` take 32 bits, which every number that is
-- not an address has
abbrev pub binary_result : BinaryOperator → ℤ → ℤ → ℤ
binary_result binary.Multiply x y = x *ℤ y
binary_result binary.Divide x y = int_div x y
binary_result binary.Remainder x y = int_rem x y
binary_result binary.Add x y = x +ℤ y
binary_result binary.Subtract x y = x -ℤ y
binary_result binary.ShiftLeft x y = x *ℤ pos (2 ^ shift y)
binary_result binary.ShiftRight x y = int_shr x (shift y)
binary_result binary.Less x y = truth (int_lt x y)
binary_result binary.LessOrEqual x y = truth (not (int_lt y x))
binary_result binary.Greater x y = truth (int_lt y x)
binary_result binary.GreaterOrEqual x y = truth (not (int_lt x y))
binary_result binary.Equal x y = truth (is_zero (x -ℤ y))
binary_result binary.NotEqual x y = truth (not (is_zero (x -ℤ y)))
binary_result binary.And x y = int_bit_and w32 x y
binary_result binary.ExclusiveOr x y = int_bit_xor w32 x y
binary_result binary.Or x y = int_bit_or w32 x y

-- ---- expressions

-- the value of a leaf: a constant, a name's value, or for `$` the address where the statement's words run
abbrev pub leaf_under : (List ℕ → ℤ) → ℤ → Leaf → ℤ
leaf_under names here (Constant n) = pos n
leaf_under names here (Name text) = names text
leaf_under names here Here = here

-- the value of an expression; `names` has the values of names, `here` is the address where the statement's
-- words run
abbrev pub value_under : (List ℕ → ℤ) → ℤ → Tree → ℤ
value_under names here (Single l) = leaf_under names here l
value_under names here (Group e) = value_under names here e
value_under names here (Unary op e) = unary_result op (value_under names here e)
value_under names here (Binary op l r) = binary_result op (value_under names here l) (value_under names here r)

-- ---- addresses

-- whether a leaf is an address: `$`, or a name for which `places` says so
abbrev pub leaf_is_address : (List ℕ → Bool) → Leaf → Bool
leaf_is_address places (Constant n) = false
leaf_is_address places (Name text) = places text
leaf_is_address places Here = true

-- whether an operator before an operand gives an address: only `+` before an address does
abbrev pub unary_is_address : UnaryOperator → Bool → Bool
unary_is_address unary.Plus a = a
unary_is_address op a = false

-- whether an operator between two operands gives an address: a number added to an address or taken from one;
-- the difference of two addresses is a number
abbrev pub binary_is_address : BinaryOperator → Bool → Bool → Bool
binary_is_address binary.Add a b = a || b
binary_is_address binary.Subtract a b = a && not b
binary_is_address op a b = false

-- whether an expression is an address; `places` says which names are
abbrev pub is_address : (List ℕ → Bool) → Tree → Bool
is_address places (Single l) = leaf_is_address places l
is_address places (Group e) = is_address places e
is_address places (Unary op e) = unary_is_address op (is_address places e)
is_address places (Binary op l r) = binary_is_address op (is_address places l) (is_address places r)

-- ---- names

-- the value under the map of a number that counts from a base: the address where its section's part runs or
-- is loaded is added; no name that a module defines counts from an external symbol
abbrev pub placed : List Contents → List Place → ℕ → Contents → Base → ℤ → ℤ
placed modules places number m Absolute z = z
placed modules places number m (Section index) z = pos (section_run modules places number m index) +ℤ z
placed modules places number m (Loaded index) z = pos (section_base modules places number m index) +ℤ z
placed modules places number m (External index) z = z

-- the value under the map of a name: as its own module defines it, or else as the one module does that
-- defines it for all
abbrev pub name_by : List Contents → List Place → ℕ → Contents → List ℕ → Option Value → ℤ
name_by modules places number m text (Some v) = placed modules places number m v.base v.offset
name_by modules places number m text None = name_value modules places text

-- the value of a name by the definitions of its own module, if it has one there
abbrev pub own_name : Definitions → List ℕ → Option Value
own_name names text = value_named (record { entries = names; here = start_of_text }) text

-- the value under the map of a name in a module with these definitions
abbrev pub name_under : List Contents → List Place → ℕ → Contents → Definitions → List ℕ → ℤ
name_under modules places number m names text = name_by modules places number m text (own_name names text)

-- whether a value counts from an address
abbrev pub counts_from_place : Base → Bool
counts_from_place Absolute = false
counts_from_place _ = true

-- whether a name is an address; a name that its module does not define counts as one
abbrev pub is_place_by : Option Value → Bool
is_place_by (Some v) = counts_from_place v.base
is_place_by None = true

-- whether a name is an address in a module with these definitions
abbrev pub is_place : Definitions → List ℕ → Bool
is_place names text = is_place_by (own_name names text)

-- ---- fields

-- the number that a field gets from a value: its place in a page of 128 words, the page of an address, the
-- low eight bits for a byte, else the low sixteen bits
abbrev pub field_value : Field → Bool → ℤ → ℕ
field_value field.Low7 a z = cut z 7
field_value field.Page9 true z = cut z 16 / 128
field_value field.Byte a z = cut z 8
field_value _ a z = cut z 16

-- the number of an operand in a statement that begins at this offset of this section
abbrev pub operand_number : List Contents → List Place → ℕ → Contents → Definitions → ℕ → ℕ → Field → Tree → ℕ
operand_number modules places number m names section offset f e =
    field_value f (is_address (is_place names) e)
    (value_under (name_under modules places number m names) (pos (section_run modules places number m section + offset)) e)

-- the number that `f` gives for each tree, by its index, counted from `k` on
abbrev pub counted_from : (ℕ → Tree → ℕ) → ℕ → List Tree → List ℕ
counted_from f k [] = []
counted_from f k (e ∷ es) = f k e ∷ counted_from f (k + 1) es
