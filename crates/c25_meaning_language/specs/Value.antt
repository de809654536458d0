-- The value of an expression (SPRU018, assembler description, expressions; C's order, 32 signed bits, and
-- which bases an operator takes are this project's own).
use Rattle.std.specs.Prelude.{ℕ, ◌^◌, Bool, false, not, ◌==◌, nat_lt, nat_le, if◌then◌else◌, List, Option, Some, None, ok_or, Result, Ok, Err, ℤ, pos, negsuc, ◌+ℤ◌, ◌-ℤ◌, ◌*ℤ◌, neg_ℤ, int_lt, ◌&&◌, ◌-◌, [], ◌∷◌}
use Rattle.std.specs.Int.{w32, int_bit_and, int_bit_or, int_bit_xor, int_shr}
use Rattle.std.specs.Char.{to_ascii_uppercase}
use Rattle.std.specs.Map.{lookup}
use Rattle.std.specs.Str.{bytes_eq}
use Rattle.std.specs.Int.RustNames.{int_div, int_rem}
use Rattle.c25_bits.specs.Cut.{fits32}
use Rattle.c25_meaning_common.specs.Results.{◌>>=◌}
use Rattle.c25_meaning_language.specs.Tree.{Leaf, Constant, Name, Here, Tree, Single, Group, Unary, Binary}
use Rattle.c25_meaning_language.specs.declared.expression.UnaryOperator.{UnaryOperator}
use Rattle.c25_meaning_language.specs.declared.expression.UnaryOperator.TheVariants as unary
use Rattle.c25_meaning_language.specs.declared.expression.BinaryOperator.{BinaryOperator}
use Rattle.c25_meaning_language.specs.declared.expression.BinaryOperator.TheVariants as binary
use Rattle.c25_meaning_language.specs.declared.value.ValueFault.{ValueFault}
use Rattle.c25_meaning_language.specs.declared.value.ValueFault.TheVariants.{Undefined, NotAbsolute, DivideByZero, ValueRange}
use Rattle.c25_meaning_language.specs.declared.value.Base.{Base}
use Rattle.c25_meaning_language.specs.declared.value.Base.TheVariants.{Absolute, Section, Loaded}
use Rattle.c25_meaning_language.specs.declared.value.Value.{Value}

-- the number, if 32 signed bits hold it
abbrev pub in_range : ℤ → Result ℤ ValueFault
in_range z = if fits32 z then Ok z else Err ValueRange

-- whether a number is zero
abbrev pub is_zero : ℤ → Bool
is_zero (pos n) = n == 0
is_zero (negsuc n) = false

-- the shift count, if it is 0 to 31
abbrev pub shift_count : ℤ → Option ℕ
shift_count (pos n) = if nat_lt n 32 then Some n else None
shift_count (negsuc n) = None

-- the result of a comparison: 1 or 0
abbrev pub truth : Bool → ℤ
truth b = if b then pos 1 else pos 0

-- the number that an operator makes of two; division rounds toward zero, and a shift to the right keeps the
-- sign
abbrev pub number_of : BinaryOperator → ℤ → ℤ → Result ℤ ValueFault
number_of binary.Multiply x y = in_range (x *ℤ y)
number_of binary.Divide x y = if is_zero y then Err DivideByZero else in_range (int_div x y)
number_of binary.Remainder x y = if is_zero y then Err DivideByZero else in_range (int_rem x y)
number_of binary.Add x y = in_range (x +ℤ y)
number_of binary.Subtract x y = in_range (x -ℤ y)
number_of binary.ShiftLeft x y = ok_or (shift_count y) ValueRange >>= λ n. in_range (x *ℤ pos (2 ^ n))
number_of binary.ShiftRight x y = ok_or (shift_count y) ValueRange >>= λ n. in_range (int_shr x n)
number_of binary.Less x y = Ok (truth (int_lt x y))
number_of binary.LessOrEqual x y = Ok (truth (not (int_lt y x)))
number_of binary.Greater x y = Ok (truth (int_lt y x))
number_of binary.GreaterOrEqual x y = Ok (truth (not (int_lt x y)))
number_of binary.Equal x y = Ok (truth (is_zero (x -ℤ y)))
number_of binary.NotEqual x y = Ok (truth (not (is_zero (x -ℤ y))))
number_of binary.And x y = Ok (int_bit_and w32 x y)
number_of binary.ExclusiveOr x y = Ok (int_bit_xor w32 x y)
number_of binary.Or x y = Ok (int_bit_or w32 x y)

-- the base of a result: absolute where both values are; an address where a number is added to an address or
-- taken from one; absolute for the difference of two addresses of one section, both where it runs or both
-- where it is loaded
abbrev pub base_of : BinaryOperator → Base → Base → Result Base ValueFault
base_of op Absolute Absolute = Ok Absolute
base_of binary.Add b Absolute = Ok b
base_of binary.Add Absolute b = Ok b
base_of binary.Subtract b Absolute = Ok b
base_of binary.Subtract (Section s) (Section t) = if s == t then Ok Absolute else Err NotAbsolute
base_of binary.Subtract (Loaded s) (Loaded t) = if s == t then Ok Absolute else Err NotAbsolute
base_of _ a b = Err NotAbsolute

-- an operator between two values: a fault of their bases comes before one of their numbers
abbrev pub binary_value : BinaryOperator → Value → Value → Result Value ValueFault
binary_value op x y = do
  base ← base_of op x.base y.base
  offset ← number_of op x.offset y.offset
  Ok (record { base = base; offset = offset })

-- the base, if it is absolute
abbrev pub absolute_base : Base → Result Base ValueFault
absolute_base Absolute = Ok Absolute
absolute_base _ = Err NotAbsolute

-- an operator before a value: `+` takes any value, `-` and `~` an absolute one
abbrev pub unary_value : UnaryOperator → Value → Result Value ValueFault
unary_value unary.Plus x = Ok x
unary_value unary.Minus x = do
  base ← absolute_base x.base
  offset ← in_range (neg_ℤ x.offset)
  Ok (record { base = base; offset = offset })
unary_value unary.Complement x = do
  base ← absolute_base x.base
  Ok (record { base = base; offset = neg_ℤ x.offset -ℤ pos 1 })

-- the value of a constant, if 32 signed bits hold it
abbrev pub plain_value : ℕ → Result Value ValueFault
plain_value n = in_range (pos n) >>= λ z. Ok (record { base = Absolute; offset = z })

-- the value of a leaf: `names` has what names stand for, `here` is the value of `$`
abbrev pub leaf_value : (List ℕ → Option Value) → Value → Leaf → Result Value ValueFault
leaf_value names here (Constant n) = plain_value n
leaf_value names here (Name text) = ok_or (names text) Undefined
leaf_value names here Here = Ok here

-- the value of an expression, or its first fault: that of the left operand, the right operand, the operator
abbrev pub value_of : (List ℕ → Option Value) → Value → Tree → Result Value ValueFault
value_of names here (Single l) = leaf_value names here l
value_of names here (Group e) = value_of names here e
value_of names here (Unary op e) = value_of names here e >>= unary_value op
value_of names here (Binary op l r) = value_of names here l >>= λ x. value_of names here r >>= binary_value op x

-- ---- symbols

-- a symbol table: the names in order of definition, and the current place, which `$` stands for
pub record Table : Type 0 where
  pub entries : List (List ℕ × Value)
  pub here : Value

-- a letter in upper case
abbrev pub upper : ℕ → ℕ
upper b = to_ascii_uppercase b

-- the number of a predefined name: `AR0` to `AR7` and `PA0` to `PA15`, letters in either case
abbrev pub predefined : List ℕ → Option ℕ
predefined (a ∷ b ∷ d ∷ []) =
    if upper a == 65 && upper b == 82 && nat_le 48 d && nat_le d 55 then Some (d - 48)
    else (if upper a == 80 && upper b == 65 && nat_le 48 d && nat_le d 57 then Some (d - 48)
    else None)
predefined (a ∷ b ∷ c ∷ d ∷ []) =
    if upper a == 80 && upper b == 65 && c == 49 && nat_le 48 d && nat_le d 53 then Some (d - 38)
    else None
predefined _ = None

-- the value with which a name was first defined, if it was
abbrev pub defined : List (List ℕ × Value) → List ℕ → Option Value
defined entries name = lookup (bytes_eq name) entries

-- the number of a predefined name, or else the defined value
abbrev pub named_by : Option ℕ → Option Value → Option Value
named_by (Some n) o = Some (record { base = Absolute; offset = pos n })
named_by None o = o

-- the value that a name stands for, if it does
abbrev pub value_named : Table → List ℕ → Option Value
value_named table name = named_by (predefined name) (defined table.entries name)

-- the start of `.text`, which is section 0
abbrev pub start_of_text : Value
start_of_text = record { base = Section 0; offset = pos 0 }
