-- Constants (SPRU018, assembler description, constants; that the last character alone decides the base is this
-- project's own).
use Rattle.std.specs.Prelude.{ℕ, ◌-◌, Bool, ◌||◌, ◌==◌, slice_index, if◌then◌else◌, List, length, take, Option, Some, None}
use Rattle.c25_meaning_common.specs.Digits.{Numeral, all_digits, value_in}

-- the base of a suffix: 16 for `h`, 8 for `q`, 2 for `b`, in either case
abbrev pub suffix_base : ℕ → Option ℕ
suffix_base b =
    if b == 72 || b == 104 then Some 16
    else (if b == 81 || b == 113 then Some 8
    else (if b == 66 || b == 98 then Some 2
    else None))

-- the digits before a suffix, in the base of that suffix; without a suffix all of the text, in base 10
abbrev pub numeral_by : Option ℕ → List ℕ → Numeral
numeral_by None text = record { base = 10; digits = text }
numeral_by (Some base) text = record { base = base; digits = take (length text - 1) text }

-- the base and the digits of a constant, as its last character says
abbrev pub numeral : List ℕ → Numeral
numeral text = numeral_by (suffix_base (slice_index text (length text - 1))) text

-- whether each digit of a text is one of its base
abbrev pub is_constant : List ℕ → Bool
is_constant text = all_digits (numeral text).base (numeral text).digits

-- the whole number that a constant stands for
abbrev pub constant_value : List ℕ → ℕ
constant_value text = value_in (numeral text).base (numeral text).digits
