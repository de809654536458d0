-- Digits, and the numbers that they make (SPRU018, constants: letters of either case are digits from 10 on;
-- the limits of decimal and hexadecimal numbers are this project's own).
use Rattle.std.specs.Prelude.{ℕ, ◌+◌, ◌-◌, ◌*◌, ◌&&◌, Bool, List, length, fold, Option, Some, None, nat_lt, nat_le, if◌then◌else◌, ◌/◌, ◌%◌, [], ◌∷◌, ◌++◌}
use Rattle.std.specs.List.{list_all}

-- the value of a digit, letters of either case from 10 on; 36 for a byte that is not a digit
abbrev pub digit : ℕ → ℕ
digit b =
    if nat_le 48 b && nat_le b 57 then b - 48
    else (if nat_le 65 b && nat_le b 90 then b - 55
    else (if nat_le 97 b && nat_le b 122 then b - 87
    else 36))

-- a number in a base, with its digits
pub record Numeral : Type 0 where
  pub base : ℕ
  pub digits : List ℕ

-- whether each byte of a text is a digit of a base
abbrev pub all_digits : ℕ → List ℕ → Bool
all_digits base text = list_all (λ b. nat_lt (digit b) base) text

-- whether a text is one or more digits of a base, and nothing else
abbrev pub are_digits : ℕ → List ℕ → Bool
are_digits base word = nat_lt 0 (length word) && all_digits base word

-- the value of digits in a base, the most significant first
abbrev pub value_in : ℕ → List ℕ → ℕ
value_in base word = fold (λ v b. v * base + digit b) 0 word

-- the value of a decimal number, at most `most`; the number may have any number of leading zeros
unfoldable pub decimal_of : ℕ → List ℕ → Option ℕ
decimal_of most word = if are_digits 10 word && nat_le (value_in 10 word) most then Some (value_in 10 word) else None

-- the value of a hexadecimal number that has one to four digits, and no fewer than `least`
unfoldable pub hexadecimal_of : ℕ → List ℕ → Option ℕ
hexadecimal_of least word = if are_digits 16 word && nat_le least (length word) && nat_le (length word) 4 then Some (value_in 16 word) else None

-- the hexadecimal digit of a number below 16, in upper case
abbrev pub hex_digit : ℕ → ℕ
hex_digit n = if nat_lt n 10 then 48 + n else 55 + n

-- the two hexadecimal digits of a byte
abbrev pub two_digits : ℕ → List ℕ
two_digits n = hex_digit (n / 16 % 16) ∷ hex_digit (n % 16) ∷ []

-- the four hexadecimal digits of a word
abbrev pub four_digits : ℕ → List ℕ
four_digits n = two_digits (n / 256) ++ two_digits n
