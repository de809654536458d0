-- A word as a number: in hexadecimal digits, with its sign in decimal, and as a fraction (this project's own).
use Rattle.std.specs.Prelude.{ℕ, ◌+◌, ◌-◌, ◌*◌, ◌/◌, ◌%◌, Bool, true, false, List, [], ◌∷◌, ◌++◌, codes, nat_lt}
use Rattle.std.specs.Fmt.{decimal}
use Rattle.c25_meaning_common.specs.Digits.{four_digits}

-- a word without its sign, where its highest bit is clear or set
abbrev pub size_by : (positive : Bool) → ℕ → ℕ
size_by true word = word
size_by false word = 65536 - word

-- the sign of a number
abbrev pub sign_by : (positive : Bool) → List ℕ
sign_by true = []
sign_by false = codes "-"

-- whether the highest bit of a word is clear
abbrev pub is_positive : ℕ → Bool
is_positive word = nat_lt word 32768

-- a word without its sign
abbrev pub size_of_word : ℕ → ℕ
size_of_word word = size_by (is_positive word) word

-- a word with its sign, in decimal
abbrev pub signed_text : ℕ → List ℕ
signed_text word = sign_by (is_positive word) ++ decimal (size_of_word word)

-- the last five decimal digits of a number
abbrev pub five_digits : ℕ → List ℕ
five_digits n = (48 + n / 10000 % 10) ∷ (48 + n / 1000 % 10) ∷ (48 + n / 100 % 10) ∷ (48 + n / 10 % 10) ∷ (48 + n % 10) ∷ []

-- a word as a fraction with 15 bits after the point, in five decimal places; the others are left out
abbrev pub fraction_text : ℕ → List ℕ
fraction_text word =
    sign_by (is_positive word) ++ decimal (size_of_word word / 32768) ++ codes "." ++ five_digits (size_of_word word % 32768 * 100000 / 32768)

-- a word in hexadecimal digits, with its sign in decimal, and as a fraction
unfoldable pub value_text : ℕ → List ℕ
value_text word = four_digits word ++ codes " " ++ signed_text word ++ codes " " ++ fraction_text word ++ codes "\n"

-- an address, and the word there as a number
abbrev pub word_text : ℕ → ℕ → List ℕ
word_text address word = four_digits address ++ codes " " ++ value_text word
