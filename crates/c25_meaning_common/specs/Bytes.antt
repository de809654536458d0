-- The kinds of byte that lines are made of (SPRU018, assembler description, source statement format; which
-- characters may stand outside comments is this project's own).
use Rattle.std.specs.Prelude.{ℕ, Bool, ◌||◌, ◌&&◌, ◌==◌, not, nat_le}

-- a blank or a tab
abbrev pub is_blank : ℕ → Bool
is_blank b = b == 32 || b == 9

-- a blank, a tab, or a character of a line's end, LF or CR
abbrev pub is_space : ℕ → Bool
is_space b = is_blank b || b == 10 || b == 13

-- `0` to `9`
abbrev pub is_digit : ℕ → Bool
is_digit b = nat_le 48 b && nat_le b 57

-- `A` to `Z`, `a` to `z`
abbrev pub is_letter : ℕ → Bool
is_letter b = (nat_le 65 b && nat_le b 90) || (nat_le 97 b && nat_le b 122)

-- a letter or a digit: what goes on with a constant
abbrev pub is_letter_or_digit : ℕ → Bool
is_letter_or_digit b = is_letter b || is_digit b

-- a letter or `_`: what begins a name
abbrev pub begins_name : ℕ → Bool
begins_name b = is_letter b || b == 95

-- a letter, a digit, `_` or `$`: what goes on with a name
abbrev pub goes_on_name : ℕ → Bool
goes_on_name b = is_letter_or_digit b || b == 95 || b == 36

-- what may stand outside comments: 20h to 7Eh, and the tab
abbrev pub is_plain : ℕ → Bool
is_plain b = (nat_le 32 b && nat_le b 126) || b == 9

-- what may stand in the mnemonic field: 21h to 7Eh
abbrev pub is_visible : ℕ → Bool
is_visible b = nat_le 33 b && nat_le b 126

-- a byte of a label or mnemonic field: neither a blank, a tab nor `;`
abbrev pub is_field : ℕ → Bool
is_field b = not (is_blank b || b == 59)
