-- The name and the value that a definition of a command line gives.
use Rattle.std.specs.Prelude.{ℕ, List, codes, Bool, not, ◌==◌, ◌&&◌, ◌||◌, length, if◌then◌else◌}
use Rattle.std.specs.List.{position_or_len, before_first, after_first, list_all}
use Rattle.c25_meaning_language.specs.Line.{is_name}

-- an equals sign
abbrev pub is_equals : ℕ → Bool
is_equals byte = byte == 61

-- whether a definition has no value
abbrev pub has_no_value : List ℕ → Bool
has_no_value text = position_or_len is_equals text == length text

-- the name in NAME=VALUE, or in NAME alone
abbrev pub name_of : List ℕ → List ℕ
name_of text = if has_no_value text then text else before_first is_equals text

-- the value in NAME=VALUE; 1 in NAME alone
abbrev pub value_of : List ℕ → List ℕ
value_of text = if has_no_value text then codes "1" else after_first is_equals text

-- neither a line feed, a carriage return nor a semicolon: neither a comment nor another line begins with it
abbrev pub stays_in_value : ℕ → Bool
stays_in_value byte = not (byte == 10 || (byte == 13 || byte == 59))

-- a text that defines a symbol
abbrev pub is_definition : List ℕ → Bool
is_definition text = is_name (name_of text) && list_all stays_in_value text
