-- The letters of a name as one number, for the alphabetical order of the spellings.
use Rattle.std.specs.Prelude.{ℕ, zero, suc, ◌+◌, ◌*◌, ◌^◌, ◌<◌, ◌≤◌, Bool, ◌&&◌, List, [], ◌∷◌, length, get_or, map}
use Rattle.std.specs.Bool.{nat_lt}
use Rattle.std.specs.Char.{to_ascii_lowercase}
use Rattle.std.specs.List.{list_all}
use Rattle.c25_meaning_instructions.specs.Table.{spelling_text}
use Rattle.c25_meaning_instructions.specs.declared.mnemonic.Spelling.{Spelling}

-- the digit of the letter at an index of a text: the letter's code plus one, or 0 after the text's end
abbrev pub digit : ℕ → List ℕ → ℕ
digit k [] = 0
digit zero (c ∷ cs) = suc c
digit (suc k) (c ∷ cs) = digit k cs

-- the first four letters of a text as one number, nine bits each: the numbers of texts are in alphabetical order
abbrev pub number : List ℕ → ℕ
number text = digit 0 text * 2 ^ 27 + digit 1 text * 2 ^ 18 + digit 2 text * 2 ^ 9 + digit 3 text

-- a text in lower case
abbrev pub lower : List ℕ → List ℕ
lower text = map to_ascii_lowercase text

-- a spelling's letters, as one number
abbrev pub spelling_number : Spelling → ℕ
spelling_number s = number (lower (spelling_text s))

-- each letter has eight bits
abbrev pub are_bytes : List ℕ → Bool
are_bytes text = list_all (λ c. nat_lt c 256) text

-- a text has at most four letters, of eight bits each
abbrev pub is_short : List ℕ → Bool
is_short text = nat_lt (length text) 5 && are_bytes text

-- a spelling has at most four letters
abbrev pub has_short_text : Spelling → Bool
has_short_text s = is_short (lower (spelling_text s))

-- no number is below one before it
abbrev pub AreInOrder : List ℕ → Type 0
AreInOrder xs = (i j : ℕ) → i ≤ j → j < length xs → get_or xs i 0 ≤ get_or xs j 0
