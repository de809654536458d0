-- The first sentence of a text.
use Rattle.std.specs.Prelude.{ℕ, ◌==◌, ◌||◌, ◌&&◌, Bool, false, List, [], ◌∷◌, if◌then◌else◌}
use Rattle.std.specs.Str.{chars, encode_utf8_all}

-- a blank or a line feed
abbrev pub is_blank : ℕ → Bool
is_blank c = c == 32 || c == 10

-- a line feed as a blank
abbrev pub in_one_line : ℕ → ℕ
in_one_line c = if is_blank c then 32 else c

-- what is left of a sentence, right after a full stop or not: a full stop before a blank, a line feed or the end
-- ends it
abbrev pub sentence_left : (stopped : Bool) → List ℕ → List ℕ
sentence_left stopped [] = []
sentence_left stopped (c ∷ cs) = if stopped && is_blank c then [] else in_one_line c ∷ sentence_left (c == 46) cs

-- the first sentence of a text, in one line, or all of a text in which no sentence ends
abbrev pub first_sentence : List ℕ → List ℕ
first_sentence text = encode_utf8_all (sentence_left false (chars text))
