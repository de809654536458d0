-- The texts of the files that sources are read from.
use Rattle.std.specs.Prelude.{ℕ, List, [], Option, Some, None}
use Rattle.c25_meaning_expansion.specs.Files.{Files, text_named}

-- a text, or an empty one
abbrev pub or_nothing : Option (List ℕ) → List ℕ
or_nothing None = []
or_nothing (Some text) = text

-- the text of the file of this name; an empty text where there is none
abbrev pub text_or_nothing : Files → List ℕ → List ℕ
text_or_nothing files name = or_nothing (text_named files name)
