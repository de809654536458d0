-- Texts in which substitution replaces nothing.
use Rattle.std.specs.Prelude.{◌≡◌, ℕ, ◌==◌, false, List, drop, slice_index, None}
use Rattle.std.specs.List.{take_while}
use Rattle.c25_meaning_common.specs.Bytes.{goes_on_name}
use Rattle.c25_meaning_language.specs.Fragments.{Replacements}

-- no name that begins anywhere in a text stands for a text
abbrev pub StandsForNothing : Replacements → List ℕ → Type 0
StandsForNothing names text = (i : ℕ) → names (take_while goes_on_name (drop i text)) ≡ None

-- no byte of a text is `?`
abbrev pub HasNoMark : List ℕ → Type 0
HasNoMark text = (i : ℕ) → (slice_index text i == 63) ≡ false
