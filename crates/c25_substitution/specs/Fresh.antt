-- When a fragment's name is not one of those that are set aside.
use Rattle.std.specs.Prelude.{◌≡◌, ℕ, false, List}
use Rattle.std.specs.List.{list_any}
use Rattle.std.specs.Str.{bytes_eq}
use Rattle.c25_meaning_language.specs.Fragments.{Fragment, Kept, Numbered, Replaced}

-- a fragment does not replace a name that is set aside
abbrev pub IsFresh : List (List ℕ) → Fragment → Type 0
IsFresh aside (Kept text) = Unit {0}
IsFresh aside (Numbered name) = Unit {0}
IsFresh aside (Replaced name text quoting) = list_any (bytes_eq name) aside ≡ false
