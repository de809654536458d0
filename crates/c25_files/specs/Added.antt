-- When the text that a reader has left is added to files.
use Rattle.std.specs.Prelude.{◌≡◌, ℕ, List, [], ◌∷◌, ◌++◌, Option}
use Rattle.std.specs.Str.{IsUtf8}
use Rattle.c25_meaning_expansion.specs.Files.{Files}
use Rattle.c25_files.specs.Whole.{IsAllOf}

-- all bytes that a reader has left, where they are known, are added to files under a name; they are UTF-8,
-- and at most 16,777,216
abbrev pub AddsAll : Option (List ℕ) → List ℕ → Files → Files → Type 0
AddsAll known name files after =
    (text : List ℕ) × IsAllOf known text × IsUtf8 text × (after ≡ files ++ (name, text) ∷ [])
