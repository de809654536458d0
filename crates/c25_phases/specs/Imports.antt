-- The names of other modules, added one by one.
use Rattle.std.specs.Prelude.{ℕ, List, [], ◌∷◌, ◌++◌, length, if◌then◌else◌, pos}
use Rattle.c25_meaning_assembly.specs.Sections.{Definitions, stands}
use Rattle.c25_meaning_language.specs.declared.value.Base.TheVariants.{External}

-- the names with one more: a name that is not defined is another module's, and gets its number among all
-- names; a name that is defined adds nothing
abbrev pub imported : Definitions → List ℕ → Definitions
imported names name = if stands names name then names else names ++ (name, record { base = External (length names); offset = pos 0 }) ∷ []
