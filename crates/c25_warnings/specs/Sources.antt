-- The warnings of a source, as the module of its number is looked up.
use Rattle.std.specs.Prelude.{ℕ, List, [], Option, Some, None}
use Rattle.c25_meaning_expansion.specs.Files.{Files}
use Rattle.c25_meaning_linking.specs.Place.{Place}
use Rattle.c25_meaning_objects.specs.Module.{Contents}
use Rattle.c25_warnings.specs.Warnings.{Warning, warnings_of}

-- the warnings of the source of this name, if there is a module of it
abbrev pub of_found : Files → List ℕ → List Place → Option Contents → List Warning
of_found files name places None = []
of_found files name places (Some m) = warnings_of files name m places
