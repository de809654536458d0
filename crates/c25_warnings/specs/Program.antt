-- The warnings of a program: its sources, and the command file under which they are linked.
use Rattle.std.specs.Prelude.{ℕ, List}
use Rattle.c25_meaning_expansion.specs.Files.{Files}
use Rattle.c25_meaning_linking.specs.Command.{CommandData}
use Rattle.c25_meaning_linking.specs.Place.{Place}
use Rattle.c25_meaning_objects.specs.Module.{Contents}
use Rattle.c25_warnings.specs.Linking.{LinkWarning, warnings_of_link}
use Rattle.c25_warnings.specs.Warnings.{Warning, warnings_of_sources}

-- the modules of a program, the command under which they are linked, and where it places their sections
pub record Linked : Type 0 where
  pub modules : List Contents
  pub command : CommandData
  pub places : List Place

-- the warnings of a program
pub record ProgramWarnings : Type 0 where
  pub of_lines : List Warning
  pub of_sections : List LinkWarning

-- the warnings of the sources of these names, whose modules are linked, and of the command
abbrev pub warnings_of_program : Files → List (List ℕ) → Linked → ProgramWarnings
warnings_of_program files names l = record {
  of_lines = warnings_of_sources files names l.modules l.places;
  of_sections = warnings_of_link l.modules l.command l.places;
}
