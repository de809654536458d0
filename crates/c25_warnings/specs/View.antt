-- What the types of this crate stand for.
use Rattle.std.specs.Prelude.{List, map, string_bytes}
use Rattle.c25_cmd.specs.View.{command_data}
use Rattle.c25_line_warnings.specs.View.{memories_of}
use Rattle.c25_module.specs.View.{contents}
use Rattle.c25_place.specs.View.{places_view}
use Rattle.c25_warnings.specs.Linking as linking
use Rattle.c25_warnings.specs.Program as program
use Rattle.c25_warnings.specs.Warnings as meaning
use Rattle.c25_warnings.specs.declared.linking.Linked.{Linked}
use Rattle.c25_warnings.specs.declared.rules.Known.{Known}
use Rattle.c25_warnings.specs.declared.warning.LinkWarning.{LinkWarning}
use Rattle.c25_warnings.specs.declared.warning.ProgramWarnings.{ProgramWarnings}
use Rattle.c25_warnings.specs.declared.warning.Warning.{Warning}

-- a warning of a source
abbrev pub warning_of : Warning → meaning.Warning
warning_of w = record { kind = w.kind; file = w.file.now; line = w.line; text = string_bytes w.text; name = string_bytes w.name }

-- the warnings of a source
abbrev pub warnings_view : List Warning → List meaning.Warning
warnings_view ws = map warning_of ws

-- a warning of a command file
abbrev pub link_warning_of : LinkWarning → linking.LinkWarning
link_warning_of w = record { kind = w.kind; section = w.section.now }

-- the warnings of a command file
abbrev pub link_warnings_view : List LinkWarning → List linking.LinkWarning
link_warnings_view ws = map link_warning_of ws

-- what is known of the whole source
abbrev pub known_view : Known → meaning.Known
known_view k = record { name = k.name.now; contents = contents k.parts.now; memories = memories_of k.memories; used = k.used.now; moves = k.moves }

-- the modules of a program, with their command and places
abbrev pub linked_of : Linked → program.Linked
linked_of l = record { modules = l.modules.now; command = command_data l.command.now; places = places_view l.places.now }

-- the warnings of a program
abbrev pub program_warnings_of : ProgramWarnings → program.ProgramWarnings
program_warnings_of p = record { of_lines = warnings_view p.of_lines.items; of_sections = link_warnings_view p.of_sections.items }
