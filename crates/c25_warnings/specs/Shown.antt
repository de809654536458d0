-- How warnings are shown, each on a line.
use Rattle.std.specs.Prelude.{ℕ, List, ◌++◌, codes}
use Rattle.std.specs.List.{flat_map}
use Rattle.c25_meaning_common.specs.Faults.{placed_text}
use Rattle.c25_warnings.specs.Linking.{LinkWarning}
use Rattle.c25_line_warnings.specs.Names.{warning_name}
use Rattle.c25_warnings.specs.Names.{link_warning_name}
use Rattle.c25_warnings.specs.Program.{ProgramWarnings}
use Rattle.c25_warnings.specs.Warnings.{Warning}

-- a warning of a source: `a.asm:3: warning Unused`
abbrev pub warning_text : Warning → List ℕ
warning_text w = placed_text w.file w.line (codes "warning " ++ warning_name w.kind)

-- a warning of a command file, with the section that it is about: `link:gone: warning AbsentSection`
abbrev pub link_warning_text : LinkWarning → List ℕ
link_warning_text w = codes "link:" ++ w.section ++ codes ": warning " ++ link_warning_name w.kind

-- warnings of sources, each on a line
abbrev pub warning_lines : List Warning → List ℕ
warning_lines ws = flat_map (λ w. warning_text w ++ codes "\n") ws

-- warnings of a command file, each on a line
abbrev pub link_warning_lines : List LinkWarning → List ℕ
link_warning_lines ws = flat_map (λ w. link_warning_text w ++ codes "\n") ws

-- the warnings of a program: those of its sources, and then those of the command file
abbrev pub program_text : ProgramWarnings → List ℕ
program_text p = warning_lines p.of_lines ++ link_warning_lines p.of_sections
