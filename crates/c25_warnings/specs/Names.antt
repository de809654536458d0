-- The names of warnings of a command file.
use Rattle.std.specs.Prelude.{ℕ, List, codes}
use Rattle.c25_warnings.specs.declared.warning.LinkWarningKind.{LinkWarningKind}
use Rattle.c25_warnings.specs.declared.warning.LinkWarningKind.TheVariants as link

-- the name of a warning of a command file
abbrev pub link_warning_name : LinkWarningKind → List ℕ
link_warning_name link.ReservedInProgram = codes "ReservedInProgram"
link_warning_name link.AbsentSection = codes "AbsentSection"
