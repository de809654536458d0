-- The names of warnings.
use Rattle.std.specs.Prelude.{ℕ, List, codes}
use Rattle.c25_line_warnings.specs.declared.warning_kind.WarningKind.{WarningKind}
use Rattle.c25_line_warnings.specs.declared.warning_kind.WarningKind.TheVariants as warning

-- the name of a warning of a source
abbrev pub warning_name : WarningKind → List ℕ
warning_name warning.MnemonicLabel = codes "MnemonicLabel"
warning_name warning.DirectiveLabel = codes "DirectiveLabel"
warning_name warning.RegisterShift = codes "RegisterShift"
warning_name warning.ProgramAddress = codes "ProgramAddress"
warning_name warning.DataAddress = codes "DataAddress"
warning_name warning.NotRepeatable = codes "NotRepeatable"
warning_name warning.Unused = codes "Unused"
warning_name warning.NotReached = codes "NotReached"
