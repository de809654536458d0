-- The names of the faults of a line's text.
use Rattle.std.specs.Prelude.{ℕ, List, codes}
use Rattle.c25_meaning_language.specs.declared.line.LineFault.{LineFault}
use Rattle.c25_meaning_language.specs.declared.line.LineFault.TheVariants as line

-- the name of a fault of a line's text
abbrev pub line_fault_name : LineFault → List ℕ
line_fault_name line.BadLabel = codes "BadLabel"
line_fault_name line.BadConstant = codes "BadConstant"
line_fault_name line.OpenQuote = codes "OpenQuote"
line_fault_name line.StrayText = codes "StrayText"
