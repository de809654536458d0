-- The numbers and names of the faults of a source.
use Rattle.std.specs.Prelude.{ℕ, List, codes}
use Rattle.c25_meaning_common.specs.Faults.{numbered}
use Rattle.c25_meaning_language.specs.declared.statement.FaultKind.{FaultKind}
use Rattle.c25_meaning_language.specs.declared.statement.FaultKind.TheVariants as fault
use Rattle.c25_meaning_language.specs.declared.line.LineFault.TheVariants as line
use Rattle.c25_meaning_language.specs.LineFaults.{line_fault_name}

-- the number of a source's fault
abbrev pub fault_number : FaultKind → ℕ
fault_number fault.BadLabel = 10
fault_number fault.BadConstant = 11
fault_number fault.OpenQuote = 12
fault_number fault.StrayText = 13
fault_number fault.BadExpression = 20
fault_number fault.TooDeep = 21
fault_number fault.Undefined = 22
fault_number fault.NotAbsolute = 23
fault_number fault.DivideByZero = 24
fault_number fault.ValueRange = 25
fault_number fault.Defined = 26
fault_number fault.NoFile = 30
fault_number fault.OpenBlock = 31
fault_number fault.StrayEnd = 32
fault_number fault.Depth = 33
fault_number fault.Lines = 34
fault_number fault.TooManyParameters = 35
fault_number fault.Redefined = 36
fault_number fault.LongLine = 38
fault_number fault.UnknownMnemonic = 50
fault_number fault.OperandCount = 51
fault_number fault.OperandForm = 52
fault_number fault.FieldRange = 53
fault_number fault.TooLarge = 54
fault_number fault.NotRelocatable = 55
fault_number fault.BadBlock = 56

-- the name of a source's fault
abbrev pub fault_name : FaultKind → List ℕ
fault_name fault.BadLabel = line_fault_name line.BadLabel
fault_name fault.BadConstant = line_fault_name line.BadConstant
fault_name fault.OpenQuote = line_fault_name line.OpenQuote
fault_name fault.StrayText = line_fault_name line.StrayText
fault_name fault.BadExpression = codes "BadExpression"
fault_name fault.TooDeep = codes "TooDeep"
fault_name fault.Undefined = codes "Undefined"
fault_name fault.NotAbsolute = codes "NotAbsolute"
fault_name fault.DivideByZero = codes "DivideByZero"
fault_name fault.ValueRange = codes "ValueRange"
fault_name fault.Defined = codes "Defined"
fault_name fault.NoFile = codes "NoFile"
fault_name fault.OpenBlock = codes "OpenBlock"
fault_name fault.StrayEnd = codes "StrayEnd"
fault_name fault.Depth = codes "Depth"
fault_name fault.Lines = codes "Lines"
fault_name fault.TooManyParameters = codes "TooManyParameters"
fault_name fault.Redefined = codes "Redefined"
fault_name fault.LongLine = codes "LongLine"
fault_name fault.UnknownMnemonic = codes "UnknownMnemonic"
fault_name fault.OperandCount = codes "OperandCount"
fault_name fault.OperandForm = codes "OperandForm"
fault_name fault.FieldRange = codes "FieldRange"
fault_name fault.TooLarge = codes "TooLarge"
fault_name fault.NotRelocatable = codes "NotRelocatable"
fault_name fault.BadBlock = codes "BadBlock"

-- a source fault's number and name, as a report shows them
abbrev pub numbered_name : FaultKind → List ℕ
numbered_name kind = numbered (fault_number kind) (fault_name kind)
