-- The numbers and names of a hex text's faults.
use Rattle.std.specs.Prelude.{ℕ, List, codes}
use Rattle.c25_meaning_common.specs.Faults.{numbered}
use Rattle.c25_hex.specs.declared.hex_fault.HexFault.{HexFault}
use Rattle.c25_hex.specs.declared.hex_fault.HexFault.TheVariants as hex

-- the number of a hex text's fault
abbrev pub hex_number : HexFault → ℕ
hex_number hex.BadStart = 80
hex_number hex.BadDigit = 81
hex_number hex.BadCount = 82
hex_number hex.BadSum = 83
hex_number hex.BadKind = 84
hex_number hex.OddWord = 85
hex_number hex.Twice = 86
hex_number hex.NoEnd = 87
hex_number hex.AfterEnd = 88
hex_number hex.AddressRange = 89

-- the name of a hex text's fault
abbrev pub hex_name : HexFault → List ℕ
hex_name hex.BadStart = codes "BadStart"
hex_name hex.BadDigit = codes "BadDigit"
hex_name hex.BadCount = codes "BadCount"
hex_name hex.BadSum = codes "BadSum"
hex_name hex.BadKind = codes "BadKind"
hex_name hex.OddWord = codes "OddWord"
hex_name hex.Twice = codes "Twice"
hex_name hex.NoEnd = codes "NoEnd"
hex_name hex.AfterEnd = codes "AfterEnd"
hex_name hex.AddressRange = codes "AddressRange"

-- the number of a fault and its name, as a fault's line has them
abbrev pub hex_text : HexFault → List ℕ
hex_text f = numbered (hex_number f) (hex_name f)
