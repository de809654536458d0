-- The printed text of a run: a line for each output, and the names of the stops (this project's own).
use Rattle.std.specs.Prelude.{ℕ, List, [], ◌∷◌, ◌++◌, codes}
use Rattle.std.specs.Fmt.{decimal}
use Rattle.c25_meaning_common.specs.Digits.{four_digits}
use Rattle.c25_meaning_processor.specs.declared.stop.Stop.{Stop}
use Rattle.c25_meaning_processor.specs.declared.stop.Stop.TheVariants as stop

-- the line of an output: its port, a blank, and its word in four hexadecimal digits
abbrev pub output_line : ℕ × ℕ → List ℕ
output_line output = decimal output.0 ++ codes " " ++ four_digits output.1 ++ codes "\n"

-- the lines of outputs, in order
abbrev pub outputs_text : List (ℕ × ℕ) → List ℕ
outputs_text [] = []
outputs_text (output ∷ outputs) = output_line output ++ outputs_text outputs

-- the name of a stop, as it is printed
abbrev pub stop_name : Stop → List ℕ
stop_name stop.OutOfCode = codes "OutOfCode"
stop_name stop.CodeWrite = codes "CodeWrite"
stop_name stop.BadRepeat = codes "BadRepeat"
stop_name stop.PortDry = codes "PortDry"
