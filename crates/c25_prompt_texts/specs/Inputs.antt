-- The samples that ports have left (this project's own).
use Rattle.std.specs.Prelude.{ℕ, zero, suc, ◌==◌, List, [], ◌++◌, codes, if◌then◌else◌}
use Rattle.std.specs.Fmt.{decimal}
use Rattle.c25_unused_inputs.specs.Ports.{count_at, counts_of}

-- the line of a port: its number, and how many samples it has left; nothing where there are none
abbrev pub input_line : (port left : ℕ) → List ℕ
input_line port left = if left == 0 then [] else decimal port ++ codes " " ++ decimal left ++ codes "\n"

-- the lines of the ports below a number, by how many samples each port has left
abbrev pub inputs_below : (left : List ℕ) → ℕ → List ℕ
inputs_below left zero = []
inputs_below left (suc port) = inputs_below left port ++ input_line port (count_at left port)

-- the lines of the ports 0 to 15, by the samples that are left
abbrev pub inputs_shown : (samples : ℕ → List ℕ) → List ℕ
inputs_shown samples = inputs_below (counts_of samples) 16
