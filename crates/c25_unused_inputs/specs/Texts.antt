-- The texts of what a run did not use of its inputs.
use Rattle.std.specs.Prelude.{ℕ, ◌==◌, Bool, true, false, List, [], ◌++◌, codes, if◌then◌else◌}
use Rattle.std.specs.Fmt.{decimal}

-- the verb of so many things
unfoldable pub verb : ℕ → List ℕ
verb count = if count == 1 then codes "was" else codes "were"

-- so many samples of a port
unfoldable pub left_text : (port left : ℕ) → List ℕ
left_text port left = codes "PA" ++ decimal port ++ (codes ": " ++ decimal left ++ codes " of ")

-- of so many that it had, they were not read
unfoldable pub not_read_text : (had left : ℕ) → List ℕ
not_read_text had left = decimal had ++ codes " samples " ++ verb left ++ codes " not read.\n"

-- so many of the samples that a port had were not read
abbrev pub unread_text : (port had left : ℕ) → List ℕ
unread_text port had left = left_text port left ++ not_read_text had left

-- so many samples are for a port
unfoldable pub had_text : (port had : ℕ) → List ℕ
had_text port had = codes "  " ++ decimal had ++ (codes " for PA" ++ decimal port ++ codes "\n")

-- a port has no samples, and these lines say which ports have some
unfoldable pub none_text : (port : ℕ) → (lines : List ℕ) → List ℕ
none_text port lines = codes "PA" ++ decimal port ++ codes " has no samples. The list has\n" ++ lines

-- what to do then, in two parts
unfoldable pub writing_text : (port : ℕ) → List ℕ
writing_text port = codes "Write " ++ decimal port ++ codes " as the port of those that are for "

unfoldable pub naming_text : (port : ℕ) → List ℕ
naming_text port = codes "PA" ++ decimal port ++ codes ", or name their port in this IN.\n"

abbrev pub moving_text : (port : ℕ) → List ℕ
moving_text port = writing_text port ++ naming_text port

abbrev pub elsewhere_text : (port : ℕ) → (lines : List ℕ) → List ℕ
elsewhere_text port lines = none_text port lines ++ moving_text port

-- the interrupt that the schedule has for a line at a step
unfoldable pub request_name : (number step : ℕ) → List ℕ
request_name number step = codes "INT" ++ decimal number ++ (codes " of step " ++ decimal step)

-- at the end of the run the bit of a line in IMR is clear
unfoldable pub masked_text : (number : ℕ) → List ℕ
masked_text number = codes " was not taken: at the end IMR (data word 4) has bit " ++ (decimal number ++ codes " clear")

-- what sets the bit of a line in IMR
unfoldable pub setting_text : (bit : ℕ) → List ℕ
setting_text bit = codes ".\nBefore EINT, LDPK 0, LACK " ++ (decimal bit ++ codes " and SACL 4 set it.\n")

-- what sets the bit of a line in IMR, where INTM is 1 too
unfoldable pub enabling_text : (bit : ℕ) → List ℕ
enabling_text bit = codes ", and INTM is 1.\nLDPK 0, LACK " ++ (decimal bit ++ codes " and SACL 4 set the bit, and EINT then clears INTM.\n")

-- why an interrupt was not taken, by whether at the end of the run its bit in IMR is set and INTM is 1
abbrev pub reason_text : (number bit : ℕ) → (unmasked intm : Bool) → List ℕ
reason_text number bit false false = masked_text number ++ setting_text bit
reason_text number bit false true = masked_text number ++ enabling_text bit
reason_text number bit true true = codes " was not taken: at the end INTM is 1, as after a reset, DINT and an interrupt.\nEINT clears it.\n"
reason_text number bit true false = codes " was not taken before the run ended.\n"

-- a step of the schedule comes after the end of a run of so many steps
unfoldable pub unreached_text : (steps : ℕ) → List ℕ
unreached_text steps = codes " was not reached; steps done: " ++ (decimal steps ++ codes ".\n")
