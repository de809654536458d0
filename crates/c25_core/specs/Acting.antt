-- Which instruction acts in a step.
use Rattle.std.specs.Prelude.{ℕ, Option, None, Some, if◌then◌else◌}
use Rattle.c25_meaning_processor.specs.State.{State}
use Rattle.c25_meaning_processor.specs.Step.{begun}
use Rattle.c25_meaning_processor.specs.declared.lines.Lines.{Lines}

-- the address of the instruction that acts in a step from a state under these interrupt lines: PC after the
-- interrupt that the step itself takes, if it takes one; none while IDLE waits
abbrev pub acting : Lines → State → Option ℕ
acting lines s =
    let r = begun lines s in
    if r.asleep then None else Some r.pc
