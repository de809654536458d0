-- Which interrupt a step takes.
use Rattle.std.specs.Prelude.{ℕ, ◌&&◌, ◌||◌, Option, Some, None, if◌then◌else◌}
use Rattle.c25_meaning_processor.specs.State.{State}
use Rattle.c25_meaning_processor.specs.Step.{has, latched, vectored}
use Rattle.c25_meaning_processor.specs.declared.lines.Lines.{Lines}
use Rattle.c25_meaning_processor.specs.declared.registers.Registers.{Registers}
use Rattle.c25_unused_inputs.specs.Requests.{bit_of}
use Rattle.c25_unused_inputs.specs.declared.requests.InterruptLine.{InterruptLine}
use Rattle.c25_unused_inputs.specs.declared.requests.InterruptLine.TheVariants as line

-- the vector of a line
abbrev pub vector_of : InterruptLine → ℕ
vector_of line.Int0 = 2
vector_of line.Int1 = 4
vector_of line.Int2 = 6

-- the line whose interrupt is taken, of those that are latched and have their bit in this mask, if there is one
abbrev pub taken_of : (lines mask : ℕ) → Option InterruptLine
taken_of lines mask =
    if has lines 1 && has mask 1 then Some line.Int0
    else (if has lines 2 && has mask 2 then Some line.Int1
    else (if has lines 4 && has mask 4 then Some line.Int2
    else None))

-- the line whose interrupt a step takes that begins in this state with these interrupt lines, if it takes one
abbrev pub taken_by : (mask : ℕ) → Registers → Option InterruptLine
taken_by mask r = if r.repeating || r.shadowed || r.intm then None else taken_of r.latched.0 mask

abbrev pub takes : Lines → State → Option InterruptLine
takes lines s = taken_by (s.world.words 4) (latched lines s.registers)

-- the registers once this interrupt is taken
abbrev pub entered : Option InterruptLine → Registers → Registers
entered None r = r
entered (Some line) r = vectored (bit_of line) (vector_of line) r
