use Rattle.std.proofs.Common.{rules}
use Rattle.c25_core.proofs.Settle.{step_stops}
use Rattle.c25_core.proofs.processor.Core.step.Goals as goal

pub returns-in-Err-clause-step : goal.returns-in-Err-clause-step
returns-in-Err-clause-step g c =
    step_stops c.args.lines c.args.bio (record { registers = c.args.self.now; world = g.B.Bus.world c.args.bus.now }) c.begin.new.registers c.turn.new.registers c.self.inside.registers c.fetch-insn.result _ _ _ _ (search rules) (search rules) c.in-Err.ensures.met
