use Rattle.std.specs.Option.{option_map}
use Rattle.c25_statements.specs.View.{act_of}
use Rattle.c25_phases.specs.View.{progress_of}
use Rattle.c25_phases.proofs.LeftOut.{in_act}
use Rattle.c25_phases.proofs.progress.Progress.pass.Goals as goal

pub returns-in-Ok-clause-kept : goal.returns-in-Ok-clause-kept
returns-in-Ok-clause-kept c =
    in_act (option_map (λ t. t.now) c.args.statement.label) (act_of c.args.statement.act) (progress_of c.args.self.now) (progress_of c.begin.new.self) (progress_of c.carry_out.new.self)
    c.carry_out.result c.in-Ok.ensures.told c.carry_out.ensures.undone
