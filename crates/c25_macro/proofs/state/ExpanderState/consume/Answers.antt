use Rattle.c25_macro.specs.Config.{config}
use Rattle.c25_macro.proofs.Consuming.{keeps, refused}
use Rattle.c25_macro.proofs.state.ExpanderState.consume.Goals as goal

pub returns-in-Err-clause-answer : goal.returns-in-Err-clause-answer
returns-in-Err-clause-answer c = λ told tells.
    rw c.at_place.ensures (refused c.args.files.now c.args.symbols.now c.args.place told c.in-Err.failure (config c.args.self.now) (rw c.in-Err.is at tells))

pub returns-in-Err-clause-kept : goal.returns-in-Err-clause-kept
returns-in-Err-clause-kept c = rw c.at_place.ensures (keeps c.args.place c.in-Err.failure (config c.args.self.now))
