use Rattle.std.proofs.Common.{◌∙◌, sym, ap, is_some, arith}
use Rattle.c25_phases.proofs.Declared.{some_missing}
use Rattle.c25_phases.proofs.progress.Progress.define.Goals as goal

pub overflow_sub-self : goal.overflow_sub-self
overflow_sub-self c =
    let some = some_missing c.args.self.now.symbols.entries c.args.name.now c.args.value c.args.self.now.declared
    (sym (ap is_some c.get.ensures) ∙ sym c.if-is_some.ensures) c.has-is_declared.ensures.distinct (sym c.has-is_declared.ensures.value ∙ c.if-is_declared.true) in
    omega (arith, some, c.args.self.now.counted)
