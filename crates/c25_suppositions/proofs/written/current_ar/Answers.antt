use Rattle.std.proofs.Common.{◌∙◌, ℕ, ap}
use Rattle.std.specs.Prelude.{slice_index}
use Rattle.c25_suppositions.proofs.Registers.{current_shown}
use Rattle.c25_suppositions.proofs.written.current_ar.Goals as goal

pub returns : goal.returns
returns c = λ r small shown. ap (λ (n : ℕ). slice_index c.args.regs.now.ar n) c.from.ensures ∙ current_shown c.args.regs.now r shown small
