use Rattle.std.proofs.Common.{◌≡◌, [], refl}
use Rattle.c25_meaning_expansion.specs.Expansion as exp
use Rattle.c25_macro.specs.Config.{config}
use Rattle.c25_macro.proofs.Nexts.{ends_open}
use Rattle.c25_macro.proofs.state.ExpanderState.read_into_loop.Goals as goal

pub returns-in-Ok-None : goal.returns-in-Ok-None
returns-in-Ok-None c = λ files s.
    let old = c.args.self.now in
    let mode = exp.InLoop c.args.turns old.top.lines.passed c.args.nested in
    let next = rw c.in-Ok-None.field-0-is at c.in-Ok-None.ensures.next in
    let empty : old.top.lines.rest ≡ [] = next.0 in
    let told = ends_open files s old.below (record (config old) { mode = mode }) refl in
    rw (c.fault.ensures, c.in-Ok-None.ensures.frame) (rw empty (rw empty at told))
