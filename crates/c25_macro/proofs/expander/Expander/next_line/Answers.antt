use Rattle.c25_macro.proofs.Fewer.{fewer}
use Rattle.c25_macro.proofs.expander.Expander.next_line.Goals as goal

pub returns-clause-fewer : goal.returns-clause-fewer
returns-clause-fewer c =
    let told = fewer _ _ _ _ _ _ c.advance-stage.ensures.next in
    rw c.replace-stage.ensures.value at told
