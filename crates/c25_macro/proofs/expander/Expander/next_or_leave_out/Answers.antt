use Rattle.c25_macro.proofs.Fewer.{lighter}
use Rattle.c25_macro.proofs.expander.Expander.next_or_leave_out.Goals as goal

pub returns-clause-lighter : goal.returns-clause-lighter
returns-clause-lighter c =
    let told = lighter _ _ _ _ _ _ c.advance_or_leave_out-stage.ensures.next in
    rw c.replace-stage.ensures.value at told
