use Rattle.std.proofs.Common.{subst}
use Rattle.c25_report.specs.ProgramFiles.{AreNames}
use Rattle.c25_tasks.proofs.Written.{writes_texts}
use Rattle.c25_tasks.proofs.writing.write_texts.Goals as goal

pub returns-in-Ok-outputs_of : goal.returns-in-Ok-outputs_of
returns-in-Ok-outputs_of g c = λ held.
    let base = c.args.files.base.now in
    let named = subst (λ n. AreNames base n c.in-Ok.names) c.len.ensures c.in-Ok.ensures in
    writes_texts held c.args.notes _ _ _ _ c.in-Ok-outputs_of.outputs.items _ (c.in-Ok-outputs_of.ensures base named) c.as_slice.ensures.value (c.write_files.ensures held)
