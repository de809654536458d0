use Rattle.std.proofs.Common.{◌≤◌, length, Ok, ap, sym, subst, ◌∙◌}
use Rattle.std.proofs.lemmas.Result.{err_from_is_err_and}
use Rattle.c25_meaning_assembly.specs.Emission.{finished, lines_in}
use Rattle.c25_module.specs.View.{contents}
use Rattle.c25_meaning_common.specs.Results.{FailsBy}
use Rattle.c25_phases.specs.View.{fault_of, progress_of}
use Rattle.c25_phases.specs.declared.progress.Progress.{Progress}
use Rattle.c25_asm.specs.View.{passed_of}
use Rattle.c25_asm.proofs.Made.{assembled_alike, few_made, is_module_made, unfinished, unpassed}
use Rattle.c25_asm.proofs.assembly.assemble_lines.Goals as goal

pub finish-requires-clause-files : goal.finish-requires-clause-files
finish-requires-clause-files c =
    let p = c.in_ok-progress.ensures in
    subst (λ (p : Progress). length (lines_in (progress_of p).sections).files ≤ 65535) (sym c.into_inner.ensures)
    (few_made c.args.listed c.args.files.now c.args.name.now p.0 (passed_of c.in_ok-progress.field-0) p.1 p.2)

pub module-requires : goal.module-requires
module-requires c =
    let p = c.in_ok-progress.ensures in
    is_module_made c.args.listed c.args.files.now c.args.name.now p.0 (passed_of c.in_ok-progress.field-0) p.1 p.2 (contents c.in_ok-parts.parts)
    (ap (λ (p : Progress). finished (progress_of p)) (sym c.into_inner.ensures) ∙ c.in_ok-parts.ensures)

pub returns : goal.returns
returns c =
    let p = c.in_ok-progress.ensures in
    assembled_alike c.args.listed c.args.files.now c.args.name.now p.0 (passed_of c.in_ok-progress.field-0) p.1 p.2 c.module.result
    (ap (λ (p : Progress). finished (progress_of p)) (sym c.into_inner.ensures) ∙ c.in_ok-parts.ensures ∙ ap Ok (sym c.module.ensures))

pub returns-in_err-progress : goal.returns-in_err-progress
returns-in_err-progress c =
    let e = err_from_is_err_and c.from_residual.result c.from_residual.ensures.1 in
    rw (e.1, e.2) (unpassed c.args.files.now c.args.name.now c.in_err-progress.field-0.0 c.in_err-progress.ensures)

pub returns-in_err-parts : goal.returns-in_err-parts
returns-in_err-parts c =
    let p = c.in_ok-progress.ensures in
    let e = err_from_is_err_and c.from_residual-in_err-parts.result c.from_residual-in_err-parts.ensures.1 in
    rw (e.1, e.2) (unfinished c.args.listed c.args.files.now c.args.name.now p.0 (passed_of c.in_ok-progress.field-0) p.1 p.2 c.in_err-parts.field-0.0
    (subst (λ (p : Progress). FailsBy fault_of (finished (progress_of p)) c.in_err-parts.field-0.0) c.into_inner.ensures c.in_err-parts.ensures))
