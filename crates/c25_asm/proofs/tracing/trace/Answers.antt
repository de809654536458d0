use Rattle.std.proofs.Common.{None, ap, refl, sym, subst, ◌∙◌}
use Rattle.c25_macro.specs.Tracers.{trace_of}
use Rattle.c25_meaning_assembly.specs.Sections.{start}
use Rattle.c25_phases.specs.View.{progress_of}
use Rattle.c25_phases.specs.Wrong.{first_wrong, table_of, wrong_of}
use Rattle.c25_phases.specs.declared.progress.Progress.{Progress}
use Rattle.c25_asm.specs.Walks.{HasFewNames}
use Rattle.c25_asm.specs.declared.walk.End.TheVariants as end
use Rattle.c25_asm.proofs.FromStart.{from_start, refused, whole, wrong}
use Rattle.c25_asm.proofs.tracing.trace.Goals as goal

pub unreachable-requires : goal.unreachable-requires
unreachable-requires c =
    from_start c.args.files.now c.args.name.now (trace_of c.in-Some.tracer) (trace_of c.walk_all.new.tracer) start
    None (end.Reached c.in-Reached.field-0) (rw c.in-Some.is at c.in_ok-tracer.ensures) refl (rw c.in-Reached.is at c.in_ok-walk_all.ensures)

pub returns-in-Refused : goal.returns-in-Refused
returns-in-Refused c =
    refused c.args.files.now c.args.name.now None (trace_of c.walk_all.new.tracer).trail c.into_trail-trail.result.items c.in-Refused.fault c.in-Refused.seen
    c.into_trail-trail.ensures
    (from_start c.args.files.now c.args.name.now (trace_of c.in-Some.tracer) (trace_of c.walk_all.new.tracer) start
    None (end.Refused c.in-Refused.fault c.in-Refused.seen) (rw c.in-Some.is at c.in_ok-tracer.ensures) refl
    (rw c.in-Refused.is at c.in_ok-walk_all.ensures))

pub first_wrong-requires : goal.first_wrong-requires
first_wrong-requires c =
    subst (λ (p : Progress). HasFewNames (progress_of p)) (sym c.into_inner.ensures)
    (from_start c.args.files.now c.args.name.now (trace_of c.in-Some.tracer) (trace_of c.walk_all.new.tracer) start
    None (end.Passed c.in-Passed.progress) (rw c.in-Some.is at c.in_ok-tracer.ensures) refl
    (rw c.in-Passed.is at c.in_ok-walk_all.ensures)).1

pub trace_item-requires : goal.trace_item-requires
trace_item-requires c =
    wrong c.args.files.now c.args.name.now None (trace_of c.walk_all.new.tracer).trail c.in-Passed.progress (wrong_of c.in-Some-2.found.item)
    c.in-Some-2.found.symbols
    (from_start c.args.files.now c.args.name.now (trace_of c.in-Some.tracer) (trace_of c.walk_all.new.tracer) start
    None (end.Passed c.in-Passed.progress) (rw c.in-Some.is at c.in_ok-tracer.ensures) refl
    (rw c.in-Passed.is at c.in_ok-walk_all.ensures))
    (rw c.in-Some-2.is at c.in_ok-found-in-Passed.ensures.first ∙ ap (λ (p : Progress). first_wrong (progress_of p)) c.into_inner.ensures)
    (rw c.in-Some-2.is at c.in_ok-found-in-Passed.ensures.symbols ∙ ap (λ (p : Progress). table_of (progress_of p) (wrong_of c.in-Some-2.found.item)) c.into_inner.ensures)

pub returns : goal.returns
returns c =
    whole c.args.files.now c.args.name.now None (trace_of c.walk_all.new.tracer).trail c.in-Passed.progress
    (from_start c.args.files.now c.args.name.now (trace_of c.in-Some.tracer) (trace_of c.walk_all.new.tracer) start
    None (end.Passed c.in-Passed.progress) (rw c.in-Some.is at c.in_ok-tracer.ensures) refl
    (rw c.in-Passed.is at c.in_ok-walk_all.ensures))
    (rw c.in-None.is at c.in_ok-found-in-Passed.ensures.first ∙ ap (λ (p : Progress). first_wrong (progress_of p)) c.into_inner.ensures)
