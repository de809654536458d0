use Rattle.std.proofs.Common.{Some, refl}
use Rattle.std.specs.Cow.{cow_str_bytes}
use Rattle.c25_macro.specs.Tracers.{trace_of}
use Rattle.c25_meaning_assembly.specs.Sections.{start}
use Rattle.c25_phases.specs.Wrong.{wrong_of}
use Rattle.c25_asm.specs.declared.walk.End.TheVariants as end
use Rattle.c25_asm.proofs.FromStart.{absent, from_start, item, not_passed, not_refused}
use Rattle.c25_asm.proofs.tracing.trace_item.Goals as goal

pub unreachable-requires : goal.unreachable-requires
unreachable-requires c =
    absent c.args.files.now c.args.name.now (wrong_of c.args.found.item) c.args.found.symbols c.requires (rw c.in_default.is at c.in_ok-tracer.ensures)

pub unreachable-requires-in-Passed : goal.unreachable-requires-in-Passed
unreachable-requires-in-Passed c =
    not_passed c.args.files.now c.args.name.now (wrong_of c.args.found.item) c.args.found.symbols c.requires (trace_of c.walk_all.new.tracer).trail c.in-Passed.field-0
    (from_start c.args.files.now c.args.name.now (trace_of c.in-Some.tracer) (trace_of c.walk_all.new.tracer) start
    (Some c.args.found.item.number) (end.Passed c.in-Passed.field-0) (rw c.in-Some.is at c.in_ok-tracer.ensures) refl
    (rw c.in-Passed.is at c.in_ok-text.ensures))

pub unreachable-requires-in-Refused : goal.unreachable-requires-in-Refused
unreachable-requires-in-Refused c =
    not_refused c.args.files.now c.args.name.now (wrong_of c.args.found.item) c.args.found.symbols c.requires (trace_of c.walk_all.new.tracer).trail c.in-Refused.field-0 c.in-Refused.field-1
    (from_start c.args.files.now c.args.name.now (trace_of c.in-Some.tracer) (trace_of c.walk_all.new.tracer) start
    (Some c.args.found.item.number) (end.Refused c.in-Refused.field-0 c.in-Refused.field-1) (rw c.in-Some.is at c.in_ok-tracer.ensures) refl
    (rw c.in-Refused.is at c.in_ok-text.ensures))

pub returns : goal.returns
returns c =
    item c.args.files.now c.args.name.now (wrong_of c.args.found.item) c.args.found.symbols c.requires (trace_of c.walk_all.new.tracer).trail c.into_trail-trail.result.items
    (cow_str_bytes c.in-Reached.text) c.into_trail-trail.ensures
    (from_start c.args.files.now c.args.name.now (trace_of c.in-Some.tracer) (trace_of c.walk_all.new.tracer) start
    (Some c.args.found.item.number) (end.Reached c.in-Reached.text) (rw c.in-Some.is at c.in_ok-tracer.ensures) refl
    (rw c.in-Reached.is at c.in_ok-text.ensures))
