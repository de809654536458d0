use Rattle.std.proofs.Common.{Bool, ap, map, refl, sym, subst, ◌∙◌}
use Rattle.c25_macro.specs.Expander.{shown}
use Rattle.c25_macro.specs.Expanders.{expansion_of}
use Rattle.c25_macro.specs.Tracers.{fault_in}
use Rattle.c25_meaning_assembly.specs.AllFaults.{LinesGoneOver}
use Rattle.c25_meaning_assembly.specs.Sections.{table}
use Rattle.c25_phases.specs.View.{fault_of, progress_of, symbols_of}
use Rattle.c25_asm.specs.GoneOver.{LeadsTo, gone_over_of}
use Rattle.c25_asm.proofs.GoingOver.{ends, expansion_ended, expansion_fails, goes_on, leaves, moved, next_at, room_then, stops}
use Rattle.c25_asm.proofs.going_over.go_over_rest.Goals as goal

pub returns-then-not-branch-clause-over : goal.returns-then-not-branch-clause-over
returns-then-not-branch-clause-over c =
    let files = (expansion_of c.args.expander.now).files in
    let name = (expansion_of c.args.expander.now).name in
    let old = expansion_of c.loop-line.expander in
    let new = expansion_of c.next_or_leave_out.new.self in
    let known = c.loop-line.invariant in
    let a : LinesGoneOver = record { progress = progress_of c.move_here.new.self; faults = map fault_of c.loop-line.lines.faults.items } in
    λ meant begun. stops files name old.stage new.stage c.symbols.result.now a (gone_over_of c.go_over_line.new.lines) meant c.in-Ok-Given.line
    (c.symbols.ensures ∙ ap symbols_of c.deref.ensures ∙ c.move_here.ensures.here ∙ ap table (sym c.move_here.ensures.same))
    (moved files name old.stage (progress_of c.loop-line.lines.progress.value) a.progress a.faults meant (c.move_here.ensures.same ∙ ap progress_of c.deref_mut.ensures.value) (known.coming meant begun))
    (next_at old files name c.symbols.result.now _ new.stage known.files known.name (rw c.in-Ok-Given.field-0-is at c.in-Ok-Given.ensures.next))
    (subst (λ (m : Bool). LeadsTo (shown c.in-Ok-Given.line) a (gone_over_of c.go_over_line.new.lines) m) c.if-not-branch.true c.in_ok-go_over_line-in-Ok-Given.ensures.leads)

pub loop-line-preserved-else-not-branch : goal.loop-line-preserved-else-not-branch
loop-line-preserved-else-not-branch c =
    let files = (expansion_of c.args.expander.now).files in
    let name = (expansion_of c.args.expander.now).name in
    let old = expansion_of c.loop-line.expander in
    let new = expansion_of c.next_or_leave_out.new.self in
    let known = c.loop-line.invariant in
    let a : LinesGoneOver = record { progress = progress_of c.move_here.new.self; faults = map fault_of c.loop-line.lines.faults.items } in
    record {
      coming = λ meant begun. goes_on files name old.stage new.stage c.symbols.result.now a (gone_over_of c.go_over_line.new.lines) meant c.in-Ok-Given.line
          (c.symbols.ensures ∙ ap symbols_of c.deref.ensures ∙ c.move_here.ensures.here ∙ ap table (sym c.move_here.ensures.same))
          (moved files name old.stage (progress_of c.loop-line.lines.progress.value) a.progress a.faults meant (c.move_here.ensures.same ∙ ap progress_of c.deref_mut.ensures.value) (known.coming meant begun))
          (next_at old files name c.symbols.result.now _ new.stage known.files known.name (rw c.in-Ok-Given.field-0-is at c.in-Ok-Given.ensures.next))
          (rw c.in-Ok-Given.field-0-is at c.in-Ok-Given.ensures.lighter)
          (subst (λ (m : Bool). LeadsTo (shown c.in-Ok-Given.line) a (gone_over_of c.go_over_line.new.lines) m) c.if-not-branch.false c.in_ok-go_over_line-in-Ok-Given.ensures.leads);
      room = c.in_ok-go_over_line-in-Ok-Given.ensures.room;
      files = c.next_or_leave_out.ensures.files ∙ known.files;
      name = c.next_or_leave_out.ensures.name ∙ known.name;
    }

pub loop-line-preserved : goal.loop-line-preserved
loop-line-preserved c =
    let files = (expansion_of c.args.expander.now).files in
    let name = (expansion_of c.args.expander.now).name in
    let old = expansion_of c.loop-line.expander in
    let new = expansion_of c.next_or_leave_out.new.self in
    let known = c.loop-line.invariant in
    let a : LinesGoneOver = record { progress = progress_of c.move_here.new.self; faults = map fault_of c.loop-line.lines.faults.items } in
    let added = c.in_ok-add_left_out-in-Ok-LeftOut.ensures in
    record {
      coming = λ meant begun. leaves files name old.stage new.stage c.symbols.result.now a (gone_over_of c.add_left_out.new.lines) meant c.in-Ok-LeftOut.fault
          (c.symbols.ensures ∙ ap symbols_of c.deref.ensures ∙ c.move_here.ensures.here ∙ ap table (sym c.move_here.ensures.same))
          (moved files name old.stage (progress_of c.loop-line.lines.progress.value) a.progress a.faults meant (c.move_here.ensures.same ∙ ap progress_of c.deref_mut.ensures.value) (known.coming meant begun))
          (next_at old files name c.symbols.result.now _ new.stage known.files known.name (rw c.in-Ok-LeftOut.field-0-is at c.in-Ok-LeftOut.ensures.next))
          (rw c.in-Ok-LeftOut.field-0-is at c.in-Ok-LeftOut.ensures.lighter) added;
      room = room_then (gone_over_of c.add_left_out.new.lines) a.faults (fault_in c.in-Ok-LeftOut.fault) (ap (λ (y : LinesGoneOver). y.faults) added);
      files = c.next_or_leave_out.ensures.files ∙ known.files;
      name = c.next_or_leave_out.ensures.name ∙ known.name;
    }

pub returns-in-Ok-Finished-clause-over : goal.returns-in-Ok-Finished-clause-over
returns-in-Ok-Finished-clause-over c =
    let files = (expansion_of c.args.expander.now).files in
    let name = (expansion_of c.args.expander.now).name in
    let old = expansion_of c.loop-line.expander in
    let new = expansion_of c.next_or_leave_out.new.self in
    let known = c.loop-line.invariant in
    let a : LinesGoneOver = record { progress = progress_of c.move_here.new.self; faults = map fault_of c.loop-line.lines.faults.items } in
    λ meant begun. ends files name old.stage new.stage c.symbols.result.now a meant
    (c.symbols.ensures ∙ ap symbols_of c.deref.ensures ∙ c.move_here.ensures.here ∙ ap table (sym c.move_here.ensures.same))
    (moved files name old.stage (progress_of c.loop-line.lines.progress.value) a.progress a.faults meant (c.move_here.ensures.same ∙ ap progress_of c.deref_mut.ensures.value) (known.coming meant begun))
    (next_at old files name c.symbols.result.now _ new.stage known.files known.name (rw c.in-Ok-Finished.field-0-is at c.in-Ok-Finished.ensures.next))

pub returns-in-Err-clause-over : goal.returns-in-Err-clause-over
returns-in-Err-clause-over c =
    let files = (expansion_of c.args.expander.now).files in
    let name = (expansion_of c.args.expander.now).name in
    let old = expansion_of c.loop-line.expander in
    let new = expansion_of c.next_or_leave_out.new.self in
    let known = c.loop-line.invariant in
    let a : LinesGoneOver = record { progress = progress_of c.move_here.new.self; faults = map fault_of c.loop-line.lines.faults.items } in
    expansion_ended c.add_last.result a (gone_over_of c.add_last.new.lines) c.told.result _
    (λ end meant begun. expansion_fails files name old.stage new.stage c.symbols.result.now a (gone_over_of c.add_last.new.lines) meant c.in-Err.failure c.missing.result c.told.result
    (c.symbols.ensures ∙ ap symbols_of c.deref.ensures ∙ c.move_here.ensures.here ∙ ap table (sym c.move_here.ensures.same))
    (moved files name old.stage (progress_of c.loop-line.lines.progress.value) a.progress a.faults meant (c.move_here.ensures.same ∙ ap progress_of c.deref_mut.ensures.value) (known.coming meant begun))
    (next_at old files name c.symbols.result.now _ new.stage known.files known.name c.in-Err.ensures.next) c.missing.ensures c.told.ensures end)
    c.add_last.ensures
