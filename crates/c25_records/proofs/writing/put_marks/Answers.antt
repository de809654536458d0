use Rattle.c25_meaning_objects.specs.declared.object.ModuleMark.{ModuleMark}
use Rattle.c25_meaning_objects.specs.Records.{mark_entry}
use Rattle.c25_records.proofs.Puts.{next_put}
use Rattle.c25_records.proofs.writing.put_marks.Goals as goal

pub loop-mark-preserved : goal.loop-mark-preserved
loop-mark-preserved c =
    let none : ModuleMark = record { section = 0; offset = 0; size = 0 } in
    next_put mark_entry c.args.marks.now c.loop-mark.mark-index none c.args.out.now.items c.loop-mark.out.items c.put_mark.new.out.items c.loop-mark-test.true c.loop-mark.invariant c.in_ok-put_mark.ensures
