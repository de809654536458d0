use Rattle.c25_meaning_objects.specs.declared.object.LineMark.{LineMark}
use Rattle.c25_meaning_objects.specs.Records.{line_entry}
use Rattle.c25_records.proofs.Puts.{next_put}
use Rattle.c25_records.proofs.writing.put_lines.Goals as goal

pub loop-line-preserved : goal.loop-line-preserved
loop-line-preserved c =
    let none : LineMark = record { file = 0; line = 0 } in
    next_put line_entry c.args.lines.now c.loop-line.line-index none c.args.out.now.items c.loop-line.out.items c.put_line.new.out.items c.loop-line-test.true c.loop-line.invariant c.in_ok-put_line.ensures
