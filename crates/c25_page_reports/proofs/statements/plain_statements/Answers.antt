use Rattle.c25_meaning_processor.specs.FirstState.{memory_of_map}
use Rattle.c25_page_reports.proofs.Read.{plain_more}
use Rattle.c25_page_reports.proofs.statements.plain_statements.Goals as goal

pub loop-mark-preserved : goal.loop-mark-preserved
loop-mark-preserved c =
    plain_more (memory_of_map c.args.words.now) c.args.marks.now c.loop-mark.mark-index _ c.loop-mark.statements.items c.push.new.self.items c.in-Some.insn c.loop-mark-test.true c.in-Some.ensures c.in_ok-push.ensures.items c.loop-mark.invariant
