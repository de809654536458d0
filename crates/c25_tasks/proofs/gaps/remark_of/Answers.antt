use Rattle.c25_tasks.proofs.Disassembled.{gap_remarked}
use Rattle.c25_tasks.proofs.gaps.remark_of.Goals as goal

pub returns-in-Some : goal.returns-in-Some
returns-in-Some c = gap_remarked c.args.file.now.name.now _ c.args.file.now.bytes.items c.in-Some.words c.remark_on.result c.as_slice.ensures.value c.in-Some.ensures c.remark_on.ensures
