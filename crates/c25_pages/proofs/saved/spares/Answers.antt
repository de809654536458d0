use Rattle.std.proofs.Common.{false, refl}
use Rattle.c25_pages.specs.Table.{knowledge_of}
use Rattle.c25_pages.proofs.Savings.{unwritten}
use Rattle.c25_pages.proofs.saved.spares.Goals as goal

pub returns-then-not-may_write : goal.returns-then-not-may_write
returns-then-not-may_write c = λ yes.
    unwritten (knowledge_of c.args.table.now) c.args.row.now.address c.args.insn.now c.args.row.now.known c.args.word c.writes.result false c.writes.ensures c.if-not-may_write.ensures refl
