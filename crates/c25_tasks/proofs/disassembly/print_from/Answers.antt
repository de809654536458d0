use Rattle.c25_tasks.proofs.Disassembled.{no_address}
use Rattle.c25_tasks.proofs.Quiet.{keeps}
use Rattle.c25_tasks.proofs.disassembly.print_from.Goals as goal

pub returns-in-None : goal.returns-in-None
returns-in-None g c =
    no_address _ c.args.file.notes c.args.file.name.now c.args.word.now _ _ c.no_address.result c.without_note.result _ c.hexadecimal_of.ensures c.as_bytes.ensures.value c.in-None.is
    c.without_note.ensures.ending c.without_note.ensures.note c.no_address.ensures (keeps _)
