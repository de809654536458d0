use Rattle.c25_tasks.proofs.Disassembled.{text_given, text_refused}
use Rattle.c25_tasks.proofs.disassembly.hex_text.Goals as goal

pub returns-in-Ok : goal.returns-in-Ok
returns-in-Ok c = text_given _ _ _ _ _ c.words_text.result c.as_slice.ensures.value c.in-Ok.ensures.cases.0 c.in-Ok.ensures.cases.1 c.words_text.ensures

pub returns-in-Err : goal.returns-in-Err
returns-in-Err c = text_refused _ _ _ c.no_text.result c.as_slice.ensures.value c.in-Err.ensures.cases.0 c.no_text.ensures
