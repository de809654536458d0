use Rattle.std.proofs.Common.{ap}
use Rattle.c25_chain.specs.declared.fault.ChainFault.TheVariants.{Hex}
use Rattle.c25_meaning_common.specs.Results.{told}
use Rattle.c25_tasks.proofs.disassembly.words_text.Goals as goal

pub returns-in_ok-disassemble_words-in-Ok : goal.returns-in_ok-disassemble_words-in-Ok
returns-in_ok-disassemble_words-in-Ok c =
    (c.in-Ok.ensures.found.0, ap (told Hex) c.in-Ok.ensures.found.1, (_, c.in-Ok.ensures.found.2, c.in_ok-disassemble_words-in-Ok.ensures))
