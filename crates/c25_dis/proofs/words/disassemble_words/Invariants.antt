-- the text is that of the addresses so far
use Rattle.std.proofs.Common.{string_bytes}
use Rattle.c25_dis.specs.Words.{AreWords}
use Rattle.c25_dis.proofs.words.disassemble_words.Given as goal

abbrev pub invariant-loop-passed : goal.invariant-loop-passed
invariant-loop-passed l = AreWords l.words l.from l.passed l.end (string_bytes l.text)
