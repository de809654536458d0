-- the text is that of the sections so far
use Rattle.std.proofs.Common.{string_bytes}
use Rattle.c25_module.specs.View.{contents}
use Rattle.c25_dis.specs.Sections.{AreTexts, IsSectionAt}
use Rattle.c25_dis.proofs.module.disassemble_module.Given as goal

abbrev pub invariant-loop-number : goal.invariant-loop-number
invariant-loop-number l = AreTexts (IsSectionAt (contents l.parts)) l.number (string_bytes l.text)
