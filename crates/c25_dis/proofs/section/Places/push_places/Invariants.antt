-- what stands at the places so far stands there
use Rattle.std.proofs.Common.{string_bytes}
use Rattle.c25_module.specs.View.{contents}
use Rattle.c25_dis.specs.Sections.{IsPlace}
use Rattle.c25_dis.proofs.Passed.{HasTexts}
use Rattle.c25_dis.proofs.section.Places.push_places.Given as goal

abbrev pub invariant-loop-place : goal.invariant-loop-place
invariant-loop-place l = HasTexts (IsPlace (contents l.self.parts.now) l.self.section) l.place (string_bytes l.fn.text) (string_bytes l.text)
