use Rattle.std.specs.Str.{chars}
use Rattle.std.proofs.Common.{length, ◌≡◌, ◌&&◌, ◌∙◌, false, sym, arith}
use Rattle.std.proofs.lemmas.Bool.Decides.{nat_tests}
use Rattle.std.proofs.lemmas.Iterator.{YieldsList-from_chars}
use Rattle.std.proofs.lemmas.Iterator.Consumers.{YieldsList-turn, YieldsList-end}
use Rattle.std.proofs.lemmas.List.{length_push}
use Rattle.c25_explain.specs.Sentence.{is_blank}
use Rattle.c25_explain.proofs.Sentences.{ends, goes_on, text_ends}
use Rattle.c25_explain.proofs.sentence.first_sentence.Goals.{else-stopped-via-then-stopped+else-is_blank, else-stopped-via-else-stopped}
use Rattle.c25_explain.proofs.sentence.first_sentence.Goals as goal

pub returns-then-is_blank : goal.returns-then-is_blank
returns-then-is_blank c =
    let t = YieldsList-turn (YieldsList-from_chars c.args.text.now c.utf8.text cc) c.loop-c.yielded _ c.loop-c.yielded_by _ _ c.in-Some.c c.in-Some.is c.next.ensures.steps in
    ends _ _ _ c.loop-c.stopped _ _ t c.if-stopped.true (sym c.is_blank.ensures ∙ c.if-is_blank.true) c.loop-c.invariant

pub loop-c-preserved : goal.loop-c-preserved
loop-c-preserved c =
    let t = YieldsList-turn (YieldsList-from_chars c.args.text.now c.utf8.text cc) c.loop-c.yielded _ c.loop-c.yielded_by _ _ c.in-Some.c c.in-Some.is c.next.ensures.steps in
    let on : (c.loop-c.stopped && is_blank c.in-Some.c) ≡ false = elim c.else-stopped.branch [
      | else-stopped-via-then-stopped+else-is_blank w ↦ grind (arith, nat_tests)
      | else-stopped-via-else-stopped w ↦ grind (arith, nat_tests)
    ] in
    goes_on _ _ _ _ c.loop-c.stopped _ _ _ t on (length_push c.loop-c.yielded c.in-Some.c) (grind (arith, nat_tests)) c.loop-c.invariant

pub returns : goal.returns
returns c =
    let t = YieldsList-end (YieldsList-from_chars c.args.text.now c.utf8.text cc) c.loop-c.yielded _ c.loop-c.yielded_by _ _ c.in-None.is c.next.ensures.steps in
    text_ends (chars c.args.text.now) (length c.loop-c.yielded) c.loop-c.stopped _ _ (omega (arith, t.1)) c.loop-c.invariant
