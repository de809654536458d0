use Rattle.std.proofs.Common.{subst, sym, arith}
use Rattle.std.specs.Prelude.{Vec}
use Rattle.std.specs.declared.alloc.Global.{Global}
use Rattle.c25_explain.specs.Explanation.{AreAll}
use Rattle.c25_explain.specs.declared.parts.Explanation.{Explanation}
use Rattle.c25_explain.proofs.Below.{all_of_them}
use Rattle.c25_explain.proofs.summaries.explanations.Goals.{else-loop-number-test, then-loop-number-test+in_ok-push_next+else-number-lt255}
use Rattle.c25_explain.proofs.summaries.explanations.Goals as goal

pub returns : goal.returns
returns c =
    elim c.loop-number-test.branch [
      | else-loop-number-test w ↦ absurd (omega arith)
      | then-loop-number-test+in_ok-push_next+else-number-lt255 w ↦
          subst (λ (v : Vec Explanation Global). AreAll v.items) (sym w.all-is) (all_of_them _ _ (omega arith) (w.in_ok-push_next.ensures c.loop-number.invariant))
    ]
