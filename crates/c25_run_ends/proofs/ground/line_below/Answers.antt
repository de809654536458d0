use Rattle.std.proofs.Common.{◌≡◌, ◌∙◌, ◌-◌, ◌+◌, ◌≤◌, ℕ, suc, add-one, arith, sym}
use Rattle.c25_run_ends.proofs.Below.{below_base, below_given, below_kept}
use Rattle.c25_run_ends.proofs.ground.line_below.Goals as goal

next : (at : ℕ) → 0 + 1 ≤ at → at ≡ suc (at - 1)
next at some = let e : at ≡ (at - 1) + 1 = omega (arith, some) in e ∙ add-one (at - 1)

pub loop-at-preserved : goal.loop-at-preserved
loop-at-preserved c =
    let at = c.loop-at.at in
    record {
      within = omega (arith, c.loop-at.invariant.within);
      none = below_kept c.args.image.now c.args.base at (at - 1) (next at (omega (arith, c.loop-at-test.true))) (omega (arith, c.loop-at-test.true)) (λ r. (r.0.now, r.1)) c.line_of-found.result c.is_some.result
          c.is_some.ensures c.if-is_some.false c.line_of-found.ensures
          ∙ c.loop-at.invariant.none;
    }

pub returns-then-is_some : goal.returns-then-is_some
returns-then-is_some c =
    let at = c.loop-at.at in
    below_given c.args.image.now c.args.base at (at - 1) (next at (omega (arith, c.loop-at-test.true))) (omega (arith, c.loop-at-test.true)) (λ r. (r.0.now, r.1)) c.line_of-found.result c.is_some.result
    c.is_some.ensures c.if-is_some.true c.line_of-found.ensures
    ∙ c.loop-at.invariant.none

pub returns : goal.returns
returns c = sym (below_base c.args.image.now c.args.base c.loop-at.at c.loop-at-test.false) ∙ c.loop-at.invariant.none
