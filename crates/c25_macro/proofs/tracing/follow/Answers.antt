use Rattle.std.proofs.Common.{◌≡◌, ◌-◌, ◌≤◌, ◌∷◌, ap, ◌∙◌, arith, drop, take, length, reverse}
use Rattle.std.proofs.lemmas.Bool.Decides.{nat_tests}
use Rattle.c25_macro.proofs.Trails.{not_more, reverse-take}
use Rattle.c25_macro.proofs.tracing.follow.Goals as goal

pub returns-clause-followed : goal.returns-clause-followed
returns-clause-followed c =
    let items = c.args.trail.now.items in
    let fewer = c.args.before - c.args.after in
    let fits : c.args.after ≤ c.args.before = grind (arith, nat_tests, c.if-before-after.false) in
    let left : c.saturating_sub-left.result ≡ length items - fewer = omega (arith, c.saturating_sub-left.ensures, c.len.ensures) in
    ap reverse (c.truncate.ensures.items ∙ ap (λ n. take n items) left) ∙ reverse-take items fewer
    ∙ not_more (c.args.line ∷ reverse items) (drop fewer (reverse items)) c.args.before c.args.after fits
