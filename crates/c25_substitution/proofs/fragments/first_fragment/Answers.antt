use Rattle.std.proofs.Common.{◌≡◌, ℕ, ◌+◌, length, subst, arith}
use Rattle.std.specs.Str.{IsCharBoundary}
use Rattle.std.proofs.lemmas.Str.{IsCharBoundary-after_ascii}
use Rattle.c25_substitution.proofs.fragments.first_fragment.Goals as goal

pub range_from-requires : goal.range_from-requires
range_from-requires c = λ _.
    let text = c.args.text.now in
    let size : ℕ = length c.in-Some.name.now + 1 in
    let colon = c.in-Some.ensures.closed in
    let place : size + 1 ≡ length c.in-Some.name.now + 2 = omega arith in
    subst (IsCharBoundary text) place (IsCharBoundary-after_ascii text size c.utf8.text (omega (arith, c.in-Some.ensures.within)) (omega (arith, colon)))
