use Rattle.std.proofs.Common.{◌≡◌, ◌<◌, ℕ, List, length, get_or, subst, ap, sym, ◌∙◌, arith, rules}
use Rattle.std.proofs.lemmas.Grind.{common_steps}
use Rattle.std.proofs.lemmas.Str.{IsCharBoundary-after_ascii}
use Rattle.c25_substitution.proofs.arguments.split_argument.Goals as goal

pub range_from-requires : goal.range_from-requires
range_from-requires c = λ _.
    let within : c.outer_len-end.result < length c.args.text.now = c.if-end-text.true in
    let comma = c.outer_len-end.ensures.stop (subst (λ (t : List ℕ). c.outer_len-end.result < length t) (sym c.as_bytes.ensures.value) within) in
    let byte : get_or c.args.text.now c.outer_len-end.result 0 ≡ 44 = ap (λ (t : List ℕ). get_or t c.outer_len-end.result 0) (sym c.as_bytes.ensures.value) ∙ comma in
    IsCharBoundary-after_ascii c.args.text.now c.outer_len-end.result c.utf8.text within (omega (arith, byte))

pub returns-then-end-text-clause-argument : goal.returns-then-end-text-clause-argument
returns-then-end-text-clause-argument c = search rules

pub returns-then-end-text-clause-rest : goal.returns-then-end-text-clause-rest
returns-then-end-text-clause-rest c = grind (arith, common_steps)
