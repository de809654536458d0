use Rattle.std.proofs.Common.{subst, ap, ◌∙◌}
use Rattle.std.proofs.lemmas.Result.{err_from_is_err_and}
use Rattle.c25_meaning_language.specs.Substitution.{joined}
use Rattle.c25_substitution.specs.View.{names_of, changed, Refuses, IsWithin}
use Rattle.c25_substitution.proofs.Writing.{nothing-joined}
use Rattle.c25_substitution.proofs.substitution.rewrite.Goals as goal

pub returns-in_err-write_change : goal.returns-in_err-write_change
returns-in_err-write_change c =
    let all = changed (names_of c.args.names.now) c.args.number c.args.change in
    let e = c.in_err-write_change.field-0.0 in
    let p = err_from_is_err_and c.from_residual-in_err-write_change.result c.from_residual-in_err-write_change.ensures.1 in
    let told = subst (λ w. Refuses w e) (ap (λ o. joined o all) c.in_ok-out.ensures.0 ∙ nothing-joined all) c.in_err-write_change.ensures in
    rw (p.1, p.2) told

pub returns : goal.returns
returns c =
    let all = changed (names_of c.args.names.now) c.args.number c.args.change in
    let same = c.in_ok-write_change.ensures.0 ∙ ap (λ o. joined o all) c.in_ok-out.ensures.0 ∙ nothing-joined all in
    (same, subst (λ w. IsWithin w) same c.in_ok-write_change.ensures.1)
