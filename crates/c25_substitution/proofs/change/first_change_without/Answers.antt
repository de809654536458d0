use Rattle.std.proofs.Common.{rules, ◌≡◌, ◌<◌, ℕ, List, [], length, get_or, refl, sym, subst, ap, ◌∙◌, arith}
use Rattle.std.proofs.lemmas.Bool.Decides.{nat_tests}
use Rattle.c25_meaning_language.specs.Quoting.{behind}
use Rattle.c25_meaning_language.specs.Substitution.{as_is, joined, rewritten}
use Rattle.c25_meaning_language.specs.declared.quoting.Quoting.{Quoting}
use Rattle.c25_substitution.specs.View.{names_of, fragment_of}
use Rattle.c25_substitution.proofs.Writing.{part}
use Rattle.c25_substitution.proofs.Changes.{IsKeptTo, cut_before, keeps_all, keeps_comment, keeps_blank, keeps_on, changes}
use Rattle.c25_substitution.proofs.change.first_change_without.Goals as goal

pub returns-then-is_comment : goal.returns-then-is_comment
returns-then-is_comment c = keeps_comment (names_of c.args.names.now) c.args.quoting c.args.text.now c.loop-rest.quoting c.loop-rest.rest.now c.loop-rest.invariant.kept (c.is_comment.ensures c.if-is_comment.true)

pub loop-rest-preserved-then-first-eq32 : goal.loop-rest-preserved-then-first-eq32
loop-rest-preserved-then-first-eq32 c =
    let names = names_of c.args.names.now in
    let rest = c.loop-rest.rest.now in
    let more : 0 < length rest = grind (arith, nat_tests) in
    let byte : 32 ≡ get_or rest 0 0 = sym c.if-first-eq32.true ∙ ap (λ (t : List ℕ). get_or t 0 0) c.as_bytes.ensures.value in
    let next : c.behind-next.result ≡ behind 32 c.loop-rest.quoting = c.behind-next.ensures ∙ ap (λ b. behind b c.loop-rest.quoting) c.if-first-eq32.true in
    let on = keeps_blank names c.args.quoting c.args.text.now c.loop-rest.quoting rest c.loop-rest.invariant.kept c.behind_blank-rest.result.now more byte c.behind_blank-rest.ensures.rest c.behind_blank-rest.ensures.shorter in
    record {
      text = search rules;
      kept = subst (λ (q : Quoting). IsKeptTo names c.args.quoting c.args.text.now q c.behind_blank-rest.result.now) (sym next) on;
    }

pub loop-rest-preserved : goal.loop-rest-preserved
loop-rest-preserved c =
    let names = names_of c.args.names.now in
    let rest = c.loop-rest.rest.now in
    let quoting = c.loop-rest.quoting in
    let more : 0 < length rest = grind (arith, nat_tests) in
    let byte : get_or c.as_bytes.result.now 0 0 ≡ get_or rest 0 0 = ap (λ (t : List ℕ). get_or t 0 0) c.as_bytes.ensures.value in
    let next : c.behind-next.result ≡ behind (get_or rest 0 0) quoting = c.behind-next.ensures ∙ ap (λ b. behind b quoting) byte in
    let on = keeps_on names c.args.quoting c.args.text.now quoting rest c.loop-rest.invariant.kept c.first_fragment.result.1.now (fragment_of c.first_fragment.result.0) (get_or rest 0 0) c.args.aside.now c.requires more
    c.first_fragment.ensures.fragment c.first_fragment.ensures.rest c.first_fragment.ensures.shorter refl c.in-Kept.field-0.now (ap fragment_of c.in-Kept.is) in
    record {
      text = search rules;
      kept = subst (λ (q : Quoting). IsKeptTo names c.args.quoting c.args.text.now q c.first_fragment.result.1.now) (sym next) on;
    }

pub split_at-requires : goal.split_at-requires
split_at-requires c = cut_before (names_of c.args.names.now) c.args.quoting c.args.text.now c.loop-rest.quoting c.loop-rest.rest.now c.loop-rest.invariant.kept c.loop-rest.invariant.text

pub returns-in_default : goal.returns-in_default
returns-in_default c = λ number.
    let names = names_of c.args.names.now in
    let rest = c.loop-rest.rest.now in
    let quoting = c.loop-rest.quoting in
    let fragment = fragment_of c.first_fragment.result.0 in
    let after = c.first_fragment.result.1.now in
    let before = c.split_at.result.0.now in
    let more : 0 < length rest = grind (arith, nat_tests) in
    let byte : get_or c.as_bytes.result.now 0 0 ≡ get_or rest 0 0 = ap (λ (t : List ℕ). get_or t 0 0) c.as_bytes.ensures.value in
    let next : c.behind-next.result ≡ behind (get_or rest 0 0) quoting = c.behind-next.ensures ∙ ap (λ b. behind b quoting) byte in
    changes names c.args.quoting c.args.text.now quoting rest c.loop-rest.invariant.kept after fragment (get_or rest 0 0) c.args.aside.now c.requires more
    c.first_fragment.ensures.fragment c.first_fragment.ensures.rest c.first_fragment.ensures.shorter refl before c.split_at.ensures.front number
    ∙ ap (λ (q : Quoting). joined (as_is before) (joined (part names number 0 [] fragment) (rewritten names number q after))) (sym next)

pub returns : goal.returns
returns c =
    let none : length c.loop-rest.rest.now ≡ 0 = grind (arith, nat_tests) in
    keeps_all (names_of c.args.names.now) c.args.quoting c.args.text.now c.loop-rest.quoting c.loop-rest.rest.now c.loop-rest.invariant.kept none
