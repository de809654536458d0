use Rattle.std.proofs.Common.{◌≡◌, ℕ, List, get_or, sym, subst, ap, ◌∙◌, arith}
use Rattle.std.specs.Str.{IsCharBoundary}
use Rattle.std.proofs.lemmas.Str.{IsCharBoundary-after_ascii}
use Rattle.c25_substitution.proofs.Cuts.{name_cut, byte_within}
use Rattle.c25_substitution.proofs.fragments.whole_name.Goals as goal

pub split_at-requires : goal.split_at-requires
split_at-requires c = subst (IsCharBoundary c.args.text.now) (sym c.requires.name) (name_cut c.args.text.now c.utf8.text)

pub range_from-requires : goal.range_from-requires
range_from-requires c = λ _.
    let mark : get_or c.args.text.now c.args.size 0 ≡ 63 = ap (λ (t : List ℕ). get_or t c.args.size 0) (sym c.as_bytes.ensures.value) ∙ sym c.byte_at.ensures.value ∙ c.if-byte_at-eq63.true in
    IsCharBoundary-after_ascii c.args.text.now c.args.size c.utf8.text (byte_within c.args.text.now c.args.size (omega (arith, mark))) (omega (arith, mark))
