use Rattle.std.proofs.Common.{◌≡◌, ℕ, List, get_or, ap, sym, ◌∙◌, arith}
use Rattle.std.proofs.lemmas.Str.{IsCharBoundary-after_ascii}
use Rattle.c25_substitution.proofs.Cuts.{byte_within}
use Rattle.c25_substitution.proofs.strings.past_quote.Goals as goal

pub range_from-requires : goal.range_from-requires
range_from-requires c = λ _.
    let quote : get_or c.args.text.now 0 0 ≡ 34 = ap (λ (t : List ℕ). get_or t 0 0) (sym c.as_bytes.ensures.value) ∙ sym c.byte_at.ensures.value ∙ c.if-byte_at-eq34.true in
    IsCharBoundary-after_ascii c.args.text.now 0 c.utf8.text (byte_within c.args.text.now 0 (omega (arith, quote))) (omega (arith, quote))
