use Rattle.std.proofs.Common.{◌≡◌, ◌+◌, ◌-◌, ◌<◌, ◌≤◌, ◌++◌, ℕ, false, true, List, length, get_or, take, drop, subst, ap, sym, ◌∙◌, arith}
use Rattle.std.specs.Prelude.{◌==◌, ◌&&◌}
use Rattle.std.specs.String.{string_bytes}
use Rattle.std.proofs.lemmas.Str.{IsCharBoundary-start, IsCharBoundary-after_ascii}
use Rattle.c25_meaning_language.specs.Arguments.{folded}
use Rattle.c25_substitution.proofs.Folding.{stays, goes, rests, quote_ascii}
use Rattle.c25_substitution.proofs.strings.folded.Goals as goal

pub loop-i-init : goal.loop-i-init
loop-i-init c = record {
  so_far = ap (λ o. o ++ folded false c.args.text.now) c.new-out.ensures.bytes;
  order = omega arith;
  cut = IsCharBoundary-start c.args.text.now c.utf8.text;
}

pub loop-i-preserved-then-is_second : goal.loop-i-preserved-then-is_second
loop-i-preserved-then-is_second c =
    let text = c.args.text.now in
    let i : ℕ = c.loop-i.i in
    let from : ℕ = c.loop-i.from in
    let within : i < length text = subst (λ (t : List ℕ). i < length t) c.as_bytes-b-items.ensures.value c.loop-i-test.true in
    let two : (c.loop-i.again && get_or text i 0 == 34) ≡ true = ap (λ (t : List ℕ). c.loop-i.again && get_or t i 0 == 34) (sym c.as_bytes-b-items.ensures.value) ∙ sym c.is_second.ensures ∙ c.if-is_second.true in
    let written = c.in_ok-push_str.ensures.bytes ∙ ap (λ t. string_bytes c.loop-i.out ++ t) c.range.ensures.value in
    record {
      so_far = ap (λ o. o ++ (take (i + 1 - (i + 1)) (drop (i + 1) text) ++ folded false (drop (i + 1) text))) written ∙ goes (string_bytes c.loop-i.out) text from i c.loop-i.again within two ∙ c.loop-i.invariant.so_far;
      order = omega arith;
      cut = IsCharBoundary-after_ascii text i c.utf8.text within (quote_ascii c.loop-i.again _ two);
    }

pub loop-i-preserved : goal.loop-i-preserved
loop-i-preserved c =
    let text = c.args.text.now in
    let i : ℕ = c.loop-i.i in
    let from : ℕ = c.loop-i.from in
    let within : i < length text = subst (λ (t : List ℕ). i < length t) c.as_bytes-b-items.ensures.value c.loop-i-test.true in
    let one : (c.loop-i.again && get_or text i 0 == 34) ≡ false = ap (λ (t : List ℕ). c.loop-i.again && get_or t i 0 == 34) (sym c.as_bytes-b-items.ensures.value) ∙ sym c.is_second.ensures ∙ c.if-is_second.false in
    record {
      so_far =
          ap (λ (t : List ℕ). string_bytes c.loop-i.out ++ (take (i + 1 - from) (drop from text) ++ folded (get_or t i 0 == 34) (drop (i + 1) text))) c.as_bytes-b-items.ensures.value
          ∙ stays (string_bytes c.loop-i.out) text from i c.loop-i.again c.loop-i.invariant.order within one ∙ c.loop-i.invariant.so_far;
      order = omega (arith, c.loop-i.invariant.order);
      cut = c.loop-i.invariant.cut;
    }

pub returns : goal.returns
returns c =
    let text = c.args.text.now in
    let all : length text ≤ c.loop-i.i = subst (λ (t : List ℕ). length t ≤ c.loop-i.i) c.as_bytes-b-items.ensures.value c.loop-i-test.false in
    let within : c.loop-i.i ≤ length text = subst (λ (t : List ℕ). c.loop-i.i ≤ length t) c.as_bytes-b-items.ensures.value c.loop-i.auto.i-end in
    c.in_ok-push_str-2.ensures.bytes ∙ ap (λ t. string_bytes c.loop-i.out ++ t) c.range_from.ensures.value
    ∙ rests (string_bytes c.loop-i.out) text c.loop-i.from c.loop-i.i c.loop-i.again all within ∙ c.loop-i.invariant.so_far
