use Rattle.std.proofs.Common.{◌≡◌, ℕ, List, ap, map, sym, ◌∙◌}
use Rattle.std.specs.Str.Lines.{lines}
use Rattle.c25_layout.specs.Hints.{without_comment}
use Rattle.c25_layout.proofs.Lists.{map_map}
use Rattle.c25_layout.proofs.hint_reader.read_hints.Goals as goal

-- the lines without their comments, by the views of these lines
fused : {X : Type 0} (view : X → List ℕ) (xs : List X) (text : List ℕ) → map view xs ≡ lines text → map without_comment (lines text) ≡ map (λ x. without_comment (view x)) xs
fused view xs text h = ap (λ (ls : List (List ℕ)). map without_comment ls) (sym h) ∙ map_map without_comment view xs

pub returns : goal.returns
returns c =
    let read : map (λ s. s.now) c.as_slice.result.now ≡ lines c.args.text.now = rw c.as_slice.ensures.value c.in_ok-lines.ensures in
    rw (fused (λ s. s.now) c.as_slice.result.now c.args.text.now read) c.hints_in.ensures
