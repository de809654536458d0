-- After the last token.
use Rattle.std.proofs.Common.{◌≡◌, ℕ, zero, suc, ◌<◌, Bool, true, false, ◌==◌, List, [], ◌∷◌, length, reverse, map, Some, None, refl, sym, ap, ◌∙◌, arith}
use Rattle.std.proofs.lemmas.Bool.{false≢true, eqb-true}
use Rattle.std.proofs.lemmas.List.{length-reverse, reverse-reverse}
use Rattle.c25_meaning_language.specs.Tree.{Tree}
use Rattle.c25_meaning_language.specs.Reading.{PostfixItem, ParserState, Found, reduced, loosest, whole, whole_by, finished}
use Rattle.c25_expr.specs.Postfix.{item_of, last_tree, runs}
use Rattle.c25_expr.specs.View.{woven, trees_of, items_of, behind, state_of, trees_before, operand_by}
use Rattle.c25_expr.specs.declared.builder.Builder.{Builder}
use Rattle.c25_expr.specs.declared.builder.Frame.{Frame}
use Rattle.c25_expr.specs.declared.builder.Frame.TheVariants.{Open, Pending, After}

-- where an operand stands, what is left where the operators have taken it decides
finished_is : (b : Builder) (s : ParserState) → b.expects ≡ false → s ≡ reduced loosest (behind b).frames (last_tree (trees_of b)) (items_of b) → finished (state_of b) ≡ whole s
finished_is b s h e =
    ap (λ (x : Bool). finished (record { frames = woven (reverse b.frames.items) (trees_before x (trees_of b)); current = operand_by x (trees_of b); items = items_of b })) h
    ∙ ap whole (sym e)

whole_none : (fs : List Frame) (ts : List Tree) (e : Tree) (is : List PostfixItem) → 0 < length fs → whole_by (woven fs ts) (Some e) is ≡ None
whole_none [] ts e is h = absurd (omega (arith, h))
whole_none (Open ∷ fs) ts e is h = refl
whole_none (Pending op ∷ fs) ts e is h = refl
whole_none (After op ∷ fs) ts e is h = refl

whole_some : (fs : List Frame) (ts : List Tree) (e : Tree) (is : List PostfixItem) → length fs ≡ 0 → whole_by (woven fs ts) (Some e) is ≡ Some (record { tree = e; items = is })
whole_some [] ts e is h = refl
whole_some (f ∷ fs) ts e is h = absurd (omega (arith, h))

not_zero : (n : ℕ) → (n == 0) ≡ false → 0 < n
not_zero zero h = absurd (false≢true (sym h))
not_zero (suc n) h = omega arith

-- frames are left
pub finished_none : (b c : Builder) → b.expects ≡ false → behind c ≡ reduced loosest (behind b).frames (last_tree (trees_of b)) (items_of b) → (c.frames.len == 0) ≡ false → finished (state_of b) ≡ None
finished_none b c h e some =
    finished_is b (behind c) h e
    ∙ whole_none (reverse c.frames.items) _ _ _ (omega (arith, not_zero c.frames.len some, c.frames.ok.0, length-reverse c.frames.items))

-- none is left
pub finished_some : (b c : Builder) → b.expects ≡ false → behind c ≡ reduced loosest (behind b).frames (last_tree (trees_of b)) (items_of b) → (c.frames.len == 0) ≡ true
    → finished (state_of b) ≡ Some (record { tree = last_tree (trees_of c); items = items_of c })
finished_some b c h e none =
    finished_is b (behind c) h e
    ∙ whole_some (reverse c.frames.items) _ _ _ (omega (arith, eqb-true c.frames.len 0 none, c.frames.ok.0, length-reverse c.frames.items))

-- the items run where what is found runs
pub finished_runs : (b c : Builder) → b.expects ≡ false → behind c ≡ reduced loosest (behind b).frames (last_tree (trees_of b)) (items_of b) → (c.frames.len == 0) ≡ true
    → ((f : Found) → finished (state_of b) ≡ Some f → runs (reverse f.items) 0 ≡ true) → runs (map item_of c.items.items) 0 ≡ true
finished_runs b c h e none found =
    ap (λ is. runs is 0) (sym (reverse-reverse (map item_of c.items.items)))
    ∙ found (record { tree = last_tree (trees_of c); items = items_of c }) (finished_some b c h e none)
