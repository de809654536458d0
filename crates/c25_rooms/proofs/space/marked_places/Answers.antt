use Rattle.std.proofs.Common.{◌≡◌, ◌∷◌, [], ◌++◌, List, ℕ, ap, arith, cond, false, filter, get_or, sym, ◌∙◌}
use Rattle.std.specs.List.{range_with_len}
use Rattle.c25_rooms.specs.Bases.{marked_places}
use Rattle.c25_rooms.proofs.Places.{kept_next}
use Rattle.c25_rooms.proofs.space.marked_places.Goals as goal

pub loop-place-preserved : goal.loop-place-preserved
loop-place-preserved c =
    c.in_ok-push_marked.ensures
    ∙ ap (λ (xs : List ℕ). xs ++ cond (get_or c.args.marks.now c.loop-place.place false) (c.loop-place.place ∷ []) []) c.loop-place.invariant
    ∙ sym (kept_next (λ place. get_or c.args.marks.now place false) c.loop-place.place)

pub returns : goal.returns
unfolding marked_places
returns c =
    let ends : c.loop-place.place ≡ 128 = omega arith in
    c.loop-place.invariant ∙ ap (λ n. filter (λ place. get_or c.args.marks.now place false) (range_with_len 0 n)) ends
