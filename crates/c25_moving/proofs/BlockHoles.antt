-- The holes before blocks, one block after another.
use Rattle.std.proofs.Common.{◌≡◌, ◌<◌, ◌≤◌, ◌+◌, ◌++◌, ◌∙◌, ℕ, List, [], ◌∷◌, ap, get_or, length, refl, sym, drop}
use Rattle.std.proofs.lemmas.List.{append-nil, append_assoc, drop_all, drop_more}
use Rattle.c25_moving.specs.Holes.{hole_at, holes, moved_on}
use Rattle.c25_moving.specs.declared.blocks.BlockAt.{BlockAt}

first_hole : (filled : ℕ) (b : BlockAt) (bs : List BlockAt) → holes filled (b ∷ bs) ≡ hole_at (moved_on b.place filled) b.size ∷ holes (moved_on (hole_at (moved_on b.place filled) b.size) filled) bs
unfolding holes
first_hole filled b bs = refl

no_hole : (filled : ℕ) → holes filled [] ≡ []
unfolding holes
no_hole filled = refl

-- one block more
pub one_hole : (blocks : List BlockAt) (i : ℕ) (d : BlockAt) (filled next place hole : ℕ) (so_far more all : List ℕ) → i < length blocks → more ≡ so_far ++ hole ∷ [] → place ≡ moved_on (get_or blocks i d).place filled
    → hole ≡ hole_at place (get_or blocks i d).size → next ≡ moved_on hole filled → so_far ++ holes filled (drop i blocks) ≡ all → more ++ holes next (drop (i + 1) blocks) ≡ all
one_hole blocks i d filled next place hole so_far more all low is at here on known =
    let b = get_or blocks i d in
    let rest = drop (i + 1) blocks in
    let size = b.size in
    let first : hole ≡ hole_at (moved_on b.place filled) size = here ∙ ap (λ (p : ℕ). hole_at p size) at in
    ap (λ (xs : List ℕ). xs ++ holes next rest) is ∙ append_assoc so_far (hole ∷ []) (holes next rest)
    ∙ ap (λ (n : ℕ). so_far ++ hole ∷ holes n rest) on ∙ ap (λ (h : ℕ). so_far ++ h ∷ holes (moved_on h filled) rest) first
    ∙ ap (λ (xs : List ℕ). so_far ++ xs) (sym (ap (holes filled) (drop_more blocks i d low) ∙ first_hole filled b rest)) ∙ known

-- all blocks
pub all_holes : (blocks : List BlockAt) (i filled : ℕ) (so_far all : List ℕ) → length blocks ≤ i → so_far ++ holes filled (drop i blocks) ≡ all → so_far ≡ all
all_holes blocks i filled so_far all high known =
    sym (append-nil so_far) ∙ ap (λ (xs : List ℕ). so_far ++ xs) (sym (ap (holes filled) (drop_all i blocks high) ∙ no_hole filled)) ∙ known
