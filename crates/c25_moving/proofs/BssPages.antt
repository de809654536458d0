-- Parts of `.bss` whose blocks lie in pages, one part after another.
use Rattle.std.proofs.Common.{◌≡◌, ◌<◌, ◌≤◌, ◌+◌, ◌%◌, ◌&&◌, ◌∙◌, ℕ, Bool, true, false, List, [], ◌∷◌, ap, arith, drop, get_or, length, refl, sym}
use Rattle.std.proofs.lemmas.List.{drop_all, drop_more}
use Rattle.std.specs.List.{list_all}
use Rattle.std.specs.Prelude.{nat_le}
use Rattle.c25_moving.specs.BssPlace.{is_in_page, parts_fit}
use Rattle.c25_moving.specs.Holes.{moved_on}
use Rattle.c25_moving.specs.declared.blocks.BlockAt.{BlockAt}
use Rattle.c25_moving.specs.declared.blocks.Reserved.{Reserved}

same_after : (a b more : ℕ) → a % 128 ≡ b % 128 → (a + more) % 128 ≡ (b + more) % 128
same_after a b more e = omega arith

-- blocks lie in pages from every address at the same place of a page
all_alike : (a b : ℕ) (bs : List BlockAt) → a % 128 ≡ b % 128 → list_all (is_in_page a) bs ≡ list_all (is_in_page b) bs
all_alike a b [] e = refl
all_alike a b (x ∷ bs) e =
    ap (λ (n : ℕ). nat_le (n + x.size) 128 && list_all (is_in_page a) bs) (same_after a b x.place e)
    ∙ ap (λ (t : Bool). is_in_page b x && t) (all_alike a b bs e)

-- and so do those of parts
fit_alike : (a b : ℕ) (ps : List Reserved) → a % 128 ≡ b % 128 → parts_fit a ps ≡ parts_fit b ps
unfolding parts_fit
fit_alike a b [] e = refl
fit_alike a b (p ∷ ps) e =
    ap (λ (t : Bool). t && parts_fit (a + p.words) ps) (all_alike a b p.blocks.items e)
    ∙ ap (λ (t : Bool). list_all (is_in_page b) p.blocks.items && t) (fit_alike (a + p.words) (b + p.words) ps (same_after a b p.words e))

first_part : (a : ℕ) (p : Reserved) (ps : List Reserved) → parts_fit a (p ∷ ps) ≡ (list_all (is_in_page a) p.blocks.items && parts_fit (a + p.words) ps)
unfolding parts_fit
first_part a p ps = refl

no_part : (a : ℕ) → parts_fit a [] ≡ true
unfolding parts_fit
no_part a = refl

moved_there : (words start : ℕ) → (start + words) % 128 ≡ moved_on words start % 128
moved_there words start = omega arith

-- the first of the parts that are left, and the others
part_at : (parts : List Reserved) (i start : ℕ) (d : Reserved) (blocks : List BlockAt) (fits known : Bool) → i < length parts → blocks ≡ (get_or parts i d).blocks.items → fits ≡ list_all (is_in_page start) blocks
    → parts_fit start (drop i parts) ≡ known → (fits && parts_fit (start + (get_or parts i d).words) (drop (i + 1) parts)) ≡ known
part_at parts i start d blocks fits known low same are all =
    let p = get_or parts i d in
    let rest = drop (i + 1) parts in
    ap (λ (t : Bool). t && parts_fit (start + p.words) rest) (are ∙ ap (list_all (is_in_page start)) same)
    ∙ sym (ap (parts_fit start) (drop_more parts i d low) ∙ first_part start p rest) ∙ all

-- one part further
pub part_further : (parts : List Reserved) (i start next : ℕ) (d p : Reserved) (blocks : List BlockAt) (fits known : Bool) → i < length parts → p ≡ get_or parts i d → blocks ≡ p.blocks.items
    → fits ≡ list_all (is_in_page start) blocks → fits ≡ true → next ≡ moved_on p.words start → parts_fit start (drop i parts) ≡ known → parts_fit next (drop (i + 1) parts) ≡ known
part_further parts i start next d p blocks fits known low at same are so on all =
    let q = get_or parts i d in
    let rest = drop (i + 1) parts in
    let here : next ≡ moved_on q.words start = on ∙ ap (λ (r : Reserved). moved_on r.words start) at in
    fit_alike next (start + q.words) rest (ap (λ (n : ℕ). n % 128) here ∙ sym (moved_there q.words start))
    ∙ sym (ap (λ (t : Bool). t && parts_fit (start + q.words) rest) so)
    ∙ part_at parts i start d blocks fits known low (same ∙ ap (λ (r : Reserved). r.blocks.items) at) are all

-- a block of the part crosses a page
pub part_crosses : (parts : List Reserved) (i start : ℕ) (d : Reserved) (blocks : List BlockAt) (fits known : Bool) → i < length parts → blocks ≡ (get_or parts i d).blocks.items → fits ≡ list_all (is_in_page start) blocks
    → fits ≡ false → parts_fit start (drop i parts) ≡ known → false ≡ known
part_crosses parts i start d blocks fits known low same are not_so all =
    let p = get_or parts i d in
    let rest = drop (i + 1) parts in
    sym (ap (λ (t : Bool). t && parts_fit (start + p.words) rest) not_so) ∙ part_at parts i start d blocks fits known low same are all

-- all parts fit
pub parts_done : (parts : List Reserved) (i start : ℕ) (known : Bool) → length parts ≤ i → parts_fit start (drop i parts) ≡ known → true ≡ known
parts_done parts i start known high all = sym (ap (parts_fit start) (drop_all i parts high) ∙ no_part start) ∙ all
