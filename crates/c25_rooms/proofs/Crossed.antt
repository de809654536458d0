-- Where the blocks of a section cross pages wherever it may stand.
use Rattle.std.proofs.Common.{◌≡◌, inl, inr, ℕ, suc, ◌+◌, ◌%◌, ◌<◌, Bool, true, false, ◌&&◌, leb, List, [], ◌∷◌, ◌++◌, length, get_or, take, drop, filter, Option, Some, None, refl, sym, ap, subst, ◌∙◌, arith, ⊎_elim}
use Rattle.std.specs.List.{list_any}
use Rattle.std.specs.Prelude.{MatchOption}
use Rattle.std.proofs.lemmas.Bool.{cases_lt}
use Rattle.std.proofs.lemmas.List.Folds.{list_all-append}
use Rattle.c25_meaning_linking.specs.GoodMap.{blocks_fit, is_paged}
use Rattle.c25_meaning_linking.specs.Place.{BlockData}
use Rattle.c25_place.proofs.Listed.{mapped_more, split_at}
use Rattle.c25_place.proofs.Paged.{fit_by_place}
use Rattle.c25_rooms.specs.Bases.{AreTried, IsFewest}
use Rattle.c25_rooms.specs.Crossings.{CrossingData, Helps, HelpsLeast, IsCrossing, LieInPages, NoneCrosses, block_data, blocks_data, moved}
use Rattle.c25_rooms.specs.declared.blocks.SectionBlock.{SectionBlock}
use Rattle.c25_rooms.proofs.Places.{all_kept, and_true, any_alike, any_kept, both, kept_twice, none_kept, some_kept}
use Rattle.std.proofs.lemmas.List.Elements.{filter_agree}

-- ---- addresses that are tried

-- blocks lie in their pages at one of some addresses
abbrev pub lie_at : List ℕ → List BlockData → Bool
lie_at start blocks = list_any (λ base. blocks_fit base blocks) start

fit_alike : (a b : ℕ) (blocks : List BlockData) → a % 128 ≡ b % 128 → blocks_fit a blocks ≡ blocks_fit b blocks
fit_alike a b blocks e = sym (fit_by_place a blocks) ∙ ap (λ n. blocks_fit n blocks) e ∙ fit_by_place b blocks

lie_found : (May : ℕ → Type 0) (start : List ℕ) (blocks : List BlockData) → AreTried May start → lie_at start blocks ≡ true → (base : ℕ) × LieInPages May blocks base
lie_found May start blocks t h =
    let there = t.found (λ base. blocks_fit base blocks) h in
    (there.like.base, record { may = there.like.may; paged = fit_alike there.like.base there.place blocks there.like.alike ∙ there.passes })

lie_tried : (May : ℕ → Type 0) (start : List ℕ) (blocks : List BlockData) (base : ℕ) → AreTried May start → LieInPages May blocks base → lie_at start blocks ≡ true
lie_tried May start blocks base t l = t.tried (λ x. blocks_fit x blocks) base l.may (λ place e. fit_alike place base blocks e ∙ l.paged)

lie_none : (May : ℕ → Type 0) (start : List ℕ) (blocks : List BlockData) → AreTried May start → lie_at start blocks ≡ false → (base : ℕ) → ¬ LieInPages May blocks base
lie_none May start blocks t h = λ base l. let tried = lie_tried May start blocks base t l in absurd cc

pub none_may : (May : ℕ → Type 0) (start : List ℕ) (blocks : List BlockData) → AreTried May start → length start ≡ 0 → NoneCrosses May blocks
none_may May [] blocks t none = inl (λ base may. let some = t.tried (λ x. true) base may (λ place e. refl) in absurd cc)
none_may May (x ∷ xs) blocks t none = absurd (omega (arith, none))

-- ---- one block more

fit_more : (base : ℕ) (blocks : List BlockData) (b : BlockData) → blocks_fit base (blocks ++ b ∷ []) ≡ (blocks_fit base blocks && is_paged base b)
fit_more base blocks b = list_all-append (is_paged base) blocks (b ∷ []) ∙ ap (λ t. blocks_fit base blocks && t) (and_true (is_paged base b))

-- those of some addresses where blocks lie in their pages
abbrev pub left_for : List ℕ → List BlockData → List ℕ
left_for start blocks = filter (λ base. blocks_fit base blocks) start

any_more : (start : List ℕ) (before : List BlockData) (b : BlockData) (bases : List ℕ) → bases ≡ left_for start before → list_any (λ base. is_paged base b) bases ≡ lie_at start (before ++ b ∷ [])
any_more start before b bases are =
    ap (list_any (λ base. is_paged base b)) are ∙ any_kept (λ base. blocks_fit base before) (λ base. is_paged base b) start
    ∙ sym (any_alike (λ base. blocks_fit base (before ++ b ∷ [])) (λ base. blocks_fit base before && is_paged base b) (λ base. fit_more base before b) start)

unmoved : (b : BlockData) → moved 0 b ≡ b
unmoved b =
    let e : b.offset + 0 ≡ b.offset = omega arith in
    let f : ℕ → BlockData = λ n. record { offset = n; size = b.size } in
    ap f e

pub left_more : (start : List ℕ) (blocks : List SectionBlock) (i : ℕ) (b d : SectionBlock) (bases left : List ℕ) → i < length blocks → b ≡ get_or blocks i d → bases ≡ left_for start (blocks_data (take i blocks))
    → left ≡ filter (λ base. is_paged base (moved 0 (block_data b))) bases → left ≡ left_for start (blocks_data (take (i + 1) blocks))
left_more start blocks i b d bases left lt is are kept =
    let before = blocks_data (take i blocks) in
    kept ∙ ap (λ (x : BlockData). filter (λ base. is_paged base x) bases) (unmoved (block_data b))
    ∙ ap (filter (λ base. is_paged base (block_data b))) are
    ∙ kept_twice (λ base. blocks_fit base before) (λ base. is_paged base (block_data b)) start
    ∙ sym (filter_agree (λ base. blocks_fit base (before ++ block_data b ∷ [])) (λ base. blocks_fit base before && is_paged base (block_data b)) (λ base. fit_more base before (block_data b)) start)
    ∙ ap (λ (x : SectionBlock). left_for start (before ++ block_data x ∷ [])) is
    ∙ ap (left_for start) (sym (mapped_more block_data blocks i d lt))

pub left_first : (start : List ℕ) → start ≡ left_for start []
left_first start = sym (all_kept start)

-- ---- words before a block

helps_by : (May : ℕ → Type 0) (start : List ℕ) (before : List BlockData) (b : BlockData) (words : ℕ) → AreTried May start → lie_at start (before ++ moved words b ∷ []) ≡ true → Helps May before b words
helps_by May start before b words t h =
    let there = lie_found May start (before ++ moved words b ∷ []) t h in
    let fits = both (blocks_fit there.0 before) (is_paged there.0 (moved words b)) (sym (fit_more there.0 before (moved words b)) ∙ there.1.paged) in
    record { base = there.0; before_lie = record { may = there.1.may; paged = fits.0 }; lies = fits.1 }

helps_tried : (May : ℕ → Type 0) (start : List ℕ) (before : List BlockData) (b : BlockData) (words : ℕ) → AreTried May start → Helps May before b words → lie_at start (before ++ moved words b ∷ []) ≡ true
helps_tried May start before b words t h =
    lie_tried May start (before ++ moved words b ∷ []) h.base t (record {
      may = h.before_lie.may;
      paged = fit_more h.base before (moved words b) ∙ ap (λ t. t && is_paged h.base (moved words b)) h.before_lie.paged ∙ h.lies;
    })

-- only the words of the last page count
within_page : (base offset words : ℕ) → (base + (offset + words % 128)) % 128 ≡ (base + (offset + words)) % 128
within_page base offset words = omega arith

helps_within : (May : ℕ → Type 0) (before : List BlockData) (b : BlockData) (words : ℕ) → Helps May before b words → Helps May before b (words % 128)
helps_within May before b words h = record {
  base = h.base;
  before_lie = h.before_lie;
  lies = ap (λ n. leb (n + b.size) 128) (within_page h.base b.offset words) ∙ h.lies;
}

hole_by : (May : ℕ → Type 0) (start : List ℕ) (before : List BlockData) (b : BlockData) (bases : List ℕ) (hole : Option ℕ) → AreTried May start → bases ≡ left_for start before → IsFewest bases b hole
    → MatchOption hole ((words : ℕ) → ¬ Helps May before b words) (HelpsLeast May before b)
hole_by May start before b bases None t are none = λ words h.
    let so = any_more start before (moved (words % 128) b) bases are ∙ helps_tried May start before b (words % 128) t (helps_within May before b words h) in
    let not_so = none (words % 128) (omega arith) in
    absurd cc
hole_by May start before b bases (Some words) t are first = record {
  helps = helps_by May start before b words t (sym (any_more start before (moved words b) bases are) ∙ first.helps);
  least = λ other h.
      ⊎_elim (λ lt.
      let so = any_more start before (moved other b) bases are ∙ helps_tried May start before b other t h in
      let not_so = first.none_less other lt in
      absurd cc)
      (λ le. le)
      (cases_lt other words);
}

-- ---- the first block that crosses

some_left : (start : List ℕ) (before : List BlockData) (bases : List ℕ) → 0 < length bases → bases ≡ left_for start before → lie_at start before ≡ true
some_left start before bases some are = some_kept (λ base. blocks_fit base before) start (subst (λ (xs : List ℕ). 0 < length xs) are some)

pub crossing_at : (May : ℕ → Type 0) (start : List ℕ) (blocks : List SectionBlock) (i : ℕ) (b d : SectionBlock) (bases left : List ℕ) (c : CrossingData) → AreTried May start → i < length blocks → b ≡ get_or blocks i d
    → 0 < length bases → bases ≡ left_for start (blocks_data (take i blocks)) → left ≡ filter (λ base. is_paged base (moved 0 (block_data b))) bases → length left ≡ 0 → c.block ≡ block_data b
    → IsFewest bases (block_data b) c.hole → IsCrossing May (blocks_data blocks) c
crossing_at May start blocks i b d bases left c t lt is some are kept empty block hole =
    let before = blocks_data (take i blocks) in
    let there = lie_found May start before t (some_left start before bases some are) in
    let none : list_any (λ base. is_paged base (moved 0 (block_data b))) bases ≡ false = none_kept (λ base. is_paged base (moved 0 (block_data b))) bases (ap (λ (xs : List ℕ). length xs) (sym kept) ∙ empty) in
    let nowhere : lie_at start (before ++ c.block ∷ []) ≡ false =
    ap (λ (x : BlockData). lie_at start (before ++ x ∷ [])) (block ∙ sym (unmoved (block_data b))) ∙ sym (any_more start before (moved 0 (block_data b)) bases are) ∙ none in
    record {
      before = before;
      after = blocks_data (drop (suc i) blocks);
      blocks_are =
          split_at block_data blocks i d lt
          ∙ ap (λ (x : SectionBlock). before ++ block_data x ∷ blocks_data (drop (suc i) blocks)) (sym is)
          ∙ ap (λ (x : BlockData). before ++ x ∷ blocks_data (drop (suc i) blocks)) (sym block);
      base = there.0;
      before_lie = there.1;
      crosses = lie_none May start (before ++ c.block ∷ []) t nowhere;
      hole_is = subst (λ (x : BlockData). MatchOption c.hole ((words : ℕ) → ¬ Helps May before x words) (HelpsLeast May before x)) (sym block) (hole_by May start before (block_data b) bases c.hole t are hole);
    }

pub none_crosses : (May : ℕ → Type 0) (start : List ℕ) (blocks : List BlockData) (bases : List ℕ) → AreTried May start → 0 < length bases → bases ≡ left_for start blocks → NoneCrosses May blocks
none_crosses May start blocks bases t some are = inr (lie_found May start blocks t (some_left start blocks bases some are))
