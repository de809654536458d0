use Rattle.std.proofs.Common.{◌≡◌, ◌<◌, ℕ, List, ap, arith, filter, get_or, length, refl, subst, ◌∙◌}
use Rattle.std.proofs.lemmas.Bool.Decides.{nat_tests}
use Rattle.std.proofs.lemmas.List.{take_all}
use Rattle.c25_meaning_linking.specs.GoodMap.{is_paged}
use Rattle.c25_rooms.specs.Bases.{IsFewest}
use Rattle.c25_rooms.specs.Crossings.{MayBegin, block_data, blocks_data, moved}
use Rattle.c25_rooms.specs.declared.blocks.SectionBlock.{SectionBlock}
use Rattle.c25_rooms.proofs.Crossed.{crossing_at, left_first, left_for, left_more, none_crosses, none_may}
use Rattle.c25_rooms.proofs.crossing.first_crossing.Goals as goal

-- what an index past the end would read
abbrev nothing : SectionBlock
nothing = record { offset = 0; size = 0 }

pub returns-then-has_none : goal.returns-then-has_none
returns-then-has_none c = λ places ranges span size t.
    let none : length c.args.start.items ≡ 0 = grind (arith, nat_tests) in
    none_may (MayBegin places ranges span size) c.args.start.items (blocks_data c.args.blocks.now) t none

pub loop-block-init : goal.loop-block-init
loop-block-init c =
    let some : 0 < length c.args.start.items = grind (arith, nat_tests) in
    record { some = some; left = left_first c.args.start.items }

pub returns-then-has_none-2 : goal.returns-then-has_none-2
returns-then-has_none-2 c = λ places ranges span size t.
    let blocks = c.args.blocks.now in
    let b : SectionBlock = get_or blocks c.loop-block.block-index nothing in
    let same = c.as_slice-tried.ensures.value in
    let none : length c.in_ok-left.left.items ≡ 0 = grind (arith, nat_tests) in
    crossing_at (MayBegin places ranges span size) c.args.start.items blocks c.loop-block.block-index b nothing c.loop-block.bases.items c.in_ok-left.left.items _ t c.loop-block-test.true refl c.loop-block.invariant.some c.loop-block.invariant.left
    (c.in_ok-left.ensures ∙ ap (λ (xs : List ℕ). filter (λ base. is_paged base (moved 0 (block_data b))) xs) same) none refl
    (subst (λ (xs : List ℕ). IsFewest xs (block_data b) c.fewest-hole.result) same c.fewest-hole.ensures)

pub loop-block-preserved : goal.loop-block-preserved
loop-block-preserved c =
    let blocks = c.args.blocks.now in
    let b : SectionBlock = get_or blocks c.loop-block.block-index nothing in
    let same = c.as_slice-tried.ensures.value in
    let some : 0 < length c.in_ok-left.left.items = grind (arith, nat_tests) in
    record {
      some = some;
      left =
          left_more c.args.start.items blocks c.loop-block.block-index b nothing c.loop-block.bases.items c.in_ok-left.left.items c.loop-block-test.true refl c.loop-block.invariant.left
          (c.in_ok-left.ensures ∙ ap (λ (xs : List ℕ). filter (λ base. is_paged base (moved 0 (block_data b))) xs) same);
    }

pub returns : goal.returns
returns c = λ places ranges span size t.
    let blocks = c.args.blocks.now in
    let i = c.loop-block.block-index in
    none_crosses (MayBegin places ranges span size) c.args.start.items (blocks_data blocks) c.loop-block.bases.items t c.loop-block.invariant.some
    (c.loop-block.invariant.left ∙ ap (λ (bs : List SectionBlock). left_for c.args.start.items (blocks_data bs)) (take_all i blocks (omega (arith, c.loop-block-test.false))))
