use Rattle.std.proofs.Common.{◌≡◌, ◌<◌, ◌≤◌, ◌++◌, ◌+◌, List, length, get_or, map, filter, unwrap_or, sym, ap, subst, ◌∙◌, arith}
use Rattle.std.proofs.lemmas.List.{take_all}
use Rattle.c25_meaning_objects.specs.declared.object.Block.{Block}
use Rattle.c25_meaning_linking.specs.Place.{block_behind, is_block_named}
use Rattle.c25_module.specs.View.{contents, section_data}
use Rattle.c25_place.specs.Blocks.{KnowsPaging, anywhere}
use Rattle.c25_place.specs.View.{named}
use Rattle.c25_place.proofs.Blocked.{block_next, block_skipped, section_at, no_section, so_far}
use Rattle.c25_place.proofs.blocks.add_blocks.Goals.{in-Some+in_ok-insert-in-Some, in-None}
use Rattle.c25_place.proofs.blocks.add_blocks.Goals as goal

-- what an index past the end would read
abbrev nothing : Block
nothing = record { section = 0; offset = 0; size = 0 }

pub loop-block-preserved : goal.loop-block-preserved
loop-block-preserved c =
    let owner = contents c.args.owner.now in
    let bs = c.args.owner.now.blocks.items in
    let i = c.loop-block.block-index in
    let same = c.deref-block-items.ensures.value in
    let b : Block = get_or c.deref-block-items.result.now i nothing in
    let lt : i < length bs = omega (arith, ap length same) in
    let at : b ≡ get_or bs i nothing = ap (λ (xs : List Block). get_or xs i nothing) same in
    elim c.match-get.branch [
      | in-Some+in_ok-insert-in-Some w ↦ λ words blocks known.
          block_next owner bs i b nothing (section_data w.in-Some.section.now) w.as_str-name.result.now (λ name. named c.loop-block.found name) (λ name. named c.match-get.found name) w.paging_or_none-paging.result w.with_block.result words blocks lt at
          (section_at c.args.owner.now.sections.items c.deref.result.now b.section w.in-Some.section c.deref.ensures.value w.in-Some.ensures.lookup) w.as_str-name.ensures.value
          (w.paging_or_none-paging.ensures ∙ ap (λ o. unwrap_or o anywhere) (w.copied.ensures ∙ w.get-in-Some.ensures.value)) w.with_block.ensures
          (λ name. ap (λ m. named m name) w.found-is ∙ w.in_ok-insert-in-Some.ensures.updates.0 (record { ref_ptr = (0, 0); now = name }))
          (c.loop-block.invariant words blocks known)
      | in-None w ↦ λ words blocks known name.
          subst (λ m. KnowsPaging (unwrap_or (named m name) anywhere) (words name) (so_far owner bs (i + 1) words blocks name)) (sym w.found-is)
          (block_skipped owner bs i b nothing words blocks (unwrap_or (named c.loop-block.found name) anywhere) name lt at (no_section c.args.owner.now.sections.items c.deref.result.now b.section c.deref.ensures.value w.in-None.ensures.lookup) (c.loop-block.invariant words blocks known name))
    ]

pub returns : goal.returns
returns c = λ words blocks known name.
    let bs = c.args.owner.now.blocks.items in
    let le : length bs ≤ c.loop-block.block-index = omega (arith, c.loop-block-test.false, ap length c.deref-block-items.ensures.value) in
    subst (λ (xs : List Block). KnowsPaging (unwrap_or (named c.loop-block.found name) anywhere) (words name) (blocks name ++ map (block_behind (words name)) (filter (is_block_named name (contents c.args.owner.now)) xs)))
    (take_all c.loop-block.block-index bs le) (c.loop-block.invariant words blocks known name)
