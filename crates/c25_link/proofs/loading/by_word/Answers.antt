use Rattle.std.proofs.Common.{◌≡◌, ◌<◌, List, length, get_or, pos, is_some, ap, sym, ◌∙◌, arith}
use Rattle.c25_meaning_objects.specs.declared.object.Relocation.{Relocation}
use Rattle.c25_meaning_objects.specs.declared.object.RelocationBase.TheVariants as base
use Rattle.c25_meaning_common.specs.declared.relocation.RelocationKind.TheVariants as kind
use Rattle.c25_link.specs.Loading.{found_at}
use Rattle.c25_link.proofs.First.{copied_some}
use Rattle.c25_link.proofs.Loaded.{relocation_new, relocation_seen}
use Rattle.c25_link.proofs.loading.by_word.Goals.{then-is_none+in_ok-insert, else-is_none}
use Rattle.c25_link.proofs.loading.by_word.Goals as goal

-- what an index past the end would read
abbrev nothing : Relocation
nothing = record { section = 0; offset = 0; kind = kind.Word16; base = base.Section 0; addend = pos 0 }

pub loop-relocation-preserved : goal.loop-relocation-preserved
loop-relocation-preserved c = λ section offset.
    let same = c.deref-relocation-items.ensures.value in
    let items = c.args.owner.now.relocations.items in
    let i = c.loop-relocation.relocation-index in
    let r : Relocation = get_or c.deref-relocation-items.result.now i nothing in
    let lt : i < length items = omega (arith, ap length same) in
    let at : r ≡ get_or items i nothing = ap (λ (xs : List Relocation). get_or xs i nothing) same in
    elim c.if-is_none.branch [
      | then-is_none+in_ok-insert w ↦
          ap (λ m. found_at m section offset) w.found-is ∙ w.in_ok-insert.ensures.updates.0 (section, offset)
          ∙ relocation_new items i r nothing section offset (found_at c.loop-relocation.found) lt at c.loop-relocation.invariant (ap is_some (sym c.get.ensures.value) ∙ copied_some c.get.result ∙ w.if-is_none.ensures)
      | else-is_none w ↦
          ap (λ m. found_at m section offset) w.found-is
          ∙ relocation_seen items i r nothing section offset (found_at c.loop-relocation.found) lt at c.loop-relocation.invariant (ap is_some (sym c.get.ensures.value) ∙ copied_some c.get.result ∙ w.if-is_none.ensures)
    ]
