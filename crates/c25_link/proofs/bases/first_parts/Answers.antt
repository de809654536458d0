use Rattle.std.proofs.Common.{ap, ◌∙◌, [], None}
use Rattle.c25_place.specs.View.{named}
use Rattle.c25_place.specs.declared.placement.Place.{Place}
use Rattle.c25_link.proofs.First.{copied_some, first_new, first_seen}
use Rattle.c25_link.proofs.bases.first_parts.Goals.{then-is_none+in_ok-insert, else-is_none}
use Rattle.c25_link.proofs.bases.first_parts.Goals as goal

-- what an index past the end would read
abbrev nowhere : Place
nowhere = record { name = record { ref_ptr = (0, 0); now = [] }; page = 0; base = 0; size = 0; run = None }

pub loop-place-preserved : goal.loop-place-preserved
loop-place-preserved c = λ name. elim c.if-is_none.branch [
  | then-is_none+in_ok-insert w ↦
      ap (λ m. named m name) w.found-is
      ∙ first_new name c.args.places.now c.loop-place.place-index nowhere _ _ _ c.loop-place-test.true (c.loop-place.invariant name) (c.get.ensures.value ∙ c.loop-place.invariant _) (copied_some c.get.result ∙ w.if-is_none.ensures)
      (w.in_ok-insert.ensures.updates.0 (record { ref_ptr = (0, 0); now = name }))
  | else-is_none w ↦
      ap (λ m. named m name) w.found-is
      ∙ first_seen name c.args.places.now c.loop-place.place-index nowhere _ _ c.loop-place-test.true (c.loop-place.invariant name) (c.get.ensures.value ∙ c.loop-place.invariant _) (copied_some c.get.result ∙ w.if-is_none.ensures)
]
