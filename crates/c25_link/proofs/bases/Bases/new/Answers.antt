use Rattle.std.proofs.Common.{◌≡◌, ap, sym, ◌∙◌, length, refl, arith, Some}
use Rattle.std.specs.List.{slice_get}
use Rattle.std.proofs.lemmas.Option.{slice_get_read, slice_get_within}
use Rattle.c25_module.specs.View.{contents}
use Rattle.c25_place.specs.View.{places_view}
use Rattle.c25_link.proofs.Parted.{one_longer, module_parts}
use Rattle.c25_link.proofs.bases.Bases.new.Goals as goal

pub loop-module-preserved : goal.loop-module-preserved
loop-module-preserved c =
    let i = c.loop-module.module-index in
    let modules = c.args.modules.now in
    let places = places_view c.args.places.now in
    let there : slice_get modules i ≡ Some c.module-item.result = slice_get_read modules (length modules) i c.module-item.result refl c.loop-module-test.true c.module-item.is in
    let is : slice_get modules i ≡ Some (contents c.parts.result.now) = there ∙ ap Some (sym c.parts.ensures.kept) in (
      λ room.
          let so_far = c.loop-module.invariant.0 room in (
            c.in_ok-module_bases.ensures.next modules places i room is so_far.0,
            module_parts modules places c.loop-module.list.items c.push.new.self.items c.in_ok-module_bases.field-0 i (contents c.parts.result.now) c.in_ok-push.ensures.items c.loop-module.invariant.1 is so_far.1 (c.in_ok-module_bases.ensures.parts modules places i room is so_far.0),
          ),
      one_longer c.loop-module.list.items c.push.new.self.items c.in_ok-module_bases.field-0 i c.in_ok-push.ensures.items c.loop-module.invariant.1,
    )

pub returns : goal.returns
returns c = λ room number index m is.
    (c.loop-module.invariant.0 room).1 number index m (omega (arith, slice_get_within c.args.modules.now number m is)) is
