use Rattle.std.proofs.Common.{string_bytes}
use Rattle.c25_module.specs.View.{contents}
use Rattle.c25_dis.specs.Sections.{IsPlace}
use Rattle.c25_dis.proofs.Passed.{one_more}
use Rattle.c25_dis.proofs.section.Places.push_places.Goals as goal

pub loop-place-preserved : goal.loop-place-preserved
loop-place-preserved c =
    let own = c.in_ok-push_place.ensures in
    one_more (IsPlace (contents c.args.self.now.parts.now) c.args.self.now.section) c.loop-place.place (string_bytes c.args.text.now) (string_bytes c.loop-place.text) own.0 (string_bytes c.push_place.new.text) own.1 own.2
    c.loop-place.invariant
