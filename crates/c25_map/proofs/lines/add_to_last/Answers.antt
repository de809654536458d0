use Rattle.std.proofs.Common.{ap, suc, refl, ◌≡◌, ◌-◌, length, arith, ok_or}
use Rattle.std.specs.Vec.{vec_len}
use Rattle.c25_map.specs.declared.map_fault.MapFault.TheVariants.{BadMap}
use Rattle.c25_map.specs.View.{part_data, section_data}
use Rattle.c25_map.proofs.Last.{set_last, parts_more}
use Rattle.c25_map.proofs.lines.add_to_last.Goals as goal

pub returns-in_ok-push-in-Some : goal.returns-in_ok-push-in-Some
returns-in_ok-push-in-Some c =
    let items = c.args.sections.now.items in
    let last = c.in-Some.section.now in
    let parts = parts_more last.parts.items c.push.new.self.items c.args.part c.in_ok-push-in-Some.ensures.items in
    let some = c.in-Some.ensures.variant in
    let len : suc (vec_len c.args.sections.now - 1) ≡ length items = omega (arith, c.args.sections.now.ok.0, some.0 refl) in
    ap (λ o. ok_or o BadMap) (set_last section_data items (vec_len c.args.sections.now - 1) last _ (part_data c.args.part) len c.in-Some.ensures.value
    (ap (λ ps. record (section_data last) { parts = ps }) parts))
