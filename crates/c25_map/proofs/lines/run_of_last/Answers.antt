use Rattle.std.proofs.Common.{ap, suc, refl, ◌≡◌, ◌-◌, length, arith, rules, ok_or, Some, true, false}
use Rattle.std.specs.Vec.{vec_len}
use Rattle.c25_map.specs.declared.map_fault.MapFault.TheVariants.{BadMap}
use Rattle.c25_map.specs.Reading.{is_settled}
use Rattle.c25_map.specs.View.{section_data}
use Rattle.c25_map.proofs.Last.{last_settled, set_running}
use Rattle.c25_map.proofs.lines.run_of_last.Goals as goal

pub returns-then-is_settled : goal.returns-then-is_settled
returns-then-is_settled c =
    let items = c.args.sections.now.items in
    let last = c.in-Some.section.now in
    let some = c.in-Some.ensures.variant in
    let len : suc (vec_len c.args.sections.now - 1) ≡ length items = omega (arith, c.args.sections.now.ok.0, some.0 refl) in
    let settled : is_settled (section_data last) ≡ true = search rules in
    ap (λ o. ok_or o BadMap) (last_settled section_data items (vec_len c.args.sections.now - 1) last c.args.run len c.in-Some.ensures.value settled)

pub returns-else-is_settled : goal.returns-else-is_settled
returns-else-is_settled c =
    let items = c.args.sections.now.items in
    let last = c.in-Some.section.now in
    let some = c.in-Some.ensures.variant in
    let len : suc (vec_len c.args.sections.now - 1) ≡ length items = omega (arith, c.args.sections.now.ok.0, some.0 refl) in
    let unsettled : is_settled (section_data last) ≡ false = search rules in
    ap (λ o. ok_or o BadMap) (set_running section_data items (vec_len c.args.sections.now - 1) last _ c.args.run len c.in-Some.ensures.value unsettled
    (ap (λ run. record (section_data last) { place = record (section_data last).place { run = Some run } }) c.from.ensures))
