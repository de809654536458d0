use Rattle.std.proofs.Common.{ap, ◌∙◌, find}
use Rattle.std.specs.Option.{option_map}
use Rattle.c25_meaning_linking.specs.Linking.{Use, spills, module_uses}
use Rattle.c25_meaning_objects.specs.Module.{Contents}
use Rattle.c25_meaning_linking.specs.Words.{section_name}
use Rattle.c25_link.specs.Layout.{places_in}
use Rattle.c25_link.proofs.Search.{found_at, none_more}
use Rattle.c25_link.proofs.uses.first_spilled.Goals as goal

pub returns-in-Some : goal.returns-in-Some
returns-in-Some c =
    let modules = c.args.layout.now.modules.now in
    let i = c.loop-number.number in
    let test = spills modules (places_in c.args.layout.now) in
    let named = λ (u : Use). section_name u.owner u.relocation.section in
    found_at test named module_uses modules i c.module-item.result c.in-Some.name.now c.loop-number-test.true c.module-item.is c.loop-number.invariant
    (c.in-Some.ensures ∙ ap (λ (m : Contents). option_map named (find test (module_uses i m))) c.parts.ensures.kept)

pub loop-number-preserved : goal.loop-number-preserved
loop-number-preserved c =
    let modules = c.args.layout.now.modules.now in
    let i = c.loop-number.number in
    let test = spills modules (places_in c.args.layout.now) in
    let named = λ (u : Use). section_name u.owner u.relocation.section in
    none_more test named module_uses modules i c.module-item.result c.loop-number-test.true c.module-item.is c.loop-number.invariant
    (c.in-None.ensures ∙ ap (λ (m : Contents). option_map named (find test (module_uses i m))) c.parts.ensures.kept)
