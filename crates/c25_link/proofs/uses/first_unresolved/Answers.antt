use Rattle.std.proofs.Common.{ap, ◌∙◌, find}
use Rattle.std.specs.Option.{option_map}
use Rattle.c25_meaning_linking.specs.Linking.{Use, is_unresolved, module_uses, base_name}
use Rattle.c25_meaning_objects.specs.Module.{Contents}
use Rattle.c25_meaning_linking.specs.Words.{definitions}
use Rattle.c25_link.proofs.Search.{found_at, none_more}
use Rattle.c25_link.proofs.uses.first_unresolved.Goals as goal

pub returns-in-Some : goal.returns-in-Some
returns-in-Some c =
    let modules = c.args.modules.now in
    let i = c.loop-module.module-index in
    let ds = definitions modules in
    let named = λ (u : Use). base_name u.owner u.relocation.base in
    found_at (is_unresolved ds) named module_uses modules i c.module-item.result c.in-Some.name.now c.loop-module-test.true c.module-item.is c.loop-module.invariant
    (c.in-Some.ensures i ds c.requires ∙ ap (λ (m : Contents). option_map named (find (is_unresolved ds) (module_uses i m))) c.parts.ensures.kept)

pub loop-module-preserved : goal.loop-module-preserved
loop-module-preserved c =
    let modules = c.args.modules.now in
    let i = c.loop-module.module-index in
    let ds = definitions modules in
    let named = λ (u : Use). base_name u.owner u.relocation.base in
    none_more (is_unresolved ds) named module_uses modules i c.module-item.result c.loop-module-test.true c.module-item.is c.loop-module.invariant
    (c.in-None.ensures i ds c.requires ∙ ap (λ (m : Contents). option_map named (find (is_unresolved ds) (module_uses i m))) c.parts.ensures.kept)
