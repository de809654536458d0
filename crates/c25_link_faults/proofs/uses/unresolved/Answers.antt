use Rattle.std.proofs.Common.{List, [], subst, sym, take, map, filter, ◌++◌}
use Rattle.c25_meaning_linking.proofs.ByModules.{by_modules_all}
use Rattle.c25_meaning_linking.specs.Linking.{Use, is_unresolved, module_uses}
use Rattle.c25_meaning_linking.specs.Place.{by_modules}
use Rattle.c25_meaning_objects.specs.Module.{Contents}
use Rattle.c25_link_faults.specs.Faults.{used_name}
use Rattle.c25_link_faults.specs.View.{HasFirst}
use Rattle.c25_link_faults.proofs.More.{gathered_more}
use Rattle.c25_link_faults.proofs.uses.unresolved.Goals as goal

pub loop-module-preserved : goal.loop-module-preserved
loop-module-preserved c = λ ds defined.
    let modules = c.args.modules.now in
    let i = c.loop-module.module-index in
    let m : Contents = c.module-item.result in
    let test = is_unresolved ds in
    let so_far = map used_name (filter test (by_modules module_uses 0 (take i modules))) in
    let next = gathered_more used_name test module_uses modules i m c.loop-module-test.true c.module-item.is in
    subst (HasFirst c.add_unresolved.new.names []) (sym next)
    (subst (λ (o : Contents). HasFirst c.add_unresolved.new.names [] (so_far ++ map used_name (filter test (module_uses i o)))) c.parts.ensures.kept
    (c.in_ok-add_unresolved.ensures i ds so_far defined (c.loop-module.invariant ds defined)))

pub returns : goal.returns
returns c = λ ds defined.
    subst (λ (us : List Use). HasFirst c.loop-module.names [] (map used_name (filter (is_unresolved ds) us)))
    (by_modules_all module_uses c.args.modules.now c.loop-module.module-index c.loop-module-test.false) (c.loop-module.invariant ds defined)
