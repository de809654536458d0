use Rattle.std.proofs.Common.{List, take, map, filter, ap, sym, ◌∙◌, ◌++◌}
use Rattle.c25_meaning_linking.proofs.ByModules.{by_modules_all}
use Rattle.c25_meaning_linking.specs.Linking.{Use, module_uses}
use Rattle.c25_meaning_linking.specs.Place.{by_modules}
use Rattle.c25_meaning_objects.specs.Module.{Contents}
use Rattle.c25_module.specs.View.{contents}
use Rattle.c25_link_faults.specs.Sites.{SiteData, is_use, use_site}
use Rattle.c25_link_faults.proofs.More.{gathered_more}
use Rattle.c25_link_faults.proofs.sites.use_sites.Goals as goal

pub loop-number-preserved : goal.loop-number-preserved
loop-number-preserved c =
    let modules = c.args.modules.now in
    let i = c.loop-number.number in
    let test = is_use c.args.name.now in
    let so_far : List SiteData = map use_site (filter test (by_modules module_uses 0 (take i modules))) in
    c.in_ok-push_uses.ensures
    ∙ ap (λ (ss : List SiteData). ss ++ map use_site (filter test (module_uses i (contents c.parts.result.now)))) c.loop-number.invariant
    ∙ ap (λ (m : Contents). so_far ++ map use_site (filter test (module_uses i m))) c.parts.ensures.kept
    ∙ sym (gathered_more use_site test module_uses modules i c.index-modules-number.result c.loop-number-test.true c.index-modules-number.is)

pub returns : goal.returns
returns c =
    c.loop-number.invariant
    ∙ ap (λ (us : List Use). map use_site (filter (is_use c.args.name.now) us)) (by_modules_all module_uses c.args.modules.now c.loop-number.number c.loop-number-test.false)
