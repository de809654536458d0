use Rattle.std.proofs.Common.{◌++◌, List, length, map, filter, ap, ◌∙◌, arith}
use Rattle.std.proofs.lemmas.List.{take_all}
use Rattle.c25_meaning_linking.specs.Linking.{use_of}
use Rattle.c25_meaning_objects.specs.declared.object.Relocation.{Relocation}
use Rattle.c25_module.specs.View.{contents}
use Rattle.c25_link_faults.specs.Sites.{is_use, sites_data, use_site}
use Rattle.c25_link_faults.proofs.sites.push_uses.Goals as goal

pub returns : goal.returns
returns c =
    let m = contents c.args.owner.now in
    let all = take_all c.loop-relocation.relocation-index c.args.owner.now.relocations.items (omega (arith, ap length c.deref-relocation-items.ensures.value, c.loop-relocation-test.false)) in
    c.loop-relocation.invariant
    ∙ ap (λ (rs : List Relocation). sites_data c.args.sites.now.items ++ map use_site (filter (is_use c.args.name.now) (map (use_of c.args.number m) rs))) all
