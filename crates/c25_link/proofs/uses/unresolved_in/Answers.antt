use Rattle.std.proofs.Common.{length, ap, arith}
use Rattle.c25_meaning_linking.specs.Linking.{Use, is_unresolved, base_name, use_of}
use Rattle.c25_module.specs.View.{contents}
use Rattle.c25_link.proofs.Search.{found_in_slice, none_in_slice, none_whole}
use Rattle.c25_link.proofs.uses.unresolved_in.Goals as goal

pub returns-in-Some : goal.returns-in-Some
returns-in-Some c = λ number ds has.
    let said = c.in-Some.ensures ds has in
    found_in_slice (is_unresolved ds) (λ (u : Use). base_name u.owner u.relocation.base) (use_of number (contents c.args.owner.now)) c.deref-relocation-items.result.now c.args.owner.now.relocations.items c.loop-relocation.relocation-index _ c.in-Some.name.now
    c.deref-relocation-items.ensures.value c.loop-relocation-test.true (c.loop-relocation.invariant number ds has) said.0 said.1

pub loop-relocation-preserved : goal.loop-relocation-preserved
loop-relocation-preserved c = λ number ds has.
    none_in_slice (is_unresolved ds) (use_of number (contents c.args.owner.now)) c.deref-relocation-items.result.now c.args.owner.now.relocations.items c.loop-relocation.relocation-index _
    c.deref-relocation-items.ensures.value c.loop-relocation-test.true (c.loop-relocation.invariant number ds has) (c.in-None.ensures ds has)

pub returns : goal.returns
returns c = λ number ds has.
    none_whole (is_unresolved ds) (λ (u : Use). base_name u.owner u.relocation.base) (use_of number (contents c.args.owner.now)) c.args.owner.now.relocations.items c.loop-relocation.relocation-index
    (omega (arith, ap length c.deref-relocation-items.ensures.value, c.loop-relocation-test.false)) (c.loop-relocation.invariant number ds has)
