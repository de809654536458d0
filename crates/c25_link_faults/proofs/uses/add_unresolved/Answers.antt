use Rattle.std.proofs.Common.{◌<◌, List, [], ◌∷◌, pos, get_or, ap, subst, sym, take, map, filter, cond, length, ◌++◌, append_assoc, arith}
use Rattle.std.proofs.lemmas.List.{take_all}
use Rattle.c25_meaning_common.specs.declared.relocation.RelocationKind.TheVariants as kind
use Rattle.c25_meaning_linking.specs.Linking.{is_unresolved, use_of}
use Rattle.c25_meaning_objects.specs.declared.object.Relocation.{Relocation}
use Rattle.c25_meaning_objects.specs.declared.object.RelocationBase.TheVariants as base
use Rattle.c25_module.specs.View.{contents}
use Rattle.c25_link_faults.specs.Faults.{used_name}
use Rattle.c25_link_faults.specs.View.{HasFirst}
use Rattle.c25_link_faults.proofs.More.{uses_next}
use Rattle.c25_link_faults.proofs.uses.add_unresolved.Goals as goal

-- what an index past the end would read
abbrev nothing : Relocation
nothing = record { section = 0; offset = 0; kind = kind.Word16; base = base.Section 0; addend = pos 0 }

pub loop-relocation-preserved : goal.loop-relocation-preserved
loop-relocation-preserved c = λ number ds added defined has.
    let m = contents c.args.owner.now in
    let items = c.args.owner.now.relocations.items in
    let same = c.deref-relocation-items.ensures.value in
    let i = c.loop-relocation.relocation-index in
    let lt : i < length items = omega (arith, c.loop-relocation-test.true, ap length same) in
    let kept = map used_name (filter (is_unresolved ds) (map (use_of number m) (take i items))) in
    let one = λ (rs : List Relocation). cond (is_unresolved ds (use_of number m (get_or rs i nothing))) (used_name (use_of number m (get_or rs i nothing)) ∷ []) [] in
    subst (λ ns. HasFirst c.add_missing.new.names [] (added ++ ns)) (sym (uses_next ds number m items i nothing lt))
    (subst (HasFirst c.add_missing.new.names []) (append_assoc added kept (one items))
    (subst (λ (rs : List Relocation). HasFirst c.add_missing.new.names [] ((added ++ kept) ++ one rs)) same (c.in_ok-add_missing.ensures ds (added ++ kept) defined (c.loop-relocation.invariant number ds added defined has))))

pub returns : goal.returns
returns c = λ number ds added defined has.
    let m = contents c.args.owner.now in
    let all = take_all c.loop-relocation.relocation-index c.args.owner.now.relocations.items (omega (arith, ap length c.deref-relocation-items.ensures.value, c.loop-relocation-test.false)) in
    subst (λ (rs : List Relocation). HasFirst c.loop-relocation.names [] (added ++ map used_name (filter (is_unresolved ds) (map (use_of number m) rs)))) all
    (c.loop-relocation.invariant number ds added defined has)
