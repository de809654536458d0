use Rattle.std.proofs.Common.{◌≡◌, false, not, pos, get_or, ap, sym, ◌∙◌, rules, to_z, of_z, w64}
use Rattle.c25_meaning_common.specs.Fields.{takes}
use Rattle.c25_meaning_linking.specs.Linking.{Use, spills, use_of}
use Rattle.c25_meaning_linking.specs.Words.{section_name, relocated_value}
use Rattle.c25_meaning_objects.specs.declared.object.Relocation.{Relocation}
use Rattle.c25_meaning_objects.specs.declared.object.RelocationBase.TheVariants as base
use Rattle.c25_meaning_common.specs.declared.relocation.RelocationKind.TheVariants as kind
use Rattle.c25_module.specs.View.{contents}
use Rattle.c25_link.specs.Layout.{places_in}
use Rattle.c25_link.proofs.Search.{found_in_slice}
use Rattle.c25_link.proofs.uses.spilled_in.Goals as goal

-- what an index past the end would read
abbrev nothing : Relocation
nothing = record { section = 0; offset = 0; kind = kind.Word16; base = base.Section 0; addend = pos 0 }

pub returns-then-not-takes : goal.returns-then-not-takes
returns-then-not-takes c =
    let modules = c.args.layout.now.modules.now in
    let places = places_in c.args.layout.now in
    let m = contents c.args.owner.now in
    let slice = c.deref-relocation-items.result.now in
    let r : Relocation = get_or slice c.loop-relocation.relocation-index nothing in
    let value : c.relocated_value-value.result ≡ relocated_value modules places c.args.number m r = c.relocated_value-value.ensures in
    let whole : to_z w64 (of_z w64 c.relocated_value-value.result) ≡ c.relocated_value-value.result = search rules in
    let fails : takes r.kind (relocated_value modules places c.args.number m r) ≡ false = ap (takes r.kind) (sym (whole ∙ value)) ∙ sym c.if-not-takes.ensures in
    found_in_slice (spills modules places) (λ (u : Use). section_name u.owner u.relocation.section) (use_of c.args.number m) slice c.args.owner.now.relocations.items c.loop-relocation.relocation-index nothing c.section_name.result.now
    c.deref-relocation-items.ensures.value c.loop-relocation-test.true c.loop-relocation.invariant (ap not fails) c.section_name.ensures
