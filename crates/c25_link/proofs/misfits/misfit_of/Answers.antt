use Rattle.std.proofs.Common.{◌≡◌, ◌+◌, ap, ◌∙◌, arith, rules, to_z, of_z, w32, w64}
use Rattle.c25_meaning_linking.specs.Words.{relocated_value, section_base}
use Rattle.c25_module.specs.View.{contents}
use Rattle.c25_link.specs.Layout.{places_in}
use Rattle.c25_link.proofs.misfits.misfit_of.Goals as goal

pub overflow_add-result : goal.overflow_add-result
overflow_add-result c =
    let modules = c.args.layout.now.modules.now in
    let places = places_in c.args.layout.now in
    let m = contents c.args.owner.now in
    let base : c.get-part.result.base ≡ section_base modules places c.args.number m c.args.relocation.now.section =
    c.get-part.ensures.base modules places m c.requires.laid.bases c.requires.owner ∙ ap (section_base modules places c.args.number m) c.from.ensures in
    omega (arith, base, c.from-2.ensures, c.requires.below)

pub overflow_cast-result : goal.overflow_cast-result
overflow_cast-result c =
    let modules = c.args.layout.now.modules.now in
    let places = places_in c.args.layout.now in
    let m = contents c.args.owner.now in
    let base : c.get-part.result.base ≡ section_base modules places c.args.number m c.args.relocation.now.section =
    c.get-part.ensures.base modules places m c.requires.laid.bases c.requires.owner ∙ ap (section_base modules places c.args.number m) c.from.ensures in
    omega (arith, base, c.from-2.ensures, c.requires.below)

pub returns : goal.returns
returns c =
    let modules = c.args.layout.now.modules.now in
    let places = places_in c.args.layout.now in
    let m = contents c.args.owner.now in
    let r = c.args.relocation.now in
    let base : c.get-part.result.base ≡ section_base modules places c.args.number m r.section =
    c.get-part.ensures.base modules places m c.requires.laid.bases c.requires.owner ∙ ap (section_base modules places c.args.number m) c.from.ensures in
    let address : c.get-part.result.base + c.from-2.result ≡ section_base modules places c.args.number m r.section + r.offset = λ i. base i + c.from-2.ensures i in
    let addend : to_z w32 (of_z w32 r.addend) ≡ r.addend = search rules in
    let whole : to_z w64 (of_z w64 c.relocated_value.result) ≡ c.relocated_value.result = search rules in
    let value : to_z w64 (of_z w64 c.relocated_value.result) ≡ relocated_value modules places c.args.number m r = whole ∙ c.relocated_value.ensures in
    λ i. record {
      number = c.args.number;
      section = c.section_name.ensures i;
      address = address i;
      base = r.base;
      name = c.base_name.ensures i;
      addend = addend i;
      value = value i;
      line = c.instruction_line.ensures i;
    }
