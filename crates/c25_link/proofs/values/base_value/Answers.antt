use Rattle.std.proofs.Common.{◌≡◌, ap, sym, ◌∙◌, rules, to_z, of_z, w64}
use Rattle.c25_meaning_linking.specs.Words.{base_value}
use Rattle.c25_module.specs.View.{contents}
use Rattle.c25_link.specs.Layout.{places_in}
use Rattle.c25_link.proofs.values.base_value.Goals as goal

pub returns-in-Section-clause-value : goal.returns-in-Section-clause-value
returns-in-Section-clause-value c =
    let whole : to_z w64 (of_z w64 c.section_run.result) ≡ c.section_run.result = search rules in
    whole ∙ c.section_run.ensures.value (contents c.args.owner.now) c.requires.owner
    ∙ ap (base_value c.args.layout.now.modules.now (places_in c.args.layout.now) c.args.number (contents c.args.owner.now)) (sym c.in-Section.is)

pub returns-in-Loaded-clause-value : goal.returns-in-Loaded-clause-value
returns-in-Loaded-clause-value c =
    let whole : to_z w64 (of_z w64 c.section_base.result) ≡ c.section_base.result = search rules in
    whole ∙ c.section_base.ensures.value (contents c.args.owner.now) c.requires.owner
    ∙ ap (base_value c.args.layout.now.modules.now (places_in c.args.layout.now) c.args.number (contents c.args.owner.now)) (sym c.in-Loaded.is)
