use Rattle.std.proofs.Common.{List, All, subst, sym}
use Rattle.c25_meaning_linking.specs.MapText.{HasDigits}
use Rattle.c25_map.specs.View.{section_data}
use Rattle.c25_map.specs.declared.map.OutputSection.{OutputSection}
use Rattle.c25_map.proofs.Mapped.{unmapped}
use Rattle.c25_map.proofs.writing.write_map.Goals as goal

pub push_sections-requires : goal.push_sections-requires
push_sections-requires c =
    let items = c.args.map.now.sections.items in
    subst (λ (xs : List OutputSection). All (λ s. HasDigits (section_data s)) xs) (sym c.deref.ensures.value) (unmapped HasDigits section_data items c.requires)
