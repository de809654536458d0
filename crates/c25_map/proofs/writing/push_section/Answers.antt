use Rattle.std.proofs.Common.{◌≤◌, List, All, subst, sym, arith}
use Rattle.std.proofs.lemmas.Grind.{common_steps}
use Rattle.c25_meaning_linking.specs.MapText.{PartData}
use Rattle.c25_map.specs.View.{part_data}
use Rattle.c25_map.specs.declared.map.Part.{Part}
use Rattle.c25_map.proofs.Mapped.{unmapped}
use Rattle.c25_map.proofs.writing.push_section.Goals as goal

pub push_parts-requires : goal.push_parts-requires
push_parts-requires c =
    subst (λ (xs : List Part). All (λ p. p.base ≤ 65536) xs) (sym c.deref.ensures.value) (unmapped (λ (p : PartData). p.base ≤ 65536) part_data c.args.section.now.parts.items c.requires.parts)

pub returns : goal.returns
returns c = grind (arith, common_steps)
