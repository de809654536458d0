use Rattle.std.proofs.Common.{All, List, ap, subst, sym, ◌≤◌}
use Rattle.c25_meaning_objects.specs.Module.{Contents, body_size}
use Rattle.c25_module.specs.View.{body_data}
use Rattle.c25_module.specs.declared.parts.Section.{Section}
use Rattle.c25_place.proofs.Listed.{small_sections}
use Rattle.c25_link_faults.proofs.spans.words_of.Goals as goal

pub with_sections-words-requires : goal.with_sections-words-requires
with_sections-words-requires c =
    subst (λ (ss : List Section). All (λ s. body_size (body_data s.body) ≤ 65536) ss) (sym c.deref.ensures.value)
    (small_sections c.module-item.result c.parts.result.now.sections.items c.parts.ensures.spelled (ap (λ (m : Contents). m.sections) c.parts.ensures.kept))
