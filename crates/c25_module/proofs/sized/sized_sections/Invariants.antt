use Rattle.std.proofs.Common.{◌<◌, ◌^◌, drop}
use Rattle.std.specs.List.{AllByRecursion}
use Rattle.c25_meaning_objects.specs.Module.{body_words}
use Rattle.c25_module.specs.View.{sections_data}
use Rattle.c25_module.proofs.sized.sized_sections.Given as goal

abbrev pub invariant-loop-section : goal.invariant-loop-section
invariant-loop-section l =
    AllByRecursion (λ s. AllByRecursion (λ w. w < 2 ^ 16) (body_words s.body)) (sections_data (drop l.section-index l.sections))
    → AllByRecursion (λ s. AllByRecursion (λ w. w < 2 ^ 16) (body_words s.body)) (sections_data l.sections)
