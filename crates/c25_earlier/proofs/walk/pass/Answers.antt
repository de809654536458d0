use Rattle.std.proofs.Common.{List, ℕ, ap, refl, sym, ◌∙◌}
use Rattle.c25_earlier.proofs.walk.pass.Goals as goal
use Rattle.c25_macro.specs.Expander.{shown}
use Rattle.c25_meaning_assembly.specs.Emission.{at_origin}
use Rattle.c25_meaning_assembly.specs.ModuleOfSource.{origin_of}
use Rattle.c25_meaning_assembly.specs.Sections.{stands}
use Rattle.c25_meaning_language.specs.ExpansionFault.{Faulty}
use Rattle.c25_phases.specs.Steps.{text_passed}
use Rattle.c25_phases.specs.View.{progress_of}
use Rattle.c25_phases.specs.declared.progress.Progress.{Progress}

pub returns-then-has_value : goal.returns-then-has_value
returns-then-has_value c =
    let line = shown c.args.line in (
      refl,
      progress_of c.in-Ok.passed.value,
      ap (at_origin (origin_of line))
          (ap (λ (t : List ℕ). text_passed (origin_of line) t (progress_of c.args.progress.value)) (sym c.as_str.ensures.value) ∙ c.in-Ok.ensures.told),
      ap (λ (p : Progress). stands (progress_of p).names c.args.name.now) (sym c.deref.ensures) ∙ sym c.has_value.ensures ∙ c.if-has_value.true,
    )

pub returns-in-Err-Fault : goal.returns-in-Err-Fault
returns-in-Err-Fault c =
    let line = shown c.args.line in (
      Faulty line.file line.line c.in-Err-Fault.field-0-0,
      ap (at_origin (origin_of line))
          (ap (λ (t : List ℕ). text_passed (origin_of line) t (progress_of c.args.progress.value)) (sym c.as_str.ensures.value)
          ∙ (rw c.in-Err-Fault.field-0-is at c.in-Err-Fault.ensures.told)),
    )
