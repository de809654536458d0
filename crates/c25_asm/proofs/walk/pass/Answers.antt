use Rattle.std.proofs.Common.{List, ℕ, ap, refl, sym, ◌∙◌}
use Rattle.c25_macro.specs.Expander.{shown}
use Rattle.c25_meaning_assembly.specs.Emission.{at_origin}
use Rattle.c25_meaning_assembly.specs.ModuleOfSource.{origin_of}
use Rattle.c25_phases.specs.Steps.{text_passed}
use Rattle.c25_phases.specs.View.{progress_of}
use Rattle.c25_phases.specs.declared.progress.Progress.{Progress}
use Rattle.c25_asm.specs.Walks.{has_come}
use Rattle.c25_asm.proofs.walk.pass.Goals as goal

pub returns-then-has_come : goal.returns-then-has_come
returns-then-has_come c =
    let line = shown c.args.line in (
      progress_of c.pass_or_leave_out.new.progress,
      ap (at_origin (origin_of line))
          (ap (λ (t : List ℕ). text_passed (origin_of line) t (progress_of c.args.progress.value)) (sym c.as_str.ensures.value)
          ∙ ap (λ (p : Progress). text_passed (origin_of line) c.as_str.result.now (progress_of p)) (sym c.deref_mut.ensures.value) ∙ c.in-Ok.ensures.told),
      ap (λ (p : Progress). has_come c.args.sought (progress_of p).items) (sym c.deref.ensures) ∙ sym c.has_come.ensures ∙ c.if-has_come.true,
      refl,
    )
