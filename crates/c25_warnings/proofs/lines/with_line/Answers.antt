use Rattle.std.proofs.Common.{ℕ, List, [], ◌∷◌, ◌++◌, ap, sym, ◌∙◌}
use Rattle.c25_line_warnings.specs.SourceLine.{SourceLine}
use Rattle.c25_line_warnings.specs.View.{lines_of}
use Rattle.c25_macro.specs.Expander.{shown}
use Rattle.c25_meaning_assembly.specs.ModuleOfSource.{origin_of}
use Rattle.c25_meaning_assembly.specs.Sections.{size_at}
use Rattle.c25_phases.specs.Steps.{text_passed}
use Rattle.c25_phases.specs.View.{progress_of}
use Rattle.c25_phases.specs.declared.progress.Progress.{Progress}
use Rattle.c25_warnings.specs.Coming.{source_of}
use Rattle.c25_warnings.proofs.Passed.{line_fails, line_is, line_passes}
use Rattle.c25_warnings.proofs.lines.with_line.Goals as goal

pub returns-in-Ok-push_line : goal.returns-in-Ok-push_line
returns-in-Ok-push_line c =
    let old = progress_of c.args.passed.progress.value in
    let new = progress_of c.in-Ok.progress.value in
    line_passes (shown c.args.given) (source_of c.args.passed) new (lines_of c.push_line.new.lines.items)
    (ap (λ (t : List ℕ). text_passed (origin_of (shown c.args.given)) t old) (sym c.as_str.ensures.value) ∙ c.in-Ok.ensures.told)
    (c.in-Ok-push_line.ensures
    ∙ ap (λ (l : SourceLine). lines_of c.args.passed.lines.items ++ l ∷ [])
    (line_is (shown c.args.given) old new _ _ _ _
    (ap (λ (p : Progress). p.current) c.deref.ensures)
    (c.size_at-offset.ensures.value ∙ ap (λ (p : Progress). size_at (progress_of p).sections c.deref.result.now.current) c.deref-2.ensures)
    (c.size_at.ensures.value ∙ ap (λ (p : Progress). size_at (progress_of p).sections c.deref.result.now.current) c.deref-in-Ok.ensures)
    c.saturating_sub-count.ensures))

pub returns-in-Err-Fault : goal.returns-in-Err-Fault
returns-in-Err-Fault c =
    let old = progress_of c.args.passed.progress.value in
    line_fails (shown c.args.given) (source_of c.args.passed) c.in-Err-Fault.field-0-0
    (ap (λ (t : List ℕ). text_passed (origin_of (shown c.args.given)) t old) (sym c.as_str.ensures.value) ∙ (rw c.in-Err-Fault.field-0-is at c.in-Err-Fault.ensures.told))
