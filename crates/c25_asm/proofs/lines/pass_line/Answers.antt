use Rattle.std.proofs.Common.{ℕ, List, [], ◌∷◌, ◌++◌, ap, sym, ◌∙◌}
use Rattle.c25_macro.specs.Expander.{shown}
use Rattle.c25_meaning_assembly.specs.Listing.{Entry}
use Rattle.c25_meaning_assembly.specs.Sections.{size_at}
use Rattle.c25_meaning_assembly.specs.ModuleOfSource.{origin_of}
use Rattle.c25_listing.specs.View.{entries_of}
use Rattle.c25_phases.specs.Steps.{text_passed}
use Rattle.c25_phases.specs.View.{progress_of}
use Rattle.c25_phases.specs.declared.progress.Progress.{Progress}
use Rattle.c25_asm.specs.View.{passed_of}
use Rattle.c25_asm.proofs.Lined.{entry_is, line_listed, refused_growth}
use Rattle.c25_asm.proofs.lines.pass_line.Goals as goal

pub returns-in-Ok : goal.returns-in-Ok
returns-in-Ok c =
    line_listed c.args.listed (shown c.args.line) (passed_of c.args.passed) (progress_of c.in-Ok.progress.value) (entries_of c.add_entry.new.entries.items)
    (ap (λ (t : List ℕ). text_passed (origin_of (shown c.args.line)) t (progress_of c.args.passed.progress.value)) (sym c.as_str.ensures.value) ∙ c.in-Ok.ensures.told)
    (λ wanted. c.in_ok-add_entry-in-Ok.ensures wanted
    ∙ ap (λ (e : Entry). entries_of c.args.passed.entries.items ++ e ∷ [])
    (entry_is (shown c.args.line) (progress_of c.args.passed.progress.value) (progress_of c.in-Ok.progress.value) _ _ _ _
    (ap (λ (p : Progress). p.current) c.deref.ensures)
    (c.size_at-offset.ensures.value ∙ ap (λ (p : Progress). size_at (progress_of p).sections c.deref.result.now.current) c.deref-2.ensures)
    (c.size_at.ensures.value ∙ ap (λ (p : Progress). size_at (progress_of p).sections c.deref.result.now.current) c.deref-in-Ok.ensures)
    c.saturating_sub-count.ensures))

pub returns-in_err-add_entry-in-Ok : goal.returns-in_err-add_entry-in-Ok
returns-in_err-add_entry-in-Ok c = refused_growth c.args.listed _ c.from_residual.result c.from_residual.ensures.1
