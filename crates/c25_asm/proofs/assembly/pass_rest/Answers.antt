use Rattle.std.proofs.Common.{ap, refl, sym, ◌∙◌}
use Rattle.std.proofs.lemmas.Result.{err_from_is_err_and}
use Rattle.c25_macro.specs.Expanders.{expansion_of}
use Rattle.c25_meaning_assembly.specs.ModuleOfSource.{LinesSoFar}
use Rattle.c25_meaning_assembly.specs.Sections.{table}
use Rattle.c25_listing.specs.View.{entries_of}
use Rattle.c25_phases.specs.View.{progress_of, symbols_of}
use Rattle.c25_asm.specs.View.{passed_of}
use Rattle.c25_asm.proofs.Coming.{at, ends, expansion_fails, goes_on, line_refused, moved}
use Rattle.c25_asm.proofs.assembly.pass_rest.Goals as goal

pub loop-line-init : goal.loop-line-init
loop-line-init c = record { coming = λ meant begun. begun; files = refl; name = refl }

pub loop-line-preserved : goal.loop-line-preserved
loop-line-preserved c =
    let files = (expansion_of c.args.expander.now).files in
    let name = (expansion_of c.args.expander.now).name in
    let old = expansion_of c.loop-line.expander in
    let new = expansion_of c.next_line.new.self in
    let known = c.loop-line.invariant in
    let a : LinesSoFar = record { progress = progress_of c.move_here.new.self; entries = entries_of c.loop-line.passed.entries.items } in
    record {
      coming = λ meant begun. goes_on c.args.listed files name old.stage new.stage c.symbols.result.now a (passed_of c.in_ok-passed-in-Ok-Some.passed) meant c.in-Ok-Some.line
          (c.symbols.ensures ∙ ap symbols_of c.deref.ensures ∙ c.move_here.ensures.here ∙ ap table (sym c.move_here.ensures.same))
          (moved c.args.listed files name old.stage (progress_of c.loop-line.passed.progress.value) a.progress a.entries meant (c.move_here.ensures.same ∙ ap progress_of c.deref_mut.ensures.value) (known.coming meant begun))
          (at old files name c.symbols.result.now _ new.stage known.files known.name (rw c.in-Ok-Some.field-0-is at c.in-Ok-Some.ensures.next))
          (rw c.in-Ok-Some.field-0-is at c.in-Ok-Some.ensures.fewer)
          c.in_ok-passed-in-Ok-Some.ensures;
      files = c.next_line.ensures.files ∙ known.files;
      name = c.next_line.ensures.name ∙ known.name;
    }

pub returns-in_err-passed-in-Ok-Some : goal.returns-in_err-passed-in-Ok-Some
returns-in_err-passed-in-Ok-Some c =
    let files = (expansion_of c.args.expander.now).files in
    let name = (expansion_of c.args.expander.now).name in
    let old = expansion_of c.loop-line.expander in
    let new = expansion_of c.next_line.new.self in
    let known = c.loop-line.invariant in
    let a : LinesSoFar = record { progress = progress_of c.move_here.new.self; entries = entries_of c.loop-line.passed.entries.items } in
    let p = err_from_is_err_and c.from_residual.result c.from_residual.ensures.1 in
    λ meant begun. rw (p.1, p.2) (line_refused c.args.listed files name old.stage new.stage c.symbols.result.now a meant c.in-Ok-Some.line c.in_err-passed-in-Ok-Some.field-0.0
    (c.symbols.ensures ∙ ap symbols_of c.deref.ensures ∙ c.move_here.ensures.here ∙ ap table (sym c.move_here.ensures.same))
    (moved c.args.listed files name old.stage (progress_of c.loop-line.passed.progress.value) a.progress a.entries meant (c.move_here.ensures.same ∙ ap progress_of c.deref_mut.ensures.value) (known.coming meant begun))
    (at old files name c.symbols.result.now _ new.stage known.files known.name (rw c.in-Ok-Some.field-0-is at c.in-Ok-Some.ensures.next))
    c.in_err-passed-in-Ok-Some.ensures)

pub returns-in-Ok-None : goal.returns-in-Ok-None
returns-in-Ok-None c =
    let files = (expansion_of c.args.expander.now).files in
    let name = (expansion_of c.args.expander.now).name in
    let old = expansion_of c.loop-line.expander in
    let new = expansion_of c.next_line.new.self in
    let known = c.loop-line.invariant in
    let a : LinesSoFar = record { progress = progress_of c.move_here.new.self; entries = entries_of c.loop-line.passed.entries.items } in
    λ meant begun. ends c.args.listed files name old.stage new.stage c.symbols.result.now a meant
    (c.symbols.ensures ∙ ap symbols_of c.deref.ensures ∙ c.move_here.ensures.here ∙ ap table (sym c.move_here.ensures.same))
    (moved c.args.listed files name old.stage (progress_of c.loop-line.passed.progress.value) a.progress a.entries meant (c.move_here.ensures.same ∙ ap progress_of c.deref_mut.ensures.value) (known.coming meant begun))
    (at old files name c.symbols.result.now _ new.stage known.files known.name (rw c.in-Ok-None.field-0-is at c.in-Ok-None.ensures.next))

pub returns-in-Err : goal.returns-in-Err
returns-in-Err c =
    let files = (expansion_of c.args.expander.now).files in
    let name = (expansion_of c.args.expander.now).name in
    let old = expansion_of c.loop-line.expander in
    let new = expansion_of c.next_line.new.self in
    let known = c.loop-line.invariant in
    let a : LinesSoFar = record { progress = progress_of c.move_here.new.self; entries = entries_of c.loop-line.passed.entries.items } in
    λ meant begun. expansion_fails c.args.listed files name old.stage new.stage c.symbols.result.now a meant c.in-Err.failure c.missing.result c.told.result
    (c.symbols.ensures ∙ ap symbols_of c.deref.ensures ∙ c.move_here.ensures.here ∙ ap table (sym c.move_here.ensures.same))
    (moved c.args.listed files name old.stage (progress_of c.loop-line.passed.progress.value) a.progress a.entries meant (c.move_here.ensures.same ∙ ap progress_of c.deref_mut.ensures.value) (known.coming meant begun))
    (at old files name c.symbols.result.now _ new.stage known.files known.name c.in-Err.ensures.next) c.missing.ensures c.told.ensures
