use Rattle.std.proofs.Common.{◌≡◌, ap, refl, sym, ◌∙◌}
use Rattle.c25_line_warnings.specs.View.{lines_of}
use Rattle.c25_macro.specs.Expanders.{expansion_of}
use Rattle.c25_meaning_assembly.specs.Sections.{table}
use Rattle.c25_phases.specs.View.{progress_of, symbols_of}
use Rattle.c25_warnings.specs.Coming.{source_of}
use Rattle.c25_warnings.specs.SourceLines.{SourceLines}
use Rattle.c25_warnings.proofs.Coming.{at, comes_to_none, ends, expansion_fails, goes_on, moved, refused}
use Rattle.c25_warnings.proofs.lines.with_rest.Goals as goal

pub loop-line-init : goal.loop-line-init
loop-line-init c = record { coming = λ meant begun. begun; files = refl; name = refl }

pub loop-line-preserved : goal.loop-line-preserved
loop-line-preserved c =
    let files = (expansion_of c.args.expander.now).files in
    let name = (expansion_of c.args.expander.now).name in
    let old = expansion_of c.loop-line.expander in
    let new = expansion_of c.next_line.new.self in
    let known = c.loop-line.invariant in
    let s = c.symbols.result.now in
    let a : SourceLines = record { progress = progress_of c.move_here.new.self; lines = lines_of c.loop-line.passed.lines.items } in
    let is : s ≡ table a.progress = c.symbols.ensures ∙ ap symbols_of c.deref.ensures ∙ c.move_here.ensures.here ∙ ap table (sym c.move_here.ensures.same) in
    let same : a.progress ≡ progress_of c.loop-line.passed.progress.value = c.move_here.ensures.same ∙ ap progress_of c.deref_mut.ensures.value in
    record {
      coming = λ meant begun. goes_on files name old.stage new.stage s a (source_of c.in-Ok.longer) meant c.in-Ok-Some.line is
          (moved files old.stage (progress_of c.loop-line.passed.progress.value) a.progress a.lines meant same (known.coming meant begun))
          (at old files name s _ new.stage known.files known.name (rw c.in-Ok-Some.field-0-is at c.in-Ok-Some.ensures.next))
          (rw c.in-Ok-Some.field-0-is at c.in-Ok-Some.ensures.fewer)
          c.in-Ok.ensures;
      files = c.next_line.ensures.files ∙ known.files;
      name = c.next_line.ensures.name ∙ known.name;
    }

pub returns-in-Err : goal.returns-in-Err
returns-in-Err c =
    let files = (expansion_of c.args.expander.now).files in
    let name = (expansion_of c.args.expander.now).name in
    let old = expansion_of c.loop-line.expander in
    let new = expansion_of c.next_line.new.self in
    let known = c.loop-line.invariant in
    let s = c.symbols.result.now in
    let a : SourceLines = record { progress = progress_of c.move_here.new.self; lines = lines_of c.loop-line.passed.lines.items } in
    let is : s ≡ table a.progress = c.symbols.ensures ∙ ap symbols_of c.deref.ensures ∙ c.move_here.ensures.here ∙ ap table (sym c.move_here.ensures.same) in
    let same : a.progress ≡ progress_of c.loop-line.passed.progress.value = c.move_here.ensures.same ∙ ap progress_of c.deref_mut.ensures.value in
    λ meant begun. comes_to_none (λ fails. refused files name old.stage new.stage s a meant c.in-Ok-Some.line is
    (moved files old.stage (progress_of c.loop-line.passed.progress.value) a.progress a.lines meant same (known.coming meant begun))
    (at old files name s _ new.stage known.files known.name (rw c.in-Ok-Some.field-0-is at c.in-Ok-Some.ensures.next))
    fails) c.in-Err.failure c.in-Err.ensures

pub returns-in-Ok-None : goal.returns-in-Ok-None
returns-in-Ok-None c =
    let files = (expansion_of c.args.expander.now).files in
    let name = (expansion_of c.args.expander.now).name in
    let old = expansion_of c.loop-line.expander in
    let new = expansion_of c.next_line.new.self in
    let known = c.loop-line.invariant in
    let s = c.symbols.result.now in
    let a : SourceLines = record { progress = progress_of c.move_here.new.self; lines = lines_of c.loop-line.passed.lines.items } in
    let is : s ≡ table a.progress = c.symbols.ensures ∙ ap symbols_of c.deref.ensures ∙ c.move_here.ensures.here ∙ ap table (sym c.move_here.ensures.same) in
    let same : a.progress ≡ progress_of c.loop-line.passed.progress.value = c.move_here.ensures.same ∙ ap progress_of c.deref_mut.ensures.value in
    λ meant begun. ends files name old.stage new.stage s a meant is
    (moved files old.stage (progress_of c.loop-line.passed.progress.value) a.progress a.lines meant same (known.coming meant begun))
    (at old files name s _ new.stage known.files known.name (rw c.in-Ok-None.field-0-is at c.in-Ok-None.ensures.next))

pub returns-in-Err-Fault : goal.returns-in-Err-Fault
returns-in-Err-Fault c =
    let files = (expansion_of c.args.expander.now).files in
    let name = (expansion_of c.args.expander.now).name in
    let old = expansion_of c.loop-line.expander in
    let new = expansion_of c.next_line.new.self in
    let known = c.loop-line.invariant in
    let s = c.symbols.result.now in
    let a : SourceLines = record { progress = progress_of c.move_here.new.self; lines = lines_of c.loop-line.passed.lines.items } in
    let is : s ≡ table a.progress = c.symbols.ensures ∙ ap symbols_of c.deref.ensures ∙ c.move_here.ensures.here ∙ ap table (sym c.move_here.ensures.same) in
    let same : a.progress ≡ progress_of c.loop-line.passed.progress.value = c.move_here.ensures.same ∙ ap progress_of c.deref_mut.ensures.value in
    λ meant begun. expansion_fails files name old.stage new.stage s a meant c.in-Err-Fault.field-0-0 is
    (moved files old.stage (progress_of c.loop-line.passed.progress.value) a.progress a.lines meant same (known.coming meant begun))
    (at old files name s _ new.stage known.files known.name (rw c.in-Err-Fault.field-0-is at c.in-Err-Fault.ensures.next))
