use Rattle.std.proofs.Common.{ap, ◌∙◌}
use Rattle.c25_earlier.proofs.Walking.{breaks_off, ends, gives_line, goes_on}
use Rattle.c25_earlier.proofs.walk.advance.Goals as goal
use Rattle.c25_macro.specs.Tracers.{trace_of}
use Rattle.c25_meaning_assembly.specs.Sections.{table}
use Rattle.c25_phases.specs.View.{progress_of, symbols_of}
use Rattle.c25_phases.specs.declared.progress.Progress.{Progress}

pub returns-in-Ok-Consumed : goal.returns-in-Ok-Consumed
returns-in-Ok-Consumed c =
    goes_on (trace_of c.args.tracer.now) (trace_of c.step.new.self) c.symbols.result.now (progress_of c.args.progress.value) c.args.name.now
    (c.symbols.ensures ∙ ap symbols_of c.deref.ensures ∙ c.move_here.ensures.here ∙ ap (λ (p : Progress). table (progress_of p)) c.deref_mut.ensures.value)
    c.requires.before (progress_of c.move_here.new.self) (c.move_here.ensures.same ∙ ap progress_of c.deref_mut.ensures.value)
    (rw c.in-Ok-Consumed.field-0-is at c.in-Ok-Consumed.ensures)

pub returns-in-Ok-Given : goal.returns-in-Ok-Given
returns-in-Ok-Given c =
    gives_line (trace_of c.args.tracer.now) (trace_of c.step.new.self) c.symbols.result.now (progress_of c.args.progress.value) c.args.name.now
    (c.symbols.ensures ∙ ap symbols_of c.deref.ensures ∙ c.move_here.ensures.here ∙ ap (λ (p : Progress). table (progress_of p)) c.deref_mut.ensures.value)
    c.requires.before (progress_of c.move_here.new.self) (c.move_here.ensures.same ∙ ap progress_of c.deref_mut.ensures.value) c.in-Ok-Given.line c.pass.result
    (rw c.in-Ok-Given.field-0-is at c.in-Ok-Given.ensures) c.pass.ensures

pub returns-in-Ok-Finished : goal.returns-in-Ok-Finished
returns-in-Ok-Finished c =
    ends (trace_of c.args.tracer.now) (trace_of c.step.new.self) c.symbols.result.now (progress_of c.args.progress.value) c.args.name.now
    (c.symbols.ensures ∙ ap symbols_of c.deref.ensures ∙ c.move_here.ensures.here ∙ ap (λ (p : Progress). table (progress_of p)) c.deref_mut.ensures.value)
    c.requires.before (rw c.in-Ok-Finished.field-0-is at c.in-Ok-Finished.ensures)

pub returns : goal.returns
returns c =
    breaks_off (trace_of c.args.tracer.now) (trace_of c.step.new.self) c.symbols.result.now (progress_of c.args.progress.value) c.args.name.now
    (c.symbols.ensures ∙ ap symbols_of c.deref.ensures ∙ c.move_here.ensures.here ∙ ap (λ (p : Progress). table (progress_of p)) c.deref_mut.ensures.value)
    c.requires.before c.in-Err-Fault.field-0-0 (rw c.in-Err-Fault.field-0-is at c.in-Err-Fault.ensures)
