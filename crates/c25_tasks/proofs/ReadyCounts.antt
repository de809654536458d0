-- Programs that are counted are ready to run; reports of those that are not.
use Rattle.std.proofs.Common.{◌≡◌, ◌∙◌, ap, inl, inr, refl, subst, sym, ℕ, Bool, true, false, List, string_bytes}
use Rattle.std.specs.Io.KnownBytes.{Keeps}
use Rattle.std.specs.Prelude.{Result, Ok, Err, String}
use Rattle.std.specs.declared.alloc.Global.{Global}
use Rattle.c25_chain.specs.Chain.{given_of}
use Rattle.c25_chain.specs.Refusal.{Fault}
use Rattle.c25_chain.specs.declared.fault.ChainFault.{ChainFault}
use Rattle.c25_coverage.specs.Run.{IsCoverage}
use Rattle.c25_disk.specs.Held.{Held}
use Rattle.c25_disk.specs.declared.work.CopyFault.TheVariants as copy
use Rattle.c25_inputs.specs.Files.{SourceNames, assembled_in}
use Rattle.c25_inputs.proofs.Fails.{over_short}
use Rattle.c25_meaning_common.specs.Results.{IsNoMemory}
use Rattle.c25_meaning_common.specs.declared.failure.Failure.TheVariants as failure
use Rattle.c25_meaning_expansion.specs.Files.{Files}
use Rattle.c25_options.specs.declared.task.RunFiles.{RunFiles}
use Rattle.c25_report.specs.declared.ending.Ending.{Ending}
use Rattle.c25_run.specs.declared.run.RunDetails.{RunDetails}
use Rattle.c25_source_notes.specs.declared.notes.SourceNotes.{SourceNotes}
use Rattle.c25_tasks.proofs.Answered.{answered}
use Rattle.c25_tasks.specs.Counting.{AreCountsFrom, CountsFrom, CountsOver, IsCountedReady, ReadiesCounted, is_run}
use Rattle.c25_tasks.specs.Running.{IsExplainedEnd, IsGivenFrom, ReadiesFrom, ReadiesOver, RunsTold, is_explained}
use Rattle.c25_tasks.specs.Tells.{IsReportOf, Printed}
use Rattle.c25_tasks.specs.declared.counted.CountedReady.{CountedReady}

-- ---- over files

pub counts_over : (held : Held) (given : Files) (names sources : List (List ℕ)) (steps : ℕ) (command samples schedule command_shown samples_shown schedule_shown : List ℕ) (answer : Result CountedReady Fault)
    → sources ≡ names → command_shown ≡ command → samples_shown ≡ samples → schedule_shown ≡ schedule → CountsOver held given sources steps command_shown samples_shown schedule_shown answer
    → CountsOver held given names steps command samples schedule answer
counts_over held given names sources steps command samples schedule command_shown samples_shown schedule_shown answer named same_command same_samples same_schedule comes =
    let with_names = subst (λ (ns : List (List ℕ)). CountsOver held given ns steps command_shown samples_shown schedule_shown answer) named comes in
    let with_command = subst (λ (t : List ℕ). CountsOver held given names steps t samples_shown schedule_shown answer) same_command with_names in
    let with_samples = subst (λ (t : List ℕ). CountsOver held given names steps command t schedule_shown answer) same_samples with_command in
    subst (λ (t : List ℕ). CountsOver held given names steps command samples t answer) same_schedule with_samples

pub counts_short : (held : Held) (given : Files) (names : List (List ℕ)) (steps : ℕ) (command samples schedule : List ℕ) (fault : Fault) → IsNoMemory fault → CountsOver held given names steps command samples schedule (Err fault)
counts_short held given names steps command samples schedule fault short =
    over_short held given (λ all result. ReadiesCounted (given_of all names command samples schedule) steps result) fault short

over_ready : (held : Held) (given : Files) (names : List (List ℕ)) (steps : ℕ) (command samples schedule : List ℕ) (c : CountedReady) → CountsOver held given names steps command samples schedule (Ok c)
    → ReadiesOver held given names command samples schedule (Ok c.ready)
over_ready held given names steps command samples schedule c (Ok told, (all, copied, is), same) = (Ok told.ready, (all, copied, is.ready), ap (λ (x : CountedReady). x.ready) same)
over_ready held given names steps command samples schedule c (Err refusal, over, same) = absurd same

over_refused : (held : Held) (given : Files) (names : List (List ℕ)) (steps : ℕ) (command samples schedule : List ℕ) (fault : Fault) → CountsOver held given names steps command samples schedule (Err fault)
    → ReadiesOver held given names command samples schedule (Err fault)
over_refused held given names steps command samples schedule fault (Ok told, over, same) = absurd same
over_refused held given names steps command samples schedule fault (Err (failure.NoMemory n), (all, copied, ends), same) = (Err (failure.NoMemory n), (all, copied, ends), same)
over_refused held given names steps command samples schedule fault (Err (failure.Fault (copy.Work f)), (all, copied, ends), same) = (Err (failure.Fault (copy.Work f)), (all, copied, ends), same)
over_refused held given names steps command samples schedule fault (Err (failure.Fault (copy.File g)), (all, copied, ends), same) = (Err (failure.Fault (copy.File g)), (all, copied, ends), same)

-- ---- of files on a disk

module _ (held : Held) (sources : SourceNames) (steps : ℕ) (files : RunFiles) where
  pub counted_ready : (c : CountedReady) → CountsFrom held sources steps files (Ok c) → ReadiesFrom held sources files (Ok c.ready)
  counted_ready c (inl refused) = absurd refused
  counted_ready c (inr (named, read, inl refused)) = absurd refused
  counted_ready c (inr (named, read, inr (command, is, inl refused))) = absurd refused
  counted_ready c (inr (named, read, inr (command, is, inr (samples, s, inl refused)))) = absurd refused
  counted_ready c (inr (named, read, inr (command, is, inr (samples, s, inr (schedule, t, over))))) =
      inr (named, read, inr (command, is, inr (samples, s, inr (schedule, t, over_ready held named (assembled_in sources) steps command samples schedule c over))))

  pub counted_refused : (fault : Fault) → CountsFrom held sources steps files (Err fault) → ReadiesFrom held sources files (Err fault)
  counted_refused fault (inl refused) = inl refused
  counted_refused fault (inr (named, read, inl refused)) = inr (named, read, inl refused)
  counted_refused fault (inr (named, read, inr (command, is, inl refused))) = inr (named, read, inr (command, is, inl refused))
  counted_refused fault (inr (named, read, inr (command, is, inr (samples, s, inl refused)))) = inr (named, read, inr (command, is, inr (samples, s, inl refused)))
  counted_refused fault (inr (named, read, inr (command, is, inr (samples, s, inr (schedule, t, over))))) =
      inr (named, read, inr (command, is, inr (samples, s, inr (schedule, t, over_refused held named (assembled_in sources) steps command samples schedule fault over))))

  by_given : (c told : CountedReady) → c ≡ told → (all named : Files) (command samples schedule : List ℕ) → IsGivenFrom held sources files (given_of all (assembled_in sources) command samples schedule)
      → IsCountedReady (given_of all (assembled_in sources) command samples schedule) steps told → AreCountsFrom held sources steps files (string_bytes c.counts.lcov) (string_bytes c.counts.list)
  by_given c told same all named command samples schedule is_given is =
      let here = subst (IsCountedReady (given_of all (assembled_in sources) command samples schedule) steps) (sym same) is in
      record { given = given_of all (assembled_in sources) command samples schedule; is_given = is_given; ready = here.again; is_ready = here.is_again; counts = here.counts }

  pub counted_from : (c : CountedReady) → CountsFrom held sources steps files (Ok c) → AreCountsFrom held sources steps files (string_bytes c.counts.lcov) (string_bytes c.counts.list)
  counted_from c (inl refused) = absurd refused
  counted_from c (inr (named, read, inl refused)) = absurd refused
  counted_from c (inr (named, read, inr (command, is, inl refused))) = absurd refused
  counted_from c (inr (named, read, inr (command, is, inr (samples, s, inl refused)))) = absurd refused
  counted_from c (inr (named, read, inr (command, is, inr (samples, s, inr (schedule, t, (Err refusal, over, same)))))) = absurd same
  counted_from c (inr (named, read, inr (command, is, inr (samples, s, inr (schedule, t, (Ok told, (all, copied, counted), same)))))) =
      by_given c told same all named command samples schedule
      (record { named = named; read = read; copied = copied; names = refl; command = is; samples = s; schedule = t }) counted

-- ---- reports

unexplained : (held : Held) (explain : Bool) (sources : SourceNames) (steps : ℕ) (files : RunFiles) (note : List ℕ) → IsExplainedEnd held explain sources steps files note note
unexplained held true sources steps files note = inl refl
unexplained held false sources steps files note = refl

-- sources that are refused
pub refusal_told : (held : Held) (notes : SourceNotes) (sources : SourceNames) (steps : ℕ) (details : RunDetails) (files : RunFiles) (fault : Fault) (e : Ending) (note : List ℕ) (out : Printed)
    → CountsFrom held sources steps files (Err fault) → IsReportOf held notes fault e note → Keeps out.0 out.1 → RunsTold held notes sources steps details files e note out
refusal_told held notes sources steps details files fault e note out from report keeps = (
  note,
  (
    (Err fault, counted_refused held sources steps files fault from, (report, keeps)),
    answered held notes (IsGivenFrom held sources files) steps details (Err fault) e note out tt (report, keeps),
  ),
  unexplained held (is_explained notes) sources steps files note,
)

pub refusal_is_no_run : (held : Held) (notes : SourceNotes) (fault : Fault) (e : Ending) (note : List ℕ) → IsReportOf held notes fault e note → is_run e ≡ false
refusal_is_no_run held notes (failure.NoMemory n) e note (is, none) = ap is_run is
refusal_is_no_run held notes (failure.Fault f) e note (inl ((line, is, text), noted)) = ap is_run is
refusal_is_no_run held notes (failure.Fault f) e note (inr ((n, is), none)) = ap is_run is
