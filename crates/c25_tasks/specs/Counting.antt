-- The task `run`, with files for how often each line of the sources was run.
use Rattle.std.specs.Prelude.{◌≡◌, ◌⊎◌, ℕ, Bool, true, false, ◌||◌, ◌&&◌, List, [], ◌∷◌, ◌++◌, Option, Some, None, Result, Ok, Err, is_some}
use Rattle.std.specs.String.{string_bytes}
use Rattle.c25_chain.specs.Chain.{Given, IsRefused, given_of}
use Rattle.c25_chain.specs.Ready.{IsReady}
use Rattle.c25_chain.specs.Refusal.{Fault, refusal_of}
use Rattle.c25_chain.specs.declared.ready.Ready.{Ready}
use Rattle.c25_coverage.specs.Run.{IsCoverage}
use Rattle.c25_coverage.specs.declared.run.LineCounts.{LineCounts}
use Rattle.c25_disk.specs.Held.{Held, Stay}
use Rattle.c25_fronts.specs.Folders.{Opens}
use Rattle.c25_inputs.specs.Files.{AfterOptional, AfterSources, ComesTo, SourceNames, assembled_in}
use Rattle.c25_meaning_common.specs.declared.failure.Failure.TheVariants as failure
use Rattle.c25_meaning_expansion.specs.Files.{Files}
use Rattle.c25_options.specs.Task.{text_of, texts_of}
use Rattle.c25_options.specs.declared.task.RunFiles.{RunFiles}
use Rattle.c25_options.specs.declared.task.RunResults.{RunResults}
use Rattle.c25_options.specs.declared.task.RunTask.{RunTask}
use Rattle.c25_report.specs.declared.ending.Ending.{Ending}
use Rattle.c25_report.specs.declared.ending.Ending.TheVariants as ending
use Rattle.c25_run.specs.declared.run.RunDetails.{RunDetails}
use Rattle.c25_source_notes.specs.Notes.{AreSourceNotes}
use Rattle.c25_source_notes.specs.declared.notes.SourceNotes.{SourceNotes}
use Rattle.c25_tasks.specs.Reading.{Noting, read_by, run_files, sources_under}
use Rattle.c25_tasks.specs.Running.{IsGivenFrom, RunsTold, details_of}
use Rattle.c25_tasks.specs.Tells.{IsShortOf, Printed, Wrote, WritesAfter}
use Rattle.c25_tasks.specs.declared.counted.CountedReady.{CountedReady}

-- ---- programs that are counted

-- a program that is ready to run, and how often the lines of its sources act in so many steps of it
pub record IsCountedReady (given : Given) (steps : ℕ) (c : CountedReady) : Type 0 where
  pub ready : IsReady given c.ready
  pub again : Ready
  pub is_again : IsReady given again
  pub counts : IsCoverage given again steps (string_bytes c.counts.lcov) (string_bytes c.counts.list)

-- the program with its counts, or the first fault, unless memory ran out
abbrev pub ReadiesCounted : Given → ℕ → Result CountedReady Fault → Type 0
ReadiesCounted given steps (Ok c) = IsCountedReady given steps c
ReadiesCounted given steps (Err (failure.NoMemory n)) = Unit {0}
ReadiesCounted given steps (Err (failure.Fault f)) = IsRefused given (refusal_of f)

-- the program of the named sources among given files and those that they copy, with its counts
abbrev pub CountsOver : Held → Files → List (List ℕ) → ℕ → (command samples schedule : List ℕ) → Result CountedReady Fault → Type 0
CountsOver held given names steps command samples schedule answer =
    ComesTo held given (λ all result. ReadiesCounted (given_of all names command samples schedule) steps result) answer

-- the program of files on a disk, which are read in this order, with its counts
abbrev pub CountsFrom : Held → SourceNames → ℕ → RunFiles → Result CountedReady Fault → Type 0
CountsFrom held sources steps files answer =
    AfterSources held sources (λ given.
    AfterOptional held (text_of files.command) (λ command.
    AfterOptional held (text_of files.samples) (λ samples.
    AfterOptional held (text_of files.schedule) (CountsOver held given (assembled_in sources) steps command samples)))) answer

-- these are the texts of how often the lines of the named sources act in so many steps
pub record AreCountsFrom (held : Held) (sources : SourceNames) (steps : ℕ) (files : RunFiles) (lcov list : List ℕ) : Type 0 where
  pub given : Given
  pub is_given : IsGivenFrom held sources files given
  pub ready : Ready
  pub is_ready : IsReady given ready
  pub counts : IsCoverage given ready steps lcov list

-- ---- files

-- the file of this name with this text, if one is named
abbrev pub file_of : Option (List ℕ) → List ℕ → Files
file_of None text = []
file_of (Some name) text = (name, text) ∷ []

-- the files of counts that are asked for: the text that lcov reads, then the lines of the sources after their counts
abbrev pub counts_files : RunResults → (lcov list : List ℕ) → Files
counts_files results lcov list = file_of (text_of results.counts) lcov ++ file_of (text_of results.counts_list) list

-- whether a file of counts is asked for
abbrev pub is_counted : RunResults → Bool
is_counted results = is_some results.counts || is_some results.counts_list

-- whether the program ends as one whose run was printed to its end
abbrev pub is_run : Ending → Bool
is_run ending.Done = true
is_run ending.Left = true
is_run e = false

-- where they are asked for, after a run that was printed to its end, the files of its counts are written, unless memory runs out
-- before; the one that cannot be written is reported in place of the run. Else nothing is written
abbrev pub WritesCounts : (writes : Bool) → Held → SourceNotes → SourceNames → ℕ → RunFiles → RunResults → (told : Ending) → (front : List ℕ) → Ending → (note : List ℕ) → Wrote → Type 0
WritesCounts false held notes sources steps files results told front e note written = (e ≡ told) × (note ≡ front) × Stay written.0 written.1
WritesCounts true held notes sources steps files results told front e note written =
    ((lcov : List ℕ) × (list : List ℕ) × AreCountsFrom held sources steps files lcov list × WritesAfter held notes (counts_files results lcov list) told front e note written)
    ⊎ IsShortOf e note written

-- ---- the task

-- the named sources are run and printed, and after that the files of counts that are asked for are written
abbrev pub RunsCounted : Held → SourceNotes → SourceNames → ℕ → RunFiles → RunResults → Ending → (note : List ℕ) → Printed → Wrote → Type 0
RunsCounted held notes sources steps files results e note out written =
    (told : Ending) × (front : List ℕ) × RunsTold held notes sources steps (details_of results) files told front out
    × WritesCounts (is_counted results && is_run told) held notes sources steps files results told front e note written

-- what is done for a task
abbrev pub DoesRun : Held → Opens → RunTask → Ending → (note : List ℕ) → Printed → Wrote → Type 0
DoesRun held opens task e note out written =
    Noting (AreSourceNotes task.faults task.files None (sources_under task.sources.items task.reading) [])
    (λ notes.
    RunsCounted (read_by (texts_of task.sources.items) (run_files task.files) task.reading opens held) notes (sources_under task.sources.items task.reading) task.steps task.files task.results e note out written)
