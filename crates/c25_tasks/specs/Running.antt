-- The task `run`, and the run of a source on standard input.
use Rattle.std.specs.Prelude.{◌≡◌, ◌⊎◌, ℕ, Bool, true, false, List, [], ◌∷◌, ◌++◌, codes, Option, Some, None, Result, Ok}
use Rattle.c25_chain.specs.Chain.{Given, given_of}
use Rattle.c25_chain.specs.Ready.{IsReady, Readies}
use Rattle.c25_chain.specs.Refusal.{Fault}
use Rattle.c25_chain.specs.declared.ready.Ready.{Ready}
use Rattle.c25_disk.specs.Copies.{HasCopied}
use Rattle.c25_disk.specs.Held.{Held, IsAllOf}
use Rattle.c25_meaning_expansion.specs.Files.{Files}
use Rattle.c25_report.specs.declared.ending.Ending.{Ending}
use Rattle.c25_options.specs.Task.{text_of}
use Rattle.c25_options.specs.declared.task.RunFiles.{RunFiles}
use Rattle.c25_options.specs.declared.task.RunResults.{RunResults}
use Rattle.c25_inputs.specs.Files.{AfterOptional, AfterSources, ComesTo, FailsWith, IsOptional, IsUnread, ReadsAll, SourceNames, assembled_in}
use Rattle.c25_meaning_processor.specs.declared.stop.Stop.{Stop}
use Rattle.c25_run.specs.declared.run.LeftAt.{LeftAt}
use Rattle.c25_run.specs.declared.run.RunDetails.{RunDetails}
use Rattle.c25_run_ends.specs.EndNote.{ExplainsEnd}
use Rattle.c25_tasks.specs.Tells.{LeavesAnswer, Printed, PrintsGiven, TellsRun}
use Rattle.c25_explain.specs.declared.notes.Notes.{Notes}
use Rattle.c25_source_notes.specs.declared.notes.SourceNotes.{SourceNotes}
use Rattle.c25_explain.specs.declared.notes.Notes.TheVariants.{After, Nothing}
use Rattle.c25_source_notes.specs.declared.notes.SourceNotes.TheVariants.{Plain, Reading}
use Rattle.c25_unused_inputs.specs.declared.requests.RunEnd.{RunEnd}

-- ---- sources on a disk

-- the program with its inputs of the named sources among given files and those that they copy, under the
-- texts of the other files; or why there is none
abbrev pub ReadiesOver : Held → Files → List (List ℕ) → (command samples schedule : List ℕ) → Result Ready Fault → Type 0
ReadiesOver held given names command samples schedule answer =
    ComesTo held given (λ all result. Readies (given_of all names command samples schedule) result) answer

-- the program with its inputs of files on a disk, which are read in this order
abbrev pub ReadiesFrom : Held → SourceNames → RunFiles → Result Ready Fault → Type 0
ReadiesFrom held sources files answer =
    AfterSources held sources (λ given.
    AfterOptional held (text_of files.command) (λ command.
    AfterOptional held (text_of files.samples) (λ samples.
    AfterOptional held (text_of files.schedule) (ReadiesOver held given (assembled_in sources) command samples)))) answer

-- what the chain is given: what is assembled for the named sources and the files that they copy, and the texts of the other
-- files
pub record IsGivenFrom (held : Held) (sources : SourceNames) (files : RunFiles) (given : Given) : Type 0 where
  pub named : Files
  pub read : ReadsAll held sources (Ok named)
  pub copied : HasCopied held named 256 given.files
  pub names : given.sources ≡ assembled_in sources
  pub command : IsOptional held (text_of files.command) given.command
  pub samples : IsOptional held (text_of files.samples) given.samples
  pub schedule : IsOptional held (text_of files.schedule) given.schedule

-- the named sources are run and printed, or why they are not is reported
abbrev pub RunsAlone : Held → SourceNotes → SourceNames → ℕ → RunDetails → RunFiles → Ending → (note : List ℕ) → Printed → Type 0
RunsAlone held notes sources steps details files e note out =
    ((answer : Result Ready Fault) × ReadiesFrom held sources files answer × TellsRun held notes steps details answer e note out)
    × PrintsGiven (IsGivenFrom held sources files) steps details e note out

-- ---- how a run ended

-- a run of so many steps of the named sources left the code in this step, for this reason
abbrev pub HasLeft : Held → SourceNames → ℕ → RunFiles → LeftAt → Type 0
HasLeft held sources steps files left = (answer : Result Ready Fault) × ReadiesFrom held sources files answer × LeavesAnswer steps answer left

-- so many steps of the named sources are all, or they are those before the one that left the code
abbrev pub EndsAfter : Held → SourceNames → ℕ → RunFiles → (done : ℕ) → Option Stop → Type 0
EndsAfter held sources steps files done None = done ≡ steps
EndsAfter held sources steps files done (Some stop) = HasLeft held sources steps files (record { step = done; stop = stop })

-- a run of so many steps of the named sources ended so
abbrev pub HasEnded : Held → SourceNames → ℕ → RunFiles → RunEnd → Type 0
HasEnded held sources steps files end = EndsAfter held sources steps files end.steps end.stop

-- how a run of so many steps ended, by where it left the code, if it did
abbrev pub IsEndOf : Option LeftAt → ℕ → RunEnd → Type 0
IsEndOf (Some left) steps end = end ≡ record { steps = left.step; stop = Some left.stop }
IsEndOf None steps end = end ≡ record { steps = steps; stop = None }

-- what is said of the end of a run of the named sources
pub record IsWhyEnded (held : Held) (sources : SourceNames) (files : RunFiles) (end : RunEnd) (why : List ℕ) : Type 0 where
  pub given : Given
  pub is_given : IsGivenFrom held sources files given
  pub ready : Ready
  pub is_ready : IsReady given ready
  pub samples : List ℕ
  pub read : IsOptional held (text_of files.samples) samples
  pub explains : ExplainsEnd ready samples end why

-- a note is another one, and after it what is said of the end of the run
abbrev pub HasWhy : Held → SourceNames → ℕ → RunFiles → (front note : List ℕ) → Type 0
HasWhy held sources steps files front note =
    (end : RunEnd) × HasEnded held sources steps files end × ((why : List ℕ) × IsWhyEnded held sources files end why × (note ≡ front ++ why))

-- whether an explanation is asked for
abbrev pub is_explained_in : Notes → Bool
is_explained_in Nothing = false
is_explained_in (After options named) = options.explain

abbrev pub is_explained : SourceNotes → Bool
is_explained (Plain notes) = is_explained_in notes
is_explained (Reading notes sources) = is_explained_in notes

-- a note is another one; where an explanation is asked for, what is said of the end of the run stands after that, unless the run was
-- not printed to its end, or memory runs out
abbrev pub IsExplainedEnd : Held → (explain : Bool) → SourceNames → ℕ → RunFiles → (front note : List ℕ) → Type 0
IsExplainedEnd held false sources steps files front note = note ≡ front
IsExplainedEnd held true sources steps files front note = (note ≡ front) ⊎ HasWhy held sources steps files front note

-- the named sources are run and printed, or why they are not is reported; after that, where an explanation is
-- asked for, what is said of the end of the run
abbrev pub RunsTold : Held → SourceNotes → SourceNames → ℕ → RunDetails → RunFiles → Ending → (note : List ℕ) → Printed → Type 0
RunsTold held notes sources steps details files e note out =
    (front : List ℕ) × RunsAlone held notes sources steps details files e front out × IsExplainedEnd held (is_explained notes) sources steps files front note

-- what is printed and reported of a run is what its task asks for
abbrev pub details_of : RunResults → RunDetails
details_of results = record { regs = results.regs; when = results.when }

-- ---- standard input

-- the name of standard input as a source
abbrev pub stdin : List ℕ
stdin = codes "stdin"

-- the program of a text as the one source, without other files
abbrev pub ReadiesText : Held → List ℕ → Result Ready Fault → Type 0
ReadiesText held text answer = ReadiesOver held ((stdin, text) ∷ []) (stdin ∷ []) [] [] [] answer

-- the program of what stood on standard input, where that is known, or that it cannot be read (8)
abbrev pub ReadiesInput : Held → Option (List ℕ) → Result Ready Fault → Type 0
ReadiesInput held input answer = ((text : List ℕ) × IsAllOf input text × ReadiesText held text answer) ⊎ FailsWith answer (IsUnread stdin)

-- what the chain is given: the source on standard input and the files that it copies, and no other texts
pub record IsGivenInput (held : Held) (input : Option (List ℕ)) (given : Given) : Type 0 where
  pub text : List ℕ
  pub read : IsAllOf input text
  pub copied : HasCopied held ((stdin, text) ∷ []) 256 given.files
  pub alone : given ≡ given_of given.files (stdin ∷ []) [] [] []

-- neither the registers at the end nor the steps of the outputs are asked for
abbrev pub plain_details : RunDetails
plain_details = record { regs = false; when = false }

-- the source on standard input is run for 1,000 steps and printed, or why it is not is reported
abbrev pub Runs : Held → Option (List ℕ) → Ending → (note : List ℕ) → Printed → Type 0
Runs held input e note out =
    ((answer : Result Ready Fault) × ReadiesInput held input answer × TellsRun held (Plain Nothing) 1000 plain_details answer e note out)
    × PrintsGiven (IsGivenInput held input) 1000 plain_details e note out
