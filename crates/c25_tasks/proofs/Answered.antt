-- A run that ends with status 0 or 3 is printed as its statements run and as the chain answers.
use Rattle.std.proofs.Common.{◌≡◌, ◌∙◌, ap, inl, inr, refl, subst, sym, ℕ, Bool, true, List, [], ◌∷◌}
use Rattle.std.specs.Io.KnownBytes.{Appends}
use Rattle.std.specs.Prelude.{IfOk, IfSome, Option, Some, None, Result, Ok, Err}
use Rattle.c25_chain.specs.Chain.{Given, given_of}
use Rattle.c25_chain.specs.Ready.{IsReady, statements_end}
use Rattle.c25_chain.specs.Refusal.{Fault}
use Rattle.c25_chain.specs.declared.ready.Ready.{Ready}
use Rattle.c25_disk.specs.Copies.{HasCopied}
use Rattle.c25_disk.specs.Held.{Held}
use Rattle.c25_meaning_common.specs.declared.failure.Failure.TheVariants as failure
use Rattle.c25_meaning_expansion.specs.Files.{Files}
use Rattle.c25_report.specs.Ending.{IsShort, status_of}
use Rattle.c25_report.specs.declared.ending.Ending.{Ending}
use Rattle.c25_run.specs.Run.{PrintsAnswer, PrintsRun, PrintsStatements, PrintsText, TellsAnswer, TellsEnd, Telling, LeavesRun}
use Rattle.c25_options.specs.declared.task.RunFiles.{RunFiles}
use Rattle.c25_inputs.specs.Files.{IsOptional, SourceNames, assembled_in}
use Rattle.c25_options.specs.Task.{text_of}
use Rattle.c25_run_ends.specs.EndNote.{ExplainsEnd}
use Rattle.c25_tasks.specs.Running.{HasEnded, HasLeft, IsEndOf, IsExplainedEnd, IsGivenFrom, IsGivenInput, IsWhyEnded, is_explained, ReadiesFrom, ReadiesInput, ReadiesOver, stdin}
use Rattle.c25_run.specs.declared.run.LeftAt.{LeftAt}
use Rattle.c25_run.specs.declared.run.RunDetails.{RunDetails}
use Rattle.c25_tasks.specs.Tells.{IsOfSources, IsReportOf, IsRun, IsRunOfAnswers, IsRunOfStatements, LeavesAnswer, Printed, PrintsGiven, TellsRun}
use Rattle.c25_source_notes.specs.declared.notes.SourceNotes.{SourceNotes}
use Rattle.c25_unused_inputs.specs.declared.requests.RunEnd.{RunEnd}

-- ---- other statuses

failed : {P : Type 0} (e : Ending) → status_of e ≡ 1 → IsRun e → P
failed e one (inl none) = let clash = sym one ∙ none in absurd cc
failed e one (inr three) = let clash = sym one ∙ three in absurd cc

short_failed : {P : Type 0} (e : Ending) → IsShort e → IsRun e → P
short_failed e (n, is) ran = failed e (ap status_of is) ran

fault_failed : {P : Type 0} (held : Held) (notes : SourceNotes) (fault : Fault) (e : Ending) (note : List ℕ) → IsReportOf held notes fault e note → IsRun e → P
fault_failed held notes (failure.NoMemory n) e note (is, none) ran = failed e (ap status_of is) ran
fault_failed held notes (failure.Fault f) e note (inl ((line, is, text), noted)) ran = failed e (ap status_of is) ran
fault_failed held notes (failure.Fault f) e note (inr (short, none)) ran = short_failed e short ran

-- ---- what is printed

module _ (n : ℕ) (details : RunDetails) (e : Ending) (note : List ℕ) (out : Printed) (ran : IsRun e) where
  whole_text : (text : List ℕ) (tells : Telling) → PrintsText text tells e note out.0 out.1 → Appends out.0 out.1 text × tells e note
  whole_text text tells (inl printed) = printed
  whole_text text tells (inr (is, none, front)) = failed e (ap status_of is) ran

  whole_statements : (given : Given) (ready : Ready) → IsReady given ready → PrintsStatements given ready n details e note out.0 out.1 → IsRunOfStatements given n details e note out
  whole_statements given ready is (inl (text, text_is, printed)) =
      let all = whole_text text (TellsEnd details.regs ready.built.linked.image ready.schedule n (statements_end given ready n)) printed in
      (ready, text, is, text_is, all.0, all.1)
  whole_statements given ready is (inr (short, none, keeps)) = short_failed e short ran

  whole_answers : (given : Given) → PrintsAnswer given n details e note out.0 out.1 → IsRunOfAnswers given n details e note out
  whole_answers given (inl printed) chain a =
      let p = printed chain a in
      let all = whole_text p.0 (TellsAnswer details.regs given n chain a) p.2 in
      (p.0, p.1, all.0, all.1)
  whole_answers given (inr (short, none, keeps)) chain a = short_failed e short ran

-- the report of a program that is ready
pub tells_ready : (held : Held) (notes : SourceNotes) (n : ℕ) (details : RunDetails) (answer : Result Ready Fault) (ready : Ready) (e : Ending) (note : List ℕ) (out : Printed) → answer ≡ Ok ready
    → ((given : Given) → IsReady given ready → PrintsRun ready n details e note out.0 out.1)
    → ((given : Given) → IsReady given ready → PrintsStatements given ready n details e note out.0 out.1)
    → ((given : Given) → IsReady given ready → PrintsAnswer given n details e note out.0 out.1)
    → IfOk answer IsOfSources → TellsRun held notes n details answer e note out
tells_ready held notes n details answer ready e note out is run statements answers =
    subst (λ (a : Result Ready Fault). IfOk a IsOfSources → TellsRun held notes n details a e note out) (sym is)
    (λ of. (run of.0 of.1, λ given ready_of. (statements given ready_of, answers given ready_of)))

-- where the run of a program that is ready left the code
pub leaves_ready : (n : ℕ) (answer : Result Ready Fault) (ready : Ready) (left : Option LeftAt) → answer ≡ Ok ready → ((given : Given) → IsReady given ready → IfSome left (LeavesRun ready n))
    → IfOk answer IsOfSources → IfSome left (LeavesAnswer n answer)
leaves_ready n answer ready left is leaves =
    subst (λ (a : Result Ready Fault). IfOk a IsOfSources → IfSome left (LeavesAnswer n a)) (sym is) (λ of. leaves of.0 of.1)

-- what is ready is of something that is given so
abbrev pub HasGiven : (Given → Type 0) → Result Ready Fault → Type 0
HasGiven is_given (Ok ready) = (given : Given) × is_given given × IsReady given ready
HasGiven is_given (Err fault) = Unit {0}

pub answered : (held : Held) (notes : SourceNotes) (is_given : Given → Type 0) (n : ℕ) (details : RunDetails) (answer : Result Ready Fault) (e : Ending) (note : List ℕ) (out : Printed)
    → HasGiven is_given answer → TellsRun held notes n details answer e note out → PrintsGiven is_given n details e note out
answered held notes is_given n details (Ok ready) e note out (given, is, of) (run, told) ran =
    let tells = told given of in
    (given, is, whole_statements n details e note out ran given ready of tells.0, whole_answers n details e note out ran given tells.1)
answered held notes is_given n details (Err fault) e note out none (told, keeps) ran = fault_failed held notes fault e note told ran

-- ---- what is given

-- of sources that are ready over given files, the files that they are in the end and what copied them
given_over : (held : Held) (named : Files) (names : List (List ℕ)) (command samples schedule : List ℕ) (ready : Ready) → ReadiesOver held named names command samples schedule (Ok ready)
    → (all : Files) × HasCopied held named 256 all × IsReady (given_of all names command samples schedule) ready
given_over held named names command samples schedule ready (Ok told, (all, copied, is), same) = (all, copied, subst (IsReady (given_of all names command samples schedule)) (sym same) is)
given_over held named names command samples schedule ready (Err refusal, over, same) = absurd same

pub given_from : (held : Held) (sources : SourceNames) (files : RunFiles) (answer : Result Ready Fault) → ReadiesFrom held sources files answer → HasGiven (IsGivenFrom held sources files) answer
given_from held sources files (Err fault) from = tt
given_from held sources files (Ok ready) (inl refused) = absurd refused
given_from held sources files (Ok ready) (inr (named, read, inl refused)) = absurd refused
given_from held sources files (Ok ready) (inr (named, read, inr (command, c, inl refused))) = absurd refused
given_from held sources files (Ok ready) (inr (named, read, inr (command, c, inr (samples, s, inl refused)))) = absurd refused
given_from held sources files (Ok ready) (inr (named, read, inr (command, c, inr (samples, s, inr (schedule, t, over))))) =
    let g = given_over held named (assembled_in sources) command samples schedule ready over in (
      given_of g.0 (assembled_in sources) command samples schedule,
      record { named = named; read = read; copied = g.1; names = refl; command = c; samples = s; schedule = t },
      g.2,
    )

pub given_input : (held : Held) (input : Option (List ℕ)) (answer : Result Ready Fault) → ReadiesInput held input answer → HasGiven (IsGivenInput held input) answer
given_input held input (Err fault) from = tt
given_input held input (Ok ready) (inl (text, read, over)) =
    let g = given_over held ((stdin, text) ∷ []) (stdin ∷ []) [] [] [] ready over in
    (given_of g.0 (stdin ∷ []) [] [] [], record { text = text; read = read; copied = g.1; alone = refl }, g.2)
given_input held input (Ok ready) (inr unread) = absurd unread

-- ---- how a run ended

pub left_from : (held : Held) (sources : SourceNames) (n : ℕ) (files : RunFiles) (answer : Result Ready Fault) (left : Option LeftAt) → ReadiesFrom held sources files answer → IfSome left (LeavesAnswer n answer)
    → IfSome left (HasLeft held sources n files)
left_from held sources n files answer None from leaves = tt
left_from held sources n files answer (Some left) from leaves = (answer, from, leaves)

pub ended_from : (held : Held) (sources : SourceNames) (n : ℕ) (files : RunFiles) (found : Option LeftAt) (end : RunEnd) → IfSome found (HasLeft held sources n files) → IsEndOf found n end → HasEnded held sources n files end
ended_from held sources n files (Some left) end has is = subst (HasEnded held sources n files) (sym is) has
ended_from held sources n files None end has is = subst (HasEnded held sources n files) (sym is) refl

pub why_from : (held : Held) (sources : SourceNames) (files : RunFiles) (end : RunEnd) (ready : Ready) (text samples why : List ℕ) → ReadiesFrom held sources files (Ok ready) → IsOptional held (text_of files.samples) text
    → samples ≡ text → ((given : Given) → IsReady given ready → ExplainsEnd ready samples end why) → IsWhyEnded held sources files end why
why_from held sources files end ready text samples why from read same explains =
    let g = given_from held sources files (Ok ready) from in
    let of_samples = subst (IsOptional held (text_of files.samples)) (sym same) read in
    record { given = g.0; is_given = g.1; ready = ready; is_ready = g.2; samples = samples; read = of_samples; explains = explains g.0 g.2 }

pub why_added : (held : Held) (sources : SourceNames) (n : ℕ) (files : RunFiles) (notes : SourceNotes) (explain : Bool) (found : Option LeftAt) (ended : Option RunEnd) (end : RunEnd) (front note : List ℕ)
    → explain ≡ is_explained notes → explain ≡ true → IfSome found (HasLeft held sources n files) → ended ≡ Some end → IfSome ended (IsEndOf found n)
    → ((steps : ℕ) → HasEnded held sources steps files end → IsExplainedEnd held true sources steps files front note) → IsExplainedEnd held (is_explained notes) sources n files front note
why_added held sources n files notes explain found ended end front note of_notes asked has is of_left added =
    let there : IsEndOf found n end = subst (λ (o : Option RunEnd). IfSome o (IsEndOf found n)) is of_left in
    subst (λ (b : Bool). IsExplainedEnd held b sources n files front note) (sym asked ∙ of_notes) (added n (ended_from held sources n files found end has there))
