-- A run that is printed is what its sources say, and what the chain answers.
use Rattle.std.proofs.Common.{◌≡◌, ◌∙◌, ℕ, Bool, true, false, List, ◌++◌, Option, ap, inl, inr, map, refl, string_bytes, subst, sym}
use Rattle.c25_board.specs.declared.board.Outcome.{Outcome}
use Rattle.c25_chain.specs.Chain.{Given, Inputs, IsAnswer, run_of}
use Rattle.c25_chain.proofs.Answered.{is_built}
use Rattle.c25_chain.specs.Built.{IsBuilt}
use Rattle.c25_chain.specs.Headline.{first_state, source_statements}
use Rattle.c25_chain.specs.Linked as linked
use Rattle.c25_chain.specs.Linked.{LinkedTexts}
use Rattle.c25_chain.specs.OutcomeText.{outcome_of, outcome_text, run_text, steps_of}
use Rattle.c25_chain.specs.Ready.{IsAnswerOf, IsReady, RunsReady}
use Rattle.c25_chain.specs.Run.{EndsAs, last_state}
use Rattle.c25_chain.specs.declared.chain.Chain.{Chain}
use Rattle.c25_chain.specs.declared.ready.Ready.{Ready}
use Rattle.c25_meaning_linking.specs.Linking.{ImageData}
use Rattle.c25_meaning_expansion.specs.Files.{Files}
use Rattle.c25_meaning_processor.specs.Run.{Ending, Left, Ran}
use Rattle.c25_meaning_processor.specs.Signals.{signals_of}
use Rattle.c25_meaning_processor.specs.State.{State}
use Rattle.c25_meaning_processor.specs.Statements.{IsImageOf}
use Rattle.c25_meaning_processor.specs.WordStep.{WordStep}
use Rattle.c25_meaning_processor.specs.declared.sample.Sample.{Sample}
use Rattle.c25_report.specs.declared.ending.Ending as report_ending
use Rattle.c25_run.proofs.Alike.{RunAlike, StayImages, outputs_put, text_alike}
use Rattle.c25_run.proofs.Told.{RunsAsSaid}
use Rattle.c25_run.specs.Run.{PrintsAnswer, PrintsEnd, PrintsRun, PrintsStatements, PrintsText, SourceStep, TellsAnswer, TellsEnd, TellsOutcome}
use Rattle.c25_run.specs.Timed.{IsAnswerText, IsEndText, PutTo, TimedOutput, timed_text}
use Rattle.c25_run.specs.declared.run.RunDetails.{RunDetails}

-- a program that is ready runs as the chain answers
abbrev pub RunsAnswered : Type 0
RunsAnswered = (g : Given) (ready : Ready) (n : ℕ) (end : Ending) (c : Chain) → IsReady g ready → RunsReady ready n end → (a : IsAnswer g n c) → IsAnswerOf ready n end g c a

outcome_told : (n : ℕ) (end : Ending) (c : Chain) → EndsAs n end (run_of c) → c.outcome ≡ outcome_of end
outcome_told n (Ran t) c told = told.0
outcome_told n (Left j stop t) c told = told.0

steps_told : (n : ℕ) (end : Ending) (c : Chain) → EndsAs n end (run_of c) → c.steps ≡ steps_of n end
steps_told n (Ran t) c told = told.1
steps_told n (Left j stop t) c told = told.1

-- the first state of a program holds the statements of its sources
abbrev pub FirstStates : Type 0
FirstStates =
    (files : Files) (names : List (List ℕ)) (command : List ℕ) (image : ImageData) (texts : LinkedTexts) (listings : List (List ℕ)) (samples : List Sample)
    → IsBuilt files names command image texts listings → IsImageOf (source_statements files names image.described) (first_state image samples).world

outputs_told : (n : ℕ) (end : Ending) (c : Chain) → EndsAs n end (run_of c) → (last_state end).world.outputs ≡ c.outputs.items
outputs_told n (Ran t) c told = sym told.2.outputs
outputs_told n (Left j stop t) c told = sym told.2.outputs

module _ (given : Given) (ready : Ready) (is : IsReady given ready) (n : ℕ) (details : RunDetails) (e : report_ending.Ending) (note : List ℕ) (old new : Option (List ℕ)) where
  abbrev image : ImageData
  image = ready.built.linked.image

  abbrev begin : State
  begin = first_state image ready.samples

  holds : FirstStates → IsImageOf (source_statements given.files given.sources image.described) begin.world
  holds first =
      first given.files given.sources given.command image (linked.texts_of ready.built.linked) (map string_bytes ready.built.listings.items) ready.samples (is_built given.files given.sources given.command ready.built is.built)

  pub printed_statements : RunsAsSaid → RunAlike → StayImages → FirstStates → PrintsRun ready n details e note old new → PrintsStatements given ready n details e note old new
  printed_statements said alike stay first (inl (end, run, (text, text_is, printed))) =
      let statements = source_statements given.files given.sources image.described in
      let there = text_alike alike stay statements begin (holds first) (signals_of ready.schedule) details.when n end text text_is in
      inl (subst (λ (f : Ending). PrintsEnd details (SourceStep given ready) ready n f e note old new) ((said given ready n end is).0 run) (text, there, printed))
  printed_statements said alike stay first (inr short) = inr short

  module _ (answered : RunsAnswered) (end : Ending) (run : RunsReady ready n end) (c : Chain) (a : IsAnswer given n c) where
    of : IsAnswerOf ready n end given c a
    of = answered given ready n end c is run a

    -- what is reported of the end is reported of the answer
    told_of_answer : TellsEnd details.regs image ready.schedule n end e note → TellsAnswer details.regs given n c a e note
    told_of_answer h =
        let regs = details.regs in
        let outcome = subst (λ (o : Outcome). TellsOutcome regs image ready.schedule o (steps_of n end) (last_state end) e note) (sym (outcome_told n end c of.told)) h in
        let steps = subst (λ (k : ℕ). TellsOutcome regs image ready.schedule c.outcome k (last_state end) e note) (sym (steps_told n end c of.told)) outcome in
        let state = subst (λ (f : Ending). TellsOutcome regs image ready.schedule c.outcome c.steps (last_state f) e note) (sym of.ended) steps in
        let inputs = subst (λ (x : Inputs). TellsOutcome regs image x.entries c.outcome c.steps (last_state (a.run).0) e note) (sym of.inputs) state in
        subst (λ (i : ImageData). TellsOutcome regs i (a.inputs).entries c.outcome c.steps (last_state (a.run).0) e note) (sym of.image) inputs

    outputs_are : (f : Ending) (timed : List TimedOutput) → PutTo WordStep (signals_of ready.schedule) n begin timed f → map (λ output. output.1) timed ≡ (last_state f).world.outputs
    outputs_are (Ran t) timed put = outputs_put WordStep (signals_of ready.schedule) n begin timed t refl put
    outputs_are (Left j stop t) timed put = outputs_put WordStep (signals_of ready.schedule) j begin timed t refl put

    text_of_answer : (when : Bool) (text : List ℕ) → IsEndText when WordStep (signals_of ready.schedule) n begin end text → IsAnswerText when c text
    text_of_answer false text text_is = text_is ∙ of.text
    text_of_answer true text (timed, put, text_is) = (
      timed,
      outputs_are end timed put ∙ outputs_told n end c of.told,
      text_is ∙ ap (λ (o : Outcome). timed_text timed ++ outcome_text o (steps_of n end)) (sym (outcome_told n end c of.told))
          ∙ ap (λ (k : ℕ). timed_text timed ++ outcome_text c.outcome k) (sym (steps_told n end c of.told)),
    )

    printed_text : (text : List ℕ) → PrintsText text (TellsEnd details.regs image ready.schedule n end) e note old new → PrintsText text (TellsAnswer details.regs given n c a) e note old new
    printed_text text (inl (printed, told)) = inl (printed, told_of_answer told)
    printed_text text (inr unprinted) = inr unprinted

    of_answer : PrintsEnd details WordStep ready n end e note old new → (text : List ℕ) × IsAnswerText details.when c text × PrintsText text (TellsAnswer details.regs given n c a) e note old new
    of_answer (text, text_is, printed) = (text, text_of_answer details.when text text_is, printed_text text printed)

  pub printed_answer : RunsAnswered → PrintsRun ready n details e note old new → PrintsAnswer given n details e note old new
  printed_answer answered (inl (end, run, printed)) = inl (λ c a. of_answer answered end run c a printed)
  printed_answer answered (inr short) = inr short
