-- Answers of the same words.
use Rattle.std.proofs.Common.{◌≡◌, ℕ, ◌++◌, List, sym, ap, ◌∙◌, subst, arith, inl, inr}
use Rattle.std.specs.FinMap as finite
use Rattle.std.specs.Ordering.{nat_cmp}
use Rattle.c25_answer_laws.proofs.AnswersExist.{same_run}
use Rattle.c25_answer_laws.specs.Answered.{AnswerData, IsAnswerData}
use Rattle.c25_answer_laws.specs.SameWords.{LoadAlike, RunAlike, StoppedFirst}
use Rattle.c25_chain.specs.Chain.{Given, Inputs}
use Rattle.c25_chain.specs.Run.{EndsAs, RunData, RunsWords}
use Rattle.c25_image_laws.specs.Agree.{Agree, LeavesFirst, unmarked, unmarked_end}
use Rattle.c25_meaning_image.specs.declared.mark.Mark.{Mark}
use Rattle.c25_meaning_image.specs.declared.mark.RunMark.{RunMark}
use Rattle.c25_meaning_processor.specs.FirstState.{first_of_pages, memory_of_map}
use Rattle.c25_meaning_processor.specs.Run.{Ending, Left, Ran, Runs, Signals}
use Rattle.c25_meaning_processor.specs.Samples.{samples_at}
use Rattle.c25_meaning_processor.specs.Signals.{signals_of}
use Rattle.c25_meaning_processor.specs.State.{State}
use Rattle.c25_meaning_processor.specs.WordStep.{WordStep}

-- the laws on which this rests
pub record Laws : Type 0 where
  pub agree : (signals : Signals) (k n : ℕ) (s t : State) (one other : Ending) → unmarked s ≡ unmarked t → Runs WordStep signals k n s one → Runs WordStep signals k n t other → Agree signals k s one t other
  pub begin : (page0 page1 other0 other1 : finite.FinMap nat_cmp ℕ) (marks other_marks : List Mark) (run_marks other_run_marks : List RunMark) (samples : ℕ → List ℕ)
      → ((address : ℕ) → memory_of_map page0 address ≡ memory_of_map other0 address) → ((address : ℕ) → memory_of_map page1 address ≡ memory_of_map other1 address)
      → unmarked (first_of_pages page0 page1 marks run_marks samples) ≡ unmarked (first_of_pages other0 other1 other_marks other_run_marks samples)

-- what is shown of the end of a run does not depend on marks
shown_unmarked : (n : ℕ) (e : Ending) (d : RunData) → EndsAs n e d → EndsAs n (unmarked_end e) d
shown_unmarked n (Ran t) d (named, counted, s) = (named, counted, record { outputs = s.outputs; regs = s.regs; size = s.size; memory = s.memory })
shown_unmarked n (Left j stop t) d (named, counted, s) = (named, counted, record { outputs = s.outputs; regs = s.regs; size = s.size; memory = s.memory })

stopped_first : (signals : Signals) (n : ℕ) (s t : State) (one other : Ending) (c d : RunData) → Runs WordStep signals 0 n s one → EndsAs n one c → EndsAs n other d → LeavesFirst signals 0 one t other → StoppedFirst c d
stopped_first signals n s t (Ran u) other c d ran shown also first = absurd first
stopped_first signals n s t (Left j stop u) (Ran v) c d left (named, counted, x) (named_2, counted_2, y) (by_places, no_sooner, passes) =
    let at = left.at in
    let before = left.before in
    record {
      step = j;
      stop = stop;
      stopped = named;
      by_places = by_places;
      sooner = omega (arith, counted, counted_2, at, before);
      later = passes.later;
      outputs = y.outputs ∙ passes.outputs ∙ ap (λ (o : List (ℕ × ℕ)). o ++ passes.later) (sym x.outputs);
    }
stopped_first signals n s t (Left j stop u) (Left i other v) c d left (named, counted, x) (named_2, counted_2, y) (by_places, no_sooner, passes) =
    record {
      step = j;
      stop = stop;
      stopped = named;
      by_places = by_places;
      sooner = omega (arith, counted, counted_2, no_sooner);
      later = passes.later;
      outputs = y.outputs ∙ passes.outputs ∙ ap (λ (o : List (ℕ × ℕ)). o ++ passes.later) (sym x.outputs);
    }

module _ (laws : Laws) (g h : Given) (n : ℕ) (c d : AnswerData) (a : IsAnswerData g n c) (b : IsAnswerData h n d) (same : LoadAlike a.image b.image) (inputs : a.inputs ≡ b.inputs) where
  abbrev first : State
  first = first_of_pages a.image.program a.image.store a.image.marks a.image.run_marks (samples_at a.inputs.samples)

  abbrev second : State
  second = first_of_pages b.image.program b.image.store b.image.marks b.image.run_marks (samples_at a.inputs.samples)

  other_runs : Runs WordStep (signals_of a.inputs.entries) 0 n second b.run.0
  other_runs = subst (λ (i : Inputs). RunsWords b.image.program b.image.store b.image.marks b.image.run_marks i.samples i.entries n b.run.0) (sym inputs) b.run.1

  pub answers_alike : RunAlike c.run d.run
  answers_alike = go (laws.agree (signals_of a.inputs.entries) 0 n first second a.run.0 b.run.0 begin a.run.1 other_runs)
    where
      begin : unmarked first ≡ unmarked second
      begin = laws.begin a.image.program a.image.store b.image.program b.image.store a.image.marks b.image.marks a.image.run_marks b.image.run_marks (samples_at a.inputs.samples) same.program same.store

      go : Agree (signals_of a.inputs.entries) 0 first a.run.0 second b.run.0 → RunAlike c.run d.run
      go (inl ends) = inl (same_run n (unmarked_end b.run.0) c.run d.run (subst (λ (e : Ending). EndsAs n e c.run) ends (shown_unmarked n a.run.0 c.run a.run.2)) (shown_unmarked n b.run.0 d.run b.run.2))
      go (inr (inl left)) = inr (inl (stopped_first (signals_of a.inputs.entries) n first second a.run.0 b.run.0 c.run d.run a.run.1 a.run.2 b.run.2 left))
      go (inr (inr left)) = inr (inr (stopped_first (signals_of a.inputs.entries) n second first b.run.0 a.run.0 d.run c.run other_runs b.run.2 a.run.2 left))
