-- The outputs of a run of words, with their steps, are those of the run of its statements; and they are its outputs.
use Rattle.std.proofs.Common.{◌≡◌, ◌∙◌, ℕ, zero, suc, ◌+◌, ap, refl, sym, Bool, true, false, List, [], ◌∷◌, ◌++◌, append_assoc, append-nil, map, Ok, Err}
use Rattle.c25_count_laws.specs.Counts.{StatementStep}
use Rattle.c25_meaning_processor.specs.declared.lines.Lines.{Lines}
use Rattle.c25_meaning_processor.specs.Run.{Ending, Left, Ran, Signals, Stepping, ending_after}
use Rattle.c25_meaning_processor.specs.State.{State, StepResult}
use Rattle.c25_meaning_processor.specs.Statements.{IsImageOf, KeepsStatements, RunsAsStatements, Statements, statement_step}
use Rattle.c25_meaning_processor.specs.WordStep.{WordStep}
use Rattle.c25_run.proofs.TimedFronts.{put_reaches}
use Rattle.c25_run.specs.Timed.{IsEndText, PutIn, PutTo, TimedOutput, at_step}

-- ---- the laws that are cited

abbrev pub RunAlike : Type 0
RunAlike = (statements : Statements) (s : State) → IsImageOf statements s.world → RunsAsStatements statements s

abbrev pub StayImages : Type 0
StayImages = (statements : Statements) (s : State) → IsImageOf statements s.world → KeepsStatements statements s

-- ---- statements

-- the same lines and BIO level in each step
abbrev always : Lines → Bool → Signals
always lines bio = record { lines = λ k. lines; bio = λ k. bio }

went_on : (j : ℕ) (s t : State) (o : StepResult) → Ran t ≡ ending_after j s o → Ok t ≡ o
went_on j s t (Ok u) e = let same : t ≡ u = cc in ap Ok same
went_on j s t (Err stop) e = absurd (cc)

module _ (alike : RunAlike) (stay : StayImages) (ss : Statements) where
  step_alike : (lines : Lines) (bio : Bool) (s t : State) → IsImageOf ss s.world → WordStep lines bio s (Ok t) → StatementStep ss lines bio s (Ok t)
  step_alike lines bio s t image leads = went_on 0 s t (statement_step ss lines bio s) ((alike ss s image (always lines bio) 0 1 (Ran t)).0 (s, refl, leads))

  module _ (s : State) (image : IsImageOf ss s.world) (signals : Signals) where
    put_alike : (n : ℕ) (timed : List TimedOutput) (t : State) → PutIn WordStep signals 0 n s timed t → PutIn (StatementStep ss) signals 0 n s timed t
    put_alike zero timed t h = h
    put_alike (suc n) timed t (u, before, new, put, leads, grew, is) = (
      u,
      before,
      new,
      put_alike n before u put,
      step_alike (signals.lines (0 + n)) (signals.bio (0 + n)) u t (stay ss s image signals 0 n u (put_reaches WordStep signals 0 n s before u put)) leads,
      grew,
      is,
    )

    put_to_alike : (n : ℕ) (timed : List TimedOutput) (e : Ending) → PutTo WordStep signals n s timed e → PutTo (StatementStep ss) signals n s timed e
    put_to_alike n timed (Ran t) h = put_alike n timed t h
    put_to_alike n timed (Left j stop t) h = put_alike j timed t h

    pub text_alike : (when : Bool) (n : ℕ) (e : Ending) (text : List ℕ) → IsEndText when WordStep signals n s e text → IsEndText when (StatementStep ss) signals n s e text
    text_alike false n e text h = h
    text_alike true n e text (timed, put, is) = (timed, put_to_alike n timed e put, is)

-- ---- outputs

abbrev untimed : List TimedOutput → List (ℕ × ℕ)
untimed timed = map (λ output. output.1) timed

untimed_joined : (xs ys : List TimedOutput) → untimed (xs ++ ys) ≡ untimed xs ++ untimed ys
untimed_joined [] ys = refl
untimed_joined (x ∷ xs) ys = ap (λ (os : List (ℕ × ℕ)). x.1 ∷ os) (untimed_joined xs ys)

untimed_step : (step : ℕ) (outputs : List (ℕ × ℕ)) → untimed (at_step step outputs) ≡ outputs
untimed_step step [] = refl
untimed_step step (o ∷ outputs) = ap (λ (os : List (ℕ × ℕ)). o ∷ os) (untimed_step step outputs)

put_outputs : (step : Stepping) (signals : Signals) (k n : ℕ) (s : State) (timed : List TimedOutput) (t : State) → PutIn step signals k n s timed t → t.world.outputs ≡ s.world.outputs ++ untimed timed
put_outputs step signals k zero s timed t (same, none) =
    sym (ap (λ (z : State). z.world.outputs) same) ∙ sym (append-nil s.world.outputs) ∙ ap (λ (ts : List TimedOutput). s.world.outputs ++ untimed ts) (sym none)
put_outputs step signals k (suc n) s timed t (u, before, new, put, leads, grew, is) =
    let earlier = put_outputs step signals k n s before u put in
    let last : untimed before ++ new ≡ untimed timed =
    ap (λ (os : List (ℕ × ℕ)). untimed before ++ os) (sym (untimed_step (k + n) new)) ∙ sym (untimed_joined before (at_step (k + n) new)) ∙ ap (λ (ts : List TimedOutput). untimed ts) (sym is) in
    grew ∙ ap (λ (os : List (ℕ × ℕ)). os ++ new) earlier ∙ append_assoc s.world.outputs (untimed before) new ∙ ap (λ (os : List (ℕ × ℕ)). s.world.outputs ++ os) last

-- the outputs with their steps of a run from a state without outputs are those of its last state
pub outputs_put : (step : Stepping) (signals : Signals) (n : ℕ) (s : State) (timed : List TimedOutput) (t : State) → s.world.outputs ≡ [] → PutIn step signals 0 n s timed t → untimed timed ≡ t.world.outputs
outputs_put step signals n s timed t none put = sym (put_outputs step signals 0 n s timed t put ∙ ap (λ (os : List (ℕ × ℕ)). os ++ untimed timed) none)
