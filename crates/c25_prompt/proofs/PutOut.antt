-- The outputs of a run: those of one step more.
use Rattle.std.proofs.Common.{◌≡◌, ℕ, zero, suc, ◌+◌, ◌≤◌, ◌<◌, List, [], ◌∷◌, ◌++◌, drop, get_or, length, take, Ok, refl, sym, ap, ap₂, subst, ◌∙◌, arith, append_assoc, length-append}
use Rattle.std.proofs.lemmas.List.{append_cancel_left, drop_at, map-append, take_more}
use Rattle.c25_meaning_processor.specs.Run.{Reaches, Signals, Stepping}
use Rattle.c25_meaning_processor.specs.Signals.{signals_of}
use Rattle.c25_meaning_processor.specs.State.{State}
use Rattle.c25_meaning_processor.specs.WordStep.{WordStep}
use Rattle.c25_meaning_processor.specs.declared.schedule.ScheduleEntry.{ScheduleEntry}
use Rattle.c25_prompt.specs.Lasts.{last_of}
use Rattle.c25_prompt.specs.Outputs.{AreOutputs, PutOut, at_step}
use Rattle.c25_prompt.specs.Rewound.{IsStep}
use Rattle.c25_prompt.proofs.LastOf.{kept_and}
use Rattle.c25_prompt.proofs.OneEnd.{OneResult, same_done}
use Rattle.c25_prompt_texts.specs.Outputs.{outputs_shown}
use Rattle.c25_prompt_texts.specs.declared.outputs.TimedOutput.{TimedOutput}

-- ---- the outputs of a step

-- a run keeps the outputs of its first state
abbrev pub KeepsOutputs : Type 0
KeepsOutputs = (signals : Signals) (k n : ℕ) (s t : State) → Reaches WordStep signals k n s t → (more : List (ℕ × ℕ)) × (t.world.outputs ≡ s.world.outputs ++ more) × (length more ≤ n)

module _ (keeps : KeepsOutputs) (signals : Signals) (s t : State) (k j : ℕ) (step : IsStep signals k s j t) where
  -- what a step puts out comes after the outputs before it
  put_by : (more : List (ℕ × ℕ)) × (t.world.outputs ≡ s.world.outputs ++ more) × (length more ≤ 1)
  put_by =
      let here : k ≡ k + 0 = omega arith in
      keeps signals k 1 s t (s, refl, subst (λ (x : ℕ). WordStep (signals.lines x) (signals.bio x) s (Ok t)) here step.steps)

  -- there are no fewer outputs after a step
  pub no_fewer : (before : ℕ) → before ≡ length s.world.outputs → before ≤ length t.world.outputs
  no_fewer before is =
      let long = ap length put_by.1 ∙ length-append s.world.outputs put_by.0 in
      omega (arith, is, long)

  -- what was put out is what is there after as many as were there before
  pub grown : (before : ℕ) (new : List (ℕ × ℕ)) → before ≡ length s.world.outputs → new ≡ drop before t.world.outputs → t.world.outputs ≡ s.world.outputs ++ new
  grown before new is rest =
      let same : new ≡ put_by.0 = rest ∙ ap (drop before) put_by.1 ∙ drop_at s.world.outputs put_by.0 before (sym is) in
      put_by.1 ∙ ap (λ (x : List (ℕ × ℕ)). s.world.outputs ++ x) (sym same)

-- ---- outputs that are kept

-- an output of a step
abbrev timed : (steps : ℕ) → ℕ × ℕ → TimedOutput
timed steps o = record { steps = steps; port = o.0; word = o.1 }

-- one output more of a step is kept
pub kept_output : (most steps i : ℕ) (d : ℕ × ℕ) (outputs : List (ℕ × ℕ)) (old kept now : List TimedOutput) (o : TimedOutput) → i < length outputs → o ≡ timed steps (get_or outputs i d)
    → kept ≡ last_of most (old ++ at_step steps (take i outputs)) → now ≡ last_of most (kept ++ o ∷ []) → now ≡ last_of most (old ++ at_step steps (take (i + 1) outputs))
kept_output most steps i d outputs old kept now o below same was is =
    let one = ap (at_step steps) (take_more outputs i d below) ∙ map-append (timed steps) (take i outputs) (get_or outputs i d ∷ []) in
    kept_and most (old ++ at_step steps (take i outputs)) kept now (o ∷ []) was is
    ∙ ap (last_of most) (append_assoc old (at_step steps (take i outputs)) (o ∷ []) ∙ ap (λ (x : TimedOutput). old ++ (at_step steps (take i outputs) ++ x ∷ [])) same ∙ ap (λ (x : List TimedOutput). old ++ x) (sym one))

-- ---- one step more

pub none_put : (schedule : List ScheduleEntry) (first s : State) → s ≡ first → PutOut WordStep (signals_of schedule) 0 0 first [] s
none_put schedule first s same = (sym same, refl)

pub more_put : (schedule before : List ScheduleEntry) (first s t : State) (n k j : ℕ) (outputs : List TimedOutput) (new : List (ℕ × ℕ)) → before ≡ schedule → k ≡ n → PutOut WordStep (signals_of schedule) 0 n first outputs s
    → IsStep (signals_of before) k s j t → t.world.outputs ≡ s.world.outputs ++ new → PutOut WordStep (signals_of schedule) 0 (n + 1) first (outputs ++ at_step j new) t
more_put schedule before first s t n k j outputs new same at put step is =
    let one : n + 1 ≡ suc n = omega arith in
    let here : k ≡ 0 + n = at ∙ omega arith in
    let there : j ≡ 0 + n + 1 = step.at ∙ ap (λ (x : ℕ). x + 1) here in
    let steps = subst (λ (x : ℕ). WordStep ((signals_of schedule).lines x) ((signals_of schedule).bio x) s (Ok t)) here (subst (λ (es : List ScheduleEntry). WordStep ((signals_of es).lines k) ((signals_of es).bio k) s (Ok t)) same step.steps) in
    let all : PutOut WordStep (signals_of schedule) 0 (suc n) first (outputs ++ at_step j new) t = (s, outputs, new, put, steps, is, ap (λ (x : ℕ). outputs ++ at_step x new) there) in
    subst (λ (x : ℕ). PutOut WordStep (signals_of schedule) 0 x first (outputs ++ at_step j new) t) (sym one) all

-- ---- one list of outputs

module _ (step : Stepping) (one : OneResult step) (signals : Signals) where
  one_list : (k n : ℕ) (s : State) (a b : List TimedOutput) (t u : State) → PutOut step signals k n s a t → PutOut step signals k n s b u → (a ≡ b) × (t ≡ u)
  one_list k zero s a b t u (same, none) (same_too, none_too) = (none ∙ sym none_too, sym same ∙ same_too)
  one_list k (suc n) s a b t u (v, before, new, put, steps, grew, is) (w, earlier, new_too, put_too, steps_too, grew_too, is_too) =
      let both = one_list k n s before earlier v w put put_too in
      let there = same_done t u (Ok t) refl (one (signals.lines (k + n)) (signals.bio (k + n)) w (Ok t) (Ok u) (subst (λ (x : State). step (signals.lines (k + n)) (signals.bio (k + n)) x (Ok t)) both.1 steps) steps_too) in
      let same = append_cancel_left w.world.outputs new new_too (ap (λ (x : State). x.world.outputs ++ new) (sym both.1) ∙ sym grew ∙ ap (λ (x : State). x.world.outputs) there ∙ grew_too) in (
        is ∙ ap₂ (λ (x : List TimedOutput) (y : List (ℕ × ℕ)). x ++ at_step (k + n + 1) y) both.0 same ∙ sym is_too,
        there,
      )

  -- the last outputs of a run are one text
  pub one_text : (first : State) (n most : ℕ) (s t : List ℕ) → AreOutputs step signals first n most s → AreOutputs step signals first n most t → s ≡ t
  one_text first n most s t (a, u, put, is) (b, v, put_too, is_too) =
      is ∙ ap (λ (x : List TimedOutput). outputs_shown (last_of most x)) (one_list 0 n first a b u v put put_too).0 ∙ sym is_too
