-- The jumps of a run: those with one step more.
use Rattle.std.proofs.Common.{◌≡◌, ℕ, zero, suc, ◌+◌, List, [], ◌∷◌, Option, Some, None, Ok, refl, sym, ap, subst, ◌∙◌, arith}
use Rattle.c25_meaning_linking.specs.Linking.{ImageData}
use Rattle.c25_meaning_processor.specs.Run.{Signals, Stepping}
use Rattle.c25_meaning_processor.specs.Signals.{signals_of}
use Rattle.c25_meaning_processor.specs.State.{State}
use Rattle.c25_meaning_processor.specs.WordStep.{WordStep}
use Rattle.c25_meaning_processor.specs.declared.schedule.ScheduleEntry.{ScheduleEntry}
use Rattle.c25_prompt.specs.Rewound.{IsStep}
use Rattle.c25_prompt.specs.Lasts.{last_of}
use Rattle.c25_prompt.specs.Trace.{IsTrace, Jumps, and_jump, jump_of}
use Rattle.c25_prompt.proofs.LastOf.{kept_again, kept_and}
use Rattle.c25_prompt.proofs.OneEnd.{OneResult, same_done}
use Rattle.c25_prompt_texts.specs.Jumps.{jumps_text}
use Rattle.c25_prompt_texts.specs.declared.jumps.Jump.{Jump}

-- the last jumps with one more
pub kept_more : (n : ℕ) (jumps kept now : List Jump) (next : Option Jump) → kept ≡ last_of n jumps → now ≡ last_of n (and_jump kept next) → now ≡ last_of n (and_jump jumps next)
kept_more n jumps kept now None same is = kept_again n jumps kept now same is
kept_more n jumps kept now (Some j) same is = kept_and n jumps kept now (j ∷ []) same is

-- ---- one step more

pub no_jumps : (schedule : List ScheduleEntry) (first s : State) → s ≡ first → Jumps WordStep (signals_of schedule) 0 0 first [] s
no_jumps schedule first s same = (sym same, refl)

pub jumps_more : (schedule before : List ScheduleEntry) (first s t : State) (n k j : ℕ) (jumps : List Jump) (next : Option Jump) → before ≡ schedule → k ≡ n → Jumps WordStep (signals_of schedule) 0 n first jumps s
    → IsStep (signals_of before) k s j t → next ≡ jump_of j s.registers.pc t.registers.pc → Jumps WordStep (signals_of schedule) 0 (n + 1) first (and_jump jumps next) t
jumps_more schedule before first s t n k j jumps next same at jumped step is =
    let one : n + 1 ≡ suc n = omega arith in
    let here : k ≡ 0 + n = at ∙ omega arith in
    let there : j ≡ 0 + n + 1 = step.at ∙ ap (λ (x : ℕ). x + 1) here in
    let steps = subst (λ (x : ℕ). WordStep ((signals_of schedule).lines x) ((signals_of schedule).bio x) s (Ok t)) here (subst (λ (es : List ScheduleEntry). WordStep ((signals_of es).lines k) ((signals_of es).bio k) s (Ok t)) same step.steps) in
    let all : Jumps WordStep (signals_of schedule) 0 (suc n) first (and_jump jumps next) t =
    (s, jumps, jumped, steps, ap (and_jump jumps) (is ∙ ap (λ (x : ℕ). jump_of x s.registers.pc t.registers.pc) there)) in
    subst (λ (x : ℕ). Jumps WordStep (signals_of schedule) 0 x first (and_jump jumps next) t) (sym one) all

-- ---- one list of jumps

module _ (step : Stepping) (one : OneResult step) (signals : Signals) where
  one_list : (k n : ℕ) (s : State) (a b : List Jump) (t u : State) → Jumps step signals k n s a t → Jumps step signals k n s b u → (a ≡ b) × (t ≡ u)
  one_list k zero s a b t u (same, none) (same_too, none_too) = (none ∙ sym none_too, sym same ∙ same_too)
  one_list k (suc n) s a b t u (v, before, jumped, steps, is) (w, earlier, jumped_too, steps_too, is_too) =
      let both = one_list k n s before earlier v w jumped jumped_too in
      let there = same_done t u (Ok t) refl (one (signals.lines (k + n)) (signals.bio (k + n)) w (Ok t) (Ok u) (subst (λ (x : State). step (signals.lines (k + n)) (signals.bio (k + n)) x (Ok t)) both.1 steps) steps_too) in (
        is ∙ ap (λ (x : List Jump). and_jump x (jump_of (k + n + 1) v.registers.pc t.registers.pc)) both.0
            ∙ ap (λ (x : State). and_jump earlier (jump_of (k + n + 1) x.registers.pc t.registers.pc)) both.1
            ∙ ap (λ (x : State). and_jump earlier (jump_of (k + n + 1) w.registers.pc x.registers.pc)) there
            ∙ sym is_too,
        there,
      )

  -- the last jumps of a run are one text
  pub one_trace : (image : ImageData) (first : State) (n most : ℕ) (s t : List ℕ) → IsTrace step signals image first n most s → IsTrace step signals image first n most t → s ≡ t
  one_trace image first n most s t (a, u, jumped, is) (b, v, jumped_too, is_too) =
      is ∙ ap (λ (x : List Jump). jumps_text image (last_of most x)) (one_list 0 n first a b u v jumped jumped_too).0 ∙ sym is_too
