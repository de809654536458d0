-- The parts of a run, one after another: what those that are left finish.
use Rattle.std.proofs.Common.{◌≡◌, ℕ, zero, suc, ◌+◌, ◌-◌, ◌<◌, ◌≤◌, min, Bool, true, false, List, Option, refl, sym, subst, ◌∙◌, arith}
use Rattle.std.proofs.Math.Nat.{min-eq_left, min-le_left}
use Rattle.c25_meaning_debugger.specs.Debugger.{tried}
use Rattle.c25_meaning_processor.specs.Run.{Signals}
use Rattle.c25_meaning_processor.specs.WordStep.{WordStep}
use Rattle.c25_prompt.specs.Parts.{IsPart}
use Rattle.c25_prompt.specs.Prompt.{PromptPoint, Went, WentOn, WentPast, ends_run, with_goal}
use Rattle.c25_prompt.specs.Runs.{Goes}
use Rattle.c25_prompt.specs.declared.ended.Ended.{Ended}
use Rattle.c25_prompt.specs.declared.ended.Ended.TheVariants as ended
use Rattle.c25_prompt.specs.declared.ignored.Ignored.{Ignored}
use Rattle.c25_prompt.specs.declared.running.Part.{Part}

true_not_false : true ≡ false → ⊥
true_not_false e = absurd (cc)

-- a run goes on only after a meeting
met_is : (e : Ended) (goal : Option ℕ) (pc : ℕ) (ignored : List Ignored) → ends_run e goal pc ignored ≡ false → e ≡ ended.Met
met_is ended.Met goal pc ignored on = refl
met_is ended.Ran goal pc ignored on = absurd (true_not_false on)
met_is (ended.Left stop) goal pc ignored on = absurd (true_not_false on)
met_is (ended.Changed address old new) goal pc ignored on = absurd (true_not_false on)
met_is ended.Full goal pc ignored on = absurd (true_not_false on)

-- the steps that are left lead from here to what all lead to
abbrev pub Finishes : Signals → (goal : Option ℕ) → ℕ → PromptPoint → ℕ → PromptPoint → Type 0
Finishes signals goal n p left m = (meetings : ℕ) (e : Ended) (q : PromptPoint) → WentPast WordStep signals goal meetings left m e q → WentOn WordStep signals goal n p e q

module _ (signals : Signals) (goal : Option ℕ) where
  -- a part that does not end a run
  met : (left : ℕ) (m r : PromptPoint) (part : Part) → IsPart signals goal left m part r → part.is_last ≡ false
      → Went WordStep signals (with_goal m.at.breaks goal) m.watches left m ended.Met r × (ends_run ended.Met goal r.at.state.registers.pc m.ignored ≡ false)
  met left m r part is on =
      let pc = r.at.state.registers.pc in
      let tested : ends_run part.ended goal pc m.ignored ≡ false = sym is.last ∙ on in
      let same = met_is part.ended goal pc m.ignored tested in (
        subst (λ (x : Ended). Went WordStep signals (with_goal m.at.breaks goal) m.watches left m x r) same is.went,
        subst (λ (x : Ended). ends_run x goal pc m.ignored ≡ false) same tested,
      )

  few_tried : (k left : ℕ) → tried k left ≤ left
  few_tried k left = min-le_left left (4294967295 - k)

  -- it does a step, and fewer are left
  pub fewer : (left : ℕ) (m r : PromptPoint) (part : Part) → IsPart signals goal left m part r → part.is_last ≡ false → left - (r.at.steps - m.at.steps) + 1 ≤ left
  fewer left m r part is on =
      let passing = (met left m r part is on).0.goes.1 in
      let before = passing.before in
      let at = passing.at in
      let few = few_tried m.at.steps left in
      omega (arith, before, at, few)

  -- no step is left
  stood : (m : PromptPoint) → Went WordStep signals (with_goal m.at.breaks goal) m.watches 0 m ended.Ran m
  stood m =
      let none : tried m.at.steps 0 ≡ 0 = min-eq_left (omega arith) in
      let here : Goes WordStep signals (with_goal m.at.breaks goal) m.watches m.at.steps 0 m.at.state ended.Ran m.at.steps m.at.state = (refl, omega arith) in
      record {
        goes = subst (λ (x : ℕ). Goes WordStep signals (with_goal m.at.breaks goal) m.watches m.at.steps x m.at.state ended.Ran m.at.steps m.at.state) (sym none) here;
        breaks_left = refl;
        once_left = refl;
        counts_left = refl;
        same = refl;
      }

  module _ (n : ℕ) (p : PromptPoint) where
    -- all steps are left
    pub all_left : Finishes signals goal n p n p
    all_left = λ meetings e q went. (meetings, went)

    -- a part after which the run goes on
    pub goes_on : (left : ℕ) (m r : PromptPoint) (part : Part) → IsPart signals goal left m part r → part.is_last ≡ false → Finishes signals goal n p left m
        → Finishes signals goal n p (left - (r.at.steps - m.at.steps)) r
    goes_on left m r part is on h = λ meetings e q rest.
        let meeting = met left m r part is on in
        h (suc meetings) e q (r, meeting.0, meeting.1, rest)

    -- the last part
    pub ends : (left : ℕ) (m r : PromptPoint) (part : Part) → IsPart signals goal left m part r → part.is_last ≡ true → Finishes signals goal n p left m → WentOn WordStep signals goal n p part.ended r
    ends left m r part is last h = h 0 part.ended r (is.went, sym is.last ∙ last)

    -- all steps were done
    pub all_done : (left : ℕ) (m : PromptPoint) → left ≡ 0 → Finishes signals goal n p left m → WentOn WordStep signals goal n p ended.Ran m
    all_done left m none h = h 0 ended.Ran m (subst (λ (x : ℕ). Went WordStep signals (with_goal m.at.breaks goal) m.watches x m ended.Ran m) (sym none) (stood m), refl)
