-- The steps of `next`, one after another: what those that are left finish.
use Rattle.std.proofs.Common.{◌≡◌, ℕ, suc, Bool, true, false, List, Result, Ok, Err, refl, sym, subst, ◌∙◌}
use Rattle.std.specs.Prelude.{IfOk, string_bytes}
use Rattle.c25_debug.specs.declared.steps.Answer.{Answer}
use Rattle.c25_meaning_processor.specs.Run.{Signals}
use Rattle.c25_meaning_processor.specs.WordStep.{WordStep}
use Rattle.c25_prompt.specs.Over.{IsNext}
use Rattle.c25_prompt.specs.Prompt.{NextAfter, Nexts, PromptPoint, Says, next_goes_on}
use Rattle.c25_prompt.specs.declared.over.Step.{Step}

-- what the steps that are left answer is what all answer
abbrev pub Finishes : Signals → ℕ → PromptPoint → ℕ → PromptPoint → Type 0
Finishes signals n p left m = (text : List ℕ) (q : PromptPoint) → Nexts WordStep signals left m text q → Nexts WordStep signals n p text q

module _ (signals : Signals) (n : ℕ) (p : PromptPoint) where
  after : (left more : ℕ) (m r q : PromptPoint) (step : Step) (b : Bool) (text : List ℕ) → left ≡ suc more → IsNext signals m step r → step.goes_on ≡ b → Finishes signals n p left m
      → NextAfter b (λ x t y. Nexts WordStep signals more x t y) step.ended r text q → Nexts WordStep signals n p text q
  after left more m r q step b text counted is going h then =
      let tested : b ≡ next_goes_on step.ended is.insn m r = sym going ∙ is.going in
      h text q (subst (λ (x : ℕ). Nexts WordStep signals x m text q) (sym counted)
      (is.insn, step.ended, r, is.stands, is.over, subst (λ (c : Bool). NextAfter c (λ x t y. Nexts WordStep signals more x t y) step.ended r text q) tested then))

  -- `next` goes on
  pub goes_on : (left more : ℕ) (m r : PromptPoint) (step : Step) → left ≡ suc more → IsNext signals m step r → step.goes_on ≡ true → Finishes signals n p left m → Finishes signals n p more r
  goes_on left more m r step counted is going h = λ text q then. after left more m r q step true text counted is going h then

  -- `next` ends
  pub ends : (left more : ℕ) (m r : PromptPoint) (step : Step) (text : List ℕ) → left ≡ suc more → IsNext signals m step r → step.goes_on ≡ false
      → Says text step.ended r → Finishes signals n p left m → Nexts WordStep signals n p text r
  ends left more m r step text counted is going told h = after left more m r r step false text counted is going h (told, refl)

  -- the answer where `next` ends, which may be refused
  pub told_end : {E : Type 0} (left more : ℕ) (m r : PromptPoint) (step : Step) (told : Result Answer E) → left ≡ suc more → IsNext signals m step r → step.goes_on ≡ false
      → Finishes signals n p left m → IfOk told (λ a. Says (string_bytes a.text) step.ended r) → IfOk told (λ a. Nexts WordStep signals n p (string_bytes a.text) r)
  told_end left more m r step (Err e) counted is going h says = tt
  told_end left more m r step (Ok a) counted is going h says = ends left more m r step (string_bytes a.text) counted is going says h
