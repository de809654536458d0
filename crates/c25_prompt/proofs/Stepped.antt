-- What `step` answers.
use Rattle.std.proofs.Common.{◌≡◌, ℕ, List, [], Result, Ok, Err, refl, subst}
use Rattle.std.specs.Prelude.{IfOk, string_bytes}
use Rattle.c25_debug.specs.declared.steps.Answer.{Answer}
use Rattle.c25_meaning_debugger.specs.Debugger.{Steps, tried}
use Rattle.c25_meaning_processor.specs.Goes as goes
use Rattle.c25_meaning_processor.specs.Run.{Signals}
use Rattle.c25_meaning_processor.specs.State.{State}
use Rattle.c25_meaning_processor.specs.WordStep.{WordStep}
use Rattle.c25_prompt.specs.Runs.{end_text}
use Rattle.c25_prompt.specs.Seen.{GoesUnwatched}
use Rattle.c25_prompt.specs.declared.ended.Ended.{Ended}
use Rattle.c25_prompt.specs.declared.ended.Ended.TheVariants as ended

module _ (signals : Signals) (n k j : ℕ) (s t : State) where
  -- steps that ended so, and the text that says so
  stepped : (breaks : List ℕ) (e : Ended) (text : List ℕ) → GoesUnwatched signals [] k (tried k n) s e j t → text ≡ end_text e j t.registers.pc
      → Steps WordStep signals [] n (record { steps = k; state = s; breaks = breaks }) text (record { steps = j; state = t; breaks = breaks })
  stepped breaks ended.Ran text g is = record { halting = goes.Ran; goes = g; same = refl; text_is = is }
  stepped breaks ended.Met text g is = record { halting = goes.Met; goes = g; same = refl; text_is = is }
  stepped breaks (ended.Left stop) text g is = record { halting = goes.Left stop; goes = g; same = refl; text_is = is }
  stepped breaks (ended.Changed address old new) text g is = absurd g
  stepped breaks ended.Full text g is = absurd g

  -- an answer to steps, which may be refused
  pub steps_told : {E : Type 0} (m : ℕ) (e : Ended) (r : Result Answer E) → m ≡ tried k n → GoesUnwatched signals [] k m s e j t → IfOk r (λ a. string_bytes a.text ≡ end_text e j t.registers.pc)
      → IfOk r (λ a. (breaks : List ℕ) → Steps WordStep signals [] n (record { steps = k; state = s; breaks = breaks }) (string_bytes a.text) (record { steps = j; state = t; breaks = breaks }))
  steps_told m e (Err x) is g told = tt
  steps_told m e (Ok a) is g told = λ breaks. stepped breaks e (string_bytes a.text) (subst (λ (x : ℕ). GoesUnwatched signals [] k x s e j t) is g) told
