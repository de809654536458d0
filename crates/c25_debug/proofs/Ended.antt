-- The answer to a run that may end at a breakpoint says how the run ended.
use Rattle.std.proofs.Common.{◌≡◌, ◌∙◌, ◌++◌, ℕ, Bool, List, [], Result, Ok, Err, refl, sym, ap, subst}
use Rattle.std.specs.Prelude.{IfOk, string_bytes}
use Rattle.c25_board.specs.Run.{Puts}
use Rattle.c25_board.specs.RunTo.{IsRunTo}
use Rattle.c25_board.specs.declared.run_to.Halted.{Halted}
use Rattle.c25_board.specs.declared.run_to.Halted.TheVariants as halted
use Rattle.c25_meaning_processor.specs.Goes.{Left, Met, Ran}
use Rattle.c25_meaning_debugger.specs.Debugger.{tried}
use Rattle.c25_meaning_debugger.specs.Texts.{sink_text}
use Rattle.c25_meaning_processor.specs.Run.{Signals}
use Rattle.c25_meaning_processor.specs.State.{State}
use Rattle.c25_debug.specs.Told.{StepsTold, end_text, is_sunk}
use Rattle.c25_debug.specs.declared.steps.Answer.{Answer}

pub ended : (signals : Signals) (breaks kept : List ℕ) (n k j before now : ℕ) (s t : State) (h : Halted) (text : List ℕ) (refused : Bool)
    → IsRunTo signals breaks k (tried k n) s h j t before now → text ≡ end_text h j t.registers.pc → refused ≡ is_sunk h
    → StepsTold signals breaks n (record { steps = k; state = s; breaks = kept }) text (record { steps = j; state = t; breaks = kept }) refused before now
ended signals breaks kept n k j before now s t halted.Ran text refused (goes, same) is sunk =
    rw sunk (record { halting = Ran; goes = goes; same = refl; text_is = is }, same)
ended signals breaks kept n k j before now s t halted.Met text refused (goes, same) is sunk =
    rw sunk (record { halting = Met; goes = goes; same = refl; text_is = is }, same)
ended signals breaks kept n k j before now s t (halted.Left at stop) text refused (goes, there, same) is sunk =
    rw sunk (record { halting = Left stop; goes = goes; same = refl; text_is = is }, same)
ended signals breaks kept n k j before now s t (halted.SinkFault at) text refused (done, below, at_is, passed, j_is, failed, puts) is sunk =
    rw sunk (record {
      done = done;
      below = below;
      passed = passed;
      steps = j_is ∙ at_is;
      same = refl;
      text_is = is ∙ ap sink_text (sym j_is);
      refused = failed;
      puts = subst (λ (x : ℕ). Puts signals x t) (sym j_is) puts;
    })

-- an answer to a run, which may be refused, says how the run ended
pub told_of : {E : Type 0} (signals : Signals) (breaks : List ℕ) (n k m j before now steps pc : ℕ) (s t : State) (h : Halted) (empty : List ℕ) (r : Result Answer E)
    → m ≡ tried k n → IsRunTo signals breaks k m s h j t before now → empty ≡ [] → steps ≡ j → pc ≡ t.registers.pc
    → IfOk r (λ told. string_bytes told.text ≡ empty ++ end_text h steps pc) → IfOk r (λ told. told.is_refused ≡ is_sunk h)
    → IfOk r (λ told. (kept : List ℕ) → StepsTold signals breaks n (record { steps = k; state = s; breaks = kept }) (string_bytes told.text) (record { steps = j; state = t; breaks = kept }) told.is_refused before now)
told_of signals breaks n k m j before now steps pc s t h empty (Err e) is run none counted there text refused = tt
told_of signals breaks n k m j before now steps pc s t h empty (Ok told) is run none counted there text refused = λ kept.
    ended signals breaks kept n k j before now s t h (string_bytes told.text) told.is_refused
    (subst (λ (x : ℕ). IsRunTo signals breaks k x s h j t before now) is run)
    (text ∙ ap (λ (e : List ℕ). e ++ end_text h steps pc) none ∙ ap (λ (x : ℕ). end_text h x pc) counted ∙ ap (λ (x : ℕ). end_text h j x) there)
    refused
