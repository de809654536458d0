-- What is known by inductive knowledge is true in every state of a run.
use Rattle.std.proofs.Common.{◌≡◌, ℕ, zero, suc, ◌+◌, [], refl, sym, ap, ◌∙◌, subst, arith}
use Rattle.c25_meaning_processor.specs.declared.registers.Registers.{Registers}
use Rattle.c25_meaning_processor.specs.declared.lines.Lines.{Lines}
use Rattle.c25_meaning_processor.specs.State.{World, State}
use Rattle.c25_meaning_processor.specs.Step.{begun}
use Rattle.c25_meaning_processor.specs.Statements.{Statements}
use Rattle.c25_meaning_processor.specs.Reset.{reset}
use Rattle.c25_meaning_processor.specs.Run.{Signals, Reaches}
use Rattle.c25_page_laws.proofs.Stack.{Fits, FitsAfter, on}
use Rattle.c25_page_laws.proofs.Interrupted.{begun_fits}
use Rattle.c25_page_laws.proofs.Acting.{step_fits}
use Rattle.c25_meaning_pages.specs.Inductive.{IsInductive, IsSurelyOn}
use Rattle.c25_meaning_pages.specs.Known.{Knowledge}
use Rattle.c25_meaning_pages.specs.Supposed.{LetsNoOther, StepAsSupposed}

module _ (ss : Statements) (a : Knowledge) (inductive : IsInductive ss a) where
  first_fits : (w : World) → Fits a reset w
  unfolding reset
  first_fits w =
      on a _ 0 0 [] reset w (λ v e. absurd (cc)) inductive.first (record { page = λ p e. cc; masked = λ e. refl; shadowed = λ e. absurd (cc); once = λ e. refl; asleep = λ e. absurd (cc) }) refl tt (omega arith)

  run_fits : (signals : Signals) (k n : ℕ) (s t : State) → Fits a s.registers s.world → Reaches (StepAsSupposed ss a) signals k n s t → Fits a t.registers t.world
  run_fits signals k zero s t f is = subst (λ (x : State). Fits a x.registers x.world) is f
  run_fits signals k (suc n) s t f (u, reached, last) =
      subst (FitsAfter a) (sym last.1) (step_fits ss a inductive (signals.lines (k + n)) (signals.bio (k + n)) u last.0 (run_fits signals k n s u f reached))

  pub run_from_reset : (signals : Signals) (k n : ℕ) (s t : State) → s.registers ≡ reset → Reaches (StepAsSupposed ss a) signals k n s t → Fits a t.registers t.world
  run_from_reset signals k n s t from reached = run_fits signals k n s t (subst (λ (r : Registers). Fits a r s.world) (sym from) (first_fits s.world)) reached

  pub sure : (address page : ℕ) → IsSurelyOn a address page → (signals : Signals) (k n : ℕ) (s t : State) (lines : Lines) → s.registers ≡ reset → Reaches (StepAsSupposed ss a) signals k n s t → LetsNoOther a (t.world.words 4) → (begun lines t).pc ≡ address → (begun lines t).dp ≡ page
  sure address page surely signals k n s t lines from reached lets at =
      let f = begun_fits ss a inductive lines t lets (run_from_reset signals k n s t from reached) in
      f.holds.page page (surely f.context f.known (ap (a.known_at f.context) (sym at) ∙ f.here))
