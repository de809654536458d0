-- Runs of the words of an image keep to their pages and to the code as runs of the statements do.
use Rattle.std.proofs.Common.{◌≡◌, ℕ, zero, suc, ◌+◌, ◌⊎◌, Err, sym, subst, arith}
use Rattle.c25_meaning_processor.specs.declared.lines.Lines.{Lines}
use Rattle.c25_meaning_processor.specs.declared.stop.Stop.{Stop}
use Rattle.c25_meaning_processor.specs.declared.stop.Stop.TheVariants.{CodeWrite, PortDry}
use Rattle.c25_meaning_processor.specs.State.{State}
use Rattle.c25_meaning_processor.specs.Step.{begun}
use Rattle.c25_meaning_processor.specs.Reset.{reset}
use Rattle.c25_meaning_processor.specs.Run.{Signals, Stepping, Ran, Left, Reaches, Runs}
use Rattle.c25_meaning_processor.specs.Statements.{Statements, IsImageOf, statement_step}
use Rattle.c25_meaning_processor.specs.WordStep.{WordStep}
use Rattle.c25_run_laws.proofs.Image.{runs_alike}
use Rattle.c25_run_laws.proofs.OneRun.{runs_is}
use Rattle.c25_page_laws.proofs.Sure.{sure}
use Rattle.c25_page_laws.proofs.Closed.{never_left}
use Rattle.c25_meaning_pages.specs.Inductive.{IsInductive, IsClosed, IsSurelyOn}
use Rattle.c25_meaning_pages.specs.Known.{Knowledge}
use Rattle.c25_meaning_pages.specs.Supposed.{LetsNoOther, StepAsSupposed, AreSupposed}

module _ (ss : Statements) (a : Knowledge) (signals : Signals) (k : ℕ) (s : State) where
  abbrev Steps : Stepping
  Steps lines bio u o = o ≡ statement_step ss lines bio u

  within : (n : ℕ) (t : State) → Reaches Steps signals k n s t → AreSupposed ss a signals k n s → Reaches (StepAsSupposed ss a) signals k n s t
  within zero t is supposed = is
  within (suc n) t (u, reached, is) supposed =
      let ends = (runs_is (statement_step ss) signals k s n (Ran u)).0 reached in
      (u, within n u reached (λ j v below. supposed j v (omega (arith, below))), (supposed n u (omega arith) (sym ends), is))

  pub words_are_sure : (address page : ℕ) → IsInductive ss a → IsSurelyOn a address page → (n : ℕ) (t : State) (lines : Lines) → s.registers ≡ reset → IsImageOf ss s.world → Reaches WordStep signals k n s t → AreSupposed ss a signals k n s → LetsNoOther a (t.world.words 4) → (begun lines t).pc ≡ address → (begun lines t).dp ≡ page
  words_are_sure address page inductive surely n t lines from image reached supposed lets at =
      let ends = (runs_alike ss s image signals k n (Ran t)).0 reached in
      sure ss a inductive address page surely signals k n s t lines from (within n t ((runs_is (statement_step ss) signals k s n (Ran t)).1 ends) supposed) lets at

  pub words_never_leave : IsInductive ss a → IsClosed ss a → (n j : ℕ) (stop : Stop) (t : State) → s.registers ≡ reset → IsImageOf ss s.world → Runs WordStep signals k n s (Left j stop t) → AreSupposed ss a signals k n s → (stop ≡ CodeWrite) ⊎ (stop ≡ PortDry)
  words_never_leave inductive closed n j stop t from image runs supposed =
      let ends = (runs_alike ss s image signals k n (Left j stop t)).0 runs in
      let leaves = (runs_is (statement_step ss) signals k s n (Left j stop t)).1 ends in
      let before = (runs_is (statement_step ss) signals k s leaves.done (Ran t)).0 leaves.reached in
      let here = supposed leaves.done t leaves.before (sym before) in
      never_left ss a inductive closed signals k leaves.done s t (signals.lines (k + leaves.done)) (signals.bio (k + leaves.done)) stop from
      (within leaves.done t leaves.reached (λ i v below. supposed i v (omega (arith, below, leaves.before))))
      here.lets
      (sym (subst (λ (x : ℕ). Err stop ≡ statement_step ss (signals.lines x) (signals.bio x) t) leaves.at leaves.stops))
