-- A run whose suppositions were tested keeps to its pages.
use Rattle.std.proofs.Common.{◌≡◌, ℕ, suc, ◌<◌, ◌≤◌, ◌/◌, ◌⊎◌, Some, pos, sym, subst, arith, ⊎_elim}
use Rattle.std.proofs.lemmas.Bool.{cases_lt}
use Rattle.c25_board.specs.declared.board.Outcome.{Outcome}
use Rattle.c25_board.specs.declared.board.Outcome.TheVariants as outcome
use Rattle.c25_meaning_common.specs.Fields.{field_number}
use Rattle.c25_meaning_common.specs.declared.relocation.RelocationKind.TheVariants.{Low7}
use Rattle.c25_meaning_instructions.specs.declared.insn.Insn.{Insn}
use Rattle.c25_meaning_instructions.specs.Table.{size_of}
use Rattle.c25_meaning_pages.specs.Inductive.{IsSurelyOn}
use Rattle.c25_meaning_pages.specs.Known.{Knowledge}
use Rattle.c25_meaning_pages.specs.Operands.{direct_of, operand_address}
use Rattle.c25_meaning_pages.specs.Supposed.{AreSupposed, LetsNoOther}
use Rattle.c25_meaning_processor.specs.declared.lines.Lines.{Lines}
use Rattle.c25_meaning_processor.specs.declared.stop.Stop.{Stop}
use Rattle.c25_meaning_processor.specs.declared.stop.Stop.TheVariants.{CodeWrite, PortDry}
use Rattle.c25_meaning_processor.specs.Run.{Ending, Left, Ran, Reaches, Runs, Signals}
use Rattle.c25_meaning_processor.specs.State.{State}
use Rattle.c25_meaning_processor.specs.Statements.{RunsAsStatements, Statements}
use Rattle.c25_meaning_processor.specs.Step.{advanced, begun}
use Rattle.c25_meaning_processor.specs.WordStep.{WordStep}
use Rattle.c25_suppositions.specs.Checked.{IsChecked, KeepsToPages}
use Rattle.c25_suppositions.specs.declared.checking.Checked.TheVariants as checked

module _ (ss : Statements) (kn : Knowledge) (signals : Signals) (s : State) where
  -- what the laws of pages say of a state that is reached
  pub record Kept : Type 0 where
    pub pages : (address page : ℕ) → IsSurelyOn kn address page → (n : ℕ) (t : State) (lines : Lines) →
        Reaches WordStep signals 0 n s t → AreSupposed ss kn signals 0 n s → LetsNoOther kn (t.world.words 4) →
        (begun lines t).pc ≡ address → (begun lines t).dp ≡ page
    pub operands : (address word : ℕ) (i : Insn) → IsSurelyOn kn address (word / 128) →
        direct_of i ≡ Some (field_number Low7 (pos word)) → (n : ℕ) (t : State) (lines : Lines) →
        Reaches WordStep signals 0 n s t → AreSupposed ss kn signals 0 n s → LetsNoOther kn (t.world.words 4) →
        (begun lines t).pc ≡ address → operand_address i (advanced (size_of i) (begun lines t)) ≡ Some word

  -- fewer states are as supposed, too
  fewer : (m n : ℕ) → m ≤ n → AreSupposed ss kn signals 0 n s → AreSupposed ss kn signals 0 m s
  fewer m n most supposed j t below ran = supposed j t (omega (arith, most, below)) ran

  module _ (alike : RunsAsStatements ss s) (kept : Kept) where
    -- IMR lets no other line through in a state that was as supposed
    lets_there : (n m : ℕ) (t : State) → m < n → AreSupposed ss kn signals 0 n s → Reaches WordStep signals 0 m s t → LetsNoOther kn (t.world.words 4)
    lets_there n m t below supposed reached = (supposed m t below (sym ((alike signals 0 m (Ran t)).0 reached))).lets

    -- where IMR lets no other line through in each of the states, and those before are as supposed, the run keeps to its pages
    keeps_by : (count : ℕ) → ((m : ℕ) (t : State) → m < count → Reaches WordStep signals 0 m s t → AreSupposed ss kn signals 0 m s × LetsNoOther kn (t.world.words 4)) → KeepsToPages kn signals s count
    keeps_by count h =
        record {
          pages = λ m t address page below reached surely at.
              let here = h m t below reached in kept.pages address page surely m t (signals.lines m) reached here.0 here.1 at;
          operands = λ m t address word i below reached surely direct at.
              let here = h m t below reached in kept.operands address word i surely direct m t (signals.lines m) reached here.0 here.1 at;
        }

    pub keeps_before : (count : ℕ) → AreSupposed ss kn signals 0 count s → KeepsToPages kn signals s count
    keeps_before count supposed = keeps_by count (λ m t below reached. (fewer m count (omega (arith, below)) supposed, lets_there count m t below supposed reached))

    -- with the last state, in which IMR lets no other line through
    pub keeps_all : (once : (e f : Ending) (m : ℕ) → Runs WordStep signals 0 m s e → Runs WordStep signals 0 m s f → e ≡ f) (j : ℕ) (u : State) → Reaches WordStep signals 0 j s u → AreSupposed ss kn signals 0 j s → LetsNoOther kn (u.world.words 4) → KeepsToPages kn signals s (suc j)
    keeps_all once j u reached supposed lets =
        keeps_by (suc j)
        (λ m t below there. (
          fewer m j (omega (arith, below)) supposed,
          ⊎_elim
              (λ earlier. lets_there j m t earlier supposed there)
              (λ later.
              let at : m ≡ j = omega (arith, below, later) in
              let same : u ≡ t = let e = once (Ran u) (Ran t) j reached (subst (λ (x : ℕ). Reaches WordStep signals 0 x s t) at there) in cc in
              subst (λ (x : State). LetsNoOther kn (x.world.words 4)) same lets)
              (cases_lt m j),
        ))

    pub keeps_checked : (once : (e f : Ending) (m : ℕ) → Runs WordStep signals 0 m s e → Runs WordStep signals 0 m s f → e ≡ f) (n : ℕ) (o : Outcome) (j : ℕ) (t : State) (failed fails : ℕ) → IsChecked ss kn signals n s (checked.Supposed o) j t failed fails → KeepsToPages kn signals s (suc j)
    keeps_checked once n outcome.Ran j t failed fails (run, supposed) =
        let number = run.1 in
        let here : n ≡ j = omega (arith, number) in
        keeps_all once j t (subst (λ (x : ℕ). Reaches WordStep signals 0 x s t) here run.0) supposed.states supposed.last
    keeps_checked once n (outcome.Left at stop) j t failed fails (run, supposed) = keeps_before (suc j) supposed.states
    keeps_checked once n (outcome.SinkFault at) j t failed fails (run, supposed) = keeps_before (suc j) supposed.states

  pub left_is_code : ((n j : ℕ) (stop : Stop) (t : State) → Runs WordStep signals 0 n s (Left j stop t) → AreSupposed ss kn signals 0 n s → (stop ≡ CodeWrite) ⊎ (stop ≡ PortDry)) → (n at : ℕ) (stop : Stop) (j : ℕ) (t : State) (failed fails : ℕ) → IsChecked ss kn signals n s (checked.Supposed (outcome.Left at stop)) j t failed fails → (stop ≡ CodeWrite) ⊎ (stop ≡ PortDry)
  left_is_code law n at stop j t failed fails (run, supposed) =
      let left = run.0 in
      let number = left.at in
      let counted = run.1 in
      law (suc j) at stop t
      (record { done = left.done; before = omega (arith, number, counted); at = left.at; reached = left.reached; stops = left.stops })
      supposed.states
