-- Runs of the same words.
use Rattle.std.proofs.Common.{◌≡◌, ◌⊎◌, ℕ, zero, suc, ◌+◌, ◌-◌, ◌<◌, ◌≤◌, Bool, true, false, if◌then◌else◌, List, [], ◌++◌, length, Option, None, Some, Ok, Err, refl, sym, ap, ◌∙◌, subst, arith, inl, inr, ⊎_elim, ◌↔◌, append-nil}
use Rattle.std.proofs.lemmas.Bool.{cases_lt}
use Rattle.c25_meaning_image.specs.declared.mark.Mark.{Mark}
use Rattle.c25_meaning_image.specs.declared.mark.RunMark.{RunMark}
use Rattle.c25_meaning_instructions.specs.declared.insn.Insn.{Insn}
use Rattle.c25_meaning_processor.specs.declared.lines.Lines.{Lines}
use Rattle.c25_meaning_processor.specs.declared.registers.Registers.{Registers}
use Rattle.c25_meaning_processor.specs.declared.stop.Stop.{Stop}
use Rattle.c25_meaning_processor.specs.declared.stop.Stop.TheVariants.{CodeWrite, OutOfCode}
use Rattle.c25_meaning_processor.specs.Run.{Ending, Leaves, Left, Ran, Reaches, Runs, Signals}
use Rattle.c25_meaning_processor.specs.State.{State, StepResult, World}
use Rattle.c25_meaning_processor.specs.Step.{begun, executed, stepped}
use Rattle.c25_meaning_processor.specs.WordStep.{WordStep}
use Rattle.c25_image_laws.proofs.Fetched.{one_fetched}
use Rattle.c25_image_laws.proofs.Marked.{marked, outcome_marked, stepped_alike, world_marked}
use Rattle.c25_image_laws.specs.Agree.{Agree, Passes, IsByPlaces, unmarked}

-- ---- one step

-- a step that stops for its places of instructions
abbrev Stops : StepResult → Type 0
Stops o = (stop : Stop) × (o ≡ Err stop) × IsByPlaces stop

-- a step under other marks does the same, or one of both stops for its places
abbrev StepsAlike : List Mark → List RunMark → StepResult → StepResult → Type 0
StepsAlike ms rs o p = (p ≡ outcome_marked ms rs o) ⊎ (Stops o ⊎ Stops p)

-- where no instruction is found, a step stops, unless the processor sleeps
no_insn : (bio : Bool) (r : Registers) (w : World) → r.asleep ≡ false → stepped bio None r w ≡ Err OutOfCode
unfolding stepped
no_insn bio r w awake = ap (λ (b : Bool). if b then Ok (record { registers = r; world = w }) else Err OutOfCode) awake

asleep_goes_on : (bio : Bool) (i : Option Insn) (r : Registers) (w : World) → r.asleep ≡ true → stepped bio i r w ≡ Ok (record { registers = r; world = w })
unfolding stepped
asleep_goes_on bio i r w asleep = ap (λ (b : Bool). if b then Ok (record { registers = r; world = w }) else executed bio i r w) asleep

module _ (ms : List Mark) (rs : List RunMark) where
  -- of one instruction, or of none
  one_alike : (bio : Bool) (i : Option Insn) (r : Registers) (w : World) (o p : StepResult) → o ≡ stepped bio i r w → p ≡ stepped bio i r (world_marked ms rs w) → StepsAlike ms rs o p
  one_alike bio i r w o p is also = go (stepped_alike ms rs bio i r w)
    where
      go : (stepped bio i r (world_marked ms rs w) ≡ outcome_marked ms rs (stepped bio i r w)) ⊎ ((stepped bio i r w ≡ Err CodeWrite) ⊎ (stepped bio i r (world_marked ms rs w) ≡ Err CodeWrite)) → StepsAlike ms rs o p
      go (inl same) = inl (also ∙ same ∙ ap (outcome_marked ms rs) (sym is))
      go (inr (inl stops)) = inr (inl (CodeWrite, is ∙ stops, inr refl))
      go (inr (inr stops)) = inr (inr (CodeWrite, also ∙ stops, inr refl))

  -- of any two, one of which is none
  other_alike : (bio : Bool) (i j : Option Insn) (r : Registers) (w : World) (o p : StepResult) → (i ≡ None) ⊎ (j ≡ None) → o ≡ stepped bio i r w → p ≡ stepped bio j r (world_marked ms rs w) → StepsAlike ms rs o p
  other_alike bio i j r w o p none is also = go r.asleep refl none
    where
      go : (b : Bool) → r.asleep ≡ b → (i ≡ None) ⊎ (j ≡ None) → StepsAlike ms rs o p
      go true asleep none =
          inl (also ∙ asleep_goes_on bio j r (world_marked ms rs w) asleep ∙ ap (outcome_marked ms rs) (sym (is ∙ asleep_goes_on bio i r w asleep)))
      go false awake (inl none) = inr (inl (OutOfCode, is ∙ ap (λ (k : Option Insn). stepped bio k r w) none ∙ no_insn bio r w awake, inl refl))
      go false awake (inr none) = inr (inr (OutOfCode, also ∙ ap (λ (k : Option Insn). stepped bio k r (world_marked ms rs w)) none ∙ no_insn bio r (world_marked ms rs w) awake, inl refl))

  step_alike : (lines : Lines) (bio : Bool) (s : State) (o p : StepResult) → WordStep lines bio s o → WordStep lines bio (marked ms rs s) p → StepsAlike ms rs o p
  step_alike lines bio s o p (None, fetched, is) (j, other, also) = other_alike bio None j (begun lines s) s.world o p (inl refl) is also
  step_alike lines bio s o p (Some i, fetched, is) (None, other, also) = other_alike bio (Some i) None (begun lines s) s.world o p (inr refl) is also
  step_alike lines bio s o p (Some i, fetched, is) (Some j, other, also) =
      let r = begun lines s in
      let same = one_fetched ms rs r.cnf s.world r.pc i j fetched other in
      one_alike bio (Some i) r s.world o p is (also ∙ ap (λ (k : Insn). stepped bio (Some k) r (world_marked ms rs s.world)) (sym same))

-- ---- states that are the same but for marks

marked_is : (s t : State) → unmarked s ≡ unmarked t → marked t.world.marks t.world.run_marks s ≡ t
marked_is s t same = ap (marked t.world.marks t.world.run_marks) same

-- a step from each of two such states
steps_alike : (lines : Lines) (bio : Bool) (s t : State) (o p : StepResult) → unmarked s ≡ unmarked t → WordStep lines bio s o → WordStep lines bio t p → StepsAlike t.world.marks t.world.run_marks o p
steps_alike lines bio s t o p same first second =
    step_alike t.world.marks t.world.run_marks lines bio s o p first (subst (λ (x : State). WordStep lines bio x p) (sym (marked_is s t same)) second)

-- ---- runs

module _ (signals : Signals) (k : ℕ) where
  -- step j gives this result
  abbrev At : ℕ → State → StepResult → Type 0
  At j u o = WordStep (signals.lines j) (signals.bio j) u o

  go_alike : (ms : List Mark) (rs : List RunMark) (u v : State) → StepsAlike ms rs (Ok u) (Ok v) → unmarked u ≡ unmarked v
  go_alike ms rs u v (inl same) = let e : v ≡ marked ms rs u = cc in sym (ap unmarked e)
  go_alike ms rs u v (inr (inl (stop, stops, why))) = absurd (cc)
  go_alike ms rs u v (inr (inr (stop, stops, why))) = absurd (cc)

  pub states_alike : (n : ℕ) (s t u v : State) → unmarked s ≡ unmarked t → Reaches WordStep signals k n s u → Reaches WordStep signals k n t v → unmarked u ≡ unmarked v
  states_alike zero s t u v same p q = ap unmarked (sym p) ∙ same ∙ ap unmarked q
  states_alike (suc n) s t u v same (x, p, to_u) (y, q, to_v) =
      go_alike y.world.marks y.world.run_marks u v (steps_alike (signals.lines (k + n)) (signals.bio (k + n)) x y (Ok u) (Ok v) (states_alike n s t x y same p q) to_u to_v)

  -- each step of a run that has not stopped led on
  step_of : (n d : ℕ) (t v : State) → d < n → Reaches WordStep signals k n t v → (x y : State) × Reaches WordStep signals k d t x × At (k + d) x (Ok y)
  step_of zero d t v below reached = absurd (omega (arith, below))
  step_of (suc n) d t v below (x, reached, leads) =
      ⊎_elim
      (λ (earlier : d < n). step_of n d t x earlier reached)
      (λ last. let e : d ≡ n = omega (arith, below, last) in (x, v, subst (λ (m : ℕ). Reaches WordStep signals k m t x) (sym e) reached, subst (λ (m : ℕ). At (k + m) x (Ok v)) (sym e) leads))
      (cases_lt d n)

-- ---- where runs end

-- what laws of runs say of any run of words
pub record Laws : Type 0 where
  pub joined : (signals : Signals) (k m n : ℕ) (s t : State) (e : Ending) → Runs WordStep signals k m s (Ran t) → Runs WordStep signals (k + m) n t e ↔ Runs WordStep signals k (m + n) s e
  pub outputs : (signals : Signals) (k n : ℕ) (s t : State) → Reaches WordStep signals k n s t → (more : List (ℕ × ℕ)) × (t.world.outputs ≡ s.world.outputs ++ more) × (length more ≤ n)

-- of a step that stops and one that goes on, the first one stops for its places
stops_by : (ms : List Mark) (rs : List RunMark) (stop : Stop) (y : State) → StepsAlike ms rs (Err stop) (Ok y) → IsByPlaces stop
stops_by ms rs stop y (inl same) = absurd (cc)
stops_by ms rs stop y (inr (inl (by, is, places))) = let e : by ≡ stop = cc in subst IsByPlaces e places
stops_by ms rs stop y (inr (inr (by, is, places))) = absurd (cc)

-- of two steps that stop, both stop for the same reason, or one for its places
both_stop : (ms : List Mark) (rs : List RunMark) (a b : Stop) → StepsAlike ms rs (Err a) (Err b) → (a ≡ b) ⊎ (IsByPlaces a ⊎ IsByPlaces b)
both_stop ms rs a b (inl same) = let e : a ≡ b = cc in inl e
both_stop ms rs a b (inr (inl (by, is, places))) = let e : by ≡ a = cc in inr (inl (subst IsByPlaces e places))
both_stop ms rs a b (inr (inr (by, is, places))) = let e : by ≡ b = cc in inr (inr (subst IsByPlaces e places))

module _ (laws : Laws) (signals : Signals) (k : ℕ) where
  -- the outputs of a run begin with those of each state that it came to
  outputs_grow : (n d : ℕ) (t x v : State) → d ≤ n → Reaches WordStep signals k d t x → Reaches WordStep signals k n t v → (more : List (ℕ × ℕ)) × (v.world.outputs ≡ x.world.outputs ++ more)
  outputs_grow n d t x v le first all =
      let whole : n ≡ d + (n - d) = omega (arith, le) in
      let rest = (laws.joined signals k d (n - d) t x (Ran v) first).1 (subst (λ (m : ℕ). Reaches WordStep signals k m t v) whole all) in
      let grown = laws.outputs signals (k + d) (n - d) x v rest in
      (grown.0, grown.1)

  same_outputs : (x u : State) → unmarked x ≡ unmarked u → x.world.outputs ≡ u.world.outputs
  same_outputs x u same = ap (λ (y : State). y.world.outputs) same

  -- a run that goes on from the step in which another one stopped
  passes : (n m j : ℕ) (s t u v : State) (stop : Stop) → unmarked s ≡ unmarked t → (left : Leaves WordStep signals k n s j stop u) → left.done < m → Reaches WordStep signals k m t v → IsByPlaces stop × Passes signals k t v j u
  passes n m j s t u v stop same left below all =
      let here = step_of signals k m left.done t v below all in
      let x = here.0 in
      let y = here.1 in
      let alike = states_alike signals k left.done s t u x same left.reached here.2 in
      let stops = subst (λ (i : ℕ). At signals k i u (Err stop)) left.at left.stops in
      let grown = outputs_grow m left.done t x v (omega (arith, below)) here.2 all in
      let why = stops_by x.world.marks x.world.run_marks stop y (steps_alike (signals.lines (k + left.done)) (signals.bio (k + left.done)) u x (Err stop) (Ok y) alike stops here.3) in (
        why,
        record {
          done = left.done;
          at = left.at;
          passed = x;
          reached = here.2;
          same = sym alike;
          later = grown.0;
          outputs = grown.1 ∙ ap (λ (o : List (ℕ × ℕ)). o ++ grown.0) (same_outputs x u (sym alike));
        },
      )

  -- a run that stopped in the same step
  comes : (n m j i : ℕ) (s t u v : State) (stop other : Stop) → unmarked u ≡ unmarked v → (left : Leaves WordStep signals k n s j stop u) → (also : Leaves WordStep signals k m t i other v) → left.done ≡ also.done → Passes signals k t v j u
  comes n m j i s t u v stop other alike left also e =
      record {
        done = also.done;
        at = left.at ∙ ap (λ (d : ℕ). k + d) e;
        passed = v;
        reached = also.reached;
        same = sym alike;
        later = [];
        outputs = same_outputs v u (sym alike) ∙ sym (append-nil u.world.outputs);
      }

  -- both stopped in the same step
  stop_together : (n j i : ℕ) (s t u v : State) (a b : Stop) → unmarked s ≡ unmarked t → (left : Leaves WordStep signals k n s j a u) → (also : Leaves WordStep signals k n t i b v) → left.done ≡ also.done → Agree signals k s (Left j a u) t (Left i b v)
  stop_together n j i s t u v a b same left also e =
      let d = also.done in
      let there = subst (λ (m : ℕ). Reaches WordStep signals k m s u) e left.reached in
      let alike = states_alike signals k d s t u v same there also.reached in
      let at : j ≡ i = left.at ∙ ap (λ (m : ℕ). k + m) e ∙ sym also.at in
      let first = subst (λ (m : ℕ). At signals k m u (Err a)) (at ∙ also.at) left.stops in
      let second = subst (λ (m : ℕ). At signals k m v (Err b)) also.at also.stops in
      go (both_stop v.world.marks v.world.run_marks a b (steps_alike (signals.lines (k + d)) (signals.bio (k + d)) u v (Err a) (Err b) alike first second)) alike at
    where
      go : (a ≡ b) ⊎ (IsByPlaces a ⊎ IsByPlaces b) → unmarked u ≡ unmarked v → j ≡ i → Agree signals k s (Left j a u) t (Left i b v)
      go (inl stop) alike at = inl (cc)
      go (inr (inl why)) alike at = inr (inl (why, omega (arith, at), comes n n j i s t u v a b alike left also e))
      go (inr (inr why)) alike at = inr (inr (why, omega (arith, at), comes n n i j t s v u b a (sym alike) also left (sym e)))

  no_sooner : {i j c d : ℕ} → i ≡ k + c → j ≡ k + d → c < d → i ≤ j
  no_sooner p q less = omega (arith, p, q, less)

  left_alike : (n j i : ℕ) (s t u v : State) (a b : Stop) → unmarked s ≡ unmarked t → Leaves WordStep signals k n s j a u → Leaves WordStep signals k n t i b v → Agree signals k s (Left j a u) t (Left i b v)
  left_alike n j i s t u v a b same left also =
      ⊎_elim
      (λ (sooner : left.done < also.done).
      let first = passes n also.done j s t u v a same left sooner also.reached in
      inr (inl (first.0, no_sooner left.at also.at sooner, first.1)))
      (λ (not_sooner : also.done ≤ left.done).
      ⊎_elim
      (λ (later : also.done < left.done).
      let first = passes n left.done i t s v u b (sym same) also later left.reached in
      inr (inr (first.0, no_sooner also.at left.at later, first.1)))
      (λ (not_later : left.done ≤ also.done). let e : left.done ≡ also.done = omega (arith, not_sooner, not_later) in stop_together n j i s t u v a b same left also e)
      (cases_lt also.done left.done))
      (cases_lt left.done also.done)

pub ends_alike : Laws → (signals : Signals) (k n : ℕ) (s t : State) (one other : Ending) → unmarked s ≡ unmarked t → Runs WordStep signals k n s one → Runs WordStep signals k n t other → Agree signals k s one t other
ends_alike laws signals k n s t (Ran u) (Ran v) same p q = inl (ap Ran (states_alike signals k n s t u v same p q))
ends_alike laws signals k n s t (Left j a u) (Ran v) same p q = let first = passes laws signals k n n j s t u v a same p p.before q in inr (inl (first.0, tt, first.1))
ends_alike laws signals k n s t (Ran u) (Left j b v) same p q = let first = passes laws signals k n n j t s v u b (sym same) q q.before p in inr (inr (first.0, tt, first.1))
ends_alike laws signals k n s t (Left j a u) (Left i b v) same p q = left_alike laws signals k n j i s t u v a b same p q
