-- Runs at the prompt are those of a board, with what looks at them where words are watched.
use Rattle.std.proofs.Common.{◌≡◌, ℕ, zero, suc, ◌+◌, ◌-◌, ◌^◌, ◌<◌, ◌≤◌, ◌==◌, min, Bool, true, false, cond, ◌&&◌, not, List, [], ◌∷◌, Option, Some, None, Result, Ok, Err, refl, sym, ap, subst, ◌∙◌, arith, eq-eqb, eqb-true}
use Rattle.std.proofs.Math.Nat.{le-min}
use Rattle.std.specs.Prelude.{find, is_some, option_map, ◌||◌, IfOk}
use Rattle.c25_board.specs.Run as runs
use Rattle.c25_board.specs.RunTo.{IsRunTo}
use Rattle.c25_board.specs.declared.board.Outcome.{Outcome}
use Rattle.c25_board.specs.declared.board.Outcome.TheVariants as outcome
use Rattle.c25_board.specs.declared.run_to.Halted.{Halted}
use Rattle.c25_board.specs.declared.run_to.Halted.TheVariants as halted
use Rattle.c25_board.specs.Observed.{IsSeenTo}
use Rattle.c25_board.proofs.SeenSteps.{stays_same}
use Rattle.c25_core.specs.Seen.{Sees}
use Rattle.c25_core.specs.Sink.{HasFailed}
use Rattle.c25_meaning_processor.specs.Goes as goes
use Rattle.c25_meaning_processor.specs.Goes.{is_met}
use Rattle.c25_meaning_processor.specs.Run.{Reaches, Signals, Stepping}
use Rattle.c25_meaning_processor.specs.Signals.{signals_of}
use Rattle.c25_meaning_processor.specs.State.{State}
use Rattle.c25_meaning_processor.specs.WordStep.{WordStep}
use Rattle.c25_meaning_processor.specs.declared.schedule.ScheduleEntry.{ScheduleEntry}
use Rattle.c25_prompt.specs.Runs.{Goes, Leaves, Passes, Passing, changed, may_go_on}
use Rattle.c25_prompt.specs.Seen.{AreTaken, GoesUnwatched, IsTaken, addresses, are_changed, ended_changed, ended_freely, ended_of, ended_watched, seen}
use Rattle.c25_prompt.specs.declared.ended.Ended.{Ended}
use Rattle.c25_prompt.specs.declared.ended.Ended.TheVariants as ended
use Rattle.c25_prompt.specs.declared.watched.Watched.{Watched}

true_not_false : true ≡ false → ⊥
true_not_false e = absurd (cc)

-- only where all steps were done more may follow
pub ran_is : (e : Ended) → may_go_on e ≡ true → e ≡ ended.Ran
ran_is ended.Ran goes = refl
ran_is ended.Met goes = absurd (true_not_false (sym goes))
ran_is (ended.Left stop) goes = absurd (true_not_false (sym goes))
ran_is (ended.Changed address old new) goes = absurd (true_not_false (sym goes))
ran_is ended.Full goes = absurd (true_not_false (sym goes))

-- ---- runs that watch nothing

never : (b : Bool) → (b && false) ≡ false
never true = refl
never false = refl

module _ (signals : Signals) (k : ℕ) (s : State) where
  unwatched : (breaks : List ℕ) (n : ℕ) (t : State) → goes.Passes WordStep signals breaks k n s t → Passes WordStep signals breaks [] k n s t
  unwatched breaks zero t same = same
  unwatched breaks (suc n) t (u, passed, steps, unmet) = (u, unwatched breaks n u passed, steps, unmet, refl)

  freely : (n : ℕ) (t : State) → Reaches WordStep signals k n s t → goes.Passes WordStep signals [] k n s t
  freely zero t same = same
  freely (suc n) t (u, reached, steps) = (u, freely n u reached, steps, never (not t.registers.repeating && not t.registers.asleep))

  -- a run to a breakpoint
  pub went_to : (breaks : List ℕ) (n j before now : ℕ) (t : State) (h : Halted) → IsTaken h → IsRunTo signals breaks k n s h j t before now → GoesUnwatched signals breaks k n s (ended_of h) j t
  went_to breaks n j before now t halted.Ran taken (run, same) = run
  went_to breaks n j before now t halted.Met taken (run, same) = run
  went_to breaks n j before now t (halted.Left at stop) taken (run, there, same) = run
  went_to breaks n j before now t (halted.SinkFault at) taken run = absurd taken

  -- a run without breakpoints
  pub went_freely : (n j before now : ℕ) (t : State) (o : Outcome) → AreTaken o → runs.IsRun signals k n s o j t before now → GoesUnwatched signals [] k n s (ended_freely o) j t
  went_freely n j before now t outcome.Ran taken (reached, at, same) = (freely n t reached, at)
  went_freely n j before now t (outcome.Left at stop) taken (left, there, same) = record {
    done = left.done;
    before = left.before;
    at = there ∙ left.at;
    passed = freely left.done t left.reached;
    stops = subst (λ (i : ℕ). WordStep (signals.lines i) (signals.bio i) t (Err stop)) (sym there) left.stops;
  }
  went_freely n j before now t (outcome.SinkFault at) taken run = absurd taken

  -- a run that watches nothing
  pub goes_unwatched : (breaks : List ℕ) (n j : ℕ) (t : State) (e : Ended) → GoesUnwatched signals breaks k n s e j t → Goes WordStep signals breaks [] k n s e j t
  goes_unwatched breaks n j t ended.Ran (passed, at) = (unwatched breaks n t passed, at)
  goes_unwatched breaks n j t ended.Met run = (
    run.last,
    record { done = run.done; before = run.before; at = run.at; passed = unwatched breaks run.done run.last run.passed; steps = run.steps },
    refl,
    run.met,
  )
  goes_unwatched breaks n j t (ended.Left stop) run = record { done = run.done; before = run.before; at = run.at; passed = unwatched breaks run.done t run.passed; stops = run.stops }
  goes_unwatched breaks n j t (ended.Changed address old new) run = absurd run
  goes_unwatched breaks n j t ended.Full run = absurd run

pub not_failed : (before now : ℕ) → HasFailed before now → now ≡ 0 → ⊥
not_failed before now failed none =
    let some : 1 ≤ min (before + 1) (2 ^ 64 - 1) = le-min (omega arith) (omega arith) in
    omega (arith, some, failed, none)

-- a sink that has not failed took all words
pub is_taken : (signals : Signals) (breaks : List ℕ) (k n j before now : ℕ) (s t : State) (h : Halted) → IsRunTo signals breaks k n s h j t before now → now ≡ 0 → IsTaken h
is_taken signals breaks k n j before now s t halted.Ran run none = tt
is_taken signals breaks k n j before now s t halted.Met run none = tt
is_taken signals breaks k n j before now s t (halted.Left at stop) run none = tt
is_taken signals breaks k n j before now s t (halted.SinkFault at) (done, few, at_is, passed, there, failed, puts) none = not_failed before now failed none

pub are_taken : (signals : Signals) (k n j before now : ℕ) (s t : State) (o : Outcome) → runs.IsRun signals k n s o j t before now → now ≡ 0 → AreTaken o
are_taken signals k n j before now s t outcome.Ran run none = tt
are_taken signals k n j before now s t (outcome.Left at stop) run none = tt
are_taken signals k n j before now s t (outcome.SinkFault at) (done, few, at_is, reached, there, failed, puts) none = not_failed before now failed none

-- how a run without breakpoints ended, of which no word was refused
pub freely_done : (signals : Signals) (k n j before now : ℕ) (s t : State) (o : Outcome) (e : Ended) → runs.IsRun signals k n s o j t before now → now ≡ 0 → e ≡ ended_freely o
    → GoesUnwatched signals [] k n s e j t
freely_done signals k n j before now s t o e run none is =
    subst (λ (x : Ended). GoesUnwatched signals [] k n s x j t) (sym is) (went_freely signals k s n j before now t o (are_taken signals k n j before now s t o run none) run)

-- a run with breakpoints where nothing is watched
pub unwatched_run : {E : Type 0} (signals : Signals) (breaks watches : List ℕ) (k n j : ℕ) (s t : State) (r : Result Ended E) → watches ≡ [] → IfOk r (λ e. GoesUnwatched signals breaks k n s e j t)
    → IfOk r (λ e. Goes WordStep signals breaks watches k n s e j t)
unwatched_run signals breaks watches k n j s t (Err e) none g = tt
unwatched_run signals breaks watches k n j s t (Ok e) none g = subst (λ (ws : List ℕ). Goes WordStep signals breaks ws k n s e j t) (sym none) (goes_unwatched signals k s breaks n j t e g)

-- a run where there are neither breakpoints nor watches
pub free_run : {E : Type 0} (signals : Signals) (breaks watches : List ℕ) (k n j : ℕ) (s t : State) (r : Result Ended E) → watches ≡ [] → breaks ≡ [] → IfOk r (λ e. GoesUnwatched signals [] k n s e j t)
    → IfOk r (λ e. Goes WordStep signals breaks watches k n s e j t)
free_run signals breaks watches k n j s t r none free g =
    subst (λ (bs : List ℕ). IfOk r (λ e. Goes WordStep signals bs watches k n s e j t)) (sym free) (unwatched_run signals [] watches k n j s t r none g)

-- ---- one step that is watched

some_not_none : (a : ℕ) → Some a ≡ None → ⊥
some_not_none a e = absurd (cc)

none_not_some : (a : ℕ) → None ≡ Some a → ⊥
none_not_some a e = absurd (cc)

-- what the first watched word that is another says of the first watched address whose word is another
pub first_is : (watches : List ℕ) (f g : ℕ → ℕ) → changed watches f g ≡ option_map (λ w. w.address) (find (λ w. not (g w.address == w.old)) (seen watches f))
first_is [] f g = refl
first_is (a ∷ more) f g = one_more (not (g a == f a)) a more f g (first_is more f g) where
  one_more : (b : Bool) (a : ℕ) (more : List ℕ) (f g : ℕ → ℕ) → changed more f g ≡ option_map (λ w. w.address) (find (λ w. not (g w.address == w.old)) (seen more f))
      → cond b (Some a) (changed more f g) ≡ option_map (λ w. w.address) (cond b (Some (record { address = a; old = f a })) (find (λ w. not (g w.address == w.old)) (seen more f)))
  one_more true a more f g e = refl
  one_more false a more f g e = e

-- the word of a watched address that was seen is the word that was there
abbrev pub IsOld : (ℕ → ℕ) → Option Watched → Type 0
IsOld f None = Unit {0}
IsOld f (Some w) = w.old ≡ f w.address

pub old_is : (watches : List ℕ) (f : ℕ → ℕ) (test : Watched → Bool) → IsOld f (find test (seen watches f))
old_is [] f test = tt
old_is (a ∷ more) f test = one_more (test (record { address = a; old = f a })) (old_is more f test) where
  one_more : (b : Bool) → IsOld f (find test (seen more f)) → IsOld f (cond b (Some (record { address = a; old = f a })) (find test (seen more f)))
  one_more true h = refl
  one_more false h = h

-- where no watched word is another, the words that are seen are the same
pub seen_same : (watches : List ℕ) (f g : ℕ → ℕ) → changed watches f g ≡ None → seen watches f ≡ seen watches g
seen_same [] f g none = refl
seen_same (a ∷ more) f g none = one_more (g a == f a) refl none (λ less. seen_same more f g less) where
  both : g a ≡ f a → seen more f ≡ seen more g → seen (a ∷ more) f ≡ seen (a ∷ more) g
  both same rest =
      let first : (x : ℕ) → Watched = λ x. record { address = a; old = x } in
      ap (λ x. first x ∷ seen more f) (sym same) ∙ ap (λ ws. first (g a) ∷ ws) rest

  one_more : (b : Bool) → (g a == f a) ≡ b → cond (not b) (Some a) (changed more f g) ≡ None → (changed more f g ≡ None → seen more f ≡ seen more g) → seen (a ∷ more) f ≡ seen (a ∷ more) g
  one_more true same less rest = both (eqb-true (g a) (f a) same) (rest less)
  one_more false same less rest = absurd (some_not_none a less)

-- nothing is changed between a memory and itself
unchanged : (watches : List ℕ) (f : ℕ → ℕ) → changed watches f f ≡ None
unchanged [] f = refl
unchanged (a ∷ more) f = ap (λ b. cond (not b) (Some a) (changed more f f)) (eq-eqb (f a) (f a) refl) ∙ unchanged more f

-- how a step ended, by the first of the watched words that is another
pub ended_by : (words found_in : ℕ → ℕ) (watched : List Watched) (e : Ended) (o : Option Watched) → found_in ≡ words → o ≡ find (λ w. not (found_in w.address == w.old)) watched
    → ended_changed words o e ≡ ended_watched words watched e
ended_by words found_in watched e o same found = ap (λ x. ended_changed words x e) (found ∙ ap (λ (g : ℕ → ℕ). find (λ w. not (g w.address == w.old)) watched) same)

-- the addresses of words that were seen
pub seen_at : (watches : List ℕ) (f : ℕ → ℕ) → addresses (seen watches f) ≡ watches
seen_at [] f = refl
seen_at (a ∷ more) f = ap (λ ws. a ∷ ws) (seen_at more f)

pub watched_at : (watched : List Watched) (watches : List ℕ) (f : ℕ → ℕ) → watched ≡ seen watches f → addresses watched ≡ watches
watched_at watched watches f is = ap addresses is ∙ seen_at watches f

pub watched_seen : (watched : List Watched) (watches : List ℕ) (f : ℕ → ℕ) → watched ≡ seen watches f → watched ≡ seen (addresses watched) f
watched_seen watched watches f is = is ∙ ap (λ ws. seen ws f) (sym (watched_at watched watches f is))

-- ---- a run that is watched

neither : (b c : Bool) → (b || c) ≡ false → (b ≡ false) × (c ≡ false)
neither false false e = (refl, refl)
neither false true e = absurd (true_not_false e)
neither true c e = absurd (true_not_false e)

none_found : (o : Option Watched) → is_some o ≡ false → o ≡ None
none_found None e = refl
none_found (Some w) e = absurd (true_not_false e)

none_mapped : (o : Option Watched) → option_map (λ w. w.address) o ≡ None → o ≡ None
none_mapped None e = refl
none_mapped (Some w) e = absurd (some_not_none w.address e)

-- where the words are those that were seen, the end of the run stays
still : (watched : List Watched) (f : ℕ → ℕ) (e : Ended) → watched ≡ seen (addresses watched) f → ended_watched f watched e ≡ e
still watched f e at =
    let watches = addresses watched in
    let test : Watched → Bool = λ w. not (f w.address == w.old) in
    let none : find test (seen watches f) ≡ None = none_mapped (find test (seen watches f)) (sym (first_is watches f f) ∙ unchanged watches f) in
    ap (λ ws. ended_changed f (find test ws) e) at ∙ ap (λ o. ended_changed f o e) none

module _ {O : Type 0} (tells : O → Option ℕ → O → Type 0) (ends : O → State → Bool) (keeps : (o p : O) (acts : Option ℕ) → tells o acts p → p ≡ o) (first : O) (breaks : List ℕ) (watched : List Watched)
    (is : (s : State) → ends first s ≡ (are_changed s.world.words watched || is_met breaks s)) (signals : Signals) (k : ℕ) (s : State) (given : watched ≡ seen (addresses watched) s.world.words) where
  tested : (n : ℕ) (last : Bool) (u t : State) (q : O) → Sees tells ends signals k n false s first u q → ends q t ≡ last → (are_changed t.world.words watched || is_met breaks t) ≡ last
  tested n last u t q sees as_ended = sym (is t) ∙ ap (λ x. ends x t) (sym (stays_same tells ends keeps signals k n false s u first q sees)) ∙ as_ended

  left_alone : (u t : State) → watched ≡ seen (addresses watched) u.world.words → are_changed t.world.words watched ≡ false → Leaves (addresses watched) u t
  left_alone u t at none =
      let f = u.world.words in
      let g = t.world.words in
      let test : Watched → Bool = λ w. not (g w.address == w.old) in
      let here : is_some (find test (seen (addresses watched) f)) ≡ false = subst (λ (ws : List Watched). is_some (find test ws) ≡ false) at none in
      first_is (addresses watched) f g ∙ ap (λ o. option_map (λ w. w.address) o) (none_found (find test (seen (addresses watched) f)) here)

  passed_seen : (n : ℕ) (t : State) (q : O) → Sees tells ends signals k n false s first t q → Passes WordStep signals breaks (addresses watched) k n s t × (watched ≡ seen (addresses watched) t.world.words)
  passed_seen zero t q (same, alike, ran) = (same, subst (λ (x : State). watched ≡ seen (addresses watched) x.world.words) same given)
  passed_seen (suc n) t q (u, p, sees, steps, as_told, as_ended) =
      let before = passed_seen n u p sees in
      let both = neither (are_changed t.world.words watched) (is_met breaks t) (tested n false u t p sees as_ended) in
      let alone = left_alone u t before.1 both.0 in (
        (u, before.0, steps, both.1, alone),
        before.1 ∙ seen_same (addresses watched) u.world.words t.world.words alone,
      )

  -- after the last step a breakpoint is met or a watched word is another
  last_seen : (n m j : ℕ) (u t : State) → m < n → j ≡ k + m + 1 → Passes WordStep signals breaks (addresses watched) k m s u → watched ≡ seen (addresses watched) u.world.words → WordStep (signals.lines (k + m)) (signals.bio (k + m)) u (Ok t)
      → (are_changed t.world.words watched || is_met breaks t) ≡ true → Goes WordStep signals breaks (addresses watched) k n s (ended_watched t.world.words watched ended.Met) j t
  last_seen n m j u t few count passes at steps has =
      let f = u.world.words in
      let g = t.world.words in
      let test : Watched → Bool = λ w. not (g w.address == w.old) in
      let watches = addresses watched in
      let passing : Passing WordStep signals breaks watches k n s j u t = record { done = m; before = few; at = count; passed = passes; steps = steps } in
      subst (λ (ws : List Watched). Goes WordStep signals breaks watches k n s (ended_changed g (find test ws) ended.Met) j t) (sym at)
      (go watches passing (find test (seen watches f)) (first_is watches f g) (old_is watches f test) (subst (λ (ws : List Watched). (is_some (find test ws) || is_met breaks t) ≡ true) at has))
    where
      go : (watches : List ℕ) → Passing WordStep signals breaks watches k n s j u t → (o : Option Watched) → changed watches u.world.words t.world.words ≡ option_map (λ w. w.address) o → IsOld u.world.words o → (is_some o || is_met breaks t) ≡ true
          → Goes WordStep signals breaks watches k n s (ended_changed t.world.words o ended.Met) j t
      go watches passing None none was met = (u, passing, none, met)
      go watches passing (Some w) found was met = (u, passing, found, was, refl)

  -- how a run ended that was watched, of which no word was refused
  pub run_seen : (n j failed fails : ℕ) (t : State) (q : O) (h : Halted) → fails ≡ 0 → IsSeenTo tells ends signals k n s first h j t q failed fails → Goes WordStep signals breaks (addresses watched) k n s (ended_watched t.world.words watched (ended_of h)) j t
  run_seen n j failed fails t q halted.Ran taken (sees, at, same) =
      let p = passed_seen n t q sees in
      subst (λ (e : Ended). Goes WordStep signals breaks (addresses watched) k n s e j t) (sym (still watched t.world.words ended.Ran p.1)) (p.0, at)
  run_seen n j failed fails t q halted.Met taken (zero, few, (stays, alike, ran), at, same) = absurd (true_not_false ran)
  run_seen n j failed fails t q halted.Met taken (suc m, few, (u, p, sees, steps, as_told, as_ended), at, same) =
      let before = passed_seen m u p sees in
      last_seen n m j u t (omega (arith, few)) (omega (arith, at)) before.0 before.1 steps (tested m true u t p sees as_ended)
  run_seen n j failed fails t q (halted.Left at stop) taken (done, few, number, sees, counted, stops, same) =
      let p = passed_seen done t q sees in
      let run : Goes WordStep signals breaks (addresses watched) k n s (ended.Left stop) j t =
      record {
        done = done;
        before = few;
        at = counted ∙ number;
        passed = p.0;
        stops = subst (λ (i : ℕ). WordStep (signals.lines i) (signals.bio i) t (Err stop)) (sym counted) stops;
      } in
      subst (λ (e : Ended). Goes WordStep signals breaks (addresses watched) k n s e j t) (sym (still watched t.world.words (ended.Left stop) p.1)) run
  run_seen n j failed fails t q (halted.SinkFault at) taken (done, few, number, sees, counted, fault, puts) = absurd (not_failed failed fails fault taken)

-- a sink that has not failed took all words of a run that was watched
pub seen_taken : {O : Type 0} (tells : O → Option ℕ → O → Type 0) (ends : O → State → Bool) (signals : Signals) (k n j failed fails : ℕ) (s t : State) (o p : O) (h : Halted) → IsSeenTo tells ends signals k n s o h j t p failed fails → fails ≡ 0 → IsTaken h
seen_taken tells ends signals k n j failed fails s t o p halted.Ran run none = tt
seen_taken tells ends signals k n j failed fails s t o p halted.Met run none = tt
seen_taken tells ends signals k n j failed fails s t o p (halted.Left at stop) run none = tt
seen_taken tells ends signals k n j failed fails s t o p (halted.SinkFault at) (done, few, number, sees, counted, fault, puts) none = absurd (not_failed failed fails fault none)
