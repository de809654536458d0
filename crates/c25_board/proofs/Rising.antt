-- The steps of a schedule that is read do not fall.
use Rattle.std.proofs.Common.{◌≡◌, ◌∙◌, ap, refl, ℕ, suc, ◌-◌, ◌≤◌, arith, Bool, true, false, List, [], ◌∷◌, ◌++◌, length, Option, Some, None, Ok, option_map, unwrap_or, nat_lt, if◌then◌else◌}
use Rattle.std.specs.Prelude.{slice_get}
use Rattle.std.specs.Str.Lines.{lines}
use Rattle.std.proofs.lemmas.Bool.{ltb-false}
use Rattle.c25_meaning_processor.specs.declared.schedule.ScheduleEntry.{ScheduleEntry}
use Rattle.c25_meaning_processor.specs.declared.schedule.Event.{Event}
use Rattle.c25_meaning_common.specs.Digits.{decimal_of}
use Rattle.c25_meaning_processor.specs.Schedule.{event_of, last_step, timed, entry_of, schedule_of}
use Rattle.c25_meaning_common.proofs.ItemsHold.{items_hold}
use Rattle.c25_board.specs.ScheduleRises.{RisesFrom}

-- the last step, found from the front
last_from : ℕ → List ScheduleEntry → ℕ
last_from step [] = step
last_from step (entry ∷ rest) = last_from entry.step rest

behind : (entry : ScheduleEntry) (rest : List ScheduleEntry) → unwrap_or (option_map (λ (e : ScheduleEntry). e.step) (slice_get (entry ∷ rest) (length (entry ∷ rest) - 1))) 0 ≡ last_from entry.step rest
unfolding last_from
behind entry [] = refl
behind entry (next ∷ rest) =
    let place : length (entry ∷ next ∷ rest) - 1 ≡ suc (length (next ∷ rest) - 1) = omega arith in
    ap (λ (k : ℕ). unwrap_or (option_map (λ (e : ScheduleEntry). e.step) (slice_get (entry ∷ next ∷ rest) k)) 0) place ∙ behind next rest

last_is : (before : List ScheduleEntry) → last_step before ≡ last_from 0 before
unfolding last_from
last_is [] = refl
last_is (entry ∷ rest) = behind entry rest

one_more : (step : ℕ) (before : List ScheduleEntry) (a : ScheduleEntry) → RisesFrom step before → last_from step before ≤ a.step → RisesFrom step (before ++ a ∷ [])
unfolding last_from
one_more step [] a rises h = (h, tt)
one_more step (entry ∷ before) a rises h = (rises.0, one_more entry.step before a rises.1 h)

in_time : (last step : ℕ) (event : Event) (late : Bool) (a : ScheduleEntry) → (late ≡ false → last ≤ step) → (if late then None else Some (let e : ScheduleEntry = record { step = step; event = event } in e)) ≡ Some a → last ≤ a.step
in_time last step event true a h is = absurd (cc)
in_time last step event false a h is =
    let e : ScheduleEntry = record { step = step; event = event } in
    let same : e ≡ a = cc in
    let steps = ap (λ (x : ScheduleEntry). x.step) same in
    let low = h refl in omega (arith, steps, low)

not_before : (last : ℕ) (step : Option ℕ) (event : Option Event) (a : ScheduleEntry) → timed last step event ≡ Some a → last ≤ a.step
not_before last None event a h = absurd (cc)
not_before last (Some step) None a h = absurd (cc)
not_before last (Some step) (Some event) a h = in_time last step event (nat_lt step last) a (λ e. ltb-false step last e) h

one_entry : (before : List ScheduleEntry) (words : List (List ℕ)) (a : ScheduleEntry) → RisesFrom 0 before → entry_of before words ≡ Some a → RisesFrom 0 (before ++ a ∷ [])
one_entry before [] a rises h = absurd (cc)
one_entry before (step ∷ []) a rises h = absurd (cc)
one_entry before (step ∷ event ∷ []) a rises h =
    let low = not_before (last_step before) (decimal_of 4294967295 step) (event_of event) a h in
    let last = last_is before in
    one_more 0 before a rises (omega (arith, low, last))
one_entry before (step ∷ event ∷ more ∷ rest) a rises h = absurd (cc)

pub rises : (text : List ℕ) (entries : List ScheduleEntry) → schedule_of text ≡ Ok entries → RisesFrom 0 entries
rises text entries h = items_hold (RisesFrom 0) entry_of one_entry [] entries 1 (lines text) tt h
