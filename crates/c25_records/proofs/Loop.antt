-- Reading records one after the other, as a loop does.
use Rattle.std.proofs.Common.{◌≡◌, ℕ, suc, ◌-◌, ◌+◌, ◌<◌, true, false, not, cond, eqb, List, Result, Ok, Err, refl, sym, ap, ◌∙◌, arith}
use Rattle.c25_meaning_objects.specs.declared.object.ObjectFault.{ObjectFault}
use Rattle.c25_meaning_objects.specs.declared.object.ObjectFault.TheVariants.{BadTag}
use Rattle.c25_meaning_common.specs.declared.failure.Failure.{Failure}
use Rattle.c25_meaning_common.specs.declared.failure.Failure.TheVariants.{NoMemory, Fault}
use Rattle.c25_meaning_objects.specs.Module.{Contents}
use Rattle.c25_meaning_common.specs.Results.{◌>>=◌, Fails}
use Rattle.c25_meaning_objects.specs.RecordReading.{Record, record_at, is_in_order, ended, with_record, read_from}

-- what is done with a record
abbrev pub after_record : ℕ → Contents → Record × List ℕ → Result Contents ObjectFault
after_record n c found =
    cond (not (is_in_order c found.0.tag)) (Err BadTag)
    (cond (eqb found.0.tag 255) (ended c found.0.payload found.1)
    (with_record c found.0.tag found.0.payload >>= λ d. read_from n d found.1))

pub next_turn : (n : ℕ) (c : Contents) (bytes : List ℕ) → read_from (suc n) c bytes ≡ (record_at bytes >>= after_record n c)
unfolding read_from
next_turn n c bytes = refl

turn : (n i : ℕ) (c : Contents) (bytes : List ℕ) (total : Result Contents ObjectFault) → i < n → read_from (n - i) c bytes ≡ total → (record_at bytes >>= after_record (n - (i + 1)) c) ≡ total
turn n i c bytes total lt so_far =
    let k : n - i ≡ suc (n - (i + 1)) = omega arith in
    sym (next_turn (n - (i + 1)) c bytes) ∙ ap (λ (m : ℕ). read_from m c bytes) (sym k) ∙ so_far

-- the record of a turn
turn_at : (n i : ℕ) (c : Contents) (bytes : List ℕ) (found : Record × List ℕ) (total : Result Contents ObjectFault) → i < n → record_at bytes ≡ Ok found → read_from (n - i) c bytes ≡ total → after_record (n - (i + 1)) c found ≡ total
turn_at n i c bytes found total lt h so_far = rw h at (turn n i c bytes total lt so_far)

pub no_record : (e : Failure ObjectFault) (n i : ℕ) (c : Contents) (bytes : List ℕ) (total : Result Contents ObjectFault) → i < n → Fails (record_at bytes) e → read_from (n - i) c bytes ≡ total → Fails total e
no_record (NoMemory m) n i c bytes total lt h so_far = tt
no_record (Fault f) n i c bytes total lt h so_far = sym (rw h at (turn n i c bytes total lt so_far))

pub out_of_order : (n i : ℕ) (c : Contents) (bytes : List ℕ) (found : Record × List ℕ) (total : Result Contents ObjectFault) → i < n → record_at bytes ≡ Ok found → is_in_order c found.0.tag ≡ false → read_from (n - i) c bytes ≡ total → total ≡ Err BadTag
out_of_order n i c bytes found total lt h order so_far = sym (rw order at (turn_at n i c bytes found total lt h so_far))

pub at_end : (n i : ℕ) (c : Contents) (bytes : List ℕ) (found : Record × List ℕ) (total : Result Contents ObjectFault) → i < n → record_at bytes ≡ Ok found → is_in_order c found.0.tag ≡ true → found.0.tag ≡ 255 → read_from (n - i) c bytes ≡ total → total ≡ ended c found.0.payload found.1
at_end n i c bytes found total lt h order last so_far =
    let test : eqb found.0.tag 255 ≡ true = rw last refl in
    sym (rw (order, test) at (turn_at n i c bytes found total lt h so_far))

-- a record within the lists
inner : (n i : ℕ) (c : Contents) (bytes : List ℕ) (found : Record × List ℕ) (total : Result Contents ObjectFault) → i < n → record_at bytes ≡ Ok found → is_in_order c found.0.tag ≡ true → eqb found.0.tag 255 ≡ false → read_from (n - i) c bytes ≡ total
    → (with_record c found.0.tag found.0.payload >>= λ d. read_from (n - (i + 1)) d found.1) ≡ total
inner n i c bytes found total lt h order test so_far = rw (order, test) at (turn_at n i c bytes found total lt h so_far)

pub not_added : (e : Failure ObjectFault) (n i : ℕ) (c : Contents) (bytes : List ℕ) (found : Record × List ℕ) (total : Result Contents ObjectFault) → i < n → record_at bytes ≡ Ok found → is_in_order c found.0.tag ≡ true → eqb found.0.tag 255 ≡ false
    → Fails (with_record c found.0.tag found.0.payload) e → read_from (n - i) c bytes ≡ total → Fails total e
not_added (NoMemory m) n i c bytes found total lt h order test bad so_far = tt
not_added (Fault f) n i c bytes found total lt h order test bad so_far = sym (rw bad at (inner n i c bytes found total lt h order test so_far))

pub goes_on : (n i : ℕ) (c d : Contents) (bytes : List ℕ) (found : Record × List ℕ) (total : Result Contents ObjectFault) → i < n → record_at bytes ≡ Ok found → is_in_order c found.0.tag ≡ true → eqb found.0.tag 255 ≡ false
    → with_record c found.0.tag found.0.payload ≡ Ok d → read_from (n - i) c bytes ≡ total → read_from (n - (i + 1)) d found.1 ≡ total
goes_on n i c d bytes found total lt h order test good so_far = rw good at (inner n i c bytes found total lt h order test so_far)
