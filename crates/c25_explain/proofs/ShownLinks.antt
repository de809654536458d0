-- Which faults of linking are shown.
use Rattle.std.proofs.Common.{◌≡◌, ℕ, ◌<◌, ◌≤◌, Bool, true, false, cond, nat_lt, List, [], ◌∷◌, ◌++◌, length, map, take, Result, Ok, Err, OnOk, String, sym, ap, ◌∙◌, arith}
use Rattle.std.proofs.lemmas.Bool.Decides.{nat_tests}
use Rattle.std.proofs.lemmas.List.{append_assoc, append-nil, length-map, take-map, take_all}
use Rattle.std.specs.declared.alloc.Global.{Global}
use Rattle.c25_meaning_common.specs.declared.placed.Placed.{Placed}
use Rattle.c25_meaning_linking.specs.declared.link_fault.LinkFault.{LinkFault}
use Rattle.c25_meaning_objects.specs.Module.{Contents}
use Rattle.c25_place.specs.View.{refusal_of}
use Rattle.c25_explain.specs.Again.{NoteData, more_note, other_notes, shown_notes}

-- of more than 99 faults the first 99 are shown, and the note that stands for the rest
of_many : (explain : Bool) (names : List (List ℕ)) (modules : List Contents) (fs : List (Placed (String Global) LinkFault)) → 99 < length fs
    → shown_notes explain names modules (map refusal_of fs) ≡ other_notes explain names modules (map refusal_of (take 99 fs)) ++ (more_note ∷ [])
of_many explain names modules fs many =
    let mapped : List (Placed (List ℕ) LinkFault) = map refusal_of fs in
    let count : length mapped ≡ length fs = length-map fs refusal_of in
    let more : 99 < length mapped = omega (arith, many, count) in
    let test : nat_lt 99 (length mapped) ≡ true = grind (arith, nat_tests) in
    ap (λ b. other_notes explain names modules (take 99 mapped) ++ cond b (more_note ∷ []) []) test
    ∙ ap (λ (ls : List (Placed (List ℕ) LinkFault)). other_notes explain names modules ls ++ (more_note ∷ [])) (take-map refusal_of 99 fs)

-- of at most 99 faults all are shown
of_few : (explain : Bool) (names : List (List ℕ)) (modules : List Contents) (fs : List (Placed (String Global) LinkFault)) → length fs ≤ 99
    → shown_notes explain names modules (map refusal_of fs) ≡ other_notes explain names modules (map refusal_of fs)
of_few explain names modules fs few =
    let mapped : List (Placed (List ℕ) LinkFault) = map refusal_of fs in
    let count : length mapped ≡ length fs = length-map fs refusal_of in
    let all : length mapped ≤ 99 = omega (arith, few, count) in
    let test : nat_lt 99 (length mapped) ≡ false = grind (arith, nat_tests) in
    ap (λ b. other_notes explain names modules (take 99 mapped) ++ cond b (more_note ∷ []) []) test
    ∙ append-nil (other_notes explain names modules (take 99 mapped))
    ∙ ap (other_notes explain names modules) (take_all 99 mapped all)

pub many_shown : {T E : Type 0} (r : Result T E) (explain : Bool) (names : List (List ℕ)) (modules : List Contents) (fs shown : List (Placed (String Global) LinkFault)) (old mid new : List NoteData) → 99 < length fs → shown ≡ take 99 fs
    → mid ≡ old ++ other_notes explain names modules (map refusal_of shown) → OnOk r (new ≡ mid ++ (more_note ∷ [])) → OnOk r (new ≡ old ++ shown_notes explain names modules (map refusal_of fs))
many_shown (Ok x) explain names modules fs shown old mid new many first is told =
    told ∙ ap (λ (ns : List NoteData). ns ++ (more_note ∷ [])) is
    ∙ append_assoc old (other_notes explain names modules (map refusal_of shown)) (more_note ∷ [])
    ∙ ap (λ (ls : List (Placed (String Global) LinkFault)). old ++ (other_notes explain names modules (map refusal_of ls) ++ (more_note ∷ []))) first
    ∙ ap (λ (ns : List NoteData). old ++ ns) (sym (of_many explain names modules fs many))
many_shown (Err e) explain names modules fs shown old mid new many first is told = told

pub few_shown : {T E : Type 0} (r : Result T E) (explain : Bool) (names : List (List ℕ)) (modules : List Contents) (fs : List (Placed (String Global) LinkFault)) (old new : List NoteData) → length fs ≤ 99
    → OnOk r (new ≡ old ++ other_notes explain names modules (map refusal_of fs)) → OnOk r (new ≡ old ++ shown_notes explain names modules (map refusal_of fs))
few_shown (Ok x) explain names modules fs old new few told = told ∙ ap (λ (ns : List NoteData). old ++ ns) (sym (of_few explain names modules fs few))
few_shown (Err e) explain names modules fs old new few told = told
