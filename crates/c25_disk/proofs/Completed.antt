-- Sources that are read one by one.
use Rattle.std.proofs.Common.{◌≡◌, inl, inr, sym, refl, ℕ, ◌+◌, ◌<◌, ◌≤◌, List, [], length, map, drop, get_or, subst}
use Rattle.std.proofs.lemmas.List.{drop_more, drop_all}
use Rattle.std.specs.Borrow.{Bor}
use Rattle.std.specs.Prelude.{Result, Ok, Err, String}
use Rattle.std.specs.declared.alloc.Global.{Global}
use Rattle.c25_meaning_expansion.specs.Files.{Files}
use Rattle.c25_meaning_common.specs.declared.failure.Failure.{Failure}
use Rattle.c25_meaning_common.specs.declared.placed.Placed.{Placed}
use Rattle.c25_disk.specs.declared.fault.FileFault.{FileFault}
use Rattle.c25_disk.specs.Held.{Held, AddsSource, ReadsSources, IsOfFile, source_fault}

abbrev pub Answer : Type 0
Answer = Result Files (Failure (Placed (String Global) FileFault))

-- the names from a place on
abbrev pub rest_of : List (Bor (List ℕ)) → ℕ → List (List ℕ)
rest_of names i = map (λ name. name.now) (drop i names)

-- reading the rest after these files completes the reading of all
abbrev pub Completes : Held → List (Bor (List ℕ)) → Files → ℕ → Type 0
Completes held names files i = (answer : Answer) → ReadsSources held files (rest_of names i) answer → ReadsSources held [] (map (λ name. name.now) names) answer

pub completes_none : (held : Held) (names : List (Bor (List ℕ))) (files : Files) → files ≡ [] → Completes held names files 0
completes_none held names files none answer reads = subst (λ f. ReadsSources held f (map (λ name. name.now) names) answer) none reads

step : (held : Held) (names : List (Bor (List ℕ))) (files after : Files) (i : ℕ) (d : Bor (List ℕ)) (answer : Answer) → i < length names → AddsSource held files after (get_or names i d).now (Ok tt) → ReadsSources held after (rest_of names (i + 1)) answer → ReadsSources held files (rest_of names i) answer
step held names files after i d answer low added reads =
    subst (λ xs. ReadsSources held files (map (λ name. name.now) xs) answer) (sym (drop_more names i d low))
    (inr (added.0, added.1, added.2, subst (λ f. ReadsSources held f (rest_of names (i + 1)) answer) added.3 reads))

pub completes_more : (held : Held) (names : List (Bor (List ℕ))) (files after : Files) (i : ℕ) (d : Bor (List ℕ)) → i < length names → AddsSource held files after (get_or names i d).now (Ok tt) → Completes held names files i → Completes held names after (i + 1)
completes_more held names files after i d low added so_far answer reads = so_far answer (step held names files after i d answer low added reads)

pub ends_refused : (held : Held) (names : List (Bor (List ℕ))) (files : Files) (i : ℕ) (d : Bor (List ℕ)) (fault : Failure (Placed (String Global) FileFault)) → i < length names → IsOfFile (get_or names i d).now (source_fault files (get_or names i d).now) fault → Completes held names files i → ReadsSources held [] (map (λ name. name.now) names) (Err fault)
ends_refused held names files i d fault low refused so_far =
    so_far (Err fault) (subst (λ xs. ReadsSources held files (map (λ name. name.now) xs) (Err fault)) (sym (drop_more names i d low)) (inl (refused, tt)))

pub ends_read : (held : Held) (names : List (Bor (List ℕ))) (files : Files) (i : ℕ) → length names ≤ i → Completes held names files i → ReadsSources held [] (map (λ name. name.now) names) (Ok files)
ends_read held names files i high so_far =
    so_far (Ok files) (subst (λ (xs : List (Bor (List ℕ))). ReadsSources held files (map (λ name. name.now) xs) (Ok files)) (sym (drop_all i names high)) (let same : Ok files ≡ Ok files = refl in same))
