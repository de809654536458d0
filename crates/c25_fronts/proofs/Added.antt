-- Fronts that are added one by one.
use Rattle.std.proofs.Common.{◌≡◌, inl, inr, sym, refl, ℕ, ◌+◌, ◌<◌, ◌≤◌, ◌++◌, ◌∷◌, List, [], length, map, drop, get_or, subst}
use Rattle.std.proofs.lemmas.List.{drop_more, drop_all}
use Rattle.std.specs.Prelude.{Result, Ok, Err, String}
use Rattle.std.specs.declared.alloc.Global.{Global}
use Rattle.c25_meaning_expansion.specs.Files.{Files}
use Rattle.c25_meaning_common.specs.declared.failure.Failure.{Failure}
use Rattle.c25_meaning_common.specs.declared.placed.Placed.{Placed}
use Rattle.c25_disk.specs.declared.fault.FileFault.{FileFault}
use Rattle.c25_fronts.specs.Adding.{AddsFront, AddsFronts, IsTaken}
use Rattle.c25_fronts.specs.Fronts.{entry_of}
use Rattle.c25_fronts.specs.declared.front.Front.{Front}

abbrev pub Answer : Type 0
Answer = Result Files (Failure (Placed (String Global) FileFault))

-- the fronts from a place on
abbrev pub rest_of : List Front → ℕ → Files
rest_of fronts i = map entry_of (drop i fronts)

-- adding the rest after these files completes the adding of all
abbrev pub Completes : Files → List Front → Files → ℕ → Type 0
Completes sources fronts files i = (answer : Answer) → AddsFronts files (rest_of fronts i) answer → AddsFronts sources (map entry_of fronts) answer

pub completes_none : (sources : Files) (fronts : List Front) (files : Files) → files ≡ sources → Completes sources fronts files 0
completes_none sources fronts files same answer adds = subst (λ f. AddsFronts f (map entry_of fronts) answer) same adds

step : (fronts : List Front) (files after : Files) (i : ℕ) (d : Front) (answer : Answer) → i < length fronts → AddsFront files after (entry_of (get_or fronts i d)) (Ok tt) → AddsFronts after (rest_of fronts (i + 1)) answer → AddsFronts files (rest_of fronts i) answer
step fronts files after i d answer low added adds =
    subst (λ xs. AddsFronts files (map entry_of xs) answer) (sym (drop_more fronts i d low))
    (inr (added.0, subst (λ f. AddsFronts f (rest_of fronts (i + 1)) answer) added.1 adds))

pub completes_more : (sources : Files) (fronts : List Front) (files after : Files) (i : ℕ) (d : Front) → i < length fronts → AddsFront files after (entry_of (get_or fronts i d)) (Ok tt) → Completes sources fronts files i → Completes sources fronts after (i + 1)
completes_more sources fronts files after i d low added so_far answer adds = so_far answer (step fronts files after i d answer low added adds)

pub ends_refused : (sources : Files) (fronts : List Front) (files : Files) (i : ℕ) (d : Front) (fault : Failure (Placed (String Global) FileFault)) → i < length fronts → IsTaken files (entry_of (get_or fronts i d)).0 fault → Completes sources fronts files i → AddsFronts sources (map entry_of fronts) (Err fault)
ends_refused sources fronts files i d fault low refused so_far =
    so_far (Err fault) (subst (λ xs. AddsFronts files (map entry_of xs) (Err fault)) (sym (drop_more fronts i d low)) (inl (refused, tt)))

pub ends_added : (sources : Files) (fronts : List Front) (files : Files) (i : ℕ) → length fronts ≤ i → Completes sources fronts files i → AddsFronts sources (map entry_of fronts) (Ok files)
ends_added sources fronts files i high so_far =
    so_far (Ok files) (subst (λ (xs : List Front). AddsFronts files (map entry_of xs) (Ok files)) (sym (drop_all i fronts high)) (let same : Ok files ≡ Ok files = refl in same))
