-- Names, one after another, with the map that has their addresses.
use Rattle.std.proofs.Common.{◌≡◌, ℕ, suc, ◌+◌, ◌<◌, ◌≤◌, length, get_or, take, All, subst, Bool, true, false, ◌&&◌, ◌||◌, cond, not, List, [], ◌∷◌, ◌++◌, map, Option, Some, None, is_some, refl, sym, ap, ◌∙◌}
use Rattle.std.specs.Borrow.{Bor}
use Rattle.std.specs.HashMap.{HashMap}
use Rattle.std.specs.List.{AllByRecursion, list_any}
use Rattle.std.specs.Map.{lookup}
use Rattle.std.specs.Str.{bytes_eq}
use Rattle.std.proofs.lemmas.List.{map-append, take_all, take_more}
use Rattle.std.proofs.lemmas.List.Elements.{All-push}
use Rattle.std.proofs.lemmas.Slice.Eq.{bytes_eq-Decides}
use Rattle.c25_buildable.specs.Places.{AreNames, HaveTargets, IsOwn, IsTable, found_in, place_view, places_view}
use Rattle.c25_buildable.specs.declared.names.NamedPlace.{NamedPlace}
use Rattle.c25_layout.specs.Buildable.{RunsFit}
use Rattle.c25_layout.specs.declared.layout.Part.{Part}
use Rattle.c25_meaning_assembly.specs.Sections.{are_distinct, is_in}

same_name : (a b : List ℕ) → bytes_eq a b ≡ true → a ≡ b
same_name a b = (bytes_eq-Decides a b).0

turned : (a b : List ℕ) → bytes_eq a b ≡ bytes_eq b a
turned a b = go (bytes_eq a b) (bytes_eq b a) refl refl
  where
    go : (t u : Bool) → bytes_eq a b ≡ t → bytes_eq b a ≡ u → bytes_eq a b ≡ bytes_eq b a
    go true true e f = e ∙ sym f
    go false false e f = e ∙ sym f
    go true false e f = let same = (bytes_eq-Decides b a).1 (sym (same_name a b e)) in absurd (cc)
    go false true e f = let same = (bytes_eq-Decides a b).1 (sym (same_name b a f)) in absurd (cc)

-- ---- one name more

abbrev Names : Type 0
Names = List (List ℕ × ℕ)

found_more : (name : List ℕ) (ns : Names) (x : List ℕ × ℕ) → lookup (bytes_eq x.0) ns ≡ None → lookup (bytes_eq name) (ns ++ x ∷ []) ≡ cond (bytes_eq x.0 name) (Some x.1) (lookup (bytes_eq name) ns)
found_more name [] x none = ap (λ (b : Bool). cond b (Some x.1) None) (turned name x.0)
found_more name (n ∷ ns) x none = go (bytes_eq name n.0) (bytes_eq x.0 n.0) refl refl none (found_more name ns x)
  where
    go : (t u : Bool) → bytes_eq name n.0 ≡ t → bytes_eq x.0 n.0 ≡ u → cond u (Some n.1) (lookup (bytes_eq x.0) ns) ≡ None
        → (lookup (bytes_eq x.0) ns ≡ None → lookup (bytes_eq name) (ns ++ x ∷ []) ≡ cond (bytes_eq x.0 name) (Some x.1) (lookup (bytes_eq name) ns))
        → cond t (Some n.1) (lookup (bytes_eq name) (ns ++ x ∷ [])) ≡ cond (bytes_eq x.0 name) (Some x.1) (cond t (Some n.1) (lookup (bytes_eq name) ns))
    go t true e f gone rest = absurd (cc)
    go false false e f gone rest = rest gone
    go true false e f gone rest = other (bytes_eq x.0 name) refl
      where
        other : (b : Bool) → bytes_eq x.0 name ≡ b → Some n.1 ≡ cond b (Some x.1) (Some n.1)
        other false g = refl
        other true g = let same = (bytes_eq-Decides x.0 n.0).1 (same_name x.0 name g ∙ same_name name n.0 e) in absurd (cc)

all_more : (ns : Names) (x : List ℕ × ℕ) → AllByRecursion IsOwn ns → IsOwn x → AllByRecursion IsOwn (ns ++ x ∷ [])
all_more [] x all own = (own, tt)
all_more (n ∷ ns) x all own = (all.0, all_more ns x all.1 own)

-- a name that is not found is none of them
not_in : (ns : Names) (name : List ℕ) → lookup (bytes_eq name) ns ≡ None → is_in (map (λ n. n.0) ns) name ≡ false
not_in [] name none = refl
not_in (n ∷ ns) name none = go (bytes_eq name n.0) none (not_in ns name)
  where
    go : (t : Bool) → cond t (Some n.1) (lookup (bytes_eq name) ns) ≡ None → (lookup (bytes_eq name) ns ≡ None → is_in (map (λ n. n.0) ns) name ≡ false) → (t || is_in (map (λ n. n.0) ns) name) ≡ false
    go true gone rest = absurd (cc)
    go false gone rest = rest gone

either : (a b : Bool) → (a || b) ≡ false → (a ≡ false) × (b ≡ false)
either true b e = absurd (cc)
either false b e = (refl, e)

both : (a b : Bool) → (a && b) ≡ true → (a ≡ true) × (b ≡ true)
both true b e = (refl, e)
both false b e = absurd (cc)

in_more : (ns : Names) (x : List ℕ × ℕ) (name : List ℕ) → is_in (map (λ n. n.0) (ns ++ x ∷ [])) name ≡ (is_in (map (λ n. n.0) ns) name || bytes_eq name x.0)
in_more [] x name = go (bytes_eq name x.0)
  where
    go : (b : Bool) → (b || false) ≡ b
    go true = refl
    go false = refl
in_more (n ∷ ns) x name = go (bytes_eq name n.0) (in_more ns x name)
  where
    go : (t : Bool) → is_in (map (λ n. n.0) (ns ++ x ∷ [])) name ≡ (is_in (map (λ n. n.0) ns) name || bytes_eq name x.0) → (t || is_in (map (λ n. n.0) (ns ++ x ∷ [])) name) ≡ ((t || is_in (map (λ n. n.0) ns) name) || bytes_eq name x.0)
    go true e = refl
    go false e = e

apart_more : (ns : Names) (x : List ℕ × ℕ) → are_distinct (map (λ n. n.0) ns) ≡ true → is_in (map (λ n. n.0) ns) x.0 ≡ false → are_distinct (map (λ n. n.0) (ns ++ x ∷ [])) ≡ true
apart_more [] x apart new = refl
apart_more (n ∷ ns) x apart new =
    let here = both (not (is_in (map (λ n. n.0) ns) n.0)) (are_distinct (map (λ n. n.0) ns)) apart in
    let other = either (bytes_eq x.0 n.0) (is_in (map (λ n. n.0) ns) x.0) new in
    let rest = apart_more ns x here.1 other.1 in
    let away : bytes_eq n.0 x.0 ≡ false = turned n.0 x.0 ∙ other.0 in
    (λ i. not (in_more ns x n.0 i) && rest i) ∙ (λ i. not (is_in (map (λ n. n.0) ns) n.0 || away i) && true) ∙ go (is_in (map (λ n. n.0) ns) n.0) here.0
  where
    go : (b : Bool) → not b ≡ true → (not (b || false) && true) ≡ true
    go true e = absurd (cc)
    go false e = refl

pub table_more : {S T : Type 0} (m : HashMap (Bor (List ℕ)) ℕ S) (n : HashMap (Bor (List ℕ)) ℕ T) (ns : Names) (x : List ℕ × ℕ) → IsTable m ns → IsOwn x → found_in m x.0 ≡ None
    → ((name : List ℕ) → found_in n name ≡ cond (bytes_eq x.0 name) (Some x.1) (found_in m name)) → IsTable n (ns ++ x ∷ [])
table_more m n ns x table own fresh next =
    let none : lookup (bytes_eq x.0) ns ≡ None = sym (table.found x.0) ∙ fresh in
    record {
      found = λ name. next name ∙ ap (cond (bytes_eq x.0 name) (Some x.1)) (table.found name) ∙ sym (found_more name ns x none);
      own = all_more ns x table.own own;
      apart = apart_more ns x table.apart (not_in ns x.0 none);
    }

-- ---- the names of a list, one after another

pub view_more : (places : List NamedPlace) (i : ℕ) (p : NamedPlace) → i < length places → p ≡ get_or places i p → places_view (take (i + 1) places) ≡ places_view (take i places) ++ place_view p ∷ []
view_more places i p lt is = ap places_view (take_more places i p lt ∙ ap (λ (q : NamedPlace). take i places ++ q ∷ []) (sym is)) ∙ map-append place_view (take i places) (p ∷ [])

pub not_found : {A : Type 0} (o : Option A) → is_some o ≡ false → o ≡ None
not_found None e = refl
not_found (Some x) e = absurd cc

-- names and parts are in order
pub names_are : {S : Type 0} (m : HashMap (Bor (List ℕ)) ℕ S) (ns : Names) (parts : List Part) → IsTable m ns → RunsFit parts → HaveTargets ns parts → AreNames ns parts
names_are m ns parts table runs targets = record { own = table.own; apart = table.apart; targets = targets; runs = runs }

-- ---- loops

pub all_so_far : {A : Type 0} (P : A → Type 0) (xs : List A) (i : ℕ) (x : A) → i < length xs → x ≡ get_or xs i x → All P (take i xs) → P x → All P (take (i + 1) xs)
all_so_far {A = A} P xs i x lt is all here = subst (λ (ys : List A). All P ys) (sym (take_more xs i x lt ∙ ap (λ (y : A). take i xs ++ y ∷ []) (sym is))) (All-push P (take i xs) x all here)

pub all_done : {A : Type 0} (P : A → Type 0) (xs : List A) (i : ℕ) → length xs ≤ i → All P (take i xs) → All P xs
all_done {A = A} P xs i past all = subst (λ (ys : List A). All P ys) (take_all i xs past) all
