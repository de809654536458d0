-- Names, each once, one more at a time.
use Rattle.std.proofs.Common.{◌≡◌, ℕ, Bool, true, false, not, ◌||◌, cond, List, [], ◌∷◌, ◌++◌, refl, sym, ap, subst, ◌∙◌, append_assoc}
use Rattle.std.specs.Borrow.{Bor}
use Rattle.std.specs.List.{list_any}
use Rattle.std.specs.Str.{bytes_eq}
use Rattle.std.proofs.lemmas.List.{append-nil, map-append}
use Rattle.c25_meaning_linking.specs.GoodMap.{is_among}
use Rattle.c25_place.specs.Requests.{HasNames}
use Rattle.c25_place.proofs.Asked.{name_new, name_seen, names_more}
use Rattle.c25_place.proofs.Listed.{name_is_new, names_inserted}
use Rattle.c25_link_faults.specs.View.{HasFirst, names_view}
use Rattle.c25_link_faults.specs.declared.names.FirstNames.{FirstNames}

-- the set with one more name
pub set_more : (k : Bor (List ℕ)) (old new : List (Bor (List ℕ))) (listed : List (List ℕ)) → HasNames (names_view old) listed → new ≡ cond (list_any (λ x. bytes_eq k.now x.now) old) old (old ++ k ∷ [])
    → HasNames (names_view new) (listed ++ k.now ∷ [])
set_more k old new listed has is = names_more (names_view old) (names_view new) listed k.now has (names_inserted k old new (names_view old) is refl)

-- a name that is passed
pub passed : (old new : FirstNames) (k : Bor (List ℕ)) (before : List (List ℕ)) → HasFirst old before [] → new.seen.keys ≡ cond (list_any (λ x. bytes_eq k.now x.now) old.seen.keys) old.seen.keys (old.seen.keys ++ k ∷ []) → new.list ≡ old.list
    → HasFirst new (before ++ k.now ∷ []) []
passed old new k before has is same = record {
  seen = subst (HasNames (names_view new.seen.keys)) (sym (append-nil (before ++ k.now ∷ []))) (set_more k old.seen.keys new.seen.keys before (subst (HasNames (names_view old.seen.keys)) (append-nil before) has.seen) is);
  list = ap (λ v. names_view v.items) same ∙ has.list;
}

-- whether a name is new
pub is_new : (old : FirstNames) (k : Bor (List ℕ)) (before added : List (List ℕ)) (b : Bool) → HasFirst old before added → b ≡ not (list_any (λ x. bytes_eq k.now x.now) old.seen.keys) → b ≡ not (is_among k.now (before ++ added))
is_new old k before added b has is = name_is_new k old.seen.keys (names_view old.seen.keys) b is refl ∙ ap not (has.seen k.now)

negated : (t : Bool) → true ≡ not t → t ≡ false
negated true e = absurd cc
negated false e = refl

affirmed : (t : Bool) → false ≡ not t → t ≡ true
affirmed true e = refl
affirmed false e = absurd cc

-- a name that is added and new
pub added_new : (old new : FirstNames) (k : Bor (List ℕ)) (before added : List (List ℕ)) → HasFirst old before added → new.seen.keys ≡ cond (list_any (λ x. bytes_eq k.now x.now) old.seen.keys) old.seen.keys (old.seen.keys ++ k ∷ [])
    → true ≡ not (list_any (λ x. bytes_eq k.now x.now) old.seen.keys) → new.list.items ≡ old.list.items ++ k ∷ [] → HasFirst new before (added ++ k.now ∷ [])
added_new old new k before added has is fresh pushed = record {
  seen = subst (HasNames (names_view new.seen.keys)) (append_assoc before added (k.now ∷ [])) (set_more k old.seen.keys new.seen.keys (before ++ added) has.seen is);
  list = ap names_view pushed ∙ map-append (λ (x : Bor (List ℕ)). x.now) old.list.items (k ∷ []) ∙ ap (λ ns. ns ++ k.now ∷ []) has.list
      ∙ sym (name_new before added k.now (negated (is_among k.now (before ++ added)) (is_new old k before added true has fresh)));
}

-- a name that is added and not new
pub added_seen : (old new : FirstNames) (k : Bor (List ℕ)) (before added : List (List ℕ)) → HasFirst old before added → new.seen.keys ≡ cond (list_any (λ x. bytes_eq k.now x.now) old.seen.keys) old.seen.keys (old.seen.keys ++ k ∷ [])
    → false ≡ not (list_any (λ x. bytes_eq k.now x.now) old.seen.keys) → new.list ≡ old.list → HasFirst new before (added ++ k.now ∷ [])
added_seen old new k before added has is there same = record {
  seen = subst (HasNames (names_view new.seen.keys)) (append_assoc before added (k.now ∷ [])) (set_more k old.seen.keys new.seen.keys (before ++ added) has.seen is);
  list = ap (λ v. names_view v.items) same ∙ has.list ∙ sym (name_seen before added k.now (affirmed (is_among k.now (before ++ added)) (is_new old k before added false has there)));
}

-- whether a name was passed or added
any_names : (name : List ℕ) (ks : List (Bor (List ℕ))) → list_any (λ x. bytes_eq name x.now) ks ≡ is_among name (names_view ks)
any_names name [] = refl
any_names name (k ∷ ks) = ap (λ b. bytes_eq name k.now || b) (any_names name ks)

pub has_name : (names : FirstNames) (name : List ℕ) (before added : List (List ℕ)) (b : Bool) → HasFirst names before added → b ≡ list_any (λ x. bytes_eq name x.now) names.seen.keys → b ≡ is_among name (before ++ added)
has_name names name before added b has is = is ∙ any_names name names.seen.keys ∙ has.seen name
