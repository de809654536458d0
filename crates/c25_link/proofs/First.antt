-- Where first parts begin, place by place.
use Rattle.std.proofs.Common.{◌≡◌, ℕ, ◌+◌, ◌<◌, true, false, cond, List, [], ◌∷◌, ◌++◌, length, get_or, take, Option, Some, None, is_some, refl, sym, ap, ◌∙◌}
use Rattle.std.specs.Borrow.{Bor}
use Rattle.std.specs.Option.{option_map, option_copied}
use Rattle.std.specs.Str.{bytes_eq}
use Rattle.c25_meaning_linking.specs.Place.{place_named}
use Rattle.c25_meaning_linking.specs.Place as place
use Rattle.c25_meaning_linking.proofs.PlaceNames.{same_name}
use Rattle.c25_place.specs.View.{place_view, places_view}
use Rattle.c25_place.specs.declared.placement.Place.{Place}
use Rattle.c25_place.proofs.Listed.{mapped_more}
use Rattle.c25_link.specs.Bases.{next_part}
use Rattle.c25_link.specs.declared.bases.PartBase.{PartBase}
use Rattle.c25_link.proofs.Based.{place_new, place_seen}

pub copied_some : {A : Type 0} (o : Option (Bor A)) → is_some (option_copied o) ≡ is_some o
copied_some None = refl
copied_some (Some x) = refl

-- what names have once these places were read
abbrev pub first_of : List ℕ → List place.Place → Option PartBase
first_of name ps = option_map (next_part []) (place_named name ps)

pub none_of : {A : Type 0} (o : Option A) → is_some o ≡ false → o ≡ None
none_of None e = refl
none_of (Some x) e = absurd cc

-- a name that has no place yet
pub first_new : (name : List ℕ) (places : List Place) (i : ℕ) (d : Place) (here old new : Option PartBase) → i < length places → old ≡ first_of name (places_view (take i places))
    → here ≡ first_of (get_or places i d).name.now (places_view (take i places)) → is_some here ≡ false
    → new ≡ cond (bytes_eq (get_or places i d).name.now name) (Some (record { page = (get_or places i d).page; base = (get_or places i d).base; run = (get_or places i d).run })) old
    → new ≡ first_of name (places_view (take (i + 1) places))
first_new name places i d here old new lt before there none e =
    e ∙ place_new name ps p old before (λ same. before ∙ ap (λ n. first_of n ps) (sym (same_name p.name name same)) ∙ sym there ∙ none_of here none)
    ∙ ap (first_of name) (sym (mapped_more place_view places i d lt))
  where
    ps : List place.Place
    ps = places_view (take i places)

    p : place.Place
    p = place_view (get_or places i d)

-- a name that has one
pub first_seen : (name : List ℕ) (places : List Place) (i : ℕ) (d : Place) (here old : Option PartBase) → i < length places → old ≡ first_of name (places_view (take i places))
    → here ≡ first_of (get_or places i d).name.now (places_view (take i places)) → is_some here ≡ true → old ≡ first_of name (places_view (take (i + 1) places))
first_seen name places i d here old lt before there some =
    by_option (place_named p.name ps) refl (ap is_some (sym there) ∙ some) ∙ ap (first_of name) (sym (mapped_more place_view places i d lt))
  where
    ps : List place.Place
    ps = places_view (take i places)

    p : place.Place
    p = place_view (get_or places i d)

    by_option : (o : Option place.Place) → place_named p.name ps ≡ o → is_some (option_map (next_part []) o) ≡ true → old ≡ first_of name (ps ++ p ∷ [])
    by_option None e f = absurd cc
    by_option (Some q) e f = place_seen name ps p old q before e
