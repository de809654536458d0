-- The sections that are to be placed.
use Rattle.std.proofs.Common.{◌≡◌, ℕ, Bool, true, false, not, ◌&&◌, ◌||◌, cond, List, [], ◌∷◌, ◌++◌, map, filter, Some, None, refl, sym, ap, ◌∙◌}
use Rattle.std.specs.List.{list_any}
use Rattle.std.specs.Str.{bytes_eq}
use Rattle.std.proofs.lemmas.List.{map-append, append-nil}
use Rattle.std.proofs.lemmas.List.Elements.{filter-append}
use Rattle.std.proofs.lemmas.List.Folds.{list_any-append}
use Rattle.c25_meaning_linking.specs.Command.{PlacingData}
use Rattle.c25_meaning_linking.specs.GoodMap.{Request, request, has_address, comes_first, comes_later, is_among, new_names}
use Rattle.c25_meaning_objects.specs.Module.{Contents}
use Rattle.c25_meaning_linking.specs.Place.{all_sections, is_there, is_section_named}
use Rattle.c25_place.specs.Outputs.{output_of, size_of_sections, any_words}
use Rattle.c25_place.specs.Requests.{is_due, request_by, HasNames}
use Rattle.c25_place.specs.declared.outputs.Output.{Output}
use Rattle.c25_place.proofs.Sized.{or_false}
use Rattle.c25_meaning_linking.proofs.PlaceNames.{same_name}

-- ---- the sum of a section makes its request

chosen : (b : Bool) (x o : Output) → cond b (Some x) None ≡ Some o → (b ≡ true) × (x ≡ o)
chosen true x o e = (refl, cc)
chosen false x o e = absurd cc

not_chosen : (b : Bool) (x : Output) → cond b (Some x) None ≡ None → b ≡ false
not_chosen true x e = absurd cc
not_chosen false x e = refl

pub asked_by : (modules : List Contents) (o : Output) (p : PlacingData) → output_of p.name (all_sections modules) ≡ Some o → request_by modules o p ≡ request modules p.name p.target p.page p.run
asked_by modules o p e =
    let c = chosen (list_any (is_section_named p.name) (all_sections modules)) (record { size = size_of_sections p.name (all_sections modules); initialised = any_words p.name (all_sections modules) }) o e in
    ap (λ (x : Output). request_by modules x p) (sym c.1)

pub there_by : (modules : List Contents) (o : Output) (name : List ℕ) → output_of name (all_sections modules) ≡ Some o → is_there name modules ≡ true
there_by modules o name e = (chosen (list_any (is_section_named name) (all_sections modules)) (record { size = size_of_sections name (all_sections modules); initialised = any_words name (all_sections modules) }) o e).0

pub not_there_by : (modules : List Contents) (name : List ℕ) → output_of name (all_sections modules) ≡ None → is_there name modules ≡ false
not_there_by modules name e = not_chosen (list_any (is_section_named name) (all_sections modules)) (record { size = size_of_sections name (all_sections modules); initialised = any_words name (all_sections modules) }) e

-- ---- whether a listed section is due

pub due : (w a : Bool) (modules : List Contents) (p : PlacingData) → has_address p.target ≡ a → a ≡ w → is_there p.name modules ≡ true → is_due w modules p ≡ true
due true true modules p e f t = ap (λ b. b && is_there p.name modules) e ∙ t
due false false modules p e f t = ap (λ b. not b && is_there p.name modules) e ∙ t
due true false modules p e f t = absurd cc
due false true modules p e f t = absurd cc

and_false : (b : Bool) → (b && false) ≡ false
and_false true = refl
and_false false = refl

pub not_due_there : (w : Bool) (modules : List Contents) (p : PlacingData) → is_there p.name modules ≡ false → is_due w modules p ≡ false
not_due_there true modules p t = ap (λ b. has_address p.target && b) t ∙ and_false (has_address p.target)
not_due_there false modules p t = ap (λ b. not (has_address p.target) && b) t ∙ and_false (not (has_address p.target))

pub not_due : (w a : Bool) (modules : List Contents) (p : PlacingData) → has_address p.target ≡ a → (a ≡ w → ⊥) → is_due w modules p ≡ false
not_due true true modules p e f = absurd (f refl)
not_due false false modules p e f = absurd (f refl)
not_due true false modules p e f = ap (λ b. b && is_there p.name modules) e
not_due false true modules p e f = ap (λ b. not b && is_there p.name modules) e

pub due_is : (modules : List Contents) (ps : List PlacingData) → (filter (is_due true modules) ps ≡ filter (comes_first modules) ps) × (filter (is_due false modules) ps ≡ filter (comes_later modules) ps)
due_is modules ps = (refl, refl)

-- one listed section more
pub listed_more : (test : PlacingData → Bool) (f : PlacingData → Request) (ps : List PlacingData) (p : PlacingData) → test p ≡ true → map f (filter test (ps ++ p ∷ [])) ≡ map f (filter test ps) ++ f p ∷ []
listed_more test f ps p e = ap (map f) (filter-append test ps (p ∷ []) ∙ ap (λ b. filter test ps ++ cond b (p ∷ []) []) e) ∙ map-append f (filter test ps) (p ∷ [])

pub listed_same : (test : PlacingData → Bool) (f : PlacingData → Request) (ps : List PlacingData) (p : PlacingData) → test p ≡ false → map f (filter test (ps ++ p ∷ [])) ≡ map f (filter test ps)
listed_same test f ps p e = ap (map f) (filter-append test ps (p ∷ []) ∙ ap (λ b. filter test ps ++ cond b (p ∷ []) []) e ∙ append-nil (filter test ps))

-- ---- names by first appearance

rotated : (a b c : Bool) → (a || (b || c)) ≡ ((b || a) || c)
rotated true true c = refl
rotated true false c = refl
rotated false true c = refl
rotated false false c = refl

last_one : (b : Bool) (x : List ℕ) → cond b (new_names [] []) (x ∷ []) ≡ [] ++ cond b [] (x ∷ [])
last_one true x = refl
last_one false x = refl

or_true : (b : Bool) → (b || true) ≡ true
or_true true = refl
or_true false = refl

-- a name that was seen is not new, whether or not it stands there again
kept : (u : Bool) (x y : List ℕ) (a : Bool) (seen : List (List ℕ)) → bytes_eq x y ≡ u → is_among y seen ≡ true → (a || is_among x seen) ≡ ((u || a) || is_among x seen)
kept true x y a seen e there =
    let same : is_among x seen ≡ true = ap (λ n. is_among n seen) (same_name x y e) ∙ there in
    ap (λ b. a || b) same ∙ or_true a
kept false x y a seen e there = refl

new_push : (seen names : List (List ℕ)) (x : List ℕ) → new_names seen (names ++ x ∷ []) ≡ new_names seen names ++ cond (is_among x names || is_among x seen) [] (x ∷ [])
new_push seen [] x = last_one (is_among x seen) x
new_push seen (y ∷ ys) x = by_test (new_push seen ys x) (new_push (y ∷ seen) ys x) (is_among y seen) refl where
  by_test : new_names seen (ys ++ x ∷ []) ≡ new_names seen ys ++ cond (is_among x ys || is_among x seen) [] (x ∷ []) → new_names (y ∷ seen) (ys ++ x ∷ []) ≡ new_names (y ∷ seen) ys ++ cond (is_among x ys || is_among x (y ∷ seen)) [] (x ∷ [])
      → (t : Bool) → is_among y seen ≡ t → cond t (new_names seen (ys ++ x ∷ [])) (y ∷ new_names (y ∷ seen) (ys ++ x ∷ [])) ≡ cond t (new_names seen ys) (y ∷ new_names (y ∷ seen) ys) ++ cond (is_among x (y ∷ ys) || is_among x seen) [] (x ∷ [])
  by_test same more true e = same ∙ ap (λ b. new_names seen ys ++ cond b [] (x ∷ [])) (kept (bytes_eq x y) x y (is_among x ys) seen refl e)
  by_test same more false e = ap (λ zs. y ∷ zs) more ∙ ap (λ t. y ∷ (new_names (y ∷ seen) ys ++ cond t [] (x ∷ []))) (rotated (is_among x ys) (bytes_eq x y) (is_among x seen))

among_append : (x : List ℕ) (seen names : List (List ℕ)) → is_among x (seen ++ names) ≡ (is_among x names || is_among x seen)
among_append x seen names = list_any-append (bytes_eq x) seen names ∙ turned_or (is_among x seen) (is_among x names) where
  turned_or : (a b : Bool) → (a || b) ≡ (b || a)
  turned_or true true = refl
  turned_or true false = refl
  turned_or false true = refl
  turned_or false false = refl

-- a section whose name is seen or new
pub name_new : (listed names : List (List ℕ)) (x : List ℕ) → is_among x (listed ++ names) ≡ false → new_names listed (names ++ x ∷ []) ≡ new_names listed names ++ x ∷ []
name_new listed names x e = new_push listed names x ∙ ap (λ b. new_names listed names ++ cond b [] (x ∷ [])) (sym (among_append x listed names) ∙ e)

pub name_seen : (listed names : List (List ℕ)) (x : List ℕ) → is_among x (listed ++ names) ≡ true → new_names listed (names ++ x ∷ []) ≡ new_names listed names
name_seen listed names x e = new_push listed names x ∙ ap (λ b. new_names listed names ++ cond b [] (x ∷ [])) (sym (among_append x listed names) ∙ e) ∙ append-nil (new_names listed names)

-- names with one more name
pub names_more : (names after listed : List (List ℕ)) (x : List ℕ) → HasNames names listed → after ≡ cond (is_among x names) names (names ++ x ∷ []) → HasNames after (listed ++ x ∷ [])
names_more names after listed x has is = λ name.
    ap (is_among name) is ∙ by_test name (is_among x names) refl ∙ sym (list_any-append (bytes_eq name) listed (x ∷ []))
  where
    by_test : (name : List ℕ) (t : Bool) → is_among x names ≡ t → is_among name (cond t names (names ++ x ∷ [])) ≡ (is_among name listed || (bytes_eq name x || false))
    by_test name true e = has name ∙ by_name (bytes_eq name x) refl where
      by_name : (u : Bool) → bytes_eq name x ≡ u → is_among name listed ≡ (is_among name listed || (u || false))
      by_name true f = let there : is_among name listed ≡ true = ap (λ n. is_among n listed) (same_name name x f) ∙ sym (has x) ∙ e in there ∙ sym (or_true (is_among name listed))
      by_name false f = sym (or_false (is_among name listed))
    by_test name false e = list_any-append (bytes_eq name) names (x ∷ []) ∙ ap (λ b. b || (bytes_eq name x || false)) (has name)
