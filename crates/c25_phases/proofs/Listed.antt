-- A list that grows item by item over another.
use denote.Ref.{Bor}
use Rattle.std.proofs.Common.{◌≡◌, ◌<◌, ℕ, ◌+◌, List, [], ◌∷◌, ◌++◌, length, drop, map, Option, Some, None, append_assoc, refl, sym, ap, ◌∙◌, arith}
use Rattle.std.specs.List.{slice_get}
use Rattle.std.specs.Option.{option_map}
use Rattle.std.proofs.lemmas.List.{drop_more, map-append}
use Rattle.std.proofs.lemmas.Option.{get_or_from_slice_get, slice_get_within, slice_get-get_or}
use Rattle.c25_meaning_assembly.specs.Sections.{Definitions}
use Rattle.c25_meaning_language.specs.declared.value.Value.{Value}

drop_at : {X : Type 0} (xs : List X) (i : ℕ) (x : X) → slice_get xs i ≡ Some x → drop i xs ≡ x ∷ drop (i + 1) xs
drop_at xs i x h = drop_more xs i x (slice_get_within xs i x h) ∙ ap (λ z. z ∷ drop (i + 1) xs) (get_or_from_slice_get xs i x x h)

-- one item more of what is made of each
made_more : {X Y : Type 0} (f : X → Y) (done : List Y) (xs : List X) (i : ℕ) (x : X) (y : Y) (all : List Y) → slice_get xs i ≡ Some x → y ≡ f x
    → done ++ map f (drop i xs) ≡ all → (done ++ y ∷ []) ++ map f (drop (i + 1) xs) ≡ all
made_more f done xs i x y all at is h =
    append_assoc done (y ∷ []) (map f (drop (i + 1) xs)) ∙ ap (λ z. done ++ (z ∷ map f (drop (i + 1) xs))) is ∙ ap (λ zs. done ++ map f zs) (sym (drop_at xs i x at)) ∙ h

-- one item more of what is made of each, where items are seen through a view
pub seen_more : {S X Y : Type 0} (view : S → Y) (f : X → Y) (done more : List S) (s : S) (xs : List X) (i : ℕ) (x : X) (all : List Y) → more ≡ done ++ s ∷ []
    → slice_get xs i ≡ Some x → view s ≡ f x → map view done ++ map f (drop i xs) ≡ all → map view more ++ map f (drop (i + 1) xs) ≡ all
seen_more view f done more s xs i x all grown at is h =
    let rest = map f (drop (i + 1) xs) in
    ap (λ ss. map view ss ++ rest) grown ∙ ap (λ ys. ys ++ rest) (map-append view done (s ∷ [])) ∙ made_more f (map view done) xs i x (view s) all at is h

-- the entry of a number is the one that stands there
pub entry_at : (entries : Definitions) (i : ℕ) (found : Option (Bor (List ℕ) × Value)) (e : Bor (List ℕ) × Value) → found ≡ Some e
    → option_map (λ p. (p.0.now, p.1)) found ≡ slice_get entries i → slice_get entries i ≡ Some (e.0.now, e.1)
entry_at entries i found e is h = sym h ∙ ap (option_map (λ p. (p.0.now, p.1))) is

-- each number below the count of entries has an entry
pub none_missing : (entries : Definitions) (i : ℕ) (found : Option (Bor (List ℕ) × Value)) → i < length entries → option_map (λ p. (p.0.now, p.1)) found ≡ slice_get entries i
    → ((e : Bor (List ℕ) × Value) → found ≡ Some e → ⊥) → ⊥
none_missing entries i (Some e) l is none = none e refl
none_missing [] i None l is none = let few : i < 0 = l in absurd (omega (arith, few))
none_missing (x ∷ xs) i None l is none = let there = slice_get-get_or (x ∷ xs) i x l in absurd (cc)
