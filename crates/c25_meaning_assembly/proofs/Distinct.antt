-- Names that are there once each.
use Rattle.std.proofs.Common.{◌≡◌, ℕ, Bool, true, false, not, ◌||◌, ◌&&◌, List, [], ◌∷◌, ◌++◌, refl, sym, ap, ◌∙◌}
use Rattle.std.specs.Str.{bytes_eq}
use Rattle.std.proofs.lemmas.Bool.Decides.{same_from_decides, Decides-like}
use Rattle.std.proofs.lemmas.Slice.Eq.{bytes_eq-Decides}
use Rattle.c25_meaning_assembly.specs.Sections.{is_in, are_distinct}

pub turned : (a b : List ℕ) → bytes_eq a b ≡ bytes_eq b a
turned a b = same_from_decides (bytes_eq a b) (bytes_eq b a) (bytes_eq-Decides a b) (Decides-like (bytes_eq b a) sym sym (bytes_eq-Decides b a))

pub neither : (a b : Bool) → (a || b) ≡ false → (a ≡ false) × (b ≡ false)
neither true b h = absurd (cc)
neither false b h = (refl, h)

pub both : (a b : Bool) → (not a && b) ≡ true → (a ≡ false) × (b ≡ true)
both true b h = absurd (cc)
both false b h = (refl, h)

pub is_in-push : (ds : List (List ℕ)) (n d : List ℕ) → is_in (ds ++ n ∷ []) d ≡ (is_in ds d || bytes_eq d n)
is_in-push [] n d = on (bytes_eq d n)
  where
    on : (b : Bool) → (b || false) ≡ b
    on true = refl
    on false = refl
is_in-push (x ∷ xs) n d = on (bytes_eq d x) (is_in-push xs n d)
  where
    on : (b : Bool) → is_in (xs ++ n ∷ []) d ≡ (is_in xs d || bytes_eq d n) → (b || is_in (xs ++ n ∷ []) d) ≡ ((b || is_in xs d) || bytes_eq d n)
    on true h = refl
    on false h = h

-- names stay distinct where a new one comes after them
pub distinct_push : (ds : List (List ℕ)) (n : List ℕ) → are_distinct ds ≡ true → is_in ds n ≡ false → are_distinct (ds ++ n ∷ []) ≡ true
distinct_push [] n h new = refl
distinct_push (d ∷ ds) n h new =
    let p = both (is_in ds d) (are_distinct ds) h in
    let q = neither (bytes_eq n d) (is_in ds n) new in
    let away : is_in (ds ++ n ∷ []) d ≡ false = is_in-push ds n d ∙ ap (λ b. b || bytes_eq d n) p.0 ∙ turned d n ∙ q.0 in
    ap (λ b. not b && are_distinct (ds ++ n ∷ [])) away ∙ distinct_push ds n p.1 q.1
