-- What a line adds to the last section.
use Rattle.std.proofs.Common.{◌≡◌, ℕ, zero, suc, true, false, List, [], ◌∷◌, ◌++◌, length, get_or, set, map, Option, Some, None, sym, ap, ◌∙◌, arith, refl}
use Rattle.std.specs.Option.{option_map}
use Rattle.std.proofs.lemmas.List.{map-append}
use Rattle.c25_meaning_linking.specs.MapText.{PartData, SectionPlace}
use Rattle.c25_map.specs.Reading.{is_settled, onto_last, run_of_last}
use Rattle.c25_map.specs.View.{part_data}
use Rattle.c25_map.specs.declared.map.Part.{Part}

-- a section with a part more
abbrev pub with_one : SectionPlace → PartData → SectionPlace
with_one s part = record s { parts = s.parts ++ part ∷ [] }

pub set_last : {A : Type 0} (f : A → SectionPlace) (xs : List A) (i : ℕ) (x y : A) (part : PartData) → suc i ≡ length xs → x ≡ get_or xs i x → f y ≡ with_one (f x) part
    → onto_last (map f xs) part ≡ Some (map f (set xs i y))
set_last f [] i x y part len is made = absurd (omega arith)
set_last f (a ∷ []) zero x y part len is made = ap (λ s. Some (s ∷ [])) (sym (made ∙ ap (λ z. with_one (f z) part) is))
set_last f (a ∷ []) (suc i) x y part len is made = absurd (omega arith)
set_last f (a ∷ b ∷ xs) zero x y part len is made = absurd (omega arith)
set_last f (a ∷ b ∷ xs) (suc i) x y part len is made = ap (λ (o : Option (List SectionPlace)). option_map (λ (rest : List SectionPlace). f a ∷ rest) o) (set_last f (b ∷ xs) i x y part (omega arith) is made)

-- a section that runs at an address
abbrev pub running_at : SectionPlace → ℕ → SectionPlace
running_at s run = record s { place = record s.place { run = Some run } }

pub last_settled : {A : Type 0} (f : A → SectionPlace) (xs : List A) (i : ℕ) (x : A) (run : ℕ) → suc i ≡ length xs → x ≡ get_or xs i x → is_settled (f x) ≡ true → run_of_last (map f xs) run ≡ None
last_settled f [] i x run len is settled = absurd (omega arith)
last_settled f (a ∷ []) zero x run len is settled = let here : is_settled (f a) ≡ true = ap (λ z. is_settled (f z)) (sym is) ∙ settled in rw here refl
last_settled f (a ∷ []) (suc i) x run len is settled = absurd (omega arith)
last_settled f (a ∷ b ∷ xs) zero x run len is settled = absurd (omega arith)
last_settled f (a ∷ b ∷ xs) (suc i) x run len is settled =
    ap (λ (o : Option (List SectionPlace)). option_map (λ (rest : List SectionPlace). f a ∷ rest) o) (last_settled f (b ∷ xs) i x run (omega arith) is settled)

pub set_running : {A : Type 0} (f : A → SectionPlace) (xs : List A) (i : ℕ) (x y : A) (run : ℕ) → suc i ≡ length xs → x ≡ get_or xs i x → is_settled (f x) ≡ false → f y ≡ running_at (f x) run
    → run_of_last (map f xs) run ≡ Some (map f (set xs i y))
set_running f [] i x y run len is unsettled made = absurd (omega arith)
set_running f (a ∷ []) zero x y run len is unsettled made =
    let here : is_settled (f a) ≡ false = ap (λ z. is_settled (f z)) (sym is) ∙ unsettled in
    rw here (ap (λ s. Some (s ∷ [])) (sym (made ∙ ap (λ z. running_at (f z) run) is)))
set_running f (a ∷ []) (suc i) x y run len is unsettled made = absurd (omega arith)
set_running f (a ∷ b ∷ xs) zero x y run len is unsettled made = absurd (omega arith)
set_running f (a ∷ b ∷ xs) (suc i) x y run len is unsettled made =
    ap (λ (o : Option (List SectionPlace)). option_map (λ (rest : List SectionPlace). f a ∷ rest) o) (set_running f (b ∷ xs) i x y run (omega arith) is unsettled made)

pub parts_more : (old more : List Part) (part : Part) → more ≡ old ++ part ∷ [] → map part_data more ≡ map part_data old ++ part_data part ∷ []
parts_more old more part e = ap (λ (t : List Part). map part_data t) e ∙ map-append part_data old (part ∷ [])
