-- Texts cut at a character, and joined by it.
use Rattle.std.proofs.Common.{◌≡◌, ℕ, ◌<◌, Bool, true, false, not, eqb, List, [], ◌∷◌, ◌++◌, ap, ◌∙◌, arith}
use Rattle.std.specs.Prelude.{All}
use Rattle.std.specs.List.{list_all, join_with_byte}
use Rattle.std.proofs.lemmas.Bool.{ne_eqb, and_parts}
use Rattle.std.proofs.lemmas.Bool.Decides.{nat_tests}
use Rattle.std.proofs.lemmas.List.Elements.{All-nil, All-cons, All-append, All-weaker}
use Rattle.std.proofs.lemmas.List.Splits.{slice_split_at, slice_split_none}
use Rattle.c25_map.specs.Reading.{cut}

-- none of these characters is this one
abbrev pub HasNo : ℕ → List ℕ → Type 0
HasNo c text = All (λ b. eqb b c ≡ false) text

-- by computing
other : (b c : ℕ) → not (eqb b c) ≡ true → eqb b c ≡ false
other b c h = grind (arith, nat_tests)

pub has_no_by : (c : ℕ) (text : List ℕ) → list_all (λ b. not (eqb b c)) text ≡ true → HasNo c text
has_no_by c [] h = All-nil (λ b. eqb b c ≡ false)
has_no_by c (b ∷ text) h =
    let parts = and_parts (not (eqb b c)) (list_all (λ x. not (eqb x c)) text) h in
    All-cons (λ x. eqb x c ≡ false) b text (other b c parts.0) (has_no_by c text parts.1)

-- nor any of these texts has it
abbrev pub NoneHas : ℕ → List (List ℕ) → Type 0
NoneHas c [] = Unit {0}
NoneHas c (x ∷ xs) = HasNo c x × NoneHas c xs

pub none_has_more : (c : ℕ) (xs ys : List (List ℕ)) → NoneHas c xs → NoneHas c ys → NoneHas c (xs ++ ys)
none_has_more c [] ys h k = k
none_has_more c (x ∷ xs) ys h k = (h.0, none_has_more c xs ys h.1 k)

itself : (c : ℕ) → eqb c c ≡ true
itself c = grind (arith, nat_tests)

-- what is joined is cut
cut_joined : (c : ℕ) (x : List ℕ) (xs : List (List ℕ)) → HasNo c x → NoneHas c xs → cut c (join_with_byte c (x ∷ xs)) ≡ x ∷ xs
cut_joined c x [] h rest = slice_split_none (λ b. eqb b c) x h
cut_joined c x (y ∷ ys) h rest =
    slice_split_at (λ b. eqb b c) x c (join_with_byte c (y ∷ ys)) h (itself c) ∙ ap (λ (parts : List (List ℕ)). x ∷ parts) (cut_joined c y ys rest.0 rest.1)

-- ---- fields

-- above the blank
abbrev pub IsField : List ℕ → Type 0
IsField text = All (λ b. 32 < b) text

-- the blank, or above it
abbrev pub IsLine : List ℕ → Type 0
IsLine text = All (λ b. 31 < b) text

no_blank : (text : List ℕ) → IsField text → HasNo 32 text
no_blank text h = All-weaker (λ b. 32 < b) (λ b. eqb b 32 ≡ false) (λ b above. ne_eqb b 32 (λ same. omega arith)) text h

pub no_end : (text : List ℕ) → IsLine text → HasNo 10 text
no_end text h = All-weaker (λ b. 31 < b) (λ b. eqb b 10 ≡ false) (λ b above. ne_eqb b 10 (λ same. omega arith)) text h

field_line : (text : List ℕ) → IsField text → IsLine text
field_line text h = All-weaker (λ b. 32 < b) (λ b. 31 < b) (λ b above. omega arith) text h

-- by a test that each character passes
pub field_by : (p : ℕ → Bool) (text : List ℕ) → ((b : ℕ) → p b ≡ true → 32 < b) → list_all p text ≡ true → IsField text
field_by p [] h all = All-nil (λ b. 32 < b)
field_by p (b ∷ text) h all =
    let parts = and_parts (p b) (list_all p text) all in
    All-cons (λ b. 32 < b) b text (h b parts.0) (field_by p text h parts.1)

-- fields, one after the other
abbrev pub AreFields : List (List ℕ) → Type 0
AreFields [] = Unit {0}
AreFields (x ∷ xs) = IsField x × AreFields xs

fields_apart : (xs : List (List ℕ)) → AreFields xs → NoneHas 32 xs
fields_apart [] h = tt
fields_apart (x ∷ xs) h = (no_blank x h.0, fields_apart xs h.1)

-- the fields of a line
pub fields_back : (x : List ℕ) (xs : List (List ℕ)) → IsField x → AreFields xs → cut 32 (join_with_byte 32 (x ∷ xs)) ≡ x ∷ xs
fields_back x xs h rest = cut_joined 32 x xs (no_blank x h) (fields_apart xs rest)

pub fields_line : (x : List ℕ) (xs : List (List ℕ)) → IsField x → AreFields xs → IsLine (join_with_byte 32 (x ∷ xs))
fields_line x [] h rest = field_line x h
fields_line x (y ∷ ys) h rest =
    All-append (λ b. 31 < b) x (32 ∷ join_with_byte 32 (y ∷ ys)) (field_line x h)
    (All-cons (λ b. 31 < b) 32 (join_with_byte 32 (y ∷ ys)) (omega arith) (fields_line y ys rest.0 rest.1))
