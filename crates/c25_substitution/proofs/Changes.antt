-- A text is kept up to a place.
use Rattle.std.proofs.Common.{◌≡◌, ℕ, ◌+◌, ◌-◌, ◌<◌, List, [], ◌∷◌, ◌++◌, length, get_or, take, drop, refl, ap, sym, subst, ◌∙◌, arith, append_assoc, length-append}
use Rattle.std.proofs.lemmas.List.{take_all, take-append-le, drop_all, drop-append-le}
use Rattle.std.specs.Str.{IsUtf8, IsCharBoundary}
use Rattle.std.proofs.lemmas.Str.{IsCharBoundary-from_drop}
use Rattle.c25_meaning_language.specs.Quoting.{behind}
use Rattle.c25_meaning_language.specs.Fragments.{Replacements, without, Fragment, Kept, front}
use Rattle.c25_meaning_language.specs.Substitution.{as_is, joined, rewritten}
use Rattle.c25_meaning_language.specs.declared.quoting.Quoting.{Quoting}
use Rattle.c25_meaning_language.specs.declared.quoting.Quoting.TheVariants.{Outside, Within, Throughout, Comment}
use Rattle.c25_substitution.proofs.Kept.{kept_front, comment_stays}
use Rattle.c25_substitution.proofs.Writing.{step, part, joined_assoc, drafted-empty}

-- a blank is a fragment of its own
first_blank : (names : Replacements) (q : Quoting) (xs : List ℕ) → (Kept (32 ∷ []) ≡ (front names q (32 ∷ xs)).fragment) × (1 ≡ (front names q (32 ∷ xs)).size)
unfolding front
first_blank names Outside xs = (refl, refl)
first_blank names (Within quote) xs = (refl, refl)
first_blank names Throughout xs = (refl, refl)
first_blank names Comment xs = (refl, refl)

blank_front : (names : Replacements) (q : Quoting) (xs : List ℕ) → 0 < length xs → 32 ≡ get_or xs 0 0 → (Kept (32 ∷ []) ≡ (front names q xs).fragment) × (1 ≡ (front names q xs).size)
blank_front names q [] more is = absurd (omega arith)
blank_front names q (x ∷ xs) more is = subst (λ y. (Kept (32 ∷ []) ≡ (front names q (y ∷ xs)).fragment) × (1 ≡ (front names q (y ∷ xs)).size)) is (first_blank names q xs)

module _ (names : Replacements) (begins : Quoting) (text : List ℕ) where
  -- what stands before the rest stays as it is
  abbrev pub IsKeptTo : Quoting → List ℕ → Type 0
  IsKeptTo q rest = (before : List ℕ) × (before ++ rest ≡ text) × ((number : ℕ) → rewritten names number begins text ≡ joined (as_is before) (rewritten names number q rest))

  module _ (q : Quoting) (rest : List ℕ) (so_far : IsKeptTo q rest) where
    before_len : length text - length rest ≡ length so_far.0
    before_len = let all : length text ≡ length so_far.0 + length rest = ap length (sym so_far.1) ∙ length-append so_far.0 rest in omega (arith, all)

    taken : take (length text - length rest) text ≡ so_far.0
    taken = ap (λ n. take n text) before_len ∙ ap (take (length so_far.0)) (sym so_far.1)
        ∙ take-append-le (length so_far.0) so_far.0 rest (omega arith) ∙ take_all (length so_far.0) so_far.0 (omega arith)

    dropped : drop (length text - length rest) text ≡ rest
    dropped = ap (λ n. drop n text) before_len ∙ ap (drop (length so_far.0)) (sym so_far.1)
        ∙ drop-append-le (length so_far.0) so_far.0 rest (omega arith) ∙ ap (λ t. t ++ rest) (drop_all (length so_far.0) so_far.0 (omega arith))

    pub cut_before : IsUtf8 rest → IsCharBoundary text (length text - length rest)
    cut_before u = IsCharBoundary-from_drop text (length text - length rest) (omega arith) (subst IsUtf8 (sym dropped) u)

    pub keeps_all : length rest ≡ 0 → (number : ℕ) → rewritten names number begins text ≡ as_is text
    keeps_all none number =
        let end : rest ≡ [] = nil_of rest none in
        so_far.2 number ∙ ap (λ t. joined (as_is so_far.0) (rewritten names number q t)) end ∙ ap (joined (as_is so_far.0)) (drafted-empty 1025 names number [] q)
        ∙ ap (λ t. as_is (so_far.0 ++ t)) (sym end) ∙ ap as_is so_far.1
      where
        nil_of : (xs : List ℕ) → length xs ≡ 0 → xs ≡ []
        nil_of [] h = refl
        nil_of (x ∷ xs) h = absurd (omega arith)

    pub keeps_comment : q ≡ Comment → (number : ℕ) → rewritten names number begins text ≡ as_is text
    keeps_comment c number =
        so_far.2 number ∙ ap (λ x. joined (as_is so_far.0) (rewritten names number x rest)) c ∙ ap (joined (as_is so_far.0)) (comment_stays names number rest) ∙ ap as_is so_far.1

    module _ (after : List ℕ) (p : Fragment) (first : ℕ) (aside : List (List ℕ)) (none : aside ≡ []) (more : 0 < length rest)
        (fragment : p ≡ (front (without aside names) q rest).fragment) (cut : after ≡ drop (front (without aside names) q rest).size rest) (shorter : length after < length rest) (byte : first ≡ get_or rest 0 0) where
      is_first : p ≡ (front (without [] names) q rest).fragment
      is_first = fragment ∙ ap (λ xs. (front (without xs names) q rest).fragment) none

      is_after : after ≡ drop (front (without [] names) q rest).size rest
      is_after = cut ∙ ap (λ xs. drop (front (without xs names) q rest).size rest) none

      goes : (number : ℕ) → rewritten names number begins text ≡ joined (as_is so_far.0) (joined (part names number 0 [] p) (rewritten names number (behind first q) after))
      goes number = so_far.2 number ∙ ap (joined (as_is so_far.0)) (step names number 0 [] q rest after p first (omega arith) more is_first is_after shorter byte)

      pub keeps_on : (kept : List ℕ) → p ≡ Kept kept → IsKeptTo (behind first q) after
      keeps_on kept k =
          let whole : kept ++ after ≡ rest = ap (λ t. kept ++ t) is_after ∙ kept_front (without [] names) q rest kept p k is_first in (
            so_far.0 ++ kept,
            append_assoc so_far.0 kept after ∙ ap (λ t. so_far.0 ++ t) whole ∙ so_far.1,
            λ number. goes number ∙ ap (λ x. joined (as_is so_far.0) (joined (part names number 0 [] x) (rewritten names number (behind first q) after))) k
                ∙ sym (joined_assoc (as_is so_far.0) (as_is kept) (rewritten names number (behind first q) after)),
          )

      pub changes : (before : List ℕ) → before ≡ take (length text - length rest) text →
          (number : ℕ) → rewritten names number begins text ≡ joined (as_is before) (joined (part names number 0 [] p) (rewritten names number (behind first q) after))
      changes before b number =
          goes number ∙ ap (λ t. joined (as_is t) (joined (part names number 0 [] p) (rewritten names number (behind first q) after))) (sym (b ∙ taken))

    -- after a blank
    pub keeps_blank : (after : List ℕ) → 0 < length rest → 32 ≡ get_or rest 0 0 → after ≡ drop 1 rest → length after < length rest → IsKeptTo (behind 32 q) after
    keeps_blank after more is cut shorter =
        let blank = blank_front (without [] names) q rest more is in
        keeps_on after (Kept (32 ∷ [])) 32 [] refl more blank.0 (cut ∙ ap (λ n. drop n rest) blank.1) shorter is (32 ∷ []) refl
