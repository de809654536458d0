-- Faults found by their numbers and names, one number after another.
use Rattle.std.proofs.Common.{◌≡◌, ◌∙◌, ◌+◌, ◌<◌, ◌++◌, ◌↔◌, ℕ, Bool, ap, arith, below_more, false, length, length-append, map, refl, subst, sym, true, true≢false, List, [], ◌∷◌}
use Rattle.std.specs.Char.{to_ascii_lowercase}
use Rattle.std.specs.Prelude.{All, Any, IsTrue, None, Some}
use Rattle.std.proofs.lemmas.List.{get_or_append_left}
use Rattle.std.proofs.lemmas.List.Elements.{All-get_or, All-nil, All-push, All-weaker}
use Rattle.std.proofs.lemmas.List.Quantifiers.{Any-push, all_pairs_push}
use Rattle.c25_explain.specs.Explanation.{AreAll, Explains, ExplainsName, IsAlike, IsExplanationOf, IsFaultOf, name_of, number_of}
use Rattle.c25_explain.specs.Below.{AreBelow, ExplainsAlike, NoneBelow}
use Rattle.c25_explain.specs.declared.fault.AnyFault.{AnyFault}
use Rattle.c25_explain.specs.declared.parts.Explanation.{Explanation}
use Rattle.c25_explain.proofs.NumberedFaults.{number_small, same_fault}

-- what holds of faults with lower numbers and of those with this number
below_next : (Q : AnyFault → Type 0) (n : ℕ) → ((f : AnyFault) → number_of f < n → Q f) → ((f : AnyFault) → number_of f ≡ n → Q f) → (f : AnyFault) → number_of f < n + 1 → Q f
below_next Q n low here f lt =
    below_more (λ k. (g : AnyFault) → number_of g ≡ k → Q g) n (λ k l g e. low g (subst (λ (m : ℕ). m < n) (sym e) l)) here (number_of f) lt f refl

-- ---- names

-- an explanation whose name is not alike is that of no fault with this number and name
pub not_alike : (number : ℕ) (name : List ℕ) (e : Explanation) (test : Bool) → Explains number (Some e) → (IsTrue test ↔ (map to_ascii_lowercase e.name.now ≡ map to_ascii_lowercase name)) → test ≡ false → ExplainsAlike number name None
not_alike number name e test (fault, numbered, of_fault) tests fails f same alike =
    let one : f ≡ fault = same_fault f fault (same ∙ sym numbered) in
    let passed : test ≡ true = tests.1 (ap (map to_ascii_lowercase) (of_fault.name ∙ ap name_of (sym one)) ∙ alike) in
    true≢false (sym passed ∙ fails)

pub is_alike : (number : ℕ) (name : List ℕ) (e : Explanation) (test : Bool) → Explains number (Some e) → (IsTrue test ↔ (map to_ascii_lowercase e.name.now ≡ map to_ascii_lowercase name)) → test ≡ true → ExplainsAlike number name (Some e)
is_alike number name e test (fault, numbered, of_fault) tests holds = (fault, ap (map to_ascii_lowercase) (sym of_fault.name) ∙ tests.0 holds, of_fault)

pub none_alike : (number : ℕ) (name : List ℕ) → IsFaultOf number None → ExplainsAlike number name None
none_alike number name none f same alike = none f same

pub none_below_next : (number : ℕ) (name : List ℕ) → NoneBelow number name → ExplainsAlike number name None → NoneBelow (number + 1) name
none_below_next number name low here = below_next (λ f. IsAlike (name_of f) name → ⊥) number low here

pub none_named : (name : List ℕ) → NoneBelow 256 name → ExplainsName name None
none_named name none f alike = none f (number_small f) alike

-- ---- all faults

pub none_at_first : AreBelow 0 []
none_at_first = record {
  only = All-nil (λ e. (e.number < 0) × ((fault : AnyFault) × IsExplanationOf fault e));
  each = λ f lt. absurd (omega arith);
  rising = λ i j d before within. absurd (omega arith);
}

-- the explanation is that of a fault with a lower number
abbrev IsLow : ℕ → Explanation → Type 0
IsLow n e = (e.number < n) × ((fault : AnyFault) × IsExplanationOf fault e)

less : (n : ℕ) (es : List Explanation) → All (IsLow n) es → All (IsLow (n + 1)) es
less n es all = All-weaker (IsLow n) (IsLow (n + 1)) (λ e h. let low = h.0 in (omega (arith, low), h.1)) es all

pub none_next : (n : ℕ) (es : List Explanation) → AreBelow n es → IsFaultOf n None → AreBelow (n + 1) es
none_next n es are none = record {
  only = less n es are.only;
  each = below_next (λ f. Any (IsExplanationOf f) es) n are.each (λ f e. absurd (none f e));
  rising = are.rising;
}

-- what one of a list is, one of a longer list is
any_before : (P : Explanation → Type 0) (es : List Explanation) (e : Explanation) → Any P es → Any P (es ++ e ∷ [])
any_before P es e (k, x, within, at, holds) =
    let long : length (es ++ e ∷ []) ≡ length es + 1 = length-append es (e ∷ []) in
    (k, x, omega (arith, long, within), get_or_append_left es (e ∷ []) x k within ∙ at, holds)

pub some_next : (n : ℕ) (es more : List Explanation) (e : Explanation) → AreBelow n es → Explains n (Some e) → more ≡ es ++ e ∷ [] → AreBelow (n + 1) more
some_next n es more e are (fault, numbered, of_fault) pushed =
    let here : e.number ≡ n = of_fault.number ∙ numbered in
    subst (AreBelow (n + 1)) (sym pushed) (record {
      only = All-push (IsLow (n + 1)) es e (less n es are.only) (omega (arith, here), (fault, of_fault));
      each = below_next (λ f. Any (IsExplanationOf f) (es ++ e ∷ [])) n
          (λ f low. any_before (IsExplanationOf f) es e (are.each f low))
          (λ f same. Any-push (IsExplanationOf f) es e (subst (λ (g : AnyFault). IsExplanationOf g e) (same_fault fault f (numbered ∙ sym same)) of_fault));
      rising = all_pairs_push (λ x later. x.number < later.number) es e are.rising
          (λ k d within. let low = (All-get_or (IsLow n) es k d within are.only).0 in omega (arith, low, here));
    })

pub all_of_them : (n : ℕ) (es : List Explanation) → n ≡ 256 → AreBelow n es → AreAll es
all_of_them n es end are = record {
  only = All-weaker (IsLow n) (λ e. (fault : AnyFault) × IsExplanationOf fault e) (λ e h. h.1) es are.only;
  each = λ f. let small = number_small f in are.each f (omega (arith, end, small));
  rising = are.rising;
}
