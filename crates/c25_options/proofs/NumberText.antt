-- The text of a number: that it is one where it passed its test, and what `get_one` reads of it.
use Rattle.std.proofs.Common.{◌≡◌, ◌==◌, ◌<◌, ◌^◌, ℕ, Bool, cond, true, false, refl, sym, ap, subst, arith, drop, List, [], ◌∷◌, Option, Some, None, Result, Ok, unwrap_or}
use Rattle.std.specs.Prelude.{IfSome, pos}
use Rattle.std.specs.Str.Parse.{IsNumeral, ParsesUnsigned, digits_value, starts_with_minus, without_leading_plus}
use Rattle.std.proofs.lemmas.Bool.{ne_eqb}
use Rattle.std.proofs.lemmas.Int.{ints}
use Rattle.std.proofs.lemmas.Str.Parse.{digit_from_value}
use Rattle.clap.specs.Lexer.{without_minus}
use Rattle.clap.specs.Values.{IsSignedIn}
use Rattle.clap.specs.Words.{ReadsOne, Text}
use Rattle.c25_options.specs.Complete.{IsNumberText}
use Rattle.c25_options.specs.Task.{IsCount, IsSteps}

without_minus-cond : (t : List ℕ) → without_minus t ≡ cond (starts_with_minus t) (drop 1 t) t
without_minus-cond [] = refl
without_minus-cond (x ∷ xs) = go (x == 45)
  where
    go : (b : Bool) → unwrap_or (cond b (Some xs) None) (x ∷ xs) ≡ cond b xs (x ∷ xs)
    go true = refl
    go false = refl

no_plus : (ds : List ℕ) → IsNumeral 10 ds → without_leading_plus ds ≡ ds
no_plus [] h = refl
no_plus (d ∷ ds) h =
    let plus : (d == 43) ≡ false = ne_eqb _ _ (λ e. omega (arith, digit_from_value d h.1.0)) in
    ap (λ (b : Bool). drop (cond b 1 0) (d ∷ ds)) plus

pub number_text : (high bits : ℕ) → high < 2 ^ bits → (t : List ℕ) → IsSignedIn (pos 0) (pos high) t → IsNumberText bits (without_minus t)
number_text high bits low t passed = subst (IsNumberText bits) (sym (without_minus-cond t)) (go (starts_with_minus t) refl)
  where
    go : (b : Bool) → starts_with_minus t ≡ b → IsNumberText bits (cond b (drop 1 t) t)
    go true minus =
        let low_ok = rw minus at passed.2 in
        let numeral : IsNumeral 10 (drop 1 t) = rw minus at passed.0 in
        let same = no_plus (drop 1 t) numeral in
        let small : digits_value 10 (drop 1 t) < 2 ^ bits = omega (arith, ints, low) in
        (rw same numeral, rw same small)
    go false minus =
        let low_ok = rw minus at passed.2 in
        let high_ok = rw minus at passed.3 in
        let numeral = rw minus at passed.0 in
        (numeral, omega (arith, ints, low))

pub steps_read : {E : Type 0} (gives : List ℕ → Result ℕ E → Type 0) (found : Option Text) (r : Option ℕ)
    → ((t : List ℕ) (x : Result ℕ E) → gives t x → ParsesUnsigned 32 10 t x) → IfSome found (IsNumberText 32)
    → (found ≡ None → r ≡ None) → ((t : List ℕ) → found ≡ Some t → ReadsOne gives t r) → IsSteps found (unwrap_or r 1000)
steps_read gives None r parses wanted none some = rw (none refl) refl
steps_read gives (Some t) (Some n) parses wanted none some = (wanted.0, (parses t (Ok n) (some t refl)).1)
steps_read gives (Some t) None parses wanted none some = absurd ((parses t _ (some t refl).1) wanted)

pub count_read : {E : Type 0} (gives : List ℕ → Result ℕ E → Type 0) (found : Option Text) (r : Option ℕ)
    → ((t : List ℕ) (x : Result ℕ E) → gives t x → ParsesUnsigned 32 10 t x) → IfSome found (IsNumberText 32)
    → (found ≡ None → r ≡ None) → ((t : List ℕ) → found ≡ Some t → ReadsOne gives t r) → IsCount found r
count_read gives None r parses wanted none some = none refl
count_read gives (Some t) (Some n) parses wanted none some = (wanted.0, (parses t (Ok n) (some t refl)).1)
count_read gives (Some t) None parses wanted none some = absurd ((parses t _ (some t refl).1) wanted)
