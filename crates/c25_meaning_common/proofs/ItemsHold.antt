-- What holds before the first item of a text, and stays true with each further one, holds of all its items.
use Rattle.std.proofs.Common.{◌≡◌, ℕ, ◌+◌, ◌==◌, Bool, true, false, List, [], ◌∷◌, ◌++◌, length, Option, Some, None, Result, Ok, option_map, if◌then◌else◌, subst, refl}
use Rattle.std.specs.Option.{ok_or}
use Rattle.c25_meaning_common.specs.Results.{◌>>=◌}
use Rattle.c25_meaning_common.specs.Items.{ItemOf, with_line, items, line_words}

module _ {A : Type 0} (Holds : List A → Type 0) (item : ItemOf A) (stays : (before : List A) (words : List (List ℕ)) (a : A) → Holds before → item before words ≡ Some a → Holds (before ++ a ∷ [])) where
  added : (before now : List A) (found : Option A) → ((a : A) → found ≡ Some a → Holds (before ++ a ∷ [])) → option_map (λ a. before ++ a ∷ []) found ≡ Some now → Holds now
  added before now None more h = absurd (cc)
  added before now (Some a) more h = subst Holds (cc) (more a refl)

  with_one : (blank : Bool) (before now : List A) (words : List (List ℕ)) → Holds before → (if blank then Some before else option_map (λ a. before ++ a ∷ []) (item before words)) ≡ Some now → Holds now
  with_one true before now words holds h = subst Holds (cc) holds
  with_one false before now words holds h = added before now (item before words) (λ a e. stays before words a holds e) h

  onward : (found : Option (List A)) (number : ℕ) (next : List A → Result (List A) ℕ) (now : List A) → ((between : List A) → found ≡ Some between → next between ≡ Ok now → Holds now) → (ok_or found number >>= next) ≡ Ok now → Holds now
  onward None number next now more h = absurd (cc)
  onward (Some between) number next now more h = more between refl h

  pub items_hold : (before now : List A) (number : ℕ) (lines : List (List ℕ)) → Holds before → items item before number lines ≡ Ok now → Holds now
  unfolding items
  items_hold before now number [] holds h = subst Holds (cc) holds
  items_hold before now number (line ∷ rest) holds h =
      onward (with_line item before (line_words line)) number (λ between. items item between (number + 1) rest) now
      (λ between e. items_hold between now (number + 1) rest (with_one (length (line_words line) == 0) before between (line_words line) holds e)) h
