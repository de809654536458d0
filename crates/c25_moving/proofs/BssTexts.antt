-- A command file with another word in place of one.
use Rattle.std.proofs.Common.{◌≡◌, ◌≤◌, ◌+◌, ◌++◌, ◌∙◌, List, ℕ, Option, None, Some, Result, IfOk, ap, drop, length, string_bytes, subst, sym, take}
use Rattle.std.proofs.lemmas.List.{append_assoc}
use Rattle.std.proofs.lemmas.Str.Pattern.{split_text_parts}
use Rattle.std.specs.Borrow.{Bor}
use Rattle.std.specs.Prelude.{IfSome, MatchOption, String}
use Rattle.std.specs.Str.Pattern.{FindsText}
use Rattle.std.specs.declared.alloc.Global.{Global}
use Rattle.c25_meaning_common.specs.declared.no_memory.NoMemory.{NoMemory}
use Rattle.c25_moving.specs.BssPlace.{IsReplaced}

-- where `split_once` cuts a text at another one
pub cut_there : (p bs : List ℕ) (r : Option (Bor (List ℕ) × Bor (List ℕ)))
    → MatchOption r (FindsText p bs None) (λ x. (i : ℕ) × (j : ℕ) × FindsText p bs (Some (i, j)) × (x.0.now ≡ take i bs) × (x.1.now ≡ drop j bs) × (i ≤ j) × (length x.0.now ≡ i) × (length x.1.now + j ≡ length bs))
    → IfSome r (λ x. bs ≡ x.0.now ++ (p ++ x.1.now))
cut_there p bs None h = tt
cut_there p bs (Some x) h = split_text_parts p bs (Some x) h

-- what stands in front with what was taken from the rest is still the text
pub passed : (text front more all rest before name after : List ℕ) → front ++ rest ≡ text → rest ≡ before ++ (name ++ after) → more ≡ front ++ before → all ≡ more ++ name → all ++ after ≡ text
passed text front more all rest before name after known cut one two =
    ap (λ (t : List ℕ). t ++ after) (two ∙ ap (λ (t : List ℕ). t ++ name) one)
    ∙ append_assoc (front ++ before) name after ∙ append_assoc front before (name ++ after) ∙ ap (λ (r : List ℕ). front ++ r) (sym cut) ∙ known

-- a word stands in place of another one
pub in_place : (front text before was after word new : List ℕ) → text ≡ before ++ (was ++ after) → new ≡ front ++ (before ++ (word ++ after)) → IsReplaced (front ++ text) new word
in_place front text before was after word new cut made = record {
  front = front ++ before;
  was = was;
  back = after;
  old_is = ap (λ (t : List ℕ). front ++ t) cut ∙ sym (append_assoc front before (was ++ after)) ∙ sym (append_assoc (front ++ before) was after);
  new_is = made ∙ sym (append_assoc front before (word ++ after)) ∙ sym (append_assoc (front ++ before) word after);
}

-- the same of the whole text
pub whole : (text all shown after word : List ℕ) (r : Result (Option (String Global)) NoMemory) → all ++ after ≡ text → shown ≡ all → IfOk r (λ o. IfSome o (λ new. IsReplaced (shown ++ after) (string_bytes new) word))
    → IfOk r (λ o. IfSome o (λ new. IsReplaced text (string_bytes new) word))
whole text all shown after word r known same is =
    subst (λ (t : List ℕ). IfOk r (λ o. IfSome o (λ new. IsReplaced t (string_bytes new) word))) (ap (λ (t : List ℕ). t ++ after) same ∙ known) is
