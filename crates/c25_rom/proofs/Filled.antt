-- A list into which the words of a program are put, one after the other.
use Rattle.std.proofs.Common.{◌≡◌, ℕ, ◌<◌, Bool, true, false, T, cond, List, [], ◌∷◌, Option, Some, None, length, set, get_or, eqb, refl, sym, ap, subst, ◌∙◌, inl, inr, arith}
use Rattle.std.specs.Prelude.{replicate, unwrap_or}
use Rattle.std.specs.Ordering.{nat_cmp, eq_by_cmp}
use Rattle.std.specs.Cmp.{unsigned_tied}
use Rattle.std.specs.FinMap as words
use Rattle.std.specs.FinMap.Entries.{below_all, is_sorted}
use Rattle.std.specs.FinMap.Entries as entries
use Rattle.std.proofs.lemmas.Bool.Decides.{eqb_tells}
use Rattle.std.proofs.lemmas.List.{length-set, get_or-set_same, get_or-set_other, get_or-replicate, length-replicate}
use Rattle.std.proofs.lemmas.List.FromFn.{fill_by_all}
use Rattle.c25_rom.specs.Rom.{word_at, rom_words, first_past}
use Rattle.c25_rom.proofs.Entries.{first, second, below_none, found_first, past, past_none}

-- the list has the words of a program at their addresses but for those that are left, and the fill elsewhere
pub record IsFilled (program : words.FinMap nat_cmp ℕ) (size fill : ℕ) (left : List (ℕ × ℕ)) (rom : List ℕ) : Type 0 where
  pub sized : length rom ≡ size
  pub sorted : T (is_sorted nat_cmp left)
  pub within : past size left ≡ None
  pub filled : (k : ℕ) → k < size → word_at program fill k ≡ unwrap_or (entries.find nat_cmp k left) (get_or rom k 0)

pub filled_none : (program : words.FinMap nat_cmp ℕ) (size fill : ℕ) → first_past program size ≡ None → IsFilled program size fill (words.entries program) (replicate size fill)
filled_none program size fill none = record {
  sized = length-replicate size fill;
  sorted = words.entries_sorted program;
  within = none;
  filled = λ k below. ap (λ (o : Option ℕ). unwrap_or o fill) (words.get-entries program k)
      ∙ ap (λ (w : ℕ). unwrap_or (entries.find nat_cmp k (words.entries program)) w) (sym (get_or-replicate size k fill 0 below));
}

-- the word at an address, where one word more has been put into the list
one_put : (k : ℕ) (e : ℕ × ℕ) (left : List (ℕ × ℕ)) (rom : List ℕ) → e.0 < length rom → entries.find nat_cmp e.0 left ≡ None
    → unwrap_or (entries.find nat_cmp k (e ∷ left)) (get_or rom k 0) ≡ unwrap_or (entries.find nat_cmp k left) (get_or (set rom e.0 e.1) k 0)
one_put k e left rom inside none = elim (eqb_tells k e.0) [
  | inl h ↦
      ap (λ (a : ℕ). unwrap_or (entries.find nat_cmp a (e ∷ left)) (get_or rom a 0)) h.1 ∙ ap (λ (o : Option ℕ). unwrap_or o (get_or rom e.0 0)) (found_first e left)
      ∙ sym (ap (λ (a : ℕ). unwrap_or (entries.find nat_cmp a left) (get_or (set rom e.0 e.1) a 0)) h.1 ∙ ap (λ (o : Option ℕ). unwrap_or o (get_or (set rom e.0 e.1) e.0 0)) none ∙ get_or-set_same rom e.0 e.1 0 inside)
  | inr h ↦
      (let apart : eq_by_cmp nat_cmp k e.0 ≡ false = unsigned_tied k e.0 ∙ h.0 in
      rw apart (ap (λ (w : ℕ). unwrap_or (entries.find nat_cmp k left) w) (sym (get_or-set_other rom e.0 k e.1 0 h.1))))
]

-- the address of the next word has a place in the list
pub next_within : (program : words.FinMap nat_cmp ℕ) (size fill : ℕ) (e : ℕ × ℕ) (left all : List (ℕ × ℕ)) (rom : List ℕ) → all ≡ e ∷ left → IsFilled program size fill all rom → e.0 < length rom
next_within program size fill e left all rom took so_far =
    let none = past_none size e left (ap (past size) (sym took) ∙ so_far.within) in
    let below : e.0 < size = none.0 in omega (arith, so_far.sized)

pub filled_more : (program : words.FinMap nat_cmp ℕ) (size fill : ℕ) (e : ℕ × ℕ) (left all : List (ℕ × ℕ)) (rom : List ℕ) → all ≡ e ∷ left → IsFilled program size fill all rom
    → IsFilled program size fill left (set rom e.0 e.1)
filled_more program size fill e left all rom took so_far =
    let sorted : T (is_sorted nat_cmp (e ∷ left)) = subst (λ (es : List (ℕ × ℕ)). T (is_sorted nat_cmp es)) took so_far.sorted in
    let none = below_none e.0 left (first (below_all nat_cmp e.0 left) (is_sorted nat_cmp left) sorted) in record {
      sized = length-set rom e.0 e.1 ∙ so_far.sized;
      sorted = second (below_all nat_cmp e.0 left) (is_sorted nat_cmp left) sorted;
      within = (past_none size e left (ap (past size) (sym took) ∙ so_far.within)).1;
      filled = λ k below. so_far.filled k below ∙ ap (λ (es : List (ℕ × ℕ)). unwrap_or (entries.find nat_cmp k es) (get_or rom k 0)) took
          ∙ one_put k e left rom (next_within program size fill e left all rom took so_far) none;
    }

pub filled_all : (program : words.FinMap nat_cmp ℕ) (size fill : ℕ) (left : List (ℕ × ℕ)) (rom : List ℕ) → left ≡ [] → IsFilled program size fill left rom → rom ≡ rom_words program size fill
filled_all program size fill left rom none so_far =
    fill_by_all (word_at program fill) rom size 0 so_far.sized (λ k below. sym (so_far.filled k below ∙ ap (λ (es : List (ℕ × ℕ)). unwrap_or (entries.find nat_cmp k es) (get_or rom k 0)) none))
