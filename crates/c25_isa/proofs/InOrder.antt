-- Spellings in the order of their texts' numbers: what a binary search of them finds, and how a list is seen to be in order.
use Rattle.std.proofs.Common.{◌≡◌, ℕ, zero, suc, ◌+◌, ◌*◌, ◌^◌, ◌<◌, ◌≤◌, Bool, true, ◌&&◌, List, [], ◌∷◌, length, map, get_or, Option, Some, None, Result, Ok, Err, inl, inr, refl, sym, ap, ap₂, ◌∙◌, subst, arith}
use Rattle.std.specs.Bool.{nat_lt}
use Rattle.std.specs.Char.{to_ascii_lowercase}
use Rattle.std.specs.List.{Contains, list_all}
use Rattle.std.specs.List.Sorted.{IsBinarySearchResult}
use Rattle.std.specs.Option.{MatchOption}
use Rattle.std.specs.Ordering.{nat_cmp}
use Rattle.std.specs.Result.{result_ok}
use Rattle.std.proofs.lemmas.Bool.{and_parts, cases_lt}
use Rattle.std.proofs.lemmas.List.{get_or-map, length-map}
use Rattle.std.proofs.lemmas.List.Sorted.{searched}
use Rattle.c25_isa.specs.Letters.{AreInOrder, are_bytes, digit, has_short_text, is_short, lower, number, spelling_number}
use Rattle.c25_meaning_instructions.specs.Spellings.{spellings}
use Rattle.c25_meaning_instructions.specs.Table.{SameLetters, spelling_text}
use Rattle.c25_meaning_instructions.specs.declared.mnemonic.Spelling.{Spelling}
use Rattle.c25_meaning_instructions.proofs.Keys.{found_by, found_in}
use Rattle.c25_meaning_instructions.proofs.Spellings.{letters, found}

-- ---- a list in order

-- each number of a list is at least the one before it, the first at least this one
abbrev pub rises_after : ℕ → List ℕ → Bool
rises_after x [] = true
rises_after x (y ∷ ys) = nat_lt x (suc y) && rises_after y ys

abbrev pub rises : List ℕ → Bool
rises [] = true
rises (x ∷ xs) = rises_after x xs

first_is_least : (x : ℕ) (ys : List ℕ) → rises_after x ys ≡ true → (j : ℕ) → j < length (x ∷ ys) → x ≤ get_or (x ∷ ys) j 0
first_is_least x ys h zero below = omega arith
first_is_least x [] h (suc j) below = absurd (omega arith)
first_is_least x (y ∷ ys) h (suc j) below =
    let parts = and_parts (nat_lt x (suc y)) (rises_after y ys) h in
    let rest = first_is_least y ys parts.1 j (omega arith) in
    grind arith

later_are_more : (x : ℕ) (ys : List ℕ) → rises_after x ys ≡ true → AreInOrder (x ∷ ys)
later_are_more x ys h zero j up below = first_is_least x ys h j below
later_are_more x ys h (suc i) zero up below = absurd (omega arith)
later_are_more x [] h (suc i) (suc j) up below = absurd (omega arith)
later_are_more x (y ∷ ys) h (suc i) (suc j) up below = later_are_more y ys (and_parts (nat_lt x (suc y)) (rises_after y ys) h).1 i j (omega arith) (omega arith)

pub in_order : (xs : List ℕ) → rises xs ≡ true → AreInOrder xs
in_order [] h = λ i j up below. absurd (omega arith)
in_order (x ∷ xs) h = later_are_more x xs h

-- ---- a list of all spellings

-- a list that finds each spelling by its letters has each spelling
module _ (all : List Spelling) (each : map (λ s. found_by letters (letters s) all) spellings ≡ map Some spellings) where
  found_at : (k : ℕ) (s : Spelling) → k < length spellings → get_or spellings k s ≡ s → found_by letters (letters s) all ≡ Some s
  found_at k s below is =
      let left = get_or-map (λ s. found_by letters (letters s) all) spellings k s (Some s) below in
      let right = get_or-map (λ (s : Spelling). Some s) spellings k s (Some s) below in
      let both = ap (λ l. get_or l k (Some s)) each in
      subst (λ t. found_by letters (letters t) all ≡ Some t) is (sym left ∙ both ∙ right)

  pub has_each : (s : Spelling) → Contains all s
  has_each s =
      let at = found_in letters (letters s) spellings s (found s) in
      found_in letters (letters s) all s (found_at at.0 s at.1 at.2)

passes : (p : Spelling → Bool) (all : List Spelling) → list_all p all ≡ true → (k : ℕ) (s : Spelling) → k < length all → p (get_or all k s) ≡ true
passes p [] h k s below = absurd (omega arith)
passes p (x ∷ xs) h zero s below = (and_parts (p x) (list_all p xs) h).0
passes p (x ∷ xs) h (suc k) s below = passes p xs (and_parts (p x) (list_all p xs) h).1 k s (omega arith)

-- ---- texts as numbers

below_256 : (x : ℕ) → nat_lt x 256 ≡ true → x < 256
below_256 x h = grind arith

digit_is_small : (k : ℕ) (xs : List ℕ) → are_bytes xs ≡ true → digit k xs < 257
digit_is_small k [] h = omega arith
digit_is_small zero (x ∷ xs) h = let small = below_256 x (and_parts (nat_lt x 256) (are_bytes xs) h).0 in omega arith
digit_is_small (suc k) (x ∷ xs) h = digit_is_small k xs (and_parts (nat_lt x 256) (are_bytes xs) h).1

by_digits : (n : ℕ) (xs ys : List ℕ) → length xs ≤ n → length ys ≤ n → ((k : ℕ) → k < n → digit k xs ≡ digit k ys) → xs ≡ ys
by_digits n [] [] a b same = refl
by_digits zero (x ∷ xs) ys a b same = absurd (omega arith)
by_digits zero [] (y ∷ ys) a b same = absurd (omega arith)
by_digits (suc n) [] (y ∷ ys) a b same = let e : 0 ≡ suc y = same 0 (omega arith) in absurd (omega arith)
by_digits (suc n) (x ∷ xs) [] a b same = let e : suc x ≡ 0 = same 0 (omega arith) in absurd (omega arith)
by_digits (suc n) (x ∷ xs) (y ∷ ys) a b same =
    let e : suc x ≡ suc y = same 0 (omega arith) in
    ap₂ (λ z zs. z ∷ zs) (omega arith) (by_digits n xs ys (omega arith) (omega arith) (λ k below. same (suc k) (omega arith)))

module _ (a b c d x y z w : ℕ) (la : a < 257) (lb : b < 257) (lc : c < 257) (ld : d < 257) (lx : x < 257) (ly : y < 257) (lz : z < 257) (lw : w < 257) (e : a * 2 ^ 27 + b * 2 ^ 18 + c * 2 ^ 9 + d ≡ x * 2 ^ 27 + y * 2 ^ 18 + z * 2 ^ 9 + w) where
  first : a ≡ x
  first = omega arith

  second : b ≡ y
  second = let f = first in omega arith

  third : c ≡ z
  third = let f = first in let s = second in omega arith

  fourth : d ≡ w
  fourth = let f = first in let s = second in let t = third in omega arith

few : (xs : List ℕ) → is_short xs ≡ true → length xs ≤ 4
few xs h = let l = (and_parts (nat_lt (length xs) 5) (are_bytes xs) h).0 in grind arith

module _ (xs ys : List ℕ) (a : is_short xs ≡ true) (b : is_short ys ≡ true) (e : number xs ≡ number ys) where
  of_xs : (k : ℕ) → digit k xs < 257
  of_xs k = digit_is_small k xs (and_parts (nat_lt (length xs) 5) (are_bytes xs) a).1

  of_ys : (k : ℕ) → digit k ys < 257
  of_ys k = digit_is_small k ys (and_parts (nat_lt (length ys) 5) (are_bytes ys) b).1

  same_digit : (k : ℕ) → k < 4 → digit k xs ≡ digit k ys
  same_digit zero l = first _ _ _ _ _ _ _ _ (of_xs 0) (of_xs 1) (of_xs 2) (of_xs 3) (of_ys 0) (of_ys 1) (of_ys 2) (of_ys 3) e
  same_digit (suc zero) l = second _ _ _ _ _ _ _ _ (of_xs 0) (of_xs 1) (of_xs 2) (of_xs 3) (of_ys 0) (of_ys 1) (of_ys 2) (of_ys 3) e
  same_digit (suc (suc zero)) l = third _ _ _ _ _ _ _ _ (of_xs 0) (of_xs 1) (of_xs 2) (of_xs 3) (of_ys 0) (of_ys 1) (of_ys 2) (of_ys 3) e
  same_digit (suc (suc (suc zero))) l = fourth _ _ _ _ _ _ _ _ (of_xs 0) (of_xs 1) (of_xs 2) (of_xs 3) (of_ys 0) (of_ys 1) (of_ys 2) (of_ys 3) e
  same_digit (suc (suc (suc (suc k)))) l = absurd (omega arith)

  -- two short texts with one number are the same text
  pub one_text : xs ≡ ys
  one_text = by_digits 4 xs ys (few xs a) (few ys b) same_digit

-- ---- a search

some_is : {A : Type 0} (a b : A) → Some a ≡ Some b → a ≡ b
some_is a b e = cc

module _ (all : List Spelling) (numbers : List ℕ) (are : numbers ≡ map spelling_number all) (rise : AreInOrder numbers) (short : list_all has_short_text all ≡ true) (has : (s : Spelling) → Contains all s) where
  number_at : (k : ℕ) (s : Spelling) → k < length all → get_or numbers k 0 ≡ spelling_number (get_or all k s)
  number_at k s below = subst (λ l. get_or l k 0 ≡ spelling_number (get_or all k s)) (sym are) (get_or-map spelling_number all k s 0 below)

  -- a text of more than four letters is no spelling's
  pub no_long_spelling : (text : List ℕ) → 4 < length text → (s : Spelling) → SameLetters text (spelling_text s) → ⊥
  no_long_spelling text long s same =
      let at = has s in
      let is = subst (λ t. has_short_text t ≡ true) at.2 (passes has_short_text all short at.0 s at.1) in
      let small = few (lower (spelling_text s)) is in
      let lengths = sym (length-map text to_ascii_lowercase) ∙ ap length same in
      grind arith

  module _ (text : List ℕ) (is_name : is_short (lower text) ≡ true) where
    -- the spelling that has the number of a text has its letters
    same_letters : (i : ℕ) → i < length all → get_or numbers i 0 ≡ number (lower text) → (d : Spelling) → SameLetters text (spelling_text (get_or all i d))
    same_letters i below e d =
        let is = passes has_short_text all short i d below in
        one_text (lower text) (lower (spelling_text (get_or all i d))) is_name is (sym e ∙ number_at i d below)

    -- a text whose number is not among the numbers is no spelling's
    no_spelling : (i : ℕ) → ((k : ℕ) → k < i → get_or numbers k 0 < number (lower text)) → ((k : ℕ) → i ≤ k → k < length numbers → number (lower text) < get_or numbers k 0) → length numbers ≡ length all → (s : Spelling) → SameLetters text (spelling_text s) → ⊥
    no_spelling i less more len s same =
        let at = has s in
        let is : get_or numbers at.0 0 ≡ number (lower text) = number_at at.0 s at.1 ∙ ap spelling_number at.2 ∙ sym (ap number same) in
        elim (cases_lt at.0 i) [ inl l ↦ (let n = less at.0 l in omega arith) | inr l ↦ (let n = more at.0 l (omega arith) in omega arith) ]

    -- what the search's answer says, where it is taken as an option
    pub found_spelling : length numbers ≡ length all → (r : Result ℕ ℕ) (o : Option ℕ) → o ≡ result_ok r → IsBinarySearchResult (λ y. nat_cmp y (number (lower text))) numbers r
        → MatchOption o ((s : Spelling) → SameLetters text (spelling_text s) → ⊥) (λ i. (d : Spelling) → SameLetters text (spelling_text (get_or all i d)))
    found_spelling len (Ok i) (Some k) e holds =
        let found = searched numbers (number (lower text)) (Ok i) holds rise in
        λ d. subst (λ j. SameLetters text (spelling_text (get_or all j d))) (some_is i k (sym e)) (same_letters i (omega arith) found.1 d)
    found_spelling len (Ok i) None e holds = absurd (cc)
    found_spelling len (Err i) (Some k) e holds = absurd (cc)
    found_spelling len (Err i) None e holds =
        let found = searched numbers (number (lower text)) (Err i) holds rise in
        no_spelling i found.1 found.2 len

  -- what the search finds of a text that equals the one searched for
  pub found_written : (written text : List ℕ) → written ≡ text → is_short (lower written) ≡ true → length numbers ≡ length all → (n : ℕ) → n ≡ number (lower written) → (r : Result ℕ ℕ) (o : Option ℕ) → o ≡ result_ok r → IsBinarySearchResult (λ y. nat_cmp y n) numbers r
      → MatchOption o ((s : Spelling) → SameLetters text (spelling_text s) → ⊥) (λ i. (d : Spelling) → SameLetters text (spelling_text (get_or all i d)))
  found_written written text same short_text len n is r o e holds =
      subst (λ t. MatchOption o ((s : Spelling) → SameLetters t (spelling_text s) → ⊥) (λ i. (d : Spelling) → SameLetters t (spelling_text (get_or all i d)))) same
      (found_spelling written short_text len r o e (subst (λ m. IsBinarySearchResult (λ y. nat_cmp y m) numbers r) is holds))
