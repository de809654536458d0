-- The bytes of some words, and no others.
use Rattle.std.proofs.Common.{◌≡◌, ◌≢◌, ℕ, ◌+◌, ◌-◌, ◌*◌, ◌/◌, ◌%◌, ◌<◌, ◌≤◌, Bool, true, false, ◌||◌, cond, eqb, not, List, [], ◌∷◌, ◌++◌, length, Option, Some, None, is_some, refl, sym, ap, ◌∙◌, arith, inl, inr, append_assoc, append-nil}
use Rattle.std.specs.List.{flat_map}
use Rattle.std.specs.Ordering.{nat_cmp, eq_by_cmp}
use Rattle.std.specs.Cmp.{nat_cmp_total, unsigned_tied}
use Rattle.std.specs.FinMap as map
use Rattle.std.specs.FinMap.{get-insert, get-empty}
use Rattle.std.specs.FinMap.Entries.{find, find-append}
use Rattle.std.proofs.lemmas.Bool.{ne_eqb, eq-eqb, eqb-true, eqb-false, cases_lt, cases_Bool, cond-true, cond-false}
use Rattle.std.proofs.lemmas.Bool.Decides.{eqb_tells}
use Rattle.c25_hex.specs.Hex.{put_bytes, gives_again, has_odd_word, other_byte, word_of}
use Rattle.c25_hex.specs.HexText.{word_bytes}
use Rattle.c25_hex.proofs.Entries.{no_entry}

-- the bytes of a word that may be there
abbrev pub high : Option ℕ → Option ℕ
high None = None
high (Some w) = Some (w / 256)

abbrev pub low : Option ℕ → Option ℕ
low None = None
low (Some w) = Some (w % 256)

-- the bytes are those of these words
pub record Holds (bytes : map.FinMap nat_cmp ℕ) (done : List (ℕ × ℕ)) : Type 0 where
  pub highs : (a : ℕ) → map.get bytes (2 * a) ≡ high (find nat_cmp a done)
  pub lows : (a : ℕ) → map.get bytes (2 * a + 1) ≡ low (find nat_cmp a done)

-- the addresses of words are below a number
abbrev pub AllBelow : ℕ → List (ℕ × ℕ) → Type 0
AllBelow n [] = Unit {0}
AllBelow n (e ∷ es) = (e.0 < n) × AllBelow n es

pub below_more : (m n : ℕ) (es : List (ℕ × ℕ)) → m ≤ n → AllBelow m es → AllBelow n es
below_more m n [] le h = tt
below_more m n (e ∷ es) le h = (let h0 = h.0 in omega arith, below_more m n es le h.1)

below_push : (n a w : ℕ) (es : List (ℕ × ℕ)) → AllBelow n es → a < n → AllBelow n (es ++ (a, w) ∷ [])
below_push n a w [] h lt = (lt, tt)
below_push n a w (e ∷ es) h lt = (h.0, below_push n a w es h.1 lt)

-- no word is at or above
find_none : (n a : ℕ) (es : List (ℕ × ℕ)) → AllBelow n es → n ≤ a → find nat_cmp a es ≡ None
find_none n a [] h le = refl
find_none n a (e ∷ es) h le =
    let h0 : e.0 < n = h.0 in
    let apart : eq_by_cmp nat_cmp a e.0 ≡ false = unsigned_tied a e.0 ∙ ne_eqb a e.0 (λ (same : a ≡ e.0). let x : e.0 < e.0 = omega arith in omega arith) in
    rw apart (find_none n a es h.1 le)

find_push : (a k w : ℕ) (es : List (ℕ × ℕ)) → find nat_cmp k es ≡ None → find nat_cmp a (es ++ (k, w) ∷ []) ≡ cond (eqb a k) (Some w) (find nat_cmp a es)
find_push a k w es none =
    find-append nat_cmp nat_cmp_total es k w a none ∙ ap (λ (b : Bool). cond b (Some w) (find nat_cmp a es)) (unsigned_tied a k)

-- ---- one word more

put_same : (m : map.FinMap nat_cmp ℕ) (p b : ℕ) → map.get (map.insert m p b) p ≡ Some b
put_same m p b =
    get-insert nat_cmp_total m p b p ∙ cond-true (eq_by_cmp nat_cmp p p) (Some b) (map.get m p) (unsigned_tied p p ∙ eq-eqb p p refl)

put_other : (m : map.FinMap nat_cmp ℕ) (p b q : ℕ) → q ≢ p → map.get (map.insert m p b) q ≡ map.get m q
put_other m p b q apart =
    get-insert nat_cmp_total m p b q ∙ cond-false (eq_by_cmp nat_cmp q p) (Some b) (map.get m q) (unsigned_tied q p ∙ ne_eqb q p apart)

twice_apart : (a k : ℕ) → a ≢ k → 2 * a ≢ 2 * k
twice_apart a k apart same = apart (omega arith)

even_odd : (a k : ℕ) → 2 * a ≢ 2 * k + 1
even_odd a k same = omega arith

odd_even : (a k : ℕ) → 2 * a + 1 ≢ 2 * k
odd_even a k same = omega arith

twice_apart_odd : (a k : ℕ) → a ≢ k → 2 * a + 1 ≢ 2 * k + 1
twice_apart_odd a k apart same = apart (omega arith)

abbrev with_word : map.FinMap nat_cmp ℕ → ℕ → ℕ → map.FinMap nat_cmp ℕ
with_word bytes k w = map.insert (map.insert bytes (2 * k) (w / 256)) (2 * k + 1) (w % 256)

high_there : (bytes : map.FinMap nat_cmp ℕ) (k w : ℕ) → map.get (with_word bytes k w) (2 * k) ≡ Some (w / 256)
high_there bytes k w = put_other (map.insert bytes (2 * k) (w / 256)) (2 * k + 1) (w % 256) (2 * k) (even_odd k k) ∙ put_same bytes (2 * k) (w / 256)

low_there : (bytes : map.FinMap nat_cmp ℕ) (k w : ℕ) → map.get (with_word bytes k w) (2 * k + 1) ≡ Some (w % 256)
low_there bytes k w = put_same (map.insert bytes (2 * k) (w / 256)) (2 * k + 1) (w % 256)

high_elsewhere : (bytes : map.FinMap nat_cmp ℕ) (k w a : ℕ) → a ≢ k → map.get (with_word bytes k w) (2 * a) ≡ map.get bytes (2 * a)
high_elsewhere bytes k w a apart =
    put_other (map.insert bytes (2 * k) (w / 256)) (2 * k + 1) (w % 256) (2 * a) (even_odd a k) ∙ put_other bytes (2 * k) (w / 256) (2 * a) (twice_apart a k apart)

low_elsewhere : (bytes : map.FinMap nat_cmp ℕ) (k w a : ℕ) → a ≢ k → map.get (with_word bytes k w) (2 * a + 1) ≡ map.get bytes (2 * a + 1)
low_elsewhere bytes k w a apart =
    put_other (map.insert bytes (2 * k) (w / 256)) (2 * k + 1) (w % 256) (2 * a + 1) (twice_apart_odd a k apart) ∙ put_other bytes (2 * k) (w / 256) (2 * a + 1) (odd_even a k)

one_word : (bytes : map.FinMap nat_cmp ℕ) (done : List (ℕ × ℕ)) (k w : ℕ) → Holds bytes done → find nat_cmp k done ≡ None → Holds (with_word bytes k w) (done ++ (k, w) ∷ [])
one_word bytes done k w holds none = record {
  highs = λ a. elim (eqb_tells a k) [
    | inl h ↦ ap (λ (i : ℕ). map.get (with_word bytes k w) (2 * i)) h.1 ∙ high_there bytes k w
        ∙ sym (ap high (find_push a k w done none ∙ ap (λ (b : Bool). cond b (Some w) (find nat_cmp a done)) h.0))
    | inr h ↦ high_elsewhere bytes k w a h.1 ∙ holds.highs a
        ∙ sym (ap high (find_push a k w done none ∙ ap (λ (b : Bool). cond b (Some w) (find nat_cmp a done)) h.0))
  ];
  lows = λ a. elim (eqb_tells a k) [
    | inl h ↦ ap (λ (i : ℕ). map.get (with_word bytes k w) (2 * i + 1)) h.1 ∙ low_there bytes k w
        ∙ sym (ap low (find_push a k w done none ∙ ap (λ (b : Bool). cond b (Some w) (find nat_cmp a done)) h.0))
    | inr h ↦ low_elsewhere bytes k w a h.1 ∙ holds.lows a
        ∙ sym (ap low (find_push a k w done none ∙ ap (λ (b : Bool). cond b (Some w) (find nat_cmp a done)) h.0))
  ];
}

-- ---- the words of a line

-- words at the addresses from one on
abbrev pub entries_from : ℕ → List ℕ → List (ℕ × ℕ)
entries_from k [] = []
entries_from k (w ∷ ws) = (k, w) ∷ entries_from (k + 1) ws

two_on : (k : ℕ) → 2 * k + 1 + 1 ≡ 2 * (k + 1)
two_on k = omega arith

pub holds_words : (bytes : map.FinMap nat_cmp ℕ) (done : List (ℕ × ℕ)) (k : ℕ) (ws : List ℕ) → Holds bytes done → AllBelow k done
    → Holds (put_bytes bytes (2 * k) (flat_map word_bytes ws)) (done ++ entries_from k ws)
holds_words bytes done k [] holds below = rw (append-nil done) holds
holds_words bytes done k (w ∷ ws) holds below =
    let more = one_word bytes done k w holds (find_none k k done below (omega arith)) in
    let ih = holds_words (with_word bytes k w) (done ++ (k, w) ∷ []) (k + 1) ws more (below_push (k + 1) k w done (below_more k (k + 1) done (omega arith) below) (omega arith)) in
    let place : put_bytes (with_word bytes k w) (2 * k + 1 + 1) (flat_map word_bytes ws) ≡ put_bytes (with_word bytes k w) (2 * (k + 1)) (flat_map word_bytes ws)
    = ap (λ (p : ℕ). put_bytes (with_word bytes k w) p (flat_map word_bytes ws)) (two_on k) in
    rw (place, sym (append_assoc done ((k, w) ∷ []) (entries_from (k + 1) ws))) ih

pub below_words : (done : List (ℕ × ℕ)) (k : ℕ) (ws : List ℕ) → AllBelow k done → AllBelow (k + length ws) (done ++ entries_from k ws)
below_words done k [] below = rw (append-nil done) (below_more k (k + length {A = ℕ} []) done (omega arith) below)
below_words done k (w ∷ ws) below =
    let ih = below_words (done ++ (k, w) ∷ []) (k + 1) ws (below_push (k + 1) k w done (below_more k (k + 1) done (omega arith) below) (omega arith)) in
    below_more (k + 1 + length ws) (k + length (w ∷ ws)) (done ++ entries_from k (w ∷ ws)) (omega arith)
    (rw (append_assoc done ((k, w) ∷ []) (entries_from (k + 1) ws)) at ih)

-- ---- what the bytes show

by_halves : (bytes : map.FinMap nat_cmp ℕ) (done : List (ℕ × ℕ)) (n p : ℕ) → Holds bytes done → AllBelow n done → 2 * n ≤ p → map.get bytes p ≡ None
by_halves bytes done n p holds below le =
    let gone : find nat_cmp (p / 2) done ≡ None = find_none n (p / 2) done below (omega arith) in
    elim (cases_lt 0 (p % 2)) [
      | inl odd ↦
          let e : p ≡ 2 * (p / 2) + 1 = omega arith in
          ap (λ (i : ℕ). map.get bytes i) e ∙ holds.lows (p / 2) ∙ ap low gone
      | inr even ↦
          let e : p ≡ 2 * (p / 2) = omega arith in
          ap (λ (i : ℕ). map.get bytes i) e ∙ holds.highs (p / 2) ∙ ap high gone
    ]

-- no byte after the words is given again
pub none_again : (bytes : map.FinMap nat_cmp ℕ) (done : List (ℕ × ℕ)) (n place : ℕ) (bs : List ℕ) → Holds bytes done → AllBelow n done → 2 * n ≤ place → gives_again bytes place bs ≡ false
none_again bytes done n place [] holds below le = refl
none_again bytes done n place (b ∷ bs) holds below le =
    let gone = by_halves bytes done n place holds below le in
    ap (λ (o : Option ℕ). is_some o || gives_again bytes (place + 1) bs) gone ∙ none_again bytes done n (place + 1) bs holds below (omega arith)

low_with_high : (o : Option ℕ) (b : ℕ) → high o ≡ Some b → is_some (low o) ≡ true
low_with_high None b h = cc h
low_with_high (Some w) b h = refl

high_with_low : (o : Option ℕ) (b : ℕ) → low o ≡ Some b → is_some (high o) ≡ true
high_with_low None b h = cc h
high_with_low (Some w) b h = refl

other_there : (bytes : map.FinMap nat_cmp ℕ) (done : List (ℕ × ℕ)) (q b : ℕ) → Holds bytes done → map.get bytes q ≡ Some b → is_some (map.get bytes (other_byte q)) ≡ true
other_there bytes done q b holds is = elim (cases_Bool (eqb (q % 2) 0)) [
  | inl h ↦
      (let none_left = eqb-true (q % 2) 0 h in
      let here : 2 * (q / 2) ≡ q = omega arith in
      let next : q + 1 ≡ 2 * (q / 2) + 1 = omega arith in
      let other : other_byte q ≡ 2 * (q / 2) + 1 = cond-true (eqb (q % 2) 0) (q + 1) (q - 1) h ∙ next in
      ap (λ (i : ℕ). is_some (map.get bytes i)) other ∙ ap (λ (o : Option ℕ). is_some o) (holds.lows (q / 2))
      ∙ low_with_high (find nat_cmp (q / 2) done) b (sym (holds.highs (q / 2)) ∙ ap (λ (i : ℕ). map.get bytes i) here ∙ is))
  | inr h ↦
      (let one_left = eqb-false (q % 2) 0 h in
      let here : 2 * (q / 2) + 1 ≡ q = omega arith in
      let before : q - 1 ≡ 2 * (q / 2) = omega arith in
      let other : other_byte q ≡ 2 * (q / 2) = cond-false (eqb (q % 2) 0) (q + 1) (q - 1) h ∙ before in
      ap (λ (i : ℕ). is_some (map.get bytes i)) other ∙ ap (λ (o : Option ℕ). is_some o) (holds.highs (q / 2))
      ∙ high_with_low (find nat_cmp (q / 2) done) b (sym (holds.lows (q / 2)) ∙ ap (λ (i : ℕ). map.get bytes i) here ∙ is))
]

-- each word has both bytes
pub no_odd_word : (bytes : map.FinMap nat_cmp ℕ) (done : List (ℕ × ℕ)) → Holds bytes done → has_odd_word bytes ≡ false
unfolding has_odd_word
no_odd_word bytes done holds =
    no_entry (λ (p : ℕ). not (map.contains_key bytes (other_byte p))) (map.entries bytes) (map.entries_sorted bytes)
    (λ q b is. ap (λ (t : Bool). not t) (other_there bytes done q b holds (map.get-entries bytes q ∙ is)))

whole : (o : Option ℕ) → word_of (high o) (low o) ≡ o
whole None = refl
whole (Some w) = let e : 256 * (w / 256) + w % 256 ≡ w = omega arith in ap Some e

-- the words of the bytes
pub word_held : (bytes : map.FinMap nat_cmp ℕ) (done : List (ℕ × ℕ)) (a : ℕ) → Holds bytes done → word_of (map.get bytes (2 * a)) (map.get bytes (2 * a + 1)) ≡ find nat_cmp a done
word_held bytes done a holds =
    ap (λ (o : Option ℕ). word_of o (map.get bytes (2 * a + 1))) (holds.highs a) ∙ ap (λ (o : Option ℕ). word_of (high (find nat_cmp a done)) o) (holds.lows a)
    ∙ whole (find nat_cmp a done)

-- before the first line no word is there
pub nothing_held : Holds map.empty []
nothing_held = record { highs = λ a. get-empty nat_cmp (2 * a); lows = λ a. get-empty nat_cmp (2 * a + 1) }
