-- Cells as bytes by their addresses.
use Rattle.std.proofs.Common.{◌≡◌, ◌≢◌, ℕ, zero, suc, ◌+◌, ◌-◌, ◌*◌, ◌/◌, ◌%◌, ◌<◌, ◌≤◌, Bool, true, false, ◌||◌, cond, eqb, not, List, [], ◌∷◌, length, get_or, set, take, drop, replicate, Option, Some, None, is_some, refl, sym, ap, ◌∙◌, arith, inl, inr, ◌⊎◌}
use Rattle.std.specs.List.{list_any}
use Rattle.std.specs.Ordering.{nat_cmp, eq_by_cmp}
use Rattle.std.specs.Cmp.{nat_cmp_total, unsigned_tied}
use Rattle.std.specs.FinMap as map
use Rattle.std.specs.FinMap.{get-insert, get-empty, get-from_entries, same_map, nat_cmp-IsAntisymmetric}
use Rattle.std.specs.FinMap.Entries.{find}
use Rattle.std.proofs.lemmas.Bool.{ne_eqb, eq-eqb, eqb-true, eqb-false, cases_lt, cases_Bool, cond-true, cond-false, not-true, not-false, or_parts, or_cases}
use Rattle.std.proofs.lemmas.Bool.Decides.{eqb_tells}
use Rattle.std.proofs.lemmas.List.{get_or-set_same, get_or-set_other, get_or-replicate, get_or_past, length-replicate, drop_more}
use Rattle.c25_hex.specs.Hex.{put_bytes, gives_again, has_odd_word, other_byte}
use Rattle.c25_hex.proofs.Entries.{any_entry, no_entry}
use Rattle.c25_hex.specs.Cells.{entries_from, cells_map, same_given, has_odd_pair}

-- ---- look-ups

find_before : (q n : ℕ) (cells : List (Option ℕ)) → q < n → find nat_cmp q (entries_from n cells) ≡ None
find_before q n [] lt = refl
find_before q n (None ∷ cells) lt = find_before q (n + 1) cells (omega arith)
find_before q n (Some b ∷ cells) lt =
    let apart : eq_by_cmp nat_cmp q n ≡ false = unsigned_tied q n ∙ ne_eqb q n (λ (same : q ≡ n). omega arith) in
    rw apart (find_before q (n + 1) cells (omega arith))

one_on : (n k : ℕ) → n + suc k ≡ n + 1 + k
one_on n k = omega arith

find_at : (n k : ℕ) (cells : List (Option ℕ)) → find nat_cmp (n + k) (entries_from n cells) ≡ get_or cells k None
find_at n k [] = refl
find_at n zero (None ∷ cells) = find_before (n + 0) (n + 1) cells (omega arith)
find_at n zero (Some b ∷ cells) =
    let same : eq_by_cmp nat_cmp (n + 0) n ≡ true = unsigned_tied (n + 0) n ∙ eq-eqb (n + 0) n (omega arith) in rw same refl
find_at n (suc k) (None ∷ cells) = ap (λ (q : ℕ). find nat_cmp q (entries_from (n + 1) cells)) (one_on n k) ∙ find_at (n + 1) k cells
find_at n (suc k) (Some b ∷ cells) =
    let apart : eq_by_cmp nat_cmp (n + suc k) n ≡ false = unsigned_tied (n + suc k) n ∙ ne_eqb (n + suc k) n (λ (same : n + suc k ≡ n). omega arith) in
    rw apart (ap (λ (q : ℕ). find nat_cmp q (entries_from (n + 1) cells)) (one_on n k) ∙ find_at (n + 1) k cells)

-- the byte at an address is that of the cell
pub get-cells : (cells : List (Option ℕ)) (q : ℕ) → map.get (cells_map cells) q ≡ get_or cells q None
unfolding cells_map
get-cells cells q =
    get-from_entries nat_cmp_total (entries_from 0 cells) q
    ∙ ap (λ (p : ℕ). find nat_cmp p (entries_from 0 cells)) (let e : q ≡ 0 + q = omega arith in e) ∙ find_at 0 q cells

same_bytes : (m n : map.FinMap nat_cmp ℕ) → ((q : ℕ) → map.get m q ≡ map.get n q) → m ≡ n
same_bytes m n is = same_map nat_cmp_total nat_cmp-IsAntisymmetric m n is

-- a cell that is written
pub cells-set : (cells : List (Option ℕ)) (p b : ℕ) → p < length cells → cells_map (set cells p (Some b)) ≡ map.insert (cells_map cells) p b
cells-set cells p b lt = same_bytes (cells_map (set cells p (Some b))) (map.insert (cells_map cells) p b) (λ q.
    get-cells (set cells p (Some b)) q ∙ at q (eqb_tells q p) ∙ sym (get-insert nat_cmp_total (cells_map cells) p b q ∙ ap (λ (t : Bool). cond t (Some b) (map.get (cells_map cells) q)) (unsigned_tied q p))) where
      at : (q : ℕ) → ((eqb q p ≡ true) × (q ≡ p)) ⊎ ((eqb q p ≡ false) × (q ≢ p)) → get_or (set cells p (Some b)) q None ≡ cond (eqb q p) (Some b) (map.get (cells_map cells) q)
      at q (inl h) = ap (λ (i : ℕ). get_or (set cells p (Some b)) i None) h.1 ∙ get_or-set_same cells p (Some b) None lt ∙ sym (cond-true (eqb q p) (Some b) (map.get (cells_map cells) q) h.0)
      at q (inr h) = get_or-set_other cells p q (Some b) None h.1 ∙ sym (get-cells cells q) ∙ sym (cond-false (eqb q p) (Some b) (map.get (cells_map cells) q) h.0)

none_at : (n k : ℕ) → get_or (replicate {A = Option ℕ} n None) k None ≡ None
none_at n k = elim (cases_lt k n) [
  | inl lt ↦ get_or-replicate n k None None lt
  | inr le ↦ get_or_past (replicate {A = Option ℕ} n None) k None (let e = length-replicate {A = Option ℕ} n None in omega arith)
]

-- cells of which none is given
pub cells-none : (cells : List (Option ℕ)) (n : ℕ) → cells ≡ replicate n None → cells_map cells ≡ map.empty
cells-none cells n none = same_bytes (cells_map cells) map.empty (λ q.
    get-cells cells q ∙ ap (λ (cs : List (Option ℕ)). get_or cs q None) none ∙ none_at n q ∙ sym (get-empty nat_cmp q))

-- ---- bytes that are given again

-- cells of which one is given
pub cells-again : (cells : List (Option ℕ)) (place : ℕ) (bytes : List ℕ) → place + length bytes ≤ length cells
    → list_any is_some (take (length bytes) (drop place cells)) ≡ gives_again (cells_map cells) place bytes
cells-again cells place [] fits = refl
cells-again cells place (b ∷ bytes) fits =
    let here : drop place cells ≡ get_or cells place None ∷ drop (place + 1) cells = drop_more cells place None (omega arith) in
    let given : is_some (get_or cells place None) ≡ map.contains_key (cells_map cells) place = ap (λ (o : Option ℕ). is_some o) (sym (get-cells cells place)) in
    ap (λ (cs : List (Option ℕ)). list_any is_some (take (length (b ∷ bytes)) cs)) here
    ∙ ap (λ (t : Bool). t || list_any is_some (take (length bytes) (drop (place + 1) cells))) given
    ∙ ap (λ (t : Bool). map.contains_key (cells_map cells) place || t) (cells-again cells (place + 1) bytes (omega arith))

-- ---- words of which one byte is given

two_later : (a : ℕ) → 2 * suc a ≡ suc (suc (2 * a))
two_later a = omega arith

three_later : (a : ℕ) → 2 * suc a + 1 ≡ suc (suc (2 * a + 1))
three_later a = omega arith

later_pair : (x y : Option ℕ) (cells : List (Option ℕ)) (a : ℕ) → same_given (get_or cells (2 * a) None) (get_or cells (2 * a + 1) None) ≡ true
    → same_given (get_or (x ∷ y ∷ cells) (2 * suc a) None) (get_or (x ∷ y ∷ cells) (2 * suc a + 1) None) ≡ true
later_pair x y cells a h =
    ap (λ (i : ℕ). same_given (get_or (x ∷ y ∷ cells) i None) (get_or (x ∷ y ∷ cells) (2 * suc a + 1) None)) (two_later a)
    ∙ ap (λ (i : ℕ). same_given (get_or cells (2 * a) None) (get_or (x ∷ y ∷ cells) i None)) (three_later a) ∙ h

past_one : (x : Option ℕ) (k : ℕ) → get_or (x ∷ []) (suc k) None ≡ None
past_one x k = refl

even_pairs : (cells : List (Option ℕ)) → has_odd_pair cells ≡ false → (a : ℕ) → same_given (get_or cells (2 * a) None) (get_or cells (2 * a + 1) None) ≡ true
even_pairs [] h a = refl
even_pairs (None ∷ []) h zero = refl
even_pairs (Some x ∷ []) h zero = cc h
even_pairs (x ∷ []) h (suc a) =
    ap (λ (i : ℕ). same_given (get_or (x ∷ []) i None) (get_or (x ∷ []) (2 * suc a + 1) None)) (two_later a)
    ∙ ap (λ (i : ℕ). same_given None (get_or (x ∷ []) i None)) (three_later a)
even_pairs (x ∷ y ∷ cells) h zero = not-false (same_given x y) (or_parts (not (same_given x y)) (has_odd_pair cells) h).0
even_pairs (x ∷ y ∷ cells) h (suc a) = later_pair x y cells a (even_pairs cells (or_parts (not (same_given x y)) (has_odd_pair cells) h).1 a)

-- a cell that is given, while the other one of its word is not
record Odd (cells : List (Option ℕ)) : Type 0 where
  place : ℕ
  byte : ℕ
  given : get_or cells place None ≡ Some byte
  other : get_or cells (other_byte place) None ≡ None

other_later : (p : ℕ) → other_byte (suc (suc p)) ≡ suc (suc (other_byte p))
other_later p =
    let same : eqb (suc (suc p) % 2) 0 ≡ eqb (p % 2) 0 = ap (λ (r : ℕ). eqb r 0) (let e : suc (suc p) % 2 ≡ p % 2 = omega arith in e) in
    elim (cases_Bool (eqb (p % 2) 0)) [
      | inl h ↦ (let there = same ∙ h in rw (there, h) (let e : suc (suc p) + 1 ≡ suc (suc (p + 1)) = omega arith in e))
      | inr h ↦
          (let there = same ∙ h in
          let odd = eqb-false (p % 2) 0 h in
          rw (there, h) (let e : suc (suc p) - 1 ≡ suc (suc (p - 1)) = omega arith in e))
    ]

first_pair : (x y : Option ℕ) (cells : List (Option ℕ)) → same_given x y ≡ false → Odd (x ∷ y ∷ cells)
first_pair None None cells h = cc h
first_pair None (Some b) cells h = record { place = 1; byte = b; given = refl; other = refl }
first_pair (Some b) None cells h = record { place = 0; byte = b; given = refl; other = refl }
first_pair (Some b) (Some c) cells h = cc h

odd_pair : (cells : List (Option ℕ)) → has_odd_pair cells ≡ true → Odd cells
odd_pair [] h = cc h
odd_pair (None ∷ []) h = cc h
odd_pair (Some b ∷ []) h = record { place = 0; byte = b; given = refl; other = refl }
odd_pair (x ∷ y ∷ cells) h = elim (or_cases (not (same_given x y)) (has_odd_pair cells) h) [
  | inl here ↦ first_pair x y cells (not-true (same_given x y) here)
  | inr later ↦
      (let o = odd_pair cells later in record {
        place = suc (suc o.place);
        byte = o.byte;
        given = o.given;
        other = ap (λ (i : ℕ). get_or (x ∷ y ∷ cells) i None) (other_later o.place) ∙ o.other;
      })
]

low_given : (b : ℕ) (low : Option ℕ) → same_given (Some b) low ≡ true → is_some low ≡ true
low_given b low h = h

high_given : (high : Option ℕ) (b : ℕ) → same_given high (Some b) ≡ true → is_some high ≡ true
high_given None b h = cc h
high_given (Some a) b h = refl

other_given : (cells : List (Option ℕ)) (p b : ℕ) → has_odd_pair cells ≡ false → get_or cells p None ≡ Some b → is_some (get_or cells (other_byte p) None) ≡ true
other_given cells p b even given =
    let pair = even_pairs cells even (p / 2) in
    elim (cases_Bool (eqb (p % 2) 0)) [
      | inl h ↦
          (let zero_left = eqb-true (p % 2) 0 h in
          let here : 2 * (p / 2) ≡ p = omega arith in
          let next : 2 * (p / 2) + 1 ≡ p + 1 = omega arith in
          let other : other_byte p ≡ p + 1 = cond-true (eqb (p % 2) 0) (p + 1) (p - 1) h in
          ap (λ (i : ℕ). is_some (get_or cells i None)) other
          ∙ low_given b (get_or cells (p + 1) None)
          (ap (λ (o : Option ℕ). same_given o (get_or cells (p + 1) None)) (sym given)
          ∙ ap (λ (i : ℕ). same_given (get_or cells i None) (get_or cells (p + 1) None)) (sym here)
          ∙ ap (λ (i : ℕ). same_given (get_or cells (2 * (p / 2)) None) (get_or cells i None)) (sym next) ∙ pair))
      | inr h ↦
          (let one_left = eqb-false (p % 2) 0 h in
          let before : 2 * (p / 2) ≡ p - 1 = omega arith in
          let here : 2 * (p / 2) + 1 ≡ p = omega arith in
          let other : other_byte p ≡ p - 1 = cond-false (eqb (p % 2) 0) (p + 1) (p - 1) h in
          ap (λ (i : ℕ). is_some (get_or cells i None)) other
          ∙ high_given (get_or cells (p - 1) None) b
          (ap (λ (o : Option ℕ). same_given (get_or cells (p - 1) None) o) (sym given)
          ∙ ap (λ (i : ℕ). same_given (get_or cells (p - 1) None) (get_or cells i None)) (sym here)
          ∙ ap (λ (i : ℕ). same_given (get_or cells i None) (get_or cells (2 * (p / 2) + 1) None)) (sym before) ∙ pair))
    ]

abbrev lacks_other : List (Option ℕ) → ℕ → Bool
lacks_other cells p = not (map.contains_key (cells_map cells) (other_byte p))

-- an odd pair of cells is an odd word
pub odd-cells : (cells : List (Option ℕ)) → has_odd_pair cells ≡ has_odd_word (cells_map cells)
unfolding has_odd_word
odd-cells cells = elim (cases_Bool (has_odd_pair cells)) [
  | inl h ↦
      (let o = odd_pair cells h in
      let found = sym (map.get-entries (cells_map cells) o.place) ∙ get-cells cells o.place ∙ o.given in
      let lacks : lacks_other cells o.place ≡ true = ap (λ (c : Option ℕ). not (is_some c)) (get-cells cells (other_byte o.place) ∙ o.other) in
      h ∙ sym (any_entry (lacks_other cells) (map.entries (cells_map cells)) o.place o.byte found lacks))
  | inr h ↦
      h ∙ sym (no_entry (lacks_other cells) (map.entries (cells_map cells)) (map.entries_sorted (cells_map cells)) (λ q w is.
      let given = sym (get-cells cells q) ∙ map.get-entries (cells_map cells) q ∙ is in
      ap (λ (t : Bool). not t) (ap (λ (c : Option ℕ). is_some c) (get-cells cells (other_byte q)) ∙ other_given cells q w h given)))
]

-- one byte more is put
pub put_more : (cells : List (Option ℕ)) (place i : ℕ) (bytes : List ℕ) (total : map.FinMap nat_cmp ℕ) → i < length bytes → place + length bytes ≤ length cells
    → put_bytes (cells_map cells) (place + i) (drop i bytes) ≡ total → put_bytes (cells_map (set cells (place + i) (Some (get_or bytes i 0)))) (place + (i + 1)) (drop (i + 1) bytes) ≡ total
put_more cells place i bytes total lt fits so_far =
    ap (λ (m : map.FinMap nat_cmp ℕ). put_bytes m (place + (i + 1)) (drop (i + 1) bytes)) (cells-set cells (place + i) (get_or bytes i 0) (omega arith))
    ∙ ap (λ (p : ℕ). put_bytes (map.insert (cells_map cells) (place + i) (get_or bytes i 0)) p (drop (i + 1) bytes)) (let e : place + (i + 1) ≡ place + i + 1 = omega arith in e)
    ∙ ap (λ (bs : List ℕ). put_bytes (cells_map cells) (place + i) bs) (sym (drop_more bytes i 0 lt)) ∙ so_far
