-- Rows that ascend: one place in them at most has an address in a context.
use Rattle.std.proofs.Common.{◌≡◌, ℕ, zero, suc, ◌+◌, ◌<◌, ◌≤◌, ◌==◌, ◌&&◌, Bool, true, false, cond, List, [], ◌∷◌, length, get_or, Some, find, nat_le, refl, ap, sym, subst, ◌∙◌, arith}
use Rattle.std.specs.Option.{option_map}
use Rattle.std.proofs.lemmas.Bool.{and_from, and_parts, eq-eqb, eqb-true, leb-true}
use Rattle.c25_pages.specs.Table.{ascend_from, is_at, known_in, row_key}
use Rattle.c25_pages.specs.declared.table.Row.{Row}

-- the first of ascending rows, and those after it
front : (low : ℕ) (x : Row) (xs : List Row) → ascend_from low (x ∷ xs) ≡ true → (low ≤ row_key x) × (ascend_from (row_key x + 1) xs ≡ true)
front low x xs e =
    let parts = and_parts (nat_le low (row_key x)) (ascend_from (row_key x + 1) xs) e in
    (leb-true low (row_key x) parts.0, parts.1)

above : (low : ℕ) (xs : List Row) (i : ℕ) (d : Row) → ascend_from low xs ≡ true → i < length xs → low ≤ row_key (get_or xs i d)
above low [] i d h lt = absurd (omega arith)
above low (x ∷ xs) zero d h lt = (front low x xs h).0
above low (x ∷ xs) (suc i) d h lt =
    let f = front low x xs h in
    let next : row_key x + 1 ≤ row_key (get_or xs i d) = above (row_key x + 1) xs i d f.1 (omega arith) in
    let here = f.0 in
    omega (arith, here, next)

-- two rows of one address in one context have one key
same_key : (context address : ℕ) (x y : Row) → is_at context address x ≡ true → is_at context address y ≡ true → row_key x ≡ row_key y
same_key context address x y first second =
    let a = and_parts (x.context == context) (x.address == address) first in
    let b = and_parts (y.context == context) (y.address == address) second in
    let xc = eqb-true x.context context a.0 in
    let xa = eqb-true x.address address a.1 in
    let yc = eqb-true y.context context b.0 in
    let ya = eqb-true y.address address b.1 in
    omega (arith, xc, xa, yc, ya)

not_at : (context address : ℕ) (x y : Row) (b : Bool) → is_at context address x ≡ b → is_at context address y ≡ true → row_key x < row_key y → b ≡ false
not_at context address x y true first second less = absurd (let same = same_key context address x y first second in omega (arith, same, less))
not_at context address x y false first second less = refl

pub found_row : (context address low : ℕ) (xs : List Row) (i : ℕ) (d : Row) → ascend_from low xs ≡ true → i < length xs → is_at context address (get_or xs i d) ≡ true → find (is_at context address) xs ≡ Some (get_or xs i d)
found_row context address low [] i d h lt here = absurd (omega arith)
found_row context address low (x ∷ xs) zero d h lt here = ap (λ b. cond b (Some x) (find (is_at context address) xs)) here
found_row context address low (x ∷ xs) (suc i) d h lt here =
    let f = front low x xs h in
    let below : i < length xs = omega arith in
    let next : row_key x + 1 ≤ row_key (get_or xs i d) = above (row_key x + 1) xs i d f.1 below in
    let off : is_at context address x ≡ false = not_at context address x (get_or xs i d) (is_at context address x) refl here (omega (arith, next)) in
    ap (λ b. cond b (Some x) (find (is_at context address) xs)) off ∙ found_row context address (row_key x + 1) xs i d f.1 below here

both_tests : (a b c d : ℕ) → a ≡ b → c ≡ d → ((a == b) && (c == d)) ≡ true
both_tests a b c d e f = and_from (a == b) (c == d) (eq-eqb a b e) (eq-eqb c d f)

-- what the row at an index says is what a look-up finds, if the row is at the address in the context
pub known_there : (slice rows : List Row) (context address i : ℕ) (row d : Row) → slice ≡ rows → ascend_from 0 rows ≡ true → i < length slice → row ≡ get_or slice i d → row.context ≡ context → row.address ≡ address
    → known_in rows context address ≡ Some row.known
unfolding known_in
known_there slice rows context address i row d same ascend lt read at there =
    let is : row ≡ get_or rows i d = read ∙ ap (λ (rs : List Row). get_or rs i d) same in
    let here : is_at context address (get_or rows i d) ≡ true = subst (λ (r : Row). is_at context address r ≡ true) is (both_tests row.context context row.address address at there) in
    ap (option_map (λ (r : Row). r.known)) (found_row context address 0 rows i d ascend (omega (arith, lt, ap length same)) here) ∙ ap (λ (r : Row). Some r.known) (sym is)
