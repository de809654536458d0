-- Lists whose items ascend by place.
use Rattle.std.proofs.Common.{ℕ, ◌+◌, ◌≤◌, ◌<◌, List, [], ◌∷◌, ◌++◌, arith}

-- each item is good, lies at or after the first place and after the item before it, and the last one before
-- the second place
abbrev pub Chain : {X : Type 0} → (X → ℕ) → (X → Type 0) → ℕ → ℕ → List X → Type 0
Chain at good low high [] = low ≤ high
Chain at good low high (x ∷ xs) = (low ≤ at x) × good x × Chain at good (at x + 1) high xs

pub chain_bound : {X : Type 0} (at : X → ℕ) (good : X → Type 0) (low high : ℕ) (xs : List X) → Chain at good low high xs → low ≤ high
chain_bound at good low high [] h = h
chain_bound at good low high (x ∷ xs) h = let b = chain_bound at good (at x + 1) high xs h.2 in let a = h.0 in omega (arith, a, b)

pub chain_lower : {X : Type 0} (at : X → ℕ) (good : X → Type 0) (less low high : ℕ) (xs : List X) → less ≤ low → Chain at good low high xs → Chain at good less high xs
chain_lower at good less low high [] l h = omega (arith, l, h)
chain_lower at good less low high (x ∷ xs) l h = let a = h.0 in (omega (arith, a, l), h.1, h.2)

pub chain_longer : {X : Type 0} (at : X → ℕ) (good : X → Type 0) (low high more : ℕ) (xs : List X) → high ≤ more → Chain at good low high xs → Chain at good low more xs
chain_longer at good low high more [] l h = omega (arith, l, h)
chain_longer at good low high more (x ∷ xs) l h = (h.0, h.1, chain_longer at good (at x + 1) high more xs l h.2)

pub chain_append : {X : Type 0} (at : X → ℕ) (good : X → Type 0) (low mid high : ℕ) (xs ys : List X) → Chain at good low mid xs → Chain at good mid high ys → Chain at good low high (xs ++ ys)
chain_append at good low mid high [] ys g h = chain_lower at good low mid high ys g h
chain_append at good low mid high (x ∷ xs) ys g h = (g.0, g.1, chain_append at good (at x + 1) mid high xs ys g.2 h)

pub chain_weaker : {X : Type 0} (at : X → ℕ) (good fair : X → Type 0) (low high : ℕ) (xs : List X) → ((x : X) → at x < high → good x → fair x) → Chain at good low high xs → Chain at fair low high xs
chain_weaker at good fair low high [] f h = h
chain_weaker at good fair low high (x ∷ xs) f h =
    let b = chain_bound at good (at x + 1) high xs h.2 in
    (h.0, f x (omega (arith, b)) h.1, chain_weaker at good fair (at x + 1) high xs f h.2)

-- one item more, after the others
pub chain_push : {X : Type 0} (at : X → ℕ) (good : X → Type 0) (low high : ℕ) (xs : List X) (x : X) → Chain at good low (at x) xs → good x → at x < high → Chain at good low high (xs ++ x ∷ [])
chain_push at good low high xs x h g l = chain_append at good low (at x) high xs (x ∷ []) h (omega arith, g, omega (arith, l))
