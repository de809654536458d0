-- Lists of zeros.
use Rattle.std.proofs.Common.{◌≡◌, ℕ, ⊎_elim}
use Rattle.std.specs.Prelude.{slice_index, replicate}
use Rattle.std.proofs.lemmas.List.{get_or_past, length-replicate, get_or-replicate}
use Rattle.std.proofs.lemmas.Bool.{cases_lt}

-- a list of zeros has none but zeros
pub zeros_at : (n k : ℕ) → slice_index (replicate {A = ℕ} n 0) k ≡ 0
zeros_at n k = ⊎_elim (λ below. get_or-replicate {A = ℕ} n k 0 0 below) (λ past. get_or_past (replicate {A = ℕ} n 0) k 0 (rw length-replicate past)) (cases_lt k n)
