-- The entries of a word map ascend.
use Rattle.std.proofs.Common.{◌≡◌, ℕ, ◌+◌, ◌<◌, T, List, [], ◌∷◌, Some, ◌∙◌, arith}
use Rattle.std.specs.Ordering.{nat_cmp}
use Rattle.std.specs.FinMap as map
use Rattle.std.specs.FinMap.Entries.{find, below_all, is_sorted}
use Rattle.c25_meaning_image.specs.WordMap.{IsWordMap}
use Rattle.c25_hex.proofs.Entries.{first, second, AllFrom, all_above, found_behind, found_first}
use Rattle.c25_hex.proofs.Stretches.{Ascends}

ascending : (n : ℕ) (es : List (ℕ × ℕ)) → T (is_sorted nat_cmp es) → AllFrom n es → ((a w : ℕ) → find nat_cmp a es ≡ Some w → (a < 65536) × (w < 65536)) → Ascends n es
ascending n [] sorted from inside = tt
ascending n (e ∷ es) sorted from inside =
    let above = all_above e.0 es (first (below_all nat_cmp e.0 es) (is_sorted nat_cmp es) sorted) in
    let here = inside e.0 e.1 (found_first e es) in (
      from.0,
      here.0,
      here.1,
      ascending (e.0 + 1) es (second (below_all nat_cmp e.0 es) (is_sorted nat_cmp es) sorted) above (λ a w is. inside a w (found_behind e es a w above is)),
    )

from_zero : (es : List (ℕ × ℕ)) → AllFrom 0 es
from_zero [] = tt
from_zero (e ∷ es) = (omega arith, from_zero es)

-- a page of 16-bit words ascends from 0
pub word_map_ascends : (words : map.FinMap nat_cmp ℕ) → IsWordMap words → Ascends 0 (map.entries words)
word_map_ascends words inside =
    ascending 0 (map.entries words) (map.entries_sorted words) (from_zero (map.entries words)) (λ a w is. inside a w (map.get-entries words a ∙ is))
