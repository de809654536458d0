-- The words of the sections of a module so far are no more than those of all.
use Rattle.std.proofs.Common.{ℕ, zero, suc, ◌≤◌, List, [], ◌∷◌, take, arith}
use Rattle.std.specs.List.{sum_by}
use Rattle.std.proofs.lemmas.List.Sums.{sum_by-cons}
use Rattle.c25_meaning_linking.specs.Place.{size_for}
use Rattle.c25_module.specs.View.{section_data, sections_data}
use Rattle.c25_module.specs.declared.parts.Section.{Section}

pub part_le : (name : List ℕ) (ss : List Section) (k : ℕ) → sum_by (size_for name) (sections_data (take k ss)) ≤ sum_by (size_for name) (sections_data ss)
part_le name [] zero = omega arith
part_le name [] (suc k) = omega arith
part_le name (s ∷ ss) zero = omega arith
part_le name (s ∷ ss) (suc k) =
    let rest = part_le name ss k in
    omega (arith, sum_by-cons (size_for name) (section_data s) (sections_data (take k ss)), sum_by-cons (size_for name) (section_data s) (sections_data ss), rest)
