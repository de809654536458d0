use Rattle.std.proofs.Common.{ℕ, List, arith, rules}
use Rattle.std.specs.Ordering.{is_lt, nat_cmp}
use Rattle.std.specs.Cmp.Lexicographic.{slice_cmp}
use Rattle.std.proofs.lemmas.Cmp.{nat_list_cmp_total}
use Rattle.std.proofs.lemmas.List.Sorted.{ranks_by}
use Rattle.std.proofs.lemmas.Fn.{always_returns_same}
use Rattle.c25_module.specs.Differing.{name_at}
use Rattle.c25_module.specs.View.{symbols_data}
use Rattle.c25_module.proofs.differing.sort_by_name.Goals as goal

pub returns-clause-sorted : goal.returns-clause-sorted
returns-clause-sorted c = λ k below.
    let name : ℕ → List ℕ = name_at (symbols_data c.args.symbols.now) in
    c.sort_unstable_by.ensures.sorted (λ a b. is_lt (slice_cmp nat_cmp (name a) (name b))) (ranks_by nat_list_cmp_total name)
    (always_returns_same _ _ _ (λ a r f' called. search rules)) k 0 (omega arith) below
