use Rattle.std.proofs.Common.{ℕ, rules}
use Rattle.std.proofs.lemmas.Fn.{always_returns_same}
use Rattle.std.proofs.lemmas.List.Sorted.{IsNonDecreasingBy-from_sort}
use Rattle.c25_dis.specs.declared.index.IndexEntry.{IndexEntry}
use Rattle.c25_dis.proofs.Ordered.{stable_at}
use Rattle.c25_dis.proofs.index.sort.Goals as goal

pub returns-clause-sorted : goal.returns-clause-sorted
returns-clause-sorted c =
    let place : IndexEntry → ℕ = λ (x : IndexEntry). x.place in
    IsNonDecreasingBy-from_sort place _ (c.in_ok-sort_by_key.ensures.sorted place (always_returns_same _ _ _ (λ a r g h. search rules)))

pub returns-clause-stable : goal.returns-clause-stable
returns-clause-stable c =
    let place : IndexEntry → ℕ = λ (x : IndexEntry). x.place in
    stable_at c.args.index.now c.sort_by_key.new.self (c.in_ok-sort_by_key.ensures.stable place (always_returns_same _ _ _ (λ a r g h. search rules)))
