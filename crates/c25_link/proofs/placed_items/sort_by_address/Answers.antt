use Rattle.std.proofs.Common.{rules}
use Rattle.std.proofs.lemmas.List.Sorted.{IsNonDecreasingBy-from_sort, answers_always}
use Rattle.c25_link.proofs.placed_items.sort_by_address.Goals as goal

pub returns-clause-sorted : goal.returns-clause-sorted
returns-clause-sorted g c =
    let address = g.T.PlacedItem.address_of in
    IsNonDecreasingBy-from_sort address _ (c.sort_unstable_by_key.ensures.sorted address (answers_always _ _ _ (λ f a r k h. search rules)))
