use Rattle.std.proofs.Common.{◌≡◌, ◌++◌, List, length, drop, take, sym, subst, ◌∙◌}
use Rattle.std.specs.List.Sorted.{IsPermutation, IsNonDecreasingBy}
use Rattle.std.proofs.lemmas.List.Sorted.{length_permutation}
use Rattle.c25_meaning_linking.specs.Place.{by_modules}
use Rattle.c25_link.specs.Layout.{places_in}
use Rattle.c25_link.proofs.Marked.{take_all_of}
use Rattle.c25_link.proofs.placed_items.items_by_address.Goals as goal

pub returns-clause-permutation : goal.returns-clause-permutation
returns-clause-permutation g c =
    let modules = c.args.layout.now.modules.now in
    let all : List g.row.T.Denot = by_modules (g.T.PlacedItem.of_module modules (places_in c.args.layout.now)) 0 modules in
    let items = c.in_ok-items.items.items in
    let sorted = c.sort_by_address.new.items in
    let len : c.in_ok-items.items.len ≡ length sorted = sym c.deref_mut.ensures.len ∙ sym (length_permutation c.deref_mut.result.now sorted c.sort_by_address.ensures.permutation) in
    let whole : take c.in_ok-items.items.len (sorted ++ drop (length sorted) items) ≡ sorted = take_all_of c.in_ok-items.items.len sorted (drop (length sorted) items) len in
    subst (λ (xs : List g.row.T.Denot). IsPermutation all xs) (sym whole)
    (subst (λ (xs : List g.row.T.Denot). IsPermutation xs sorted) (c.deref_mut.ensures.value ∙ c.in_ok-items.ensures) c.sort_by_address.ensures.permutation)

pub returns-clause-sorted : goal.returns-clause-sorted
returns-clause-sorted g c =
    let items = c.in_ok-items.items.items in
    let sorted = c.sort_by_address.new.items in
    let len : c.in_ok-items.items.len ≡ length sorted = sym c.deref_mut.ensures.len ∙ sym (length_permutation c.deref_mut.result.now sorted c.sort_by_address.ensures.permutation) in
    let whole : take c.in_ok-items.items.len (sorted ++ drop (length sorted) items) ≡ sorted = take_all_of c.in_ok-items.items.len sorted (drop (length sorted) items) len in
    subst (λ (xs : List g.row.T.Denot). IsNonDecreasingBy g.T.PlacedItem.address_of xs) (sym whole) c.sort_by_address.ensures.sorted
