use Rattle.std.specs.Cmp.{IsStrictWeakOrder}
use Rattle.std.proofs.lemmas.Cmp.{nat_list_cmp_total}
use Rattle.std.proofs.lemmas.List.Sorted.{ranks_by}
use Rattle.c25_symbols.specs.Symbols.{Listed, all_symbols, is_before}
use Rattle.c25_symbols.proofs.InOrder.{in_order_sorted, sorted_is, stable_in_order}
use Rattle.c25_symbols.proofs.laws.symbols_stand_by_name.Goals as goal

by_names : IsStrictWeakOrder is_before
by_names = ranks_by nat_list_cmp_total (λ (y : Listed). y.name)

pub returns-clause-sorted : goal.returns-clause-sorted
returns-clause-sorted c = λ modules sources places. in_order_sorted is_before by_names (all_symbols modules sources places)

pub returns-clause-stable : goal.returns-clause-stable
returns-clause-stable c = λ modules sources places y. stable_in_order is_before by_names y (all_symbols modules sources places)

pub returns-clause-only : goal.returns-clause-only
returns-clause-only c = λ modules sources places symbols sorted stable. sorted_is is_before by_names (all_symbols modules sources places) symbols sorted stable
