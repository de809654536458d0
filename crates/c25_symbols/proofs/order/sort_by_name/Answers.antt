use Rattle.std.proofs.Common.{◌∙◌, ap, rules}
use Rattle.std.proofs.lemmas.Cmp.{nat_list_cmp_total}
use Rattle.std.proofs.lemmas.List.Sorted.{ranks_by}
use Rattle.std.proofs.lemmas.Fn.{always_returns_same}
use Rattle.c25_symbols.specs.Symbols.{is_before}
use Rattle.c25_symbols.specs.View.{entries_view, entry_view}
use Rattle.c25_symbols.specs.declared.entries.SymbolEntry.{SymbolEntry}
use Rattle.c25_symbols.proofs.InOrder.{in_order_seen, sorted_is}
use Rattle.c25_symbols.proofs.order.sort_by_name.Goals as goal

pub returns : goal.returns
returns c =
    let lt = λ (a b : SymbolEntry). is_before (entry_view a) (entry_view b) in
    let o = ranks_by nat_list_cmp_total (λ (e : SymbolEntry). e.name.now) in
    let compares = always_returns_same _ _ _ (λ a r f' called. search rules) in
    ap entries_view (sorted_is lt o c.args.entries.now.items c.sort_by.new.self.items (c.in_ok-sort_by.ensures.sorted lt o compares) (c.in_ok-sort_by.ensures.stable lt o compares))
    ∙ in_order_seen entry_view is_before c.args.entries.now.items
