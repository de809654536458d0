use Rattle.std.proofs.Common.{ℕ, ◌+◌, rules, refl, sym, ap, ◌∙◌, List, map, reverse, length, drop, get_or, Err}
use Rattle.std.proofs.lemmas.Result.{err_from_is_err_and}
use Rattle.c25_meaning_language.specs.Value.{value_named, value_of}
use Rattle.c25_meaning_language.specs.declared.value.ValueFault.{ValueFault}
use Rattle.c25_expr.specs.Postfix.{item_of, fits, runs, built, last_tree, is_room}
use Rattle.c25_expr.specs.Stack.{applied}
use Rattle.c25_expr.specs.Steps.{steps_of}
use Rattle.c25_expr.specs.declared.tree.PostfixItem.{PostfixItem}
use Rattle.c25_expr.proofs.Few.{at_first, room_found, room_left, one_more, some_left}
use Rattle.c25_expr.proofs.Valued.{runs_more, values_more, err_stays}
use Rattle.c25_expr.proofs.value.value_over.Goals as goal

pub apply-requires : goal.apply-requires
apply-requires g c =
    let items = c.as_slice-item-items.result.now in
    let left = c.loop-item.invariant.left in
    let item = c.item-item.result in
    let found = ap (λ (x : PostfixItem). fits (item_of x) (length c.loop-item.waiting.items)) c.item-item.is ∙ (runs_more item_of items c.loop-item.item-index item _ c.loop-item-test.true left).0 in
    (search rules, (found, room_found g.row.ROOM (length c.loop-item.waiting.items) (length (drop c.loop-item.item-index items)) (item_of item) found c.loop-item.invariant.room (some_left items c.loop-item.item-index c.loop-item-test.true)))

pub loop-item-preserved : goal.loop-item-preserved
loop-item-preserved g c =
    let items = c.as_slice-item-items.result.now in
    let names = value_named c.args.symbols.now in
    let here = c.args.symbols.now.here in
    let old = c.loop-item.waiting.items in
    let next = values_more names here item_of items c.loop-item.item-index c.item-item.result old c.apply.new.waiting.items c.loop-item-test.true
    c.loop-item.invariant.valued c.loop-item.invariant.left (ap (λ (x : PostfixItem). applied names here (item_of x) (reverse old)) (sym c.item-item.is) ∙ c.in_ok-apply.ensures) in
    let enough = ap (λ (k : ℕ). is_room g.row.ROOM (length old + k)) (one_more items c.loop-item.item-index c.loop-item-test.true) in
    record {
      valued = next.0;
      left = next.1.0;
      room = ap (λ (k : ℕ). is_room g.row.ROOM (k + length (drop (c.loop-item.item-index + 1) items))) (sym next.1.1) ∙ room_left g.row.ROOM (length old) (length (drop (c.loop-item.item-index + 1) items)) (item_of (get_or items c.loop-item.item-index c.item-item.result)) (sym enough ∙ c.loop-item.invariant.room);
    }

pub returns-in_err-apply : goal.returns-in_err-apply
returns-in_err-apply g c =
    let p = err_from_is_err_and c.from_residual.result c.from_residual.ensures.1 in
    let items = c.as_slice-item-items.result.now in
    let names = value_named c.args.symbols.now in
    let here = c.args.symbols.now.here in
    let old = c.loop-item.waiting.items in
    let same = c.as_slice-item-items.ensures in
    p.1 ∙ ap (λ (f : ValueFault). Err f) p.2
    ∙ sym (err_stays names here item_of items c.loop-item.item-index c.item-item.result old c.in_err-apply.field-0.0 c.loop-item-test.true c.loop-item.invariant.valued c.loop-item.invariant.left
    (ap (λ (x : PostfixItem). applied names here (item_of x) (reverse old)) (sym c.item-item.is) ∙ c.in_err-apply.ensures)
    (ap (λ (xs : List PostfixItem). runs (map item_of xs) 0) same ∙ c.args.expr.now.whole))
    ∙ ap (λ (xs : List PostfixItem). value_of names here (last_tree (built (reverse (map item_of xs))))) same

pub loop-item-init : goal.loop-item-init
loop-item-init g c =
    let same = c.as_slice-item-items.ensures in
    record { valued = rw c.requires.empty refl; left = rw (c.requires.empty, same) c.args.expr.now.whole; room = at_first g.row.ROOM c.args.waiting.now.items c.as_slice-item-items.result.now (steps_of c.args.expr.now.steps) c.requires.empty same c.requires.room }
