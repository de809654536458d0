use Rattle.std.proofs.Common.{◌≡◌, ◌++◌, ◌∷◌, [], ℕ, List, Some, None, cond, is_some, take, ap, sym, ◌∙◌, subst}
use Rattle.std.specs.Prelude.{string_bytes}
use Rattle.std.specs.Str.{bytes_eq}
use Rattle.c25_buildable.proofs.Tables.{not_found, table_more, view_more}
use Rattle.c25_buildable.specs.Places.{IsOwn, IsTable, found_in, place_view, places_view}
use Rattle.c25_buildable.proofs.table.table_of.Goals as goal

pub loop-place-preserved : goal.loop-place-preserved
loop-place-preserved c =
    let i = c.loop-place.place-index in
    let p = c.place-item.result in
    let before = places_view (take i c.args.places.now) in
    let more = view_more c.args.places.now i p c.loop-place-test.true c.place-item.is in
    let named : c.as_str-name.result.now ≡ string_bytes p.name = c.as_str-name.ensures.value in
    let fresh : found_in c.loop-place.table (string_bytes p.name) ≡ None = ap (found_in c.loop-place.table) (sym named) ∙ not_found _ (ap is_some (sym c.in_ok-insert.ensures.old) ∙ sym c.if-is_some.ensures) in
    let own : IsOwn (place_view p) = subst (λ (text : List ℕ). IsOwn (text, p.address)) named (c.is_own.ensures c.if-not-is_own.false p.address) in
    subst (λ (ns : List (List ℕ × ℕ)). IsTable c.insert.new.self ns) (sym more)
    (table_more c.loop-place.table c.insert.new.self before (place_view p) c.loop-place.invariant own fresh
    (λ name. c.in_ok-insert.ensures.updates.0 (record { ref_ptr = (0, 0); now = name }) ∙ ap (λ (key : List ℕ). cond (bytes_eq key name) (Some p.address) (found_in c.loop-place.table name)) named))
