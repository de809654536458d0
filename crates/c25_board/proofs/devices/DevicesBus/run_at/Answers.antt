use Rattle.std.proofs.Common.{◌∙◌, ◌<◌, ap, subst, List, Some, Ok, Err, length, rules, arith}
use Rattle.std.specs.List.Sorted.{IsBinarySearchResult}
use Rattle.std.proofs.lemmas.Fn.{always_returns_same}
use Rattle.c25_meaning_image.specs.declared.mark.RunMark.{RunMark}
use Rattle.c25_board.specs.Places.{marks_in}
use Rattle.c25_board.proofs.RunsFound.{order_to, run_found, run_missing}
use Rattle.c25_board.proofs.devices.DevicesBus.run_at.Goals as goal

pub returns-in-Ok : goal.returns-in-Ok
returns-in-Ok g c =
    let d = c.args.self.now in
    let same = c.deref.ensures.value in
    let items = d.run_marks.items in
    let i = c.in-Ok.index in
    let below : i < length items = omega (arith, c.in-Ok.ensures.bound, ap length same) in
    let holds : IsBinarySearchResult (order_to c.args.address) items (Ok i) =
    subst (λ (xs : List RunMark). IsBinarySearchResult (order_to c.args.address) xs (Ok i)) same (c.in-Ok.ensures.position (λ (m : RunMark). m.run) (always_returns_same _ _ _ (λ a r f h. search rules))) in
    ap Some c.index.ensures ∙ run_found (marks_in 0 d.places.items) items c.args.address i c.index.result.now d.runs_fit below holds

pub returns-in-Err : goal.returns-in-Err
returns-in-Err g c =
    let d = c.args.self.now in
    run_missing (marks_in 0 d.places.items) d.run_marks.items c.args.address c.in-Err.field-0 d.runs_fit
    (subst (λ (xs : List RunMark). IsBinarySearchResult (order_to c.args.address) xs (Err c.in-Err.field-0)) c.deref.ensures.value (c.in-Err.ensures.position (λ (m : RunMark). m.run) (always_returns_same _ _ _ (λ a r f h. search rules))))
