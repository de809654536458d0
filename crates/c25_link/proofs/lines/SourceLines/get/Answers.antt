use Rattle.std.proofs.Common.{◌≡◌, ◌<◌, ℕ, List, Some, Ok, Err, length, rules, ap, subst, ◌∙◌, arith}
use Rattle.std.specs.List.Sorted.{IsBinarySearchResult}
use Rattle.std.specs.Ordering.{nat_cmp}
use Rattle.std.proofs.lemmas.Fn.{always_returns_same}
use Rattle.c25_link.specs.Lines.{file_at, files_view}
use Rattle.c25_link.specs.declared.lines.LinePlace.{LinePlace}
use Rattle.c25_link.proofs.Told.{line_found, line_missing}
use Rattle.c25_link.proofs.lines.SourceLines.get.Goals as goal

pub returns-in-Ok : goal.returns-in-Ok
returns-in-Ok c =
    let address : LinePlace → ℕ = λ (l : LinePlace). l.mark.address in
    let same = c.deref.ensures.value in
    let items = c.args.self.now.places.items in
    let files = files_view c.args.self.now.files.items in
    let i = c.in-Ok.index in
    let p : LinePlace = c.index-place.result.now in
    let lt : i < length items = omega (arith, c.in-Ok.ensures.bound, ap length same) in
    let holds : IsBinarySearchResult (λ (l : LinePlace). nat_cmp l.mark.address c.args.address) items (Ok i) =
    subst (λ (xs : List LinePlace). IsBinarySearchResult (λ (l : LinePlace). nat_cmp l.mark.address c.args.address) xs (Ok i)) same (c.in-Ok.ensures.position address (always_returns_same _ _ _ (λ a r g h. search rules))) in
    let name : c.file_name-file.result.now ≡ file_at files p.number p.file = c.file_name-file.ensures ∙ ap (λ fs. file_at (files_view fs) p.number p.file) c.deref-in-Ok.ensures.value in
    ap (λ (f : List ℕ). Some (f, p.line)) name ∙ ap (λ (l : LinePlace). Some (file_at files l.number l.file, l.line)) c.index-place.ensures
    ∙ line_found files items c.args.address i p c.requires lt holds

pub returns-in-Err : goal.returns-in-Err
returns-in-Err c =
    let address : LinePlace → ℕ = λ (l : LinePlace). l.mark.address in
    let same = c.deref.ensures.value in
    line_missing (files_view c.args.self.now.files.items) c.args.self.now.places.items c.args.address c.in-Err.field-0 c.requires
    (subst (λ (xs : List LinePlace). IsBinarySearchResult (λ (l : LinePlace). nat_cmp l.mark.address c.args.address) xs (Err c.in-Err.field-0)) same (c.in-Err.ensures.position address (always_returns_same _ _ _ (λ a r g h. search rules))))
