use Rattle.std.proofs.Common.{◌≡◌, ℕ, true, subst, sym, ◌∙◌}
use Rattle.std.proofs.lemmas.Bool.{eqb-true}
use Rattle.c25_place.specs.View.{request_view, places_view}
use Rattle.c25_place.proofs.Elsewhere.{AreOpen, runs_there, open_for, words_there}
use Rattle.c25_place.proofs.placement.PlacedSections.may_run.Goals.{then-page-eq0, else-page-eq0}
use Rattle.c25_place.proofs.placement.PlacedSections.may_run.Goals as goal

pub returns-then-request-clause-yes : goal.returns-then-request-clause-yes
returns-then-request-clause-yes c = λ e all modules here.
    let places = places_view c.args.self.now.places.items in
    let first : c.args.page ≡ 0 = elim c.if-page-eq0.branch [ then-page-eq0 w ↦ w.if-page-eq0.true | else-page-eq0 w ↦ eqb-true c.args.page 0 (sym w.value-is ∙ c.if-request.true) ] in
    let full : c.args.request.now.initialised ≡ true = elim c.if-page-eq0.branch [ then-page-eq0 w ↦ sym w.value-is ∙ c.if-request.true | else-page-eq0 w ↦ absurd (w.if-page-eq0.false first) ] in
    runs_there all places (request_view modules c.args.request.now) c.in-Some.run' c.args.page c.in-Some.is here first full
    (subst (λ (n : ℕ). AreOpen c.in-Some.run' n places) (sym c.requires.size) (c.are_open.ensures.yes e places c.requires.runs))

pub returns-then-request-clause-no : goal.returns-then-request-clause-no
returns-then-request-clause-no c = λ e all modules here runs.
    let places = places_view c.args.self.now.places.items in
    let open_there = open_for all places (request_view modules c.args.request.now) c.in-Some.run' c.in-Some.is runs in
    c.are_open.ensures.no e places c.requires.runs (subst (λ (n : ℕ). AreOpen c.in-Some.run' n places) c.requires.size open_there)

pub returns-then-request-clause-within : goal.returns-then-request-clause-within
returns-then-request-clause-within c = λ e.
    let places = places_view c.args.self.now.places.items in
    words_there c.args.request.now.run c.in-Some.run' c.args.size places c.in-Some.is (c.are_open.ensures.yes e places c.requires.runs)
