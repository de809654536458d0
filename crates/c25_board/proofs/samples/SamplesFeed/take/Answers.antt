use Rattle.std.proofs.Common.{◌∙◌, ap, sym, arith, ℕ, List}
use Rattle.std.specs.Prelude.{slice_get}
use Rattle.c25_meaning_processor.specs.declared.sample.Sample.{Sample}
use Rattle.c25_meaning_processor.specs.Samples.{samples_at}
use Rattle.c25_board.proofs.SamplesTaken.{none_left, has_left, takes}
use Rattle.c25_board.proofs.samples.SamplesFeed.take.Goals as goal

pub returns-then-index-ge16-clause-sample : goal.returns-then-index-ge16-clause-sample
returns-then-index-ge16-clause-sample c =
    let far = c.if-index-ge16.true in
    let is_port = c.from-index.ensures in
    let none = none_left c.self.inside.next c.args.port 0 c.self.inside.samples.items (omega (arith, far, is_port)) c.self.invariant in
    sym (ap (λ (ws : List ℕ). slice_get ws 0) (ap (λ (l : List Sample). samples_at l c.args.port) (sym c.self.view_is) ∙ none))

pub returns-in_err-place-clause-sample : goal.returns-in_err-place-clause-sample
returns-in_err-place-clause-sample c =
    let left = has_left c.args.self.now c.self.inside.samples.items c.as_slice-samples.result.now c.self.inside.next c.args.port c.from-index.result c.self.view_is c.as_slice-samples.ensures.value c.from-index.ensures in
    c.from_residual.ensures ∙ sym (ap (λ (ws : List ℕ). slice_get ws 0) (left ∙ c.in_err-place.ensures.none))

pub returns-clause-sample : goal.returns-clause-sample
returns-clause-sample c =
    let left = has_left c.args.self.now c.self.inside.samples.items c.as_slice-samples.result.now c.self.inside.next c.args.port c.from-index.result c.self.view_is c.as_slice-samples.ensures.value c.from-index.ensures in
    sym (ap (λ (ws : List ℕ). slice_get ws 0) (left ∙ c.in_ok-place.ensures.found))

pub returns-clause-some : goal.returns-clause-some
returns-clause-some c =
    takes c.args.self.now c.self.inside.samples.items c.as_slice-samples.result.now c.self.inside.next c.args.port c.from-index.result c.self.view_is c.as_slice-samples.ensures.value c.from-index.ensures
    c.in_ok-place.place c.in_ok-place.word (let full = c.self.told in let near = c.if-index-ge16.false in let is_port = c.from-index.ensures in omega (arith, full, near, is_port)) c.in_ok-place.ensures.found
