use Rattle.std.proofs.Common.{ap, sym, subst, ◌∙◌}
use Rattle.c25_meaning_linking.specs.Place.{all_sections}
use Rattle.c25_place.specs.Outputs.{output_of}
use Rattle.c25_place.specs.Requests.{request_by, unlisted, HasPages}
use Rattle.c25_place.specs.View.{requests_view}
use Rattle.c25_place.proofs.Pushed.{seen_next, unlisted_next, unlisted_same, section_is_there, pages_pushed, unnot_true, unnot_false}
use Rattle.c25_place.proofs.requests.push_unlisted.Goals.{then-branch+in-Some+in_ok-push-in-Some, then-branch+in-None, else-branch}
use Rattle.c25_place.proofs.requests.push_unlisted.Goals as goal

pub loop-section-preserved : goal.loop-section-preserved
loop-section-preserved c = elim c.if-branch.branch [
  | then-branch+in-Some+in_ok-push-in-Some w ↦ (
    λ modules listed knows are has.
        let before = c.loop-section.invariant.0 modules listed knows are has in (
          ap (λ v. requests_view modules v.items) w.requests-is
              ∙ unlisted_next modules c.args.sections.now c.loop-section.section-index c.section-item.result c.deref.result.now listed c.loop-section.seen (requests_view modules c.args.requests.now.items) c.loop-section.requests.items w.push.new.self.items w.unlisted_request.result w.in-Some.output
              c.loop-section-test.true c.section-item.is c.deref.ensures before.1 (unnot_true (Rattle.c25_meaning_linking.specs.GoodMap.is_among c.deref.result.now c.loop-section.seen) c.in_ok-insert.field-0 c.in_ok-insert.ensures.new w.if-branch.true) before.0 w.in_ok-push-in-Some.ensures.items
              (w.unlisted_request.ensures.request modules ∙ ap (λ n. request_by modules w.in-Some.output (unlisted n)) (w.deref-in-Some.ensures ∙ sym c.deref.ensures))
              (w.in-Some.ensures (all_sections modules) knows ∙ ap (λ n. output_of n (all_sections modules)) (w.deref-then-branch.ensures ∙ sym c.deref.ensures)),
          seen_next c.args.sections.now c.loop-section.section-index c.section-item.result c.deref.result.now listed c.loop-section.seen c.insert.new.self c.loop-section-test.true c.section-item.is c.deref.ensures before.1 c.in_ok-insert.ensures.names,
        ),
    pages_pushed c.loop-section.requests.items c.if-branch.requests.items w.unlisted_request.result c.loop-section.invariant.1 (ap (λ v. v.items) w.requests-is ∙ w.in_ok-push-in-Some.ensures.items) w.unlisted_request.ensures.page,
  )
  | then-branch+in-None w ↦ (
    λ modules listed knows are has.
        absurd (section_is_there modules c.args.sections.now c.loop-section.section-index c.section-item.result c.deref.result.now c.loop-section-test.true c.section-item.is c.deref.ensures are
        (w.in-None.ensures (all_sections modules) knows ∙ ap (λ n. output_of n (all_sections modules)) (w.deref-then-branch.ensures ∙ sym c.deref.ensures))),
    subst (λ v. HasPages v.items) (sym w.requests-is) c.loop-section.invariant.1,
  )
  | else-branch w ↦ (
    λ modules listed knows are has.
        let before = c.loop-section.invariant.0 modules listed knows are has in (
          unlisted_same modules c.args.sections.now c.loop-section.section-index c.section-item.result c.deref.result.now listed c.loop-section.seen (requests_view modules c.args.requests.now.items) (requests_view modules c.if-branch.requests.items)
              c.loop-section-test.true c.section-item.is c.deref.ensures before.1 (unnot_false (Rattle.c25_meaning_linking.specs.GoodMap.is_among c.deref.result.now c.loop-section.seen) c.in_ok-insert.field-0 c.in_ok-insert.ensures.new w.if-branch.false) (ap (λ v. requests_view modules v.items) w.requests-is ∙ before.0),
          seen_next c.args.sections.now c.loop-section.section-index c.section-item.result c.deref.result.now listed c.loop-section.seen c.insert.new.self c.loop-section-test.true c.section-item.is c.deref.ensures before.1 c.in_ok-insert.ensures.names,
        ),
    subst (λ v. HasPages v.items) (sym w.requests-is) c.loop-section.invariant.1,
  )
]
