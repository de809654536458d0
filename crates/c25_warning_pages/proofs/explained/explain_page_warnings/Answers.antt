use Rattle.std.proofs.Common.{◌++◌, ap, string_bytes, subst, List, ℕ, ◌∙◌}
use Rattle.std.proofs.lemmas.List.{map-id}
use Rattle.c25_page_reports.specs.declared.warning.PageWarning.{PageWarning}
use Rattle.c25_warning_pages.specs.Explained.{AreJoined, IsPageExplained}
use Rattle.c25_warning_pages.proofs.Joined.{joined_all, joined_next}
use Rattle.c25_warning_pages.proofs.explained.explain_page_warnings.Goals as goal

pub loop-warning-preserved : goal.loop-warning-preserved
loop-warning-preserved c =
    let all = c.args.warnings.now in
    let text = string_bytes c.loop-warning.text in
    joined_next (λ (w : PageWarning). w) IsPageExplained all c.loop-warning.warning-index c.warning-item.result c.warning-item.result text (string_bytes c.in_ok-shown.shown) (string_bytes c.push_str.new.self)
    c.loop-warning-test.true c.warning-item.is c.in_ok-shown.ensures (c.in_ok-push_str.ensures.bytes ∙ ap (λ (t : List ℕ). text ++ t) c.as_str.ensures.value) c.loop-warning.invariant

pub returns : goal.returns
returns c =
    let all = c.args.warnings.now in
    let text = string_bytes c.loop-warning.text in
    subst (λ (ws : List PageWarning). AreJoined IsPageExplained ws text) (map-id all)
    (joined_all (λ (w : PageWarning). w) IsPageExplained all c.loop-warning.warning-index text c.loop-warning-test.false c.loop-warning.invariant)
