use Rattle.std.proofs.Common.{◌++◌, ap, get_or, refl, string_bytes, List, ℕ, [], ◌∙◌}
use Rattle.c25_warnings.specs.View.{warning_of}
use Rattle.c25_warning_pages.specs.Explained.{IsExplained}
use Rattle.c25_warning_pages.proofs.Joined.{joined_all, joined_next}
use Rattle.c25_warning_pages.proofs.explained.all_explained.Goals as goal

pub loop-warning-preserved : goal.loop-warning-preserved
loop-warning-preserved c =
    let all = c.args.warnings.now in
    let text = string_bytes c.loop-warning.text in
    joined_next warning_of IsExplained all c.loop-warning.warning-index c.warning-item.result c.warning-item.result text (string_bytes c.in_ok-shown.shown) (string_bytes c.push_str.new.self)
    c.loop-warning-test.true c.warning-item.is c.in_ok-shown.ensures (c.in_ok-push_str.ensures.bytes ∙ ap (λ (t : List ℕ). text ++ t) c.as_str.ensures.value) c.loop-warning.invariant

pub returns : goal.returns
returns c = joined_all warning_of IsExplained c.args.warnings.now c.loop-warning.warning-index (string_bytes c.loop-warning.text) c.loop-warning-test.false c.loop-warning.invariant
