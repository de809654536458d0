use denote.Ref.{Bor}
use Rattle.std.proofs.Common.{◌++◌, ap, get_or, refl, string_bytes, List, ℕ, [], ◌∙◌}
use Rattle.c25_warnings.specs.View.{link_warning_of}
use Rattle.c25_warnings.specs.declared.warning.LinkWarning.{LinkWarning}
use Rattle.c25_warnings.specs.declared.warning.LinkWarningKind.TheVariants as section
use Rattle.c25_warning_pages.specs.Explained.{IsLinkExplained}
use Rattle.c25_warning_pages.proofs.Joined.{joined_all, joined_next}
use Rattle.c25_warning_pages.proofs.explained.all_links_explained.Goals as goal

pub loop-warning-preserved : goal.loop-warning-preserved
loop-warning-preserved c =
    let d : LinkWarning = record { kind = section.ReservedInProgram; section = record { ref_ptr = (0, 0); now = [] } } in
    let all = c.args.warnings.now in
    let i = c.loop-warning.warning-index in
    let text = string_bytes c.loop-warning.text in
    joined_next link_warning_of IsLinkExplained all i (get_or all i d) d text (string_bytes c.in_ok-shown.shown) (string_bytes c.push_str.new.self)
    c.loop-warning-test.true refl c.in_ok-shown.ensures (c.in_ok-push_str.ensures.bytes ∙ ap (λ (t : List ℕ). text ++ t) c.as_str.ensures.value) c.loop-warning.invariant

pub returns : goal.returns
returns c = joined_all link_warning_of IsLinkExplained c.args.warnings.now c.loop-warning.warning-index (string_bytes c.loop-warning.text) c.loop-warning-test.false c.loop-warning.invariant
