use Rattle.std.proofs.Common.{Some, arith, ap, sym, ◌∙◌}
use Rattle.c25_text.proofs.Scans.{seen, token_within}
use Rattle.c25_places.specs.declared.part.Part.{Part}
use Rattle.c25_places.proofs.ScanParts.{part_blank, part_token, part_comment, part_fault, part_end}
use Rattle.c25_places.proofs.text_part.scan_part.Goals as goal

pub loop-at-preserved-in-Blank : goal.loop-at-preserved-in-Blank
loop-at-preserved-in-Blank c =
    let at = c.loop-at.at in
    let text = c.args.text.now in
    (sym (part_blank at text c.loop-at-test.true (seen at text _ c.in-Blank.ensures.value)) ∙ c.loop-at.invariant.0, omega arith)

pub overflow_add-at-in-Token : goal.overflow_add-at-in-Token
overflow_add-at-in-Token c =
    let at = c.loop-at.at in
    let text = c.args.text.now in
    let within = token_within at text c.in-Token.field-0 c.in-Token.length c.loop-at-test.true (seen at text _ c.in-Token.ensures.value) in
    omega (arith, within.1)

pub loop-at-smaller : goal.loop-at-smaller
loop-at-smaller c =
    let at = c.loop-at.at in
    let text = c.args.text.now in
    let within = token_within at text c.in-Token.field-0 c.in-Token.length c.loop-at-test.true (seen at text _ c.in-Token.ensures.value) in
    omega (arith, within.0, within.1)

pub loop-at-preserved : goal.loop-at-preserved
loop-at-preserved c =
    let at = c.loop-at.at in
    let text = c.args.text.now in
    let now = seen at text _ c.in-Token.ensures.value in (
      sym (part_token at text c.in-Token.field-0 c.in-Token.length c.loop-at-test.true now) ∙ c.loop-at.invariant.0,
      (token_within at text c.in-Token.field-0 c.in-Token.length c.loop-at-test.true now).1,
    )

pub returns-in-Comment : goal.returns-in-Comment
returns-in-Comment c =
    let at = c.loop-at.at in
    let text = c.args.text.now in
    sym (part_comment at text c.loop-at-test.true (seen at text _ c.in-Comment.ensures.value)) ∙ c.loop-at.invariant.0

pub returns-in-Fault : goal.returns-in-Fault
returns-in-Fault c =
    let at = c.loop-at.at in
    let text = c.args.text.now in
    ap (λ (p : Part). Some p) c.token_part.ensures ∙ sym (part_fault at text c.in-Fault.fault c.loop-at-test.true (seen at text _ c.in-Fault.ensures.value)) ∙ c.loop-at.invariant.0

pub returns : goal.returns
returns c = sym (part_end c.loop-at.at c.args.text.now c.loop-at-test.false) ∙ c.loop-at.invariant.0
