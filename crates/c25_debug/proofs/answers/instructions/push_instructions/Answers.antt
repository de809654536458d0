use Rattle.std.proofs.Common.{◌≡◌, suc, List, drop, refl, sym, ap, subst, ◌∙◌, string_bytes, arith}
use Rattle.std.proofs.Math.ListN.{drop_of_length-le}
use Rattle.std.proofs.lemmas.Bool.{le-leb, lt-leb}
use Rattle.c25_meaning_image.specs.declared.mark.Mark.{Mark}
use Rattle.c25_meaning_debugger.specs.Debugger.{source_line_at}
use Rattle.c25_debug.proofs.Listed.{AreListed, one_shown, one_passed, all_counted, all_passed}
use Rattle.c25_debug.proofs.answers.instructions.push_instructions.Goals as goal
use Rattle.c25_debug.proofs.answers.instructions.push_instructions.Goals.{then-mark-address+in_ok-push_mark, else-mark-address}

-- an element where there is none
abbrev no_mark : Mark
no_mark = record { address = 0; size = 0 }

pub returns-then-left-eq0 : goal.returns-then-left-eq0
returns-then-left-eq0 c =
    let image = c.args.image.now in
    let marks = c.marks-mark-items.result.now in
    let before = string_bytes c.args.text.now in
    let text = string_bytes c.loop-mark.text in
    subst (λ (ms : List Mark). AreListed image.program (source_line_at image) ms c.args.address c.args.count before text) c.marks-mark-items.ensures
    (all_counted image.program (source_line_at image) marks c.args.address c.args.count before (drop c.loop-mark.mark-index marks) c.loop-mark.left text c.if-left-eq0.true c.loop-mark.invariant)

pub loop-mark-init : goal.loop-mark-init
loop-mark-init c = λ rest are. (rest, are, refl)

pub loop-mark-preserved : goal.loop-mark-preserved
loop-mark-preserved c =
    let i = c.loop-mark.mark-index in
    let left = c.loop-mark.left in
    let text = string_bytes c.loop-mark.text in
    let marks = c.marks-mark-items.result.now in
    elim c.if-mark-address.branch [
      | then-mark-address+in_ok-push_mark w ↦
          let is = w.in_ok-push_mark.ensures in
          let counted : left ≡ suc c.if-mark-address.left = omega (arith, w.left-is) in
          one_shown c.args.image.now.program (source_line_at c.args.image.now) marks c.args.address c.args.count (string_bytes c.args.text.now)
          i left c.if-mark-address.left text is.0 (string_bytes c.if-mark-address.text) no_mark c.loop-mark-test.true counted
          (le-leb _ _ w.if-mark-address.true) is.1 (ap string_bytes w.text-is ∙ is.2) c.loop-mark.invariant
      | else-mark-address w ↦
          one_passed c.args.image.now.program (source_line_at c.args.image.now) marks c.args.address c.args.count (string_bytes c.args.text.now)
          i left c.if-mark-address.left text (string_bytes c.if-mark-address.text) no_mark c.loop-mark-test.true (sym w.left-is)
          (lt-leb _ _ w.if-mark-address.false) (ap string_bytes (sym w.text-is)) c.loop-mark.invariant
    ]

pub returns : goal.returns
returns c =
    let image = c.args.image.now in
    let marks = c.marks-mark-items.result.now in
    let before = string_bytes c.args.text.now in
    let text = string_bytes c.loop-mark.text in
    subst (λ (ms : List Mark). AreListed image.program (source_line_at image) ms c.args.address c.args.count before text) c.marks-mark-items.ensures
    (all_passed image.program (source_line_at image) marks c.args.address c.args.count before (drop c.loop-mark.mark-index marks) c.loop-mark.left text (drop_of_length-le marks c.loop-mark-test.false) c.loop-mark.invariant)
