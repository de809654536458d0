use Rattle.std.proofs.Common.{◌∙◌, ap, refl, sym}
use Rattle.std.specs.declared.alloc.Global.{Global}
use Rattle.std.specs.declared.vec.Vec.{Vec}
use Rattle.c25_module.specs.View.{contents}
use Rattle.c25_symbols.specs.View.{places_view}
use Rattle.c25_page_reports.specs.Operands.{absolute_operand, is_absolute_of}
use Rattle.c25_page_reports.specs.declared.operands.PageOperand.{PageOperand}
use Rattle.c25_page_reports.proofs.Told.{chosen_left, chosen_pushed}
use Rattle.c25_page_reports.proofs.operands.push_absolutes.Goals as goal
use Rattle.c25_page_reports.proofs.operands.push_absolutes.Goals.{then-is_absolute_of+in_ok-push, else-is_absolute_of}

pub loop-absolute-preserved : goal.loop-absolute-preserved
loop-absolute-preserved c = λ modules knows.
    let places = places_view c.args.map.now.sections.items in
    let number = c.args.owner.number in
    let m = contents c.args.owner.parts.now in
    let items = c.args.absolutes.now in
    let i = c.loop-absolute.absolute-index in
    let before = c.args.operands.now.items in
    let old = c.loop-absolute.operands.items in
    let so = c.loop-absolute.invariant modules knows in
    elim c.if-is_absolute_of.branch [
      | then-is_absolute_of+in_ok-push w ↦
          ap (λ (v : Vec PageOperand Global). v.items) w.operands-is
          ∙ chosen_pushed (is_absolute_of places number m) (absolute_operand modules places number m) items items i _ before old w.push.new.self.items w.absolute_operand.result refl c.loop-absolute-test.true (sym c.is_absolute_of.ensures ∙ w.if-is_absolute_of.true) so w.in_ok-push.ensures.items
          (w.absolute_operand.ensures modules places number knows)
      | else-is_absolute_of w ↦
          ap (λ (v : Vec PageOperand Global). v.items) w.operands-is
          ∙ chosen_left (is_absolute_of places number m) (absolute_operand modules places number m) items items i _ before old refl c.loop-absolute-test.true (sym c.is_absolute_of.ensures ∙ w.if-is_absolute_of.false) so
    ]
