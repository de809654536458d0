use Rattle.std.proofs.Common.{◌∙◌, ap, sym}
use Rattle.std.specs.declared.alloc.Global.{Global}
use Rattle.std.specs.declared.vec.Vec.{Vec}
use Rattle.c25_module.specs.View.{contents}
use Rattle.c25_symbols.specs.View.{places_view}
use Rattle.c25_page_reports.specs.Operands.{is_page_operand, page_operand}
use Rattle.c25_page_reports.specs.declared.operands.PageOperand.{PageOperand}
use Rattle.c25_page_reports.proofs.Told.{chosen_left, chosen_pushed}
use Rattle.c25_page_reports.proofs.operands.push_operands.Goals as goal
use Rattle.c25_page_reports.proofs.operands.push_operands.Goals.{then-is_page_operand+in_ok-push, else-is_page_operand}

pub loop-relocation-preserved : goal.loop-relocation-preserved
loop-relocation-preserved c = λ modules number has knows.
    let places = places_view c.args.map.now.sections.items in
    let m = contents c.args.owner.now in
    let read = c.deref-relocation-items.result.now in
    let items = c.args.owner.now.relocations.items in
    let same = c.deref-relocation-items.ensures.value in
    let i = c.loop-relocation.relocation-index in
    let before = c.args.operands.now.items in
    let old = c.loop-relocation.operands.items in
    let so = c.loop-relocation.invariant modules number has knows in
    elim c.if-is_page_operand.branch [
      | then-is_page_operand+in_ok-push w ↦
          ap (λ (v : Vec PageOperand Global). v.items) w.operands-is
          ∙ chosen_pushed (is_page_operand places m) (page_operand modules places number m) read items i _ before old w.push.new.self.items w.page_operand.result same c.loop-relocation-test.true (sym c.is_page_operand.ensures ∙ w.if-is_page_operand.true) so w.in_ok-push.ensures.items
          (w.page_operand.ensures modules number has knows)
      | else-is_page_operand w ↦
          ap (λ (v : Vec PageOperand Global). v.items) w.operands-is
          ∙ chosen_left (is_page_operand places m) (page_operand modules places number m) read items i _ before old same c.loop-relocation-test.true (sym c.is_page_operand.ensures ∙ w.if-is_page_operand.false) so
    ]
