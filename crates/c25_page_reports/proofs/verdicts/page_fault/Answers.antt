use Rattle.std.proofs.Common.{refl, sym, ◌∙◌}
use Rattle.c25_page_reports.proofs.Rows.{right_everywhere}
use Rattle.c25_page_reports.proofs.verdicts.page_fault.Goals as goal

pub returns-then-not-is_somewhere_other : goal.returns-then-not-is_somewhere_other
returns-then-not-is_somewhere_other c =
    right_everywhere c.args.rows.now c.args.operand (sym c.is_somewhere_other.ensures ∙ c.if-not-is_somewhere_other.true)
