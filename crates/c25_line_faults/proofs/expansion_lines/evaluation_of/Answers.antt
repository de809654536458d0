use Rattle.std.proofs.Common.{sym, ap, ◌∙◌}
use Rattle.c25_meaning_language.specs.Forms.{is_expression}
use Rattle.c25_expr.specs.Pieces.{pieces_of}
use Rattle.c25_line_faults.proofs.Faults.{evaluated, same_fault}
use Rattle.c25_line_faults.proofs.expansion_lines.evaluation_of.Goals as goal

pub returns-in-Expression-None : goal.returns-in-Expression-None
returns-in-Expression-None c =
    same_fault c.expression_fault.result _ _
    (evaluated (pieces_of c.args.first.now) (pieces_of c.args.second.now) (ap is_expression (sym c.written_of.ensures ∙ c.in-Expression-None.is-0)) (sym c.name_fault.ensures ∙ c.in-Expression-None.is-1))
    c.expression_fault.ensures
