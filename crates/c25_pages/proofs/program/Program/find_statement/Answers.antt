use Rattle.std.proofs.Common.{◌≡◌, ◌==◌, true, List, find, ap, sym, subst, ◌∙◌}
use Rattle.std.specs.Option.{option_map}
use Rattle.c25_pages.specs.Program.{statements_ascend_from}
use Rattle.c25_pages.specs.declared.program.PlainStatement.{PlainStatement}
use Rattle.c25_pages.proofs.Found.{plain_as}
use Rattle.c25_pages.proofs.program.Program.find_statement.Goals as goal

pub returns : goal.returns
returns c = λ ascend.
    c.insn_found.ensures (subst (λ (ss : List PlainStatement). statements_ascend_from 0 ss ≡ true) (sym c.deref.ensures.value) ascend)
    ∙ ap (λ (ss : List PlainStatement). option_map (λ (s : PlainStatement). s.insn) (find (λ (s : PlainStatement). s.address == c.args.address) ss)) c.deref.ensures.value
    ∙ plain_as c.args.self.now.plain.items c.args.address
