use Rattle.std.proofs.Common.{◌==◌, List, find, ap, ◌∙◌}
use Rattle.std.specs.Option.{option_map}
use Rattle.c25_pages.specs.declared.program.PlainStatement.{PlainStatement}
use Rattle.c25_pages.proofs.Found.{plain_as}
use Rattle.c25_pages.proofs.program.Program.statement_at.Goals as goal

pub returns : goal.returns
returns c =
    c.insn_at.ensures
    ∙ ap (λ (ss : List PlainStatement). option_map (λ (s : PlainStatement). s.insn) (find (λ (s : PlainStatement). s.address == c.args.address) ss)) c.deref.ensures.value
    ∙ plain_as c.args.self.now.plain.items c.args.address
