use Rattle.std.proofs.Common.{◌==◌, List, find, ap, ◌∙◌}
use Rattle.std.specs.Option.{option_map}
use Rattle.c25_pages.specs.declared.program.CopiedStatement.{CopiedStatement}
use Rattle.c25_pages.proofs.Found.{copied_as}
use Rattle.c25_pages.proofs.program.Program.copied_at.Goals as goal

pub returns : goal.returns
returns c =
    c.insn_run_at.ensures
    ∙ ap (λ (ss : List CopiedStatement). option_map (λ (s : CopiedStatement). s.insn) (find (λ (s : CopiedStatement). s.run == c.args.address) ss)) c.deref.ensures.value
    ∙ copied_as c.args.self.now.copied.items c.args.address
