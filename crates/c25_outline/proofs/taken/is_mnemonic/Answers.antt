use Rattle.std.proofs.Common.{is_some, ap, ◌∙◌}
use Rattle.c25_meaning_instructions.proofs.Spelled.{spelled}
use Rattle.c25_outline.proofs.taken.is_mnemonic.Goals as goal

pub returns : goal.returns
returns c = c.is_some.ensures ∙ ap is_some (spelled c.args.name.now c.mnemonic.result c.mnemonic.ensures.found c.mnemonic.ensures.all)
