use Rattle.std.proofs.Common.{◌∙◌, ap}
use Rattle.std.specs.Option.{ok_or}
use Rattle.c25_meaning_instructions.proofs.Spelled.{spelled}
use Rattle.c25_meaning_language.specs.declared.statement.FaultKind.TheVariants.{UnknownMnemonic}
use Rattle.c25_statements.proofs.operations.spelled.Goals as goal

pub returns : goal.returns
returns c = c.ok_or.ensures.value ∙ ap (λ o. ok_or o UnknownMnemonic) (spelled c.args.word.now c.mnemonic.result c.mnemonic.ensures.found c.mnemonic.ensures.all)
