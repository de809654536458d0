use Rattle.c25_meaning_processor.specs.Statements.{statement_step}
use Rattle.c25_meaning_processor.specs.WordStep.{WordStep}
use Rattle.std.proofs.Common.{◌≡◌}
use Rattle.c25_prompt.proofs.OnTheRun.{stays}
use Rattle.c25_prompt.proofs.laws.commands_stay_on_the_run.Goals as goal

pub returns-clause-words : goal.returns-clause-words
returns-clause-words c = stays WordStep

pub returns-clause-statements : goal.returns-clause-statements
returns-clause-statements c = λ statements. stays (λ lines bio t outcome. outcome ≡ statement_step statements lines bio t)
