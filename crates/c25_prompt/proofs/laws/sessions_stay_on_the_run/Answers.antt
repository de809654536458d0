use Rattle.std.proofs.Common.{◌≡◌}
use Rattle.c25_meaning_processor.specs.Statements.{statement_step}
use Rattle.c25_meaning_processor.specs.WordStep.{WordStep}
use Rattle.c25_prompt.proofs.Displayed.{session_stays}
use Rattle.c25_prompt.proofs.laws.sessions_stay_on_the_run.Goals as goal

pub returns-clause-words : goal.returns-clause-words
returns-clause-words c signals program first = session_stays WordStep signals program first (λ command p q text answers on. c.commands_stay_on_the_run.ensures.words signals program.image first command p q text answers on)

pub returns-clause-statements : goal.returns-clause-statements
returns-clause-statements c statements signals program first =
    session_stays (λ lines bio t outcome. outcome ≡ statement_step statements lines bio t) signals program first
    (λ command p q text answers on. c.commands_stay_on_the_run.ensures.statements statements signals program.image first command p q text answers on)
