use Rattle.std.proofs.Common.{◌≡◌}
use Rattle.c25_meaning_processor.specs.Run.{Stepping}
use Rattle.c25_meaning_processor.specs.Statements.{statement_step}
use Rattle.c25_meaning_processor.specs.WordStep.{WordStep}
use Rattle.c25_prompt.proofs.Displayed.{session_turns}
use Rattle.c25_prompt.proofs.laws.sessions_answer_alike.Goals as goal

pub returns : goal.returns
returns c statements signals program first command p q text begun there =
    let statement : Stepping = λ lines bio t outcome. outcome ≡ statement_step statements lines bio t in (
      session_turns WordStep statement signals program first p q (λ plain said h. (c.prompts_answer_alike.ensures statements signals program.image first plain p.point q.point said begun there).0 h) command text,
      session_turns statement WordStep signals program first p q (λ plain said h. (c.prompts_answer_alike.ensures statements signals program.image first plain p.point q.point said begun there).1 h) command text,
    )
