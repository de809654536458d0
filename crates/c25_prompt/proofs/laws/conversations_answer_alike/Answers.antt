use Rattle.c25_prompt.proofs.AlikeTalks.{talks_turn}
use Rattle.c25_prompt.proofs.laws.conversations_answer_alike.Goals as goal

pub returns : goal.returns
returns c =
    λ ss signals program first before after begun reached talks.
    talks_turn ss signals program first begun
    (λ command p q text answers on. c.sessions_stay_on_the_run.ensures.words signals program first command p q text answers on)
    (λ k s on. c.image_runs_as_statements.ensures.words ss first begun signals 0 k s on)
    (λ command p q text there answers. (c.sessions_answer_alike.ensures ss signals program first command p q text begun there).0 answers)
    before after reached talks
