use Rattle.c25_prompt.proofs.Alike.{answers_alike}
use Rattle.c25_prompt.proofs.laws.prompts_answer_alike.Goals as goal

pub returns : goal.returns
returns c = answers_alike
