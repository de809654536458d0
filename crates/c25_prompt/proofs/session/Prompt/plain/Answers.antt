use Rattle.std.proofs.Common.{string_bytes}
use Rattle.c25_prompt.proofs.session.Prompt.plain.Goals as goal

pub returns-clause-answer : goal.returns-clause-answer
returns-clause-answer g c = (string_bytes c.in_ok-text.text, c.in_ok-text.ensures.answer, c.in_ok-text.ensures.displays, c.in_ok-push_after.ensures)
