use Rattle.std.proofs.Common.{◌∙◌, ap, map, rules, string_bytes}
use Rattle.c25_tasks.proofs.Gathered.{text_short, text_told, text_ready}
use Rattle.c25_tasks.proofs.standard_input.ready_text.Goals as goal

pub returns-in-Err-NoMemory : goal.returns-in-Err-NoMemory
returns-in-Err-NoMemory g c = text_short _ _ _ (search rules)

pub returns-in_err-sources : goal.returns-in_err-sources
returns-in_err-sources g c = text_told _ _ _ c.from_residual.ensures.1

pub returns : goal.returns
returns g c = text_ready _ _ _ _ _ (search rules) (ap (λ xs. map string_bytes xs) c.as_slice.ensures.value ∙ c.in_ok-sources.ensures) c.work_over.ensures
