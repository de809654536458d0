use Rattle.c25_tasks.proofs.Explained.{word_of_name, word_of_number}
use Rattle.c25_tasks.proofs.explaining.explain_word.Goals as goal

pub returns-in-Ok : goal.returns-in-Ok
returns-in-Ok g c = word_of_number _ _ _ _ c.in-Ok.ensures.value.0 c.explain_number.ensures

pub returns-in-Err : goal.returns-in-Err
returns-in-Err g c = word_of_name _ _ _ c.in-Err.ensures.value.0 c.explain_name.ensures
