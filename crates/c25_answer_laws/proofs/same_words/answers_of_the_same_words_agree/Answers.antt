use Rattle.c25_answer_laws.proofs.AnswersAlike.{answers_alike}
use Rattle.c25_answer_laws.proofs.same_words.answers_of_the_same_words_agree.Goals as goal

pub returns : goal.returns
returns c = answers_alike (record { agree = c.runs_agree_until_one_leaves.ensures.ends; begin = c.same_words_begin_alike.ensures })
