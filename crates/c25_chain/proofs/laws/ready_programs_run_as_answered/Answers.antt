use Rattle.c25_chain.proofs.ReadyRuns.{answer_of_ready}
use Rattle.c25_chain.proofs.laws.ready_programs_run_as_answered.Goals as goal

pub returns : goal.returns
returns c g ready n end chain is runs a = answer_of_ready c.sources_have_one_program.ensures c.words_end_once.ensures g ready n end chain is runs a
