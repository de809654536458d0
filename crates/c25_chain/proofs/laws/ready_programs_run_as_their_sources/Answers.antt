use Rattle.c25_chain.proofs.ReadyRuns.{sources_of_ready}
use Rattle.c25_chain.proofs.laws.ready_programs_run_as_their_sources.Goals as goal

pub returns : goal.returns
returns c g ready n end is = sources_of_ready c.answers_run_as_their_sources.ensures.first_states c.image_runs_as_statements.ensures.runs g ready n end is
