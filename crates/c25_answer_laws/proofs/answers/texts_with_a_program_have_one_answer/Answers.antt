use Rattle.c25_answer_laws.proofs.AnswersExist.{Laws, has_answer, one_answer, has_program}
use Rattle.c25_answer_laws.proofs.Refusals.{never_refused}
use Rattle.c25_answer_laws.proofs.answers.texts_with_a_program_have_one_answer.Goals as goal

laws : (c : goal.After-answers_run_as_their_sources) → Laws
laws c =
    record {
      each_module = c.sources_make_modules.ensures;
      commands = c.spelled_commands_keep_the_rules.ensures;
      places = c.program_maps_have_their_form.ensures.places;
      printed = c.program_maps_have_their_form.ensures.printed;
      runs = c.image_runs_as_statements.ensures.runs;
      once = c.words_end_once.ensures;
      one_program = c.sources_have_one_program.ensures;
      first_states = c.answers_run_as_their_sources.ensures.first_states;
    }

pub returns-clause-answered : goal.returns-clause-answered
returns-clause-answered c = has_answer (laws c)

pub returns-clause-once : goal.returns-clause-once
returns-clause-once c = one_answer (laws c)

pub returns-clause-unrefused : goal.returns-clause-unrefused
returns-clause-unrefused c = never_refused

pub returns-clause-only : goal.returns-clause-only
returns-clause-only c = has_program
