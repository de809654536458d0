use Rattle.c25_answer_laws.proofs.SourceScripts.{from_sources}
use Rattle.c25_answer_laws.proofs.laws.debugger_answers_come_from_sources.Goals as goal

pub returns : goal.returns
returns c =
    from_sources (record {
      first_states = c.answers_run_as_their_sources.ensures.first_states;
      places = c.program_maps_have_their_form.ensures.places;
      scripts = c.scripts_are_answered_from_statements.ensures;
    })
