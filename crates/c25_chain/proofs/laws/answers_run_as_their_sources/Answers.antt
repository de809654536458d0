use Rattle.c25_chain.proofs.Cited.{Laws}
use Rattle.c25_chain.proofs.Headline.{code_of_answer, image_said, marks_of_answer, own_run_of_answer, runs_of_answer, words_of_answer}
use Rattle.c25_chain.proofs.laws.answers_run_as_their_sources.Goals as goal

laws : (c : goal.After-steps_keep_the_words_of_code) → Laws
laws c =
    record {
      each_module = c.sources_make_modules.ensures;
      lines = c.program_marks_are_statements.ensures.sources;
      commands = c.spelled_commands_keep_the_rules.ensures;
      spelled = c.written_texts_are_read_back.ensures;
      places = c.program_maps_have_their_form.ensures.places;
      words_fit = c.program_words_have_16_bits.ensures.pages;
      marks = c.program_marks_are_statements.ensures.marks;
      program = c.program_words_read_as_statements.ensures.program;
      stored = c.program_words_read_as_statements.ensures.stored;
      pages = c.program_words_are_the_sources.ensures.pages;
      images = c.linked_images_run_as_statements.ensures.image;
      runs = c.linked_images_run_as_statements.ensures.runs;
      kept = c.steps_keep_the_words_of_code.ensures.words;
    }

pub returns-clause-words : goal.returns-clause-words
returns-clause-words c = words_of_answer (laws c)

pub returns-clause-marks : goal.returns-clause-marks
returns-clause-marks c = marks_of_answer (laws c)

pub returns-clause-runs : goal.returns-clause-runs
returns-clause-runs c = runs_of_answer (laws c)

pub returns-clause-code : goal.returns-clause-code
returns-clause-code c = code_of_answer (laws c)

pub returns-clause-own_run : goal.returns-clause-own_run
returns-clause-own_run c = own_run_of_answer (laws c)

pub returns-clause-first_states : goal.returns-clause-first_states
returns-clause-first_states c files names command image texts listings samples b = image_said (laws c) files names command image texts listings b samples
