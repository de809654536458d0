use Rattle.c25_source.proofs.BuiltTexts as built_texts
use Rattle.c25_source.proofs.ImageWords as words_of
use Rattle.c25_source.proofs.ImagesRebuilt.{ProgramLaws, rebuilt}
use Rattle.c25_source.proofs.laws.images_are_rebuilt.Goals as goal

laws : (c : goal.After-program_maps_have_their_form) → ProgramLaws
laws c = record { read = c.command_files_are_read.ensures; assembles = c.layouts_are_assembled.ensures; programs = c.layouts_have_a_program.ensures }

words_laws : (c : goal.After-program_maps_have_their_form) → words_of.Laws
words_laws c = record { words = c.layouts_have_their_words.ensures.words; store = c.layouts_have_their_words.ensures.store }

text_laws : (c : goal.After-program_maps_have_their_form) → built_texts.Laws
text_laws c = record {
  each_module = c.sources_make_modules.ensures;
  commands = c.spelled_commands_keep_the_rules.ensures;
  places = c.program_maps_have_their_form.ensures.places;
  printed = c.program_maps_have_their_form.ensures.printed;
}

pub returns : goal.returns
returns c = λ name words blank parts room h are. rebuilt (laws c) (words_laws c) (text_laws c) name parts room h words blank are
