use Rattle.c25_laws.proofs.WordsOfSources.{page_agrees, words_agree}
use Rattle.c25_laws.proofs.program_laws.program_words_are_the_sources.Goals as goal

pub returns-clause-each : goal.returns-clause-each
returns-clause-each c files names modules places page address word of = words_agree files names modules of places page address word

pub returns-clause-pages : goal.returns-clause-pages
returns-clause-pages c files names modules command image of p =
    (page_agrees files names modules of p.places 0 image.program p.program, page_agrees files names modules of p.places 1 image.store p.store)
