use Rattle.c25_layout_laws.proofs.LayoutWords.{Laws, layout_words}
use Rattle.c25_layout_laws.proofs.layouts.layouts_have_their_words.Goals as goal

laws : (c : goal.After-program_words_are_the_sources) → Laws
laws c = record { sources = c.program_marks_are_statements.ensures.sources; marks = c.program_marks_are_statements.ensures.marks; pages = c.program_words_are_the_sources.ensures.pages }

pub returns-clause-words : goal.returns-clause-words
returns-clause-words c = λ files name parts modules command image there layout of read p. (layout_words (laws c) files name parts modules command image there layout of read p).0

pub returns-clause-marks : goal.returns-clause-marks
returns-clause-marks c = λ files name parts modules command image there layout of read p. (layout_words (laws c) files name parts modules command image there layout of read p).2

pub returns-clause-store : goal.returns-clause-store
returns-clause-store c = λ files name parts modules command image there layout of read p. (layout_words (laws c) files name parts modules command image there layout of read p).1
