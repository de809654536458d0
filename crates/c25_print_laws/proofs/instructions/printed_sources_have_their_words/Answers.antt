use Rattle.c25_print_laws.proofs.PrintedSources.{source_words}
use Rattle.c25_print_laws.proofs.instructions.printed_sources_have_their_words.Goals as goal

pub returns : goal.returns
returns c = source_words
