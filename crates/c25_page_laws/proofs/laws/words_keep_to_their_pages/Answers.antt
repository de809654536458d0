use Rattle.c25_page_laws.proofs.Runs.{words_are_sure, words_never_leave}
use Rattle.c25_page_laws.proofs.laws.words_keep_to_their_pages.Goals as goal

pub returns-clause-pages : goal.returns-clause-pages
returns-clause-pages c = words_are_sure

pub returns-clause-code : goal.returns-clause-code
returns-clause-code c = words_never_leave
