use Rattle.c25_statement_laws.proofs.ListingsShow.{entries_are_items, shown_there}
use Rattle.c25_statement_laws.proofs.listing_laws.listings_show_the_words.Goals as goal

pub returns-clause-program : goal.returns-clause-program
returns-clause-program c files names modules command image of p = shown_there files names modules of p.places 0 image.program p.program

pub returns-clause-store : goal.returns-clause-store
returns-clause-store c files names modules command image of p = shown_there files names modules of p.places 1 image.store p.store

pub returns-clause-lines : goal.returns-clause-lines
returns-clause-lines c = entries_are_items
