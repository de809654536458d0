use Rattle.c25_cmd.proofs.Names.{HasRangeNames-none}
use Rattle.c25_cmd.proofs.TakenWords.{KnowsWords-none}
use Rattle.c25_cmd.proofs.ranges.no_ranges.Goals as goal

pub returns-clause-named : goal.returns-clause-named
returns-clause-named c = HasRangeNames-none (λ k. k.0) (λ k. k.1.now) c.new-2.result c.new-2.ensures.empty

pub returns-clause-words : goal.returns-clause-words
returns-clause-words c = KnowsWords-none c.in_ok-free_words.field-0.items c.in_ok-free_words.ensures
