use Rattle.std.proofs.Common.{rules, tests, ◌==◌, ◌∙◌, not}
use Rattle.std.proofs.lemmas.Iterator.{YieldsList-from_slice}
use Rattle.std.proofs.lemmas.Iterator.Search.{find_from_yields_List}
use Rattle.c25_meaning_processor.specs.Memory.{memory_of}
use Rattle.c25_prompt.proofs.watched.first_changed.Goals as goal

pub returns : goal.returns
returns c =
    c.copied.ensures
    ∙ find_from_yields_List (λ w. not (memory_of c.args.memory.now w.address == w.old)) _ _ c.find.result c.find.ensures.ran (YieldsList-from_slice _ c.iter.ensures.rest) (λ x b q k. search (rules, tests))
