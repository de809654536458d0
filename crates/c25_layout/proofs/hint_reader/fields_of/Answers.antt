use Rattle.std.proofs.Common.{rules, tests, not, length, ◌==◌}
use Rattle.std.proofs.lemmas.Iterator.Consumers.{map_from_collect, YieldsList-from_filter}
use Rattle.std.proofs.lemmas.Iterator.Splits.{YieldsList-from_slice_split}
use Rattle.c25_meaning_common.specs.Bytes.{is_blank}
use Rattle.c25_layout.proofs.hint_reader.fields_of.Goals as goal

pub returns : goal.returns
returns c =
    map_from_collect _ c.collect.ensures.ran (YieldsList-from_filter _ (λ w. not (length w == 0))
    (YieldsList-from_slice_split _ is_blank c.args.line.now (cc) (cc) (cc) (λ x b q k. search (rules, tests))) c.filter.ensures.closure (λ x b q k. search (rules, tests)))
