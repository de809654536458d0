use Rattle.std.proofs.Common.{rules, tests, not}
use Rattle.std.proofs.lemmas.Iterator.Consumers.{map_from_collect}
use Rattle.std.proofs.lemmas.Iterator.Splits.{YieldsList-from_slice_split}
use Rattle.c25_meaning_common.specs.Bytes.{goes_on_name}
use Rattle.c25_uses.proofs.uses.split_words.Goals as goal

pub returns : goal.returns
returns c =
    map_from_collect _ c.collect.ensures.ran (YieldsList-from_slice_split _ (λ b. not (goes_on_name b)) c.args.text.now (cc) (cc) (cc) (λ x b q k. search (rules, tests)))
