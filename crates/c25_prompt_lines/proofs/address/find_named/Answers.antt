use Rattle.std.proofs.Common.{rules, tests}
use Rattle.std.proofs.lemmas.Iterator.{YieldsList-from_slice}
use Rattle.std.proofs.lemmas.Iterator.Search.{find_from_yields_List}
use Rattle.c25_symbols.specs.View.{entry_view}
use Rattle.c25_prompt_lines.specs.Addresses.{is_named}
use Rattle.c25_prompt_lines.proofs.Found.{viewed}
use Rattle.c25_prompt_lines.proofs.address.find_named.Goals as goal

pub returns : goal.returns
returns c =
    viewed (is_named c.args.name.now) _ c.find.result
    (find_from_yields_List (λ y. is_named c.args.name.now (entry_view y)) _ _ c.find.result c.find.ensures.ran (YieldsList-from_slice _ c.iter.ensures.rest) (λ x b q k. search (rules, tests)))
