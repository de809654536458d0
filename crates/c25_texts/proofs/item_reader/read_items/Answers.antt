use Rattle.std.proofs.Common.{rules}
use Rattle.c25_texts.proofs.item_reader.read_items.Goals as goal

pub returns : goal.returns
returns c = search rules
