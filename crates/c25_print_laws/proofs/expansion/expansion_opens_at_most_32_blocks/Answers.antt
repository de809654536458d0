use Rattle.c25_meaning_expansion.proofs.ExpansionBounded.{at_most_32_blocks}
use Rattle.c25_print_laws.proofs.expansion.expansion_opens_at_most_32_blocks.Goals as goal

pub returns : goal.returns
returns c = at_most_32_blocks
