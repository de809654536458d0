use Rattle.c25_places.proofs.TokenFacts.{end_below}
use Rattle.c25_places.proofs.defined.standing_part.Goals as goal

pub token_part-requires : goal.token_part-requires
token_part-requires c = end_below 0 c.args.tokens.now c.loop-token.token-index _ c.requires c.loop-token-test.true
