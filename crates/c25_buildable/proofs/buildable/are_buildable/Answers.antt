use Rattle.c25_buildable.proofs.Unhindered.{all_short, fine_built}
use Rattle.c25_buildable.proofs.buildable.are_buildable.Goals as goal

pub are_named-requires : goal.are_named-requires
are_named-requires c = all_short 0 c.args.parts.now c.requires.are.1.follow

pub returns : goal.returns
returns c =
    fine_built c.args.words.now c.requires.are.0 c.args.parts.now c.iter-all.ensures.in_range c.requires.are.1 c.requires.few c.are_named.result c.are_named.ensures.few c.are_named.ensures.names
