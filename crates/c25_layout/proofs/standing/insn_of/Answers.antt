use Rattle.c25_layout.proofs.InImage.{alone_stands, read_stands}
use Rattle.c25_layout.proofs.standing.insn_of.Goals as goal

pub returns-in-None : goal.returns-in-None
returns-in-None c = alone_stands c.args.words.now c.args.address c.args.word c.requires c.one_word.result c.ranges.address.fits c.one_word.ensures.read c.one_word.ensures.alone

pub returns-in-Some : goal.returns-in-Some
returns-in-Some c = read_stands c.args.words.now c.args.address c.args.word c.requires c.in-Some.next c.decode.result c.in-Some.ensures.there c.in-Some.ensures.inside c.decode.ensures.found
