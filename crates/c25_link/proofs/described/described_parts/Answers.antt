use Rattle.std.proofs.Common.{List, map, ap, ◌∙◌}
use Rattle.std.proofs.lemmas.List.{take_all}
use Rattle.c25_link.specs.Described.{part_data_of}
use Rattle.c25_link.specs.declared.described.PartPlace.{PartPlace}
use Rattle.c25_link.proofs.described.described_parts.Goals as goal

pub returns : goal.returns
returns c = c.loop-part.invariant ∙ ap (λ (ps : List PartPlace). map part_data_of ps) (take_all c.loop-part.part-index c.args.parts.now c.loop-part-test.false)
