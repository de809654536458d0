use Rattle.c25_meaning_assembly.specs.Emission.{finished}
use Rattle.c25_phases.proofs.making.finish.Goals as goal

pub returns : goal.returns
unfolding finished
returns c =
    let laid = c.of-laid.ensures in
    rw (laid.sections, laid.symbols, laid.declared, laid.exported, laid.items) at c.take_parts-parts.ensures
