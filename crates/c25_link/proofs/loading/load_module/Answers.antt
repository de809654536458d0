use Rattle.std.proofs.Common.{arith}
use Rattle.std.proofs.lemmas.List.{length-map}
use Rattle.c25_module.specs.View.{contents, section_data}
use Rattle.c25_link.specs.Layout.{places_in}
use Rattle.c25_link.proofs.Loaded.{pages_of_module}
use Rattle.c25_link.proofs.loading.load_module.Goals as goal

pub returns : goal.returns
returns c =
    let sections = length-map c.args.parts.now.sections.items section_data in
    pages_of_module c.args.layout.now.modules.now (places_in c.args.layout.now) c.args.number c.loop-index.index (contents c.args.parts.now) c.loop-index.pages c.requires.owner (omega (arith, sections)) c.loop-index.invariant
