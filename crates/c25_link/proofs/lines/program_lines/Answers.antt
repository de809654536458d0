use Rattle.std.proofs.Common.{◌≡◌}
use Rattle.c25_link.specs.Layout.{places_in}
use Rattle.c25_link.specs.Lines.{files_view}
use Rattle.c25_link.proofs.Told.{has_lines}
use Rattle.c25_link.proofs.lines.program_lines.Goals as goal

pub returns : goal.returns
returns c =
    let files = files_view c.in_ok-files.files.items in
    has_lines c.args.layout.now.modules.now (places_in c.args.layout.now) files c.in_ok-places.places.items c.requires.modules c.requires.parts c.requires.room c.in_ok-files.ensures
    c.in_ok-places.ensures.permutation c.in_ok-places.ensures.sorted
