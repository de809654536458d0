use Rattle.std.proofs.Common.{inr}
use Rattle.c25_image_source.proofs.made.made_source.Goals as goal

pub returns-in-Ok : goal.returns-in-Ok
returns-in-Ok g c = inr (c.in-Ok.image, c.in-Ok.ensures, c.source_of_image.ensures)
