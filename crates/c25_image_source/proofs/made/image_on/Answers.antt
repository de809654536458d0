use Rattle.std.proofs.Common.{inr}
use Rattle.c25_image_source.proofs.made.image_on.Goals as goal

pub returns-in-Err : goal.returns-in-Err
returns-in-Err g c = inr (c.in_ok-words.words, c.in_ok-words.ensures, c.in-Err.ensures)
