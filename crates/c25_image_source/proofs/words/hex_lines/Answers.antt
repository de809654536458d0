use Rattle.std.proofs.Common.{ap, ℕ, List}
use Rattle.c25_chain.specs.declared.fault.ChainFault.TheVariants.{Hex}
use Rattle.c25_hex.specs.declared.hex_fault.HexFault.{HexFault}
use Rattle.c25_image_source.specs.declared.fault.ImageFault.{ImageFault}
use Rattle.c25_image_source.specs.declared.fault.ImageFault.TheVariants as image
use Rattle.c25_meaning_common.specs.Results.{told}
use Rattle.c25_meaning_common.specs.declared.placed.Placed.{Placed}
use Rattle.c25_image_source.proofs.words.hex_lines.Goals as goal

pub returns-in-Ok : goal.returns-in-Ok
returns-in-Ok c = (c.in-Ok.ensures.found.0, ap (told (λ (f : Placed ℕ HexFault). image.Chain (Hex f))) c.in-Ok.ensures.found.1, c.in-Ok.ensures.found.2)
