use Rattle.std.proofs.Common.{subst, sym}
use Rattle.c25_image_source.specs.Words.{ReadsImage}
use Rattle.c25_image_source.specs.declared.asked.ImageFiles.{ImageFiles}
use Rattle.c25_image_source.proofs.words.words_of.Goals as goal

pub returns-in-Binary : goal.returns-in-Binary
returns-in-Binary g c = subst (λ (f : ImageFiles). ReadsImage (g.D.Disk.bytes_of c.args.disk.now) f c.binary_file.result) (sym c.in-Binary.is) c.binary_file.ensures
