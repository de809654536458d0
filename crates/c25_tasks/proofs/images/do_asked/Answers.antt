use Rattle.c25_image_source.specs.declared.asked.DisAsked.TheVariants.{Print, Source}
use Rattle.c25_tasks.proofs.Imaged.{does_asked}
use Rattle.c25_tasks.proofs.Quiet.{stays}
use Rattle.c25_tasks.proofs.images.do_asked.Goals as goal

pub returns-in-Print : goal.returns-in-Print
returns-in-Print g c = does_asked (g.D.Disk.bytes_of c.args.disk.now) c.args.explain _ _ _ _ c.args.asked (Print c.in-Print.printing) c.in-Print.is (c.disassemble.ensures, stays _)

pub returns-in-Source : goal.returns-in-Source
returns-in-Source g c = does_asked (g.D.Disk.bytes_of c.args.disk.now) c.args.explain _ _ _ _ c.args.asked (Source c.in-Source.image) c.in-Source.is c.write_image.ensures
