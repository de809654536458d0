use Rattle.std.proofs.Common.{List, subst, sym}
use Rattle.c25_layout.specs.Buildable.{IsBuildable}
use Rattle.c25_layout.specs.Layout.{ArePartsOf}
use Rattle.c25_layout.specs.declared.layout.Part.{Part}
use Rattle.std.specs.declared.alloc.Global.{Global}
use Rattle.std.specs.declared.vec.Vec.{Vec}
use Rattle.c25_source.proofs.Answered.{sure}
use Rattle.c25_source.proofs.source.sure_source.Goals as goal

pub returns-in-Ok : goal.returns-in-Ok
returns-in-Ok c =
    let same = sym c.in-Ok.ensures.same in
    sure c.args.asked.name.now c.args.words.now c.args.asked.blank c.in-Ok.made c.in-Ok.ensures.texts
    (subst (λ (ps : Vec Part Global). ArePartsOf c.args.words.now c.args.asked.blank ps.items) same c.requires.are)
    (c.images_are_rebuilt.ensures c.args.asked.name.now c.args.words.now c.args.asked.blank c.in-Ok.made.parts.items c.requires.file (subst (λ (ps : Vec Part Global). IsBuildable ps.items) same c.requires.buildable)
    (subst (λ (ps : Vec Part Global). ArePartsOf c.args.words.now c.args.asked.blank ps.items) same c.requires.are))
