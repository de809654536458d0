use Rattle.std.specs.declared.alloc.Global.{Global}
use Rattle.std.specs.declared.vec.Vec.{Vec}
use Rattle.std.specs.List.Sorted.{IsPermutation, IsNonDecreasingBy}
use Rattle.c25_meaning_image.specs.declared.mark.Mark.{Mark}
use Rattle.c25_meaning_linking.specs.Linking.{HasMarks}
use Rattle.c25_meaning_linking.specs.Words.{program_marks}
use Rattle.c25_link.specs.Layout.{places_in}
use Rattle.c25_link.proofs.Marked.{has_marks, ok_both}
use Rattle.c25_link.proofs.marks.program_marks.Goals as goal

pub returns : goal.returns
returns c =
    let modules = c.args.layout.now.modules.now in
    let places = places_in c.args.layout.now in
    ok_both (λ (v : Vec Mark Global). IsPermutation (program_marks modules places) v.items) (λ (v : Vec Mark Global). IsNonDecreasingBy (λ m. m.address) v.items) (λ (v : Vec Mark Global). HasMarks modules places v.items)
    c.items_by_address.result (λ v same up. has_marks modules places v.items c.requires.modules c.requires.parts c.requires.room same up) c.items_by_address.ensures.permutation c.items_by_address.ensures.sorted
