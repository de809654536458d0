use Rattle.std.specs.declared.alloc.Global.{Global}
use Rattle.std.specs.declared.vec.Vec.{Vec}
use Rattle.std.specs.List.Sorted.{IsPermutation, IsNonDecreasingBy}
use Rattle.c25_meaning_image.specs.declared.mark.RunMark.{RunMark}
use Rattle.c25_meaning_linking.specs.Linking.{HasRunMarks}
use Rattle.c25_meaning_linking.specs.Words.{program_run_marks}
use Rattle.c25_link.specs.Layout.{places_in}
use Rattle.c25_link.proofs.Marked.{ok_both}
use Rattle.c25_link.proofs.marks.program_run_marks.Goals as goal

pub returns : goal.returns
returns c =
    let modules = c.args.layout.now.modules.now in
    let places = places_in c.args.layout.now in
    let marks = c.args.marks.now in
    ok_both (λ (v : Vec RunMark Global). IsPermutation (program_run_marks modules places) v.items) (λ (v : Vec RunMark Global). IsNonDecreasingBy (λ m. m.run) v.items) (λ (v : Vec RunMark Global). HasRunMarks modules places marks v.items)
    c.items_by_address.result (λ v same up. c.requires.laid.runs marks v.items c.requires.marks same up) c.items_by_address.ensures.permutation c.items_by_address.ensures.sorted
