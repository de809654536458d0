use Rattle.std.proofs.Common.{◌≡◌, ◌<◌, ◌++◌, ◌∷◌, [], List, length, get_or, ap, sym, ◌∙◌, arith}
use Rattle.std.specs.declared.alloc.Global.{Global}
use Rattle.std.specs.declared.vec.Vec.{Vec}
use Rattle.c25_meaning_linking.specs.Words.{is_copied, placed_run_mark}
use Rattle.c25_meaning_image.specs.declared.mark.RunMark.{RunMark}
use Rattle.c25_meaning_objects.specs.declared.object.ModuleMark.{ModuleMark}
use Rattle.c25_module.specs.View.{contents}
use Rattle.c25_link.specs.Layout.{places_in}
use Rattle.c25_link.proofs.Marked.{KnowsPart, knows_part, run_elsewhere, run_mark_made, copied_0, mark_below, chosen_pushed, chosen_left}
use Rattle.c25_link.proofs.marks.push_run_marks.Goals.{then-is_copied+in_ok-push, else-is_copied}
use Rattle.c25_link.proofs.marks.push_run_marks.Goals as goal

-- what an index past the end would read
abbrev nothing : ModuleMark
nothing = record { section = 0; offset = 0; size = 0 }

pub placed_run_mark-requires : goal.placed_run_mark-requires
placed_run_mark-requires c =
    let same = c.deref-mark-items.ensures.value in
    let modules = c.args.layout.now.modules.now in
    let places = places_in c.args.layout.now in
    let number = c.args.number in
    let m = contents c.args.owner.now in
    let laid = c.requires.laid in
    let owner = c.requires.owner in
    let i = c.loop-mark.mark-index in
    let x : ModuleMark = get_or c.deref-mark-items.result.now i nothing in
    let lt : i < length m.marks = omega (arith, ap length same) in
    let at : x ≡ get_or m.marks i nothing = ap (λ (xs : List ModuleMark). get_or xs i nothing) same in
    let part = c.get-part.result in
    let get = c.get-part.ensures in
    let knows : KnowsPart modules places number m x part =
    knows_part modules places number c.from.result m x part c.from.ensures (get.base modules places m laid.bases owner) (get.page modules places m laid.bases owner) (get.run modules places m laid.bases owner) (get.elsewhere modules places m laid.bases owner) in
    let below = mark_below modules places number i m x nothing part laid.modules laid.room owner lt at knows (copied_0 part c.if-is_copied.ensures) in
    record { loaded = below.load; runs = below.run }

pub loop-mark-preserved : goal.loop-mark-preserved
loop-mark-preserved c =
    let same = c.deref-mark-items.ensures.value in
    let modules = c.args.layout.now.modules.now in
    let places = places_in c.args.layout.now in
    let number = c.args.number in
    let m = contents c.args.owner.now in
    let laid = c.requires.laid in
    let owner = c.requires.owner in
    let i = c.loop-mark.mark-index in
    let x : ModuleMark = get_or c.deref-mark-items.result.now i nothing in
    let lt : i < length m.marks = omega (arith, ap length same) in
    let at : x ≡ get_or m.marks i nothing = ap (λ (xs : List ModuleMark). get_or xs i nothing) same in
    let part = c.get-part.result in
    let get = c.get-part.ensures in
    let knows : KnowsPart modules places number m x part =
    knows_part modules places number c.from.result m x part c.from.ensures (get.base modules places m laid.bases owner) (get.page modules places m laid.bases owner) (get.run modules places m laid.bases owner) (get.elsewhere modules places m laid.bases owner) in
    let old = c.loop-mark.run_marks.items in
    elim c.if-is_copied.branch [
      | then-is_copied+in_ok-push w ↦
          ap (λ (v : Vec RunMark Global). v.items) w.run_marks-is
          ∙ chosen_pushed (is_copied places m) (placed_run_mark modules places number m) m.marks i x nothing c.args.run_marks.now.items old w.push.new.self.items lt at (sym (run_elsewhere modules places number m x part knows) ∙ sym w.if-is_copied.ensures) c.loop-mark.invariant
          (w.in_ok-push.ensures.items ∙ ap (λ (y : RunMark). old ++ y ∷ []) (w.placed_run_mark.ensures ∙ run_mark_made modules places number m x part knows))
      | else-is_copied w ↦
          ap (λ (v : Vec RunMark Global). v.items) w.run_marks-is
          ∙ chosen_left (is_copied places m) (placed_run_mark modules places number m) m.marks i x nothing c.args.run_marks.now.items old lt at (sym (run_elsewhere modules places number m x part knows) ∙ sym w.if-is_copied.ensures) c.loop-mark.invariant
    ]
