use Rattle.std.proofs.Common.{◌≡◌, ◌<◌, ◌≤◌, ◌==◌, ◌++◌, ◌∷◌, [], true, false, List, length, get_or, map, filter, ap, sym, ◌∙◌, arith}
use Rattle.std.specs.List.{zip}
use Rattle.std.specs.declared.alloc.Global.{Global}
use Rattle.std.proofs.lemmas.Bool.{ne_eqb}
use Rattle.std.specs.declared.vec.Vec.{Vec}
use Rattle.c25_meaning_image.specs.declared.mark.Mark.{Mark}
use Rattle.c25_meaning_linking.specs.Words.{is_line_on_program, is_on_program}
use Rattle.c25_meaning_objects.specs.declared.object.LineMark.{LineMark}
use Rattle.c25_meaning_objects.specs.declared.object.ModuleMark.{ModuleMark}
use Rattle.c25_module.specs.View.{contents}
use Rattle.c25_link.specs.Layout.{places_in}
use Rattle.c25_link.specs.Lines.{line_place}
use Rattle.c25_link.specs.declared.lines.LinePlace.{LinePlace}
use Rattle.c25_link.proofs.Marked.{KnowsPart, knows_part, on_program, mark_made, mark_below, chosen_pushed, chosen_left}
use Rattle.c25_link.proofs.Told.{pair_at, pair_below, pairs_same, pairs_ended, told_at, untold_at}
use Rattle.c25_link.proofs.lines.push_places.Goals.{in-Some+then-part-eq0+in_ok-push-in-Some, in-Some+else-part-eq0, in-None}
use Rattle.c25_link.proofs.lines.push_places.Goals as goal

-- what an index past the end would read
abbrev nothing : ModuleMark
nothing = record { section = 0; offset = 0; size = 0 }

abbrev no_line : LineMark
no_line = record { file = 0; line = 0 }

pub placed_mark-requires : goal.placed_mark-requires
placed_mark-requires c =
    let same = c.deref-mark-items.ensures.value in
    let modules = c.args.layout.now.modules.now in
    let places = places_in c.args.layout.now in
    let number = c.args.number in
    let m = contents c.args.owner.now in
    let laid = c.requires.laid in
    let owner = c.requires.owner in
    let i = c.loop-index.index in
    let x : ModuleMark = get_or c.deref-mark-items.result.now i nothing in
    let lt : i < length m.marks = omega (arith, c.loop-index-test.true, ap length same) in
    let at : x ≡ get_or m.marks i nothing = ap (λ (xs : List ModuleMark). get_or xs i nothing) same in
    let part = c.get-part.result in
    let get = c.get-part.ensures in
    let knows : KnowsPart modules places number m x part =
    knows_part modules places number c.from.result m x part c.from.ensures (get.base modules places m laid.bases owner) (get.page modules places m laid.bases owner) (get.run modules places m laid.bases owner) (get.elsewhere modules places m laid.bases owner) in
    let below = mark_below modules places number i m x nothing part laid.modules laid.room owner lt at knows c.if-part-eq0.true in
    below.load

pub loop-index-preserved : goal.loop-index-preserved
loop-index-preserved c =
    let same = c.deref-mark-items.ensures.value in
    let modules = c.args.layout.now.modules.now in
    let places = places_in c.args.layout.now in
    let number = c.args.number in
    let m = contents c.args.owner.now in
    let laid = c.requires.laid in
    let owner = c.requires.owner in
    let i = c.loop-index.index in
    let x : ModuleMark = get_or c.deref-mark-items.result.now i nothing in
    let lt : i < length m.marks = omega (arith, c.loop-index-test.true, ap length same) in
    let at : x ≡ get_or m.marks i nothing = ap (λ (xs : List ModuleMark). get_or xs i nothing) same in
    let before = c.args.places.now.items in
    let old = c.loop-index.places.items in
    elim c.match-get.branch [
      | in-Some+then-part-eq0+in_ok-push-in-Some w ↦
          let y : LineMark = w.in-Some.told.now in
          let told = told_at m.lines c.deref.result.now i w.in-Some.told no_line c.deref.ensures.value w.in-Some.ensures.lookup in
          let part = w.get-part.result in
          let get = w.get-part.ensures in
          let knows : KnowsPart modules places number m x part =
          knows_part modules places number w.from.result m x part w.from.ensures (get.base modules places m laid.bases owner) (get.page modules places m laid.bases owner) (get.run modules places m laid.bases owner) (get.elsewhere modules places m laid.bases owner) in
          let on : is_on_program places m x ≡ true = sym (on_program modules places number m x part knows) ∙ ap (λ n. n == 0) w.if-part-eq0.true in
          ap (λ (v : Vec LinePlace Global). v.items) w.places-is
          ∙ chosen_pushed (is_line_on_program places m) (line_place modules places number m) (zip m.marks m.lines) i (x, y) (nothing, no_line) before old w.push.new.self.items (pair_below m.marks m.lines i lt told.0) (pair_at m.marks m.lines i x nothing y no_line lt told.0 at told.1) on
          c.loop-index.invariant
          (w.in_ok-push-in-Some.ensures.items
          ∙ ap (λ (k : Mark). old ++ record { mark = k; number = number; file = y.file; line = y.line } ∷ []) (w.placed_mark.ensures ∙ mark_made modules places number m x part knows))
      | in-Some+else-part-eq0 w ↦
          let y : LineMark = w.in-Some.told.now in
          let told = told_at m.lines c.deref.result.now i w.in-Some.told no_line c.deref.ensures.value w.in-Some.ensures.lookup in
          let part = w.get-part.result in
          let get = w.get-part.ensures in
          let knows : KnowsPart modules places number m x part =
          knows_part modules places number w.from.result m x part w.from.ensures (get.base modules places m laid.bases owner) (get.page modules places m laid.bases owner) (get.run modules places m laid.bases owner) (get.elsewhere modules places m laid.bases owner) in
          let off : is_on_program places m x ≡ false = sym (on_program modules places number m x part knows) ∙ ne_eqb part.page 0 w.if-part-eq0.false in
          ap (λ (v : Vec LinePlace Global). v.items) w.places-is
          ∙ chosen_left (is_line_on_program places m) (line_place modules places number m) (zip m.marks m.lines) i (x, y) (nothing, no_line) before old (pair_below m.marks m.lines i lt told.0) (pair_at m.marks m.lines i x nothing y no_line lt told.0 at told.1) off
          c.loop-index.invariant
      | in-None w ↦
          let none : length m.lines ≤ i = untold_at m.lines c.deref.result.now i c.deref.ensures.value w.in-None.ensures.lookup in
          ap (λ (v : Vec LinePlace Global). v.items) w.places-is
          ∙ c.loop-index.invariant
          ∙ ap (λ (ts : List (ModuleMark × LineMark)). before ++ map (line_place modules places number m) (filter (is_line_on_program places m) ts)) (sym (pairs_same m.marks m.lines i none))
    ]

pub returns : goal.returns
returns c =
    let modules = c.args.layout.now.modules.now in
    let places = places_in c.args.layout.now in
    let m = contents c.args.owner.now in
    let i = c.loop-index.index in
    let le : length m.marks ≤ i = omega (arith, c.loop-index-test.false, ap length c.deref-mark-items.ensures.value) in
    c.loop-index.invariant
    ∙ ap (λ (ts : List (ModuleMark × LineMark)). c.args.places.now.items ++ map (line_place modules places c.args.number m) (filter (is_line_on_program places m) ts)) (pairs_ended m.marks m.lines i le)
