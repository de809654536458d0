use Rattle.std.proofs.Common.{◌≡◌, ℕ, true, false, List, [], ◌++◌, Some, None, refl, sym, ap, ◌∙◌, string_bytes}
use Rattle.std.specs.List.{slice_get}
use Rattle.std.proofs.lemmas.List.{append-nil}
use Rattle.c25_meaning_objects.specs.Module.{words_at}
use Rattle.c25_module.specs.View.{contents}
use Rattle.c25_dis.specs.Sections.{labels_at}
use Rattle.c25_dis.proofs.Passed.{ok_then, place_with, place_without, two_behind}
use Rattle.c25_dis.proofs.section.Places.push_place.Goals as goal

pub returns-in-None : goal.returns-in-None
returns-in-None c =
    let m = contents c.args.self.now.parts.now in
    let section = c.args.self.now.section in
    let none : slice_get (words_at m.sections section) c.args.place ≡ None = ap (λ (ws : List ℕ). slice_get ws c.args.place) (sym c.requires.words) ∙ sym c.in-None.ensures in
    (labels_at m section c.args.place, place_without m section c.args.place none, c.in_ok-push_own_labels.ensures)

pub returns-then-is_second : goal.returns-then-is_second
returns-then-is_second c =
    let m = contents c.args.self.now.parts.now in
    let section = c.args.self.now.section in
    let labels = labels_at m section c.args.place in
    let some : slice_get (words_at m.sections section) c.args.place ≡ Some c.in-Some.first = ap (λ (ws : List ℕ). slice_get ws c.args.place) (sym c.requires.words) ∙ sym c.in-Some.ensures in (
      labels ++ [],
      place_with m section c.args.place c.in-Some.first true [] some (sym c.is_second.ensures ∙ c.if-is_second.true) refl,
      c.in_ok-push_own_labels.ensures ∙ ap (λ (t : List ℕ). string_bytes c.args.text.now ++ t) (sym (append-nil labels)),
    )

pub returns-else-is_second : goal.returns-else-is_second
returns-else-is_second c =
    let m = contents c.args.self.now.parts.now in
    let section = c.args.self.now.section in
    let labels = labels_at m section c.args.place in
    let some : slice_get (words_at m.sections section) c.args.place ≡ Some c.in-Some.first = ap (λ (ws : List ℕ). slice_get ws c.args.place) (sym c.requires.words) ∙ sym c.in-Some.ensures in
    ok_then c.push_word_line.result c.push_word_line.ensures (λ line. (
      labels ++ line.0,
      place_with m section c.args.place c.in-Some.first false line.0 some (sym c.is_second.ensures ∙ c.if-is_second.false) line.1,
      two_behind (string_bytes c.args.text.now) labels line.0 (string_bytes c.push_own_labels.new.text) (string_bytes c.push_word_line.new.text) c.in_ok-push_own_labels.ensures line.2,
    ))
