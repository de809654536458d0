use Rattle.std.proofs.Common.{◌≡◌, ◌∙◌, ◌||◌, Bool, true, false, sym, ap, rules}
use Rattle.c25_meaning_image.specs.Marks.{is_code, is_load}
use Rattle.c25_meaning_image.proofs.RunMarks.{loaded_code}
use Rattle.c25_board.specs.Places.{marks_in}
use Rattle.c25_board.proofs.devices.DevicesBus.is_code.Goals as goal

pub returns-then-is_load : goal.returns-then-is_load
returns-then-is_load g c =
    let d = c.args.self.now in
    let ms = marks_in 0 d.places.items in
    let loads : is_load d.run_marks.items c.args.address ≡ true = search rules in
    c.if-is_load.true ∙ sym (loaded_code d.run_marks.items ms c.args.address ∙ ap (λ (b : Bool). b || is_code ms c.args.address) loads)

pub returns-else-is_load : goal.returns-else-is_load
returns-else-is_load g c =
    let d = c.args.self.now in
    let ms = marks_in 0 d.places.items in
    let loads : is_load d.run_marks.items c.args.address ≡ false = search rules in
    let plain : c.is_code.result ≡ is_code ms c.args.address = search rules in
    plain ∙ sym (loaded_code d.run_marks.items ms c.args.address ∙ ap (λ (b : Bool). b || is_code ms c.args.address) loads)
