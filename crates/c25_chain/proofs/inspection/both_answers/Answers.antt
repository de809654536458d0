use Rattle.std.proofs.Common.{ap, rules, string_bytes}
use Rattle.c25_board.specs.Board.{signals}
use Rattle.c25_debug.specs.Told.{point_of}
use Rattle.c25_chain.proofs.Standing.{tells_both}
use Rattle.c25_chain.proofs.inspection.both_answers.Goals as goal

pub returns : goal.returns
returns g c =
    let session = c.args.session.now in
    let told = c.command.new.self in
    let placed = c.command-2.new.self in
    tells_both (signals session.board) (signals told.board) session.image.now told.image.now
    (point_of session.board session.breakpoints) (point_of told.board told.breakpoints) (point_of placed.board placed.breakpoints)
    (string_bytes c.in_ok-text.text) (string_bytes c.in_ok-place.place) (string_bytes c.push_str.new.self)
    (ap (λ image. image.now) c.command.ensures.image) c.in_ok-text.ensures.answer.0 c.in_ok-place.ensures.answer.0 (search rules)
