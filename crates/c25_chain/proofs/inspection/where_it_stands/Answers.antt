use Rattle.std.proofs.Common.{ap, string_bytes, ◌∙◌, List, ℕ}
use Rattle.std.proofs.lemmas.Result.{IfOk-weaker}
use Rattle.c25_board.specs.Board.{entries, signals, state, steps}
use Rattle.c25_debug.specs.Told.{point_of}
use Rattle.c25_chain.proofs.Standing.{tells_where}
use Rattle.c25_chain.proofs.inspection.where_it_stands.Goals as goal

pub returns : goal.returns
returns g c =
    let board = c.args.board in
    let session = c.new-session.result in
    let begins =
    ap (λ b. point_of b session.breakpoints) c.new-session.ensures.board ∙ ap (λ (bs : List ℕ). point_of board bs) c.new-session.ensures.breakpoints
    in
    IfOk-weaker c.both_answers.result _ _
    (λ text told.
    tells_where (signals session.board) (entries board) c.args.image.now session.image.now (point_of session.board session.breakpoints) (string_bytes text) (steps board) (state board)
    begins c.new-session.ensures.image told)
    c.both_answers.ensures
