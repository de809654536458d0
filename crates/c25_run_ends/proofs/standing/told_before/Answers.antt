use Rattle.std.specs.Option.{option_map}
use Rattle.std.specs.Prelude.{string_bytes}
use Rattle.c25_board.specs.Board.{signals, state, steps}
use Rattle.c25_run_ends.proofs.Stood.{all_arrived}
use Rattle.c25_run_ends.proofs.standing.told_before.Goals as goal

pub returns-clause-arrives : goal.returns-clause-arrives
returns-clause-arrives c =
    λ known.
    all_arrived (λ k. option_map (λ x. (string_bytes x.text, x.requests)) k) (signals c.args.board.now) c.args.image.now (state c.args.board.now) c.args.step (steps c.told_step.new.board) (state c.told_step.new.board)
    c.args.requests c.told_step.result c.if-step-eq0.false (c.told_step.ensures.arrives known)
