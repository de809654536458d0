use Rattle.std.proofs.Common.{◌≡◌, ◌∙◌, rules}
use Rattle.std.specs.Prelude.{string_bytes}
use Rattle.c25_board.specs.Board.{entries, state}
use Rattle.c25_coverage.proofs.Covered.{covered}
use Rattle.c25_coverage.proofs.run.coverage.Goals as goal

pub returns : goal.returns
returns c =
    λ given is of_files.
    let same : c.as_slice.result.now ≡ c.in_ok-branches.branches.items = search rules in
    covered c.answers_run_as_their_sources.ensures.first_states c.words_and_statements_count_alike.ensures c.args.ready c.args.n (string_bytes c.in_ok-lcov.lcov) (string_bytes c.in_ok-list.list) c.as_slice.result.now c.in_ok-counts.counts.acts.items c.in_ok-counts.counts.passes.items c.args.files.now
    (entries c.in_ok-board.board) (state c.in_ok-board.board) c.in_ok-board.ensures.schedule c.in_ok-board.ensures.state (same ∙ c.in_ok-branches.ensures) c.in_ok-counts.ensures c.in_ok-lcov.ensures c.in_ok-list.ensures given is of_files
