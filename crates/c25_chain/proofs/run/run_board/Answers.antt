use Rattle.std.proofs.Common.{◌≡◌, ◌∙◌, ap, refl, rules}
use Rattle.std.specs.Prelude.{slice_index}
use Rattle.c25_board.specs.Board.{signals, state}
use Rattle.c25_chain.specs.declared.run.RunResult.{RunResult}
use Rattle.c25_chain.proofs.Ends.{ends_as}
use Rattle.c25_chain.proofs.run.run_board.Goals as goal

pub returns-clause-run : goal.returns-clause-run
returns-clause-run c =
    let done : RunResult = record { outputs = c.in_ok-to_vec.field-0; regs = c.regs.result; memory = c.in_ok-to_vec-2.field-0; outcome = c.run-outcome.result; steps = c.steps.result } in
    ends_as (signals c.args.board.now) (state c.args.board.now) c.args.n done c.run-outcome.result _ _ _ _ _ c.requires c.run-outcome.ensures.run (search rules) refl c.steps.ensures
    (record { outputs = search rules; regs = search rules; size = search rules; memory = λ address below. let same : c.in_ok-to_vec-2.field-0.items ≡ c.data.result.now = search rules in ap (λ ws. slice_index ws address) same ∙ ap (λ m. m address) c.data.ensures.words })
