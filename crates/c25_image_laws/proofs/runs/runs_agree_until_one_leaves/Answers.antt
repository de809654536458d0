use Rattle.c25_image_laws.proofs.Agreeing.{ends_alike, states_alike}
use Rattle.c25_image_laws.proofs.runs.runs_agree_until_one_leaves.Goals as goal

pub returns-clause-states : goal.returns-clause-states
returns-clause-states c = states_alike

pub returns-clause-ends : goal.returns-clause-ends
returns-clause-ends c =
    ends_alike (record {
      joined = c.two_runs_are_one.ensures.words;
      outputs = c.steps_put_one_output_at_most.ensures;
    })
