use Rattle.std.proofs.Common.{rules, refl, ◌∙◌}
use Rattle.std.proofs.lemmas.List.{nil_from_length}
use Rattle.c25_substitution.proofs.Binding.{bound_more, bound_none}
use Rattle.c25_substitution.proofs.arguments.arguments.Goals as goal

pub loop-parameter-preserved : goal.loop-parameter-preserved
loop-parameter-preserved c =
    let l = c.loop-parameter in
    record {
      text = search rules;
      so_far =
          bound_more l.found c.bind.new.found l.left.now c.in-Some.others.now c.in-Some.parameter.now _ c.split_argument.result.0.now l.rest.now c.split_argument.result.1.now _ c.is_empty.result
          c.in-Some.ensures.cases.0 c.is_empty.ensures c.split_argument.ensures.argument c.split_argument.ensures.rest c.as_str.ensures.value refl c.in_ok-bind.ensures
          ∙ l.invariant.so_far;
    }

pub returns : goal.returns
returns c = bound_none c.loop-parameter.found _ c.loop-parameter.left.now c.loop-parameter.rest.now (nil_from_length c.loop-parameter.left.now c.in_default.ensures.cases) c.loop-parameter.invariant.so_far
