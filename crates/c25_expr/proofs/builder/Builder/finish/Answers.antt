use Rattle.std.proofs.Common.{sym, ap, ◌∙◌, List, map, Option}
use Rattle.std.specs.Option.{ok_or, option_map}
use Rattle.c25_meaning_language.specs.Reading.{Found}
use Rattle.c25_meaning_language.specs.declared.expression.ExpressionFault.TheVariants.{BadExpression}
use Rattle.c25_expr.specs.Postfix.{item_of, runs}
use Rattle.c25_expr.specs.declared.tree.PostfixItem.{PostfixItem}
use Rattle.c25_expr.proofs.Finishes.{finished_none, finished_runs}
use Rattle.c25_expr.proofs.builder.Builder.finish.Goals as goal

pub returns-then-not-is_empty : goal.returns-then-not-is_empty
returns-then-not-is_empty c =
    ap (λ (o : Option Found). ok_or (option_map (λ f. f.tree) o) BadExpression) (finished_none c.args.self c.reduce.new.self c.if-builder.false c.in_ok-reduce.ensures.ok (sym c.is_empty.ensures ∙ c.if-not-is_empty.true))

pub invariant_of-result : goal.invariant_of-result
invariant_of-result c = record {
  whole = ap (λ (xs : List PostfixItem). runs (map item_of xs) 0) c.of.ensures ∙ finished_runs c.args.self c.reduce.new.self c.if-builder.false c.in_ok-reduce.ensures.ok (sym c.is_empty.ensures ∙ c.if-not-is_empty.false) c.requires;
}
