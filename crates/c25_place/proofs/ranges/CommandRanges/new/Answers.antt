use Rattle.std.proofs.Common.{List, ap, ◌∙◌, subst}
use Rattle.c25_cmd.specs.View.{command_data}
use Rattle.c25_meaning_linking.specs.Command.{RangeData}
use Rattle.c25_meaning_linking.specs.GoodMap.{ranges_for}
use Rattle.c25_place.specs.Ranges.{KnowsPage}
use Rattle.c25_place.specs.View.{ranges_view}
use Rattle.c25_place.specs.declared.ranges.PageRange.{PageRange}
use Rattle.c25_place.proofs.Commanded.{ranges_are, ranges_are_apart}
use Rattle.c25_place.proofs.ranges.CommandRanges.new.Goals as goal

pub returns-clause-known : goal.returns-clause-known
returns-clause-known c = record {
  program = subst (λ (rs : List RangeData). KnowsPage c.in_ok-program.program 0 rs) (ap (λ (rs : List PageRange). ranges_view rs) c.deref.ensures.value ∙ c.in_ok-all.ensures) c.in_ok-program.ensures;
  store = subst (λ (rs : List RangeData). KnowsPage c.in_ok-store.store 1 rs) (ap (λ (rs : List PageRange). ranges_view rs) c.deref-2.ensures.value ∙ c.in_ok-all.ensures) c.in_ok-store.ensures;
  apart = ranges_are_apart (command_data c.args.command.now) c.requires;
}

pub returns-clause-has : goal.returns-clause-has
returns-clause-has c = record {
  all = ranges_for (command_data c.args.command.now);
  knows = returns-clause-known c;
  are = ranges_are (command_data c.args.command.now) c.requires;
}
