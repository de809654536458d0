use Rattle.std.proofs.Common.{◌∙◌, ap, not}
use Rattle.c25_cmd.specs.View.{ranges_of}
use Rattle.c25_cmd.proofs.Names.{HasRangeNames-push}
use Rattle.c25_cmd.proofs.ranges.take_name.Goals as goal

pub returns-clause-fresh : goal.returns-clause-fresh
returns-clause-fresh c = c.in_ok-insert.ensures.added ∙ ap not (c.requires (c.args.page, c.args.name))

pub returns-clause-named : goal.returns-clause-named
returns-clause-named c = λ fresh r page_is name_is.
    HasRangeNames-push (λ k. k.0) (λ k. k.1.now) c.args.ranges.now.names c.insert.new.self (ranges_of c.args.ranges.now.list.items) (c.args.page, c.args.name) r c.requires c.in_ok-insert.ensures.updates page_is name_is
