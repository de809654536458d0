use Rattle.c25_cmd.specs.View.{placings_of}
use Rattle.c25_cmd.proofs.Names.{HasNames-push}
use Rattle.c25_cmd.proofs.sections.take_name.Goals as goal

pub returns-clause-named : goal.returns-clause-named
returns-clause-named c = λ fresh p is.
    HasNames-push (λ k. k.now) c.args.sections.now.names c.insert.new.self (placings_of c.args.sections.now.list.items) c.args.name p c.requires c.in_ok-insert.ensures.updates is
