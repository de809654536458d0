use Rattle.c25_module.specs.View.{symbols_data}
use Rattle.c25_records.proofs.Names.{HasNames-push}
use Rattle.c25_records.proofs.named_payloads.takes_name.Goals as goal

pub returns-in_ok-insert-clause-named : goal.returns-in_ok-insert-clause-named
returns-in_ok-insert-clause-named c = λ takes y is.
    HasNames-push (λ k. k.now) c.args.names.now c.insert.new.self (symbols_data c.args.before.now) c.args.name y c.requires c.in_ok-insert.ensures.updates is
