use Rattle.std.proofs.Common.{sym}
use Rattle.c25_hints.proofs.Named.{one_named}
use Rattle.c25_hints.proofs.values.defined_names.Goals as goal

pub loop-number-preserved : goal.loop-number-preserved
loop-number-preserved c =
    one_named c.loop-number.names.items c.push.new.self.items c.args.symbols.now.entries c.loop-number.number c.in-Some.name c.in-Some.field-0-1 _
    c.in_ok-push.ensures.items (sym c.in-Some.ensures) c.loop-number.invariant
