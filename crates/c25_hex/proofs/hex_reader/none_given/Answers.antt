use Rattle.std.proofs.Common.{arith}
use Rattle.c25_hex.proofs.CellMaps.{cells-none}
use Rattle.c25_hex.proofs.LineSteps.{none_length, none_pushed}
use Rattle.c25_hex.proofs.hex_reader.none_given.Goals as goal

pub loop-preserved : goal.loop-preserved
loop-preserved c = none_pushed c.loop.bytes.items c.push.new.self.items c.loop.counter c.in_ok-push.ensures.items c.loop.invariant

pub returns-clause-empty : goal.returns-clause-empty
returns-clause-empty c = cells-none c.loop.bytes.items c.loop.counter c.loop.invariant

pub returns-clause-sized : goal.returns-clause-sized
returns-clause-sized c = omega (arith, none_length c.loop.bytes.items c.loop.counter c.loop.invariant, c.loop-test.false)
