use Rattle.std.proofs.Common.{◌≡◌, take}
use Rattle.c25_meaning_processor.specs.Memory.{memory_of}
use Rattle.c25_prompt.specs.Seen.{seen}
use Rattle.c25_prompt.proofs.watched.seen.Given as goal

abbrev pub invariant-loop-address : goal.invariant-loop-address
invariant-loop-address l = l.watched.items ≡ seen (take l.address-index l.watches) (memory_of l.memory)
