use Rattle.std.proofs.Common.{◌++◌, List, ap, ◌∙◌, string_bytes}
use Rattle.std.specs.List.{flat_map}
use Rattle.std.proofs.lemmas.List.{take_all}
use Rattle.c25_cmd.specs.View.{ranges_of}
use Rattle.c25_cmd.specs.declared.command.MemoryRange.{MemoryRange}
use Rattle.c25_symbols.specs.Text.{range_line}
use Rattle.c25_symbols.proofs.Ranged.{range_at}
use Rattle.c25_symbols.proofs.ranges.push_named.Goals as goal

pub push_range-requires-clause-range : goal.push_range-requires-clause-range
push_range-requires-clause-range c =
    let is = range_at c.args.memory.now c.loop-range.range-index c.range-item.result c.requires.ranges c.loop-range-test.true c.range-item.is in
    record { page = is.page; words = is.words; within = is.within }

pub returns : goal.returns
returns c = λ places knows.
    c.loop-range.invariant places knows
    ∙ ap (λ (rs : List MemoryRange). string_bytes c.args.out.now ++ flat_map (range_line places) (ranges_of rs)) (take_all c.loop-range.range-index c.args.memory.now c.loop-range-test.false)
