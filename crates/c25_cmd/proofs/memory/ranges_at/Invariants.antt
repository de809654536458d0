-- what is still read completes what was read
use Rattle.std.proofs.Common.{◌≡◌, ◌≤◌, ◌-◌, length, []}
use Rattle.c25_meaning_linking.specs.declared.command_token.Want.TheVariants as want
use Rattle.c25_meaning_linking.specs.declared.command_token.Sign.TheVariants as sign
use Rattle.c25_meaning_linking.specs.CommandGrammar.{repeated}
use Rattle.c25_meaning_linking.specs.CommandMemory.{more_ranges}
use Rattle.c25_cmd.specs.Known.{HasRangeNames, KnowsWords}
use Rattle.c25_cmd.specs.View.{ranges_of, tokens_of}
use Rattle.c25_cmd.proofs.memory.ranges_at.Given as goal

abbrev pub invariant-loop : goal.invariant-loop
invariant-loop l = record {
  told : repeated (want.Sign sign.CloseBrace) more_ranges (length l.tokens - l.counter) (l.page, ranges_of l.ranges.list.items) (tokens_of l.rest)
      ≡ repeated (want.Sign sign.CloseBrace) more_ranges (length l.tokens) (0, []) (tokens_of l.tokens);
  page : l.page ≤ 1;
  named : HasRangeNames (λ k. k.0) (λ k. k.1.now) l.ranges.names (ranges_of l.ranges.list.items);
  known : KnowsWords l.ranges.taken.items (ranges_of l.ranges.list.items);
}
