-- what is still read completes what was read
use Rattle.std.proofs.Common.{◌≡◌, ◌-◌, length, []}
use Rattle.c25_meaning_linking.specs.declared.command_token.Want.TheVariants as want
use Rattle.c25_meaning_linking.specs.declared.command_token.Sign.TheVariants as sign
use Rattle.c25_meaning_linking.specs.CommandGrammar.{repeated}
use Rattle.c25_meaning_linking.specs.CommandSections.{more_placings}
use Rattle.c25_cmd.specs.Known.{HasNames}
use Rattle.c25_cmd.specs.View.{placings_of, tokens_of}
use Rattle.c25_cmd.proofs.sections.placings_at.Given as goal

abbrev pub invariant-loop : goal.invariant-loop
invariant-loop l = record {
  told : repeated (want.Sign sign.CloseBrace) more_placings (length l.tokens - l.counter) (placings_of l.sections.list.items) (tokens_of l.rest)
      ≡ repeated (want.Sign sign.CloseBrace) more_placings (length l.tokens) [] (tokens_of l.tokens);
  named : HasNames (λ k. k.now) l.sections.names (placings_of l.sections.list.items);
}
