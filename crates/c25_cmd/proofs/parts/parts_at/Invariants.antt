-- what is still read completes what was read
use Rattle.std.proofs.Common.{◌≡◌, ◌-◌, length}
use Rattle.c25_meaning_linking.specs.declared.command_token.Want.TheVariants as want
use Rattle.c25_meaning_linking.specs.CommandGrammar.{repeated}
use Rattle.c25_meaning_linking.specs.Command.{nothing}
use Rattle.c25_meaning_linking.specs.CommandText.{part_in}
use Rattle.c25_cmd.specs.View.{command_data, tokens_of}
use Rattle.c25_cmd.proofs.parts.parts_at.Given as goal

abbrev pub invariant-loop : goal.invariant-loop
invariant-loop l =
    repeated want.End part_in (length l.tokens - l.counter) (command_data l.command) (tokens_of l.rest)
    ≡ repeated want.End part_in (length l.tokens) nothing (tokens_of l.tokens)
