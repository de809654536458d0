use Rattle.std.proofs.Common.{◌∙◌, sym, length}
use Rattle.std.proofs.lemmas.Result.{err_from_is_err_and}
use Rattle.c25_meaning_linking.specs.declared.command_token.Want.TheVariants as want
use Rattle.c25_meaning_linking.specs.CommandGrammar.{repeated}
use Rattle.c25_meaning_linking.specs.Command.{nothing}
use Rattle.c25_meaning_linking.specs.CommandText.{part_in}
use Rattle.c25_cmd.specs.View.{command_data, tokens_of}
use Rattle.c25_cmd.proofs.Loops.{stops, is_spent, goes_on, fails}
use Rattle.c25_cmd.proofs.parts.parts_at.Goals as goal

pub returns-then-begins : goal.returns-then-begins
returns-then-begins c =
    stops want.End part_in (length c.args.tokens.now) c.loop.counter (command_data c.loop.command) (tokens_of c.loop.rest.now)
    (repeated want.End part_in (length c.args.tokens.now) nothing (tokens_of c.args.tokens.now)) (sym c.begins.ensures ∙ c.if-begins.true) c.loop.invariant

pub returns-in_err-after : goal.returns-in_err-after
returns-in_err-after c =
    let p = err_from_is_err_and c.from_residual.result c.from_residual.ensures.1 in
    rw (p.1, p.2) (fails want.End part_in c.in_err-after.field-0.0 (length c.args.tokens.now) c.loop.counter (command_data c.loop.command) (tokens_of c.loop.rest.now)
    (repeated want.End part_in (length c.args.tokens.now) nothing (tokens_of c.args.tokens.now)) c.loop-test.true (sym c.begins.ensures ∙ c.if-begins.false) c.in_err-after.ensures c.loop.invariant)

pub loop-preserved : goal.loop-preserved
loop-preserved c =
    goes_on want.End part_in (length c.args.tokens.now) c.loop.counter (command_data c.loop.command) (tokens_of c.loop.rest.now)
    (command_data c.part_in.new.command) (tokens_of c.in_ok-after.after.now)
    (repeated want.End part_in (length c.args.tokens.now) nothing (tokens_of c.args.tokens.now)) c.loop-test.true (sym c.begins.ensures ∙ c.if-begins.false) c.in_ok-after.ensures c.loop.invariant

pub returns : goal.returns
returns c =
    is_spent want.End part_in (length c.args.tokens.now) c.loop.counter (command_data c.loop.command) (tokens_of c.loop.rest.now)
    (repeated want.End part_in (length c.args.tokens.now) nothing (tokens_of c.args.tokens.now)) c.loop-test.false c.loop.invariant
