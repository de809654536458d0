use Rattle.std.proofs.Common.{◌∙◌, sym, length, []}
use Rattle.std.proofs.lemmas.Result.{err_from_is_err_and}
use Rattle.c25_meaning_linking.specs.declared.command_token.Want.TheVariants as want
use Rattle.c25_meaning_linking.specs.declared.command_token.Sign.TheVariants as sign
use Rattle.c25_meaning_linking.specs.CommandGrammar.{repeated}
use Rattle.c25_meaning_linking.specs.CommandSections.{more_placings}
use Rattle.c25_cmd.specs.View.{placings_of, tokens_of}
use Rattle.c25_cmd.proofs.Loops.{stops, is_spent, goes_on, fails}
use Rattle.c25_cmd.proofs.sections.placings_at.Goals as goal

pub returns-then-begins : goal.returns-then-begins
returns-then-begins c =
    stops (want.Sign sign.CloseBrace) more_placings (length c.args.tokens.now) c.loop.counter (placings_of c.loop.sections.list.items) (tokens_of c.loop.rest.now)
    (repeated (want.Sign sign.CloseBrace) more_placings (length c.args.tokens.now) [] (tokens_of c.args.tokens.now)) (sym c.begins.ensures ∙ c.if-begins.true) c.loop.invariant.told

pub returns-in_err-after : goal.returns-in_err-after
returns-in_err-after c =
    let p = err_from_is_err_and c.from_residual.result c.from_residual.ensures.1 in
    rw (p.1, p.2) (fails (want.Sign sign.CloseBrace) more_placings c.in_err-after.field-0.0 (length c.args.tokens.now) c.loop.counter (placings_of c.loop.sections.list.items) (tokens_of c.loop.rest.now)
    (repeated (want.Sign sign.CloseBrace) more_placings (length c.args.tokens.now) [] (tokens_of c.args.tokens.now)) c.loop-test.true (sym c.begins.ensures ∙ c.if-begins.false) c.in_err-after.ensures.given c.loop.invariant.told)

pub loop-preserved : goal.loop-preserved
loop-preserved c = record {
  told = goes_on (want.Sign sign.CloseBrace) more_placings (length c.args.tokens.now) c.loop.counter (placings_of c.loop.sections.list.items) (tokens_of c.loop.rest.now)
      (placings_of c.add_placing.new.sections.list.items) (tokens_of c.in_ok-after.after.now)
      (repeated (want.Sign sign.CloseBrace) more_placings (length c.args.tokens.now) [] (tokens_of c.args.tokens.now)) c.loop-test.true (sym c.begins.ensures ∙ c.if-begins.false) c.in_ok-after.ensures.given c.loop.invariant.told;
  named = c.in_ok-after.ensures.named;
}

pub returns : goal.returns
returns c =
    is_spent (want.Sign sign.CloseBrace) more_placings (length c.args.tokens.now) c.loop.counter (placings_of c.loop.sections.list.items) (tokens_of c.loop.rest.now)
    (repeated (want.Sign sign.CloseBrace) more_placings (length c.args.tokens.now) [] (tokens_of c.args.tokens.now)) c.loop-test.false c.loop.invariant.told
