use Rattle.std.proofs.Common.{◌∙◌, sym, length, []}
use Rattle.std.proofs.lemmas.Result.{err_from_is_err_and}
use Rattle.c25_meaning_linking.specs.declared.command_token.Want.TheVariants as want
use Rattle.c25_meaning_linking.specs.declared.command_token.Sign.TheVariants as sign
use Rattle.c25_meaning_linking.specs.CommandGrammar.{repeated}
use Rattle.c25_meaning_linking.specs.CommandMemory.{more_ranges}
use Rattle.c25_cmd.specs.View.{ranges_of, tokens_of}
use Rattle.c25_cmd.proofs.Loops.{stops, is_spent, goes_on, fails}
use Rattle.c25_cmd.proofs.memory.ranges_at.Goals as goal

pub returns-then-begins : goal.returns-then-begins
returns-then-begins c =
    stops (want.Sign sign.CloseBrace) more_ranges (length c.args.tokens.now) c.loop.counter (c.loop.page, ranges_of c.loop.ranges.list.items) (tokens_of c.loop.rest.now)
    (repeated (want.Sign sign.CloseBrace) more_ranges (length c.args.tokens.now) (0, []) (tokens_of c.args.tokens.now)) (sym c.begins.ensures ∙ c.if-begins.true) c.loop.invariant.told

pub returns-in_err-next : goal.returns-in_err-next
returns-in_err-next c =
    let p = err_from_is_err_and c.from_residual-in_err-next.result c.from_residual-in_err-next.ensures.1 in
    rw (p.1, p.2) (fails (want.Sign sign.CloseBrace) more_ranges c.in_err-next.field-0.0 (length c.args.tokens.now) c.loop.counter (c.loop.page, ranges_of c.loop.ranges.list.items) (tokens_of c.loop.rest.now)
    (repeated (want.Sign sign.CloseBrace) more_ranges (length c.args.tokens.now) (0, []) (tokens_of c.args.tokens.now)) c.loop-test.true (sym c.begins.ensures ∙ c.if-begins.false) c.in_err-next.ensures.given c.loop.invariant.told)

pub loop-preserved : goal.loop-preserved
loop-preserved c = record {
  told = goes_on (want.Sign sign.CloseBrace) more_ranges (length c.args.tokens.now) c.loop.counter (c.loop.page, ranges_of c.loop.ranges.list.items) (tokens_of c.loop.rest.now)
      (c.in_ok-next.next, ranges_of c.add_range.new.ranges.list.items) (tokens_of c.in_ok-next.after.now)
      (repeated (want.Sign sign.CloseBrace) more_ranges (length c.args.tokens.now) (0, []) (tokens_of c.args.tokens.now)) c.loop-test.true (sym c.begins.ensures ∙ c.if-begins.false) c.in_ok-next.ensures.given c.loop.invariant.told;
  page = c.in_ok-next.ensures.page;
  named = c.in_ok-next.ensures.named;
  known = c.in_ok-next.ensures.known;
}

pub returns : goal.returns
returns c =
    is_spent (want.Sign sign.CloseBrace) more_ranges (length c.args.tokens.now) c.loop.counter (c.loop.page, ranges_of c.loop.ranges.list.items) (tokens_of c.loop.rest.now)
    (repeated (want.Sign sign.CloseBrace) more_ranges (length c.args.tokens.now) (0, []) (tokens_of c.args.tokens.now)) c.loop-test.false c.loop.invariant.told
