use Rattle.std.proofs.Common.{◌++◌, ◌∷◌, [], ◌∙◌, ap, sym, arith, drop, List}
use Rattle.std.proofs.lemmas.List.{map_push, length-drop}
use Rattle.c25_meaning_linking.specs.CommandTokens as lexed
use Rattle.c25_cmd.specs.View.{token_of, tokens_of, option_tokens}
use Rattle.c25_cmd.proofs.Scans.{more, scan_done}
use Rattle.c25_cmd.proofs.lexer.tokens.Goals as goal

pub loop-at-preserved : goal.loop-at-preserved
loop-at-preserved c =
    let at = c.loop-at.at in
    let text = c.args.text.now in
    let piece_is = c.lexeme-piece.ensures.value ∙ ap lexed.lexeme c.behind-rest.ensures in
    let covered_is = c.covered.ensures ∙ ap (lexed.covered c.lexeme-piece.result) (c.behind.ensures ∙ ap (drop 1) c.behind-rest.ensures) in
    let fits = rw c.behind-rest.ensures at c.lexeme-piece.ensures.bound in
    record {
      told = more (tokens_of c.loop-at.tokens.items) (tokens_of c.push_found.new.tokens.items) (option_tokens c.in_ok-found.found) at c.covered.result c.lexeme-piece.result text (lexed.tokens text)
          c.loop-at-test.true c.in_ok-push_found.ensures piece_is covered_is fits (rw c.behind-rest.ensures at c.in_ok-found.ensures) c.loop-at.invariant.told;
      within = omega (arith, covered_is, fits, length-drop at text, c.loop-at-test.true);
    }

pub returns : goal.returns
returns c =
    let items = c.loop-at.tokens.items in
    ap tokens_of c.in_ok-push.ensures.items ∙ map_push token_of items c.bare_token.result
    ∙ ap (λ (t : lexed.Token). tokens_of items ++ t ∷ []) c.bare_token.ensures
    ∙ ap (λ (ts : List lexed.Token). tokens_of items ++ ts) (sym (scan_done c.loop-at.at c.args.text.now c.loop-at-test.false))
    ∙ c.loop-at.invariant.told
