use Rattle.std.proofs.Common.{◌∙◌, sym, subst}
use Rattle.std.specs.Str.{IsUtf8}
use Rattle.c25_cmd.proofs.Texts.{word_text}
use Rattle.c25_cmd.proofs.lexer.token_at.Goals as goal

pub word_token-requires : goal.word_token-requires
word_token-requires c =
    subst IsUtf8 (sym c.front.ensures) (word_text c.args.text.now c.in-Word.length (sym c.in-Word.is ∙ c.requires.piece))
