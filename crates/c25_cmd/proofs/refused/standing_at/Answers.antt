use Rattle.std.proofs.Common.{◌∙◌, sym, subst}
use Rattle.std.specs.Str.{IsUtf8}
use Rattle.c25_cmd.proofs.Texts.{word_text}
use Rattle.c25_cmd.proofs.refused.standing_at.Goals as goal

pub text_of-requires : goal.text_of-requires
text_of-requires c =
    subst IsUtf8 (sym c.front.ensures) (word_text c.behind-rest.result.now c.in-Word.length (sym c.in-Word.is ∙ c.lexeme.ensures.value))
