use Rattle.std.proofs.Common.{◌<◌, ◌≤◌, ◌∙◌, ap, sym, subst, ℕ, List, Option, slice_index}
use Rattle.std.specs.Option.{option_map_or}
use Rattle.c25_meaning_linking.specs.declared.command_token.Keyword.{Keyword}
use Rattle.c25_meaning_linking.specs.declared.command_token.Kind.TheVariants as kind
use Rattle.c25_meaning_linking.specs.CommandTokens.{number_kind, keyword_of, word_numeral}
use Rattle.c25_meaning_common.specs.Digits.{digit}
use Rattle.c25_cmd.proofs.WordKinds.{number_word, other_word}
use Rattle.c25_cmd.proofs.words.word_kind.Goals as goal

pub returns-then-digit-lt10 : goal.returns-then-digit-lt10
returns-then-digit-lt10 c =
    let same = c.as_bytes-bytes.ensures.value in
    let first = c.digit.ensures ∙ ap digit (c.byte_at.ensures.value ∙ ap (λ (t : List ℕ). slice_index t 0) same) in
    c.number_kind.ensures ∙ ap number_kind (c.word_numeral.ensures ∙ ap word_numeral same) ∙ sym (number_word c.args.text.now (subst (λ (n : ℕ). n < 10) first c.if-digit-lt10.true))

pub returns : goal.returns
returns c =
    let first = c.digit.ensures ∙ ap digit (c.byte_at.ensures.value ∙ ap (λ (t : List ℕ). slice_index t 0) c.as_bytes-bytes.ensures.value) in
    c.name_kind.ensures ∙ ap (λ (k : Option Keyword). option_map_or kind.Keyword k kind.Name) (c.keyword_of.ensures ∙ ap keyword_of (c.as_str.ensures.value ∙ c.in_ok-lower.ensures.ok))
    ∙ sym (other_word c.args.text.now (subst (λ (n : ℕ). 10 ≤ n) first c.if-digit-lt10.false))
