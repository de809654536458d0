use Rattle.std.proofs.Common.{◌++◌, codes, string_bytes, ap, ◌∙◌}
use Rattle.c25_meaning_common.specs.Digits.{four_digits}
use Rattle.c25_meaning_debugger.specs.Texts.{spaced, words_from}
use Rattle.c25_debug.proofs.Rows.{row_more}
use Rattle.c25_debug.proofs.answers.words.push_row.Goals as goal

pub loop-index-preserved : goal.loop-index-preserved
loop-index-preserved g c =
    row_more (g.M.Memory.word_at c.args.memory.now) c.args.address c.args.count c.loop-index.index (string_bytes c.loop-index.text) (string_bytes c.push_named.new.text)
    (string_bytes c.args.text.now ++ spaced (words_from (g.M.Memory.word_at c.args.memory.now) c.args.address c.args.count)) c.loop-index-test.true
    (c.in_ok-push_named.ensures ∙ ap (λ w. string_bytes c.loop-index.text ++ (codes " " ++ four_digits w)) c.word.ensures) c.loop-index.invariant
