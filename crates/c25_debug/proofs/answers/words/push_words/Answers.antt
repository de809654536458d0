use Rattle.std.proofs.Common.{◌+◌, ◌/◌, ◌++◌, string_bytes, arith}
use Rattle.c25_meaning_debugger.specs.Texts.{words_lines}
use Rattle.c25_debug.proofs.Rows.{lines_more}
use Rattle.c25_debug.proofs.answers.words.push_words.Goals as goal

pub loop-line-preserved : goal.loop-line-preserved
loop-line-preserved g c =
    let f = g.M.Memory.word_at c.args.memory.now in
    lines_more f c.args.address c.args.count ((c.args.count + 7) / 8) c.loop-line.line c.from.result c.min-left.result (string_bytes c.loop-line.text) (string_bytes c.push_line.new.text)
    (string_bytes c.args.text.now ++ words_lines f ((c.args.count + 7) / 8) c.args.address c.args.count) (omega (arith, c.loop-line-test.true))
    c.from.ensures c.min-left.ensures c.in_ok-push_line.ensures c.loop-line.invariant
