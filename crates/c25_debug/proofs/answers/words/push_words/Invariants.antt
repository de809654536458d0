use Rattle.std.proofs.Common.{◌≡◌, ◌+◌, ◌-◌, ◌*◌, ◌/◌, ◌++◌, string_bytes}
use Rattle.c25_meaning_debugger.specs.Texts.{words_lines}
use Rattle.c25_debug.proofs.answers.words.push_words.Given as goal

abbrev pub invariant-loop-line : goal.invariant-loop-line
invariant-loop-line g l =
    string_bytes l.text ++ words_lines (g.M.Memory.word_at l.memory) ((l.count + 7) / 8 - l.line) (l.address + 8 * l.line) (l.count - 8 * l.line)
    ≡ string_bytes l.fn.text ++ words_lines (g.M.Memory.word_at l.memory) ((l.count + 7) / 8) l.address l.count
