use Rattle.std.proofs.Common.{◌≡◌, ◌+◌, ◌-◌, ◌++◌, string_bytes}
use Rattle.c25_meaning_debugger.specs.Texts.{spaced, words_from}
use Rattle.c25_debug.proofs.answers.words.push_row.Given as goal

abbrev pub invariant-loop-index : goal.invariant-loop-index
invariant-loop-index g l =
    string_bytes l.text ++ spaced (words_from (g.M.Memory.word_at l.memory) (l.address + l.index) (l.count - l.index))
    ≡ string_bytes l.fn.text ++ spaced (words_from (g.M.Memory.word_at l.memory) l.address l.count)
