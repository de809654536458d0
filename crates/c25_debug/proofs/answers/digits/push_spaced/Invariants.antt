-- the text has the words so far at its end
use Rattle.std.proofs.Common.{◌≡◌, ◌++◌, take, string_bytes}
use Rattle.c25_meaning_debugger.specs.Texts.{spaced}
use Rattle.c25_debug.proofs.answers.digits.push_spaced.Given as goal

abbrev pub invariant-loop-word : goal.invariant-loop-word
invariant-loop-word l = string_bytes l.text ≡ string_bytes l.fn.text ++ spaced (take l.word-index l.words)
