use Rattle.std.proofs.Common.{◌≡◌, ◌++◌, length, drop, encode_utf8_all, string_bytes}
use Rattle.std.specs.Str.{chars}
use Rattle.c25_explain.specs.Sentence.{first_sentence, sentence_left}
use Rattle.c25_explain.proofs.sentence.first_sentence.Given as goal

abbrev pub invariant-loop-c : goal.invariant-loop-c
invariant-loop-c l = string_bytes l.sentence ++ encode_utf8_all (sentence_left l.stopped (drop (length l.yielded) (chars l.text))) ≡ first_sentence l.text
