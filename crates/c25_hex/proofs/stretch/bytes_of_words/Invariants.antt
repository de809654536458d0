use Rattle.std.proofs.Common.{◌≡◌, ◌*◌, length, take}
use Rattle.std.specs.List.{flat_map}
use Rattle.c25_hex.specs.HexText.{word_bytes}
use Rattle.c25_hex.proofs.stretch.bytes_of_words.Given as goal

abbrev pub invariant-loop-word : goal.invariant-loop-word
invariant-loop-word l = record {
  written : l.bytes.items ≡ flat_map word_bytes (take l.word-index l.words);
  counted : length l.bytes.items ≡ 2 * l.word-index;
}
