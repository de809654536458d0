use Rattle.std.proofs.Common.{◌≡◌, ℕ, ◌<◌, vec_len, get_or}
use Rattle.c25_meaning_processor.specs.FirstState.{memory_of_map}
use Rattle.c25_board.proofs.devices.fill_words.Given as goal

abbrev pub invariant-loop-address : goal.invariant-loop-address
invariant-loop-address l = record {
  count : vec_len l.memory ≡ l.address;
  words : (k : ℕ) → k < l.address → get_or l.memory.items k 0 ≡ memory_of_map l.page k;
}
