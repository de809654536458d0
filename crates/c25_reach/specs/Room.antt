-- Room in the memory for further words.
use Rattle.std.specs.Prelude.{ℕ, ◌+◌, ◌≤◌}
use Rattle.c25_reach.specs.declared.reach.Reach.{Reach}

-- the words so far and so many more are no more than there are addresses; each instruction has a word at least
pub record HasRoom (reach : Reach) (further : ℕ) : Type 0 where
  pub words : reach.instruction_words + reach.data_words + further ≤ 65536
  pub each : reach.instructions ≤ reach.instruction_words
