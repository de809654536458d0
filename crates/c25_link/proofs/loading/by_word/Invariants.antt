-- each word finds the first relocation of it so far
use Rattle.std.proofs.Common.{◌≡◌, ℕ, find, take}
use Rattle.c25_meaning_linking.specs.Words.{is_relocation_at}
use Rattle.c25_link.specs.Loading.{found_at}
use Rattle.c25_link.proofs.loading.by_word.Given as goal

abbrev pub invariant-loop-relocation : goal.invariant-loop-relocation
invariant-loop-relocation l = (section offset : ℕ) → found_at l.found section offset ≡ find (is_relocation_at section offset) (take l.relocation-index l.owner.relocations.items)
