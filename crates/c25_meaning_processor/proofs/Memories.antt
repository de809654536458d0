-- A write to a list of words, seen as a memory.
use Rattle.std.proofs.Common.{◌≡◌, ℕ, ◌<◌, List, length, arith, get_or-set_same, get_or-set_other}
use Rattle.std.specs.Prelude.{slice_set, slice_index}
use Rattle.std.proofs.lemmas.Bool.Decides.{nat_tests}
use mathlib.Core.Path.{fun_ext}
use Rattle.c25_meaning_processor.specs.Memory.{memory_of, put}

word_after_set : (words : List ℕ) (address word k : ℕ) → address < length words → slice_index (slice_set words address word) k ≡ put (memory_of words) address word k
unfolding put
word_after_set words address word k h = grind (arith, nat_tests, get_or-set_same, get_or-set_other)

pub memory_of_set : (words : List ℕ) (address word : ℕ) → address < length words → memory_of (slice_set words address word) ≡ put (memory_of words) address word
memory_of_set words address word h = fun_ext (λ k. word_after_set words address word k h)
