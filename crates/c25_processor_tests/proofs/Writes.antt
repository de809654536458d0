-- The sample of a port taken, seen as samples.
use Rattle.std.proofs.Common.{◌≡◌, ℕ, ◌<◌, length, arith, get_or-set_same, get_or-set_other, Option, None, Some, List, [], drop, refl}
use Rattle.std.specs.Prelude.{slice_set, option_to_list}
use Rattle.std.proofs.lemmas.Bool.Decides.{nat_tests}
use mathlib.Core.Path.{fun_ext}
use Rattle.c25_meaning_processor.specs.State.{taken}
use Rattle.c25_processor_tests.specs.Worlds.{samples_of}

none_left : (sample : Option ℕ) → drop 1 (option_to_list sample) ≡ []
none_left None = refl
none_left (Some word) = refl

sample_after_set : (ports : List (Option ℕ)) (port k : ℕ) → port < length ports → samples_of (slice_set ports port None) k ≡ taken (samples_of ports) port k
unfolding taken
sample_after_set ports port k h = grind (arith, nat_tests, get_or-set_same, get_or-set_other, none_left)

pub samples_of_set : (ports : List (Option ℕ)) (port : ℕ) → port < length ports → samples_of (slice_set ports port None) ≡ taken (samples_of ports) port
samples_of_set ports port h = fun_ext (λ k. sample_after_set ports port k h)
