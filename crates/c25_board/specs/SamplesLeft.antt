-- The samples of a list that are left.
use Rattle.std.specs.Prelude.{ℕ, ◌+◌, ◌<◌, List, [], ◌∷◌, slice_index, nat_le, if◌then◌else◌}
use Rattle.std.specs.List.{AllByRecursion}
use Rattle.c25_meaning_processor.specs.declared.sample.Sample.{Sample}

-- each sample's port is one of the sixteen
abbrev pub HavePorts : List Sample → Type 0
HavePorts samples = AllByRecursion (λ s. s.port < 16) samples

-- of samples from an index on, those at or after the index that their port reads next
abbrev pub left_from : List ℕ → ℕ → List Sample → List Sample
left_from next place [] = []
left_from next place (s ∷ rest) =
    if nat_le (slice_index next s.port) place then s ∷ left_from next (place + 1) rest else left_from next (place + 1) rest
