-- What a failure of a sink does to the count of its failures.
use Rattle.std.specs.Prelude.{◌≡◌, ◌+◌, ◌-◌, ◌^◌, ℕ, min}

-- between two counts a sink has failed once; the count stays at 2^64 - 1
abbrev pub HasFailed : ℕ → ℕ → Type 0
HasFailed before after = after ≡ min (before + 1) (2 ^ 64 - 1)
