-- The breakpoints that are set, in the order in which they were set, each once and 64 at most (this project's
-- own).
use Rattle.std.specs.Prelude.{ℕ, ◌==◌, Bool, ◌||◌, not, List, [], ◌∷◌, ◌++◌, filter, length, nat_lt, if◌then◌else◌}
use Rattle.c25_meaning_processor.specs.Goes.{is_breakpoint}

-- how many breakpoints may be set at once
abbrev pub most : ℕ
most = 64

-- whether a breakpoint that is asked for is set from then on: it was set before, or there is room for one
-- more
abbrev pub can_set : List ℕ → ℕ → Bool
can_set breaks address = is_breakpoint breaks address || nat_lt (length breaks) most

-- the breakpoints after one was asked for: one that is set keeps its place, a new one comes last, and where
-- 64 are set it is not set
abbrev pub with_breakpoint : List ℕ → ℕ → List ℕ
with_breakpoint breaks address =
    if is_breakpoint breaks address then breaks
    else (if nat_lt (length breaks) most then breaks ++ address ∷ [] else breaks)

-- the breakpoints after one was cleared, whether it was set or not: the others keep their order
abbrev pub without_breakpoint : List ℕ → ℕ → List ℕ
without_breakpoint breaks address = filter (λ b. not (b == address)) breaks
