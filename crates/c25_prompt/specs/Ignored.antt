-- Meetings of breakpoints that runs pass, as gdb's `ignore` has it: how many are left of each (the lines are this
-- project's own).
use Rattle.std.specs.Prelude.{ℕ, ◌-◌, ◌==◌, Bool, true, false, not, List, [], ◌∷◌, ◌++◌, codes, filter, find, Option, Some, None, if◌then◌else◌}
use Rattle.std.specs.Fmt.{decimal}
use Rattle.std.specs.List.{flat_map}
use Rattle.c25_meaning_common.specs.Digits.{four_digits}
use Rattle.c25_prompt_lines.specs.Wrong.{wrong_line}
use Rattle.c25_prompt_lines.specs.declared.command.Wrong.TheVariants as wrong
use Rattle.c25_prompt.specs.declared.ignored.Ignored.{Ignored}

-- ---- counts

-- the count that was found, or none
abbrev pub count_found : Option Ignored → ℕ
count_found None = 0
count_found (Some i) = i.left

-- how many more meetings of the breakpoint at an address are passed
abbrev pub left_at : List Ignored → (address : ℕ) → ℕ
left_at ignored address = count_found (find (λ i. i.address == address) ignored)

-- the counts without that of an address
abbrev pub without_count : List Ignored → (address : ℕ) → List Ignored
without_count ignored address = filter (λ i. not (i.address == address)) ignored

-- the counts with this one for an address; one of 0 is none
abbrev pub with_count : List Ignored → (address count : ℕ) → List Ignored
with_count ignored address count =
    if count == 0 then without_count ignored address else without_count ignored address ++ record { address = address; left = count } ∷ []

-- the counts after a meeting of the breakpoint at an address, which takes one from its count, if it has one
abbrev pub one_less : List Ignored → (address : ℕ) → List Ignored
one_less ignored address = with_count ignored address (left_at ignored address - 1)

-- the counts after one was asked for, which only a breakpoint that is set has
abbrev pub counts_asked : (is_set : Bool) → List Ignored → (address count : ℕ) → List Ignored
counts_asked is_set ignored address count = if is_set then with_count ignored address count else ignored

-- ---- lines

-- the line of a count
abbrev pub count_line : (address count : ℕ) → List ℕ
count_line address count = codes "ignore " ++ four_digits address ++ codes " " ++ decimal count ++ codes "\n"

-- the answer to `ignore` with operands: the count, or that no breakpoint is set there
abbrev pub ignore_text : (is_set : Bool) → (address count : ℕ) → List ℕ
ignore_text true address count = count_line address count
ignore_text false address count = wrong_line wrong.NoBreakpoint

-- the line of a breakpoint that has a count, none of one that has none
abbrev pub left_line : (address count : ℕ) → List ℕ
left_line address count = if count == 0 then [] else count_line address count

-- the answer to `ignore` alone: a line for each breakpoint that has a count, in the order in which they were set
abbrev pub counts_text : (breaks : List ℕ) → List Ignored → List ℕ
counts_text breaks ignored = flat_map (λ a. left_line a (left_at ignored a)) breaks
