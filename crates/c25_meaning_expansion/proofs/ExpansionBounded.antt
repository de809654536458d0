-- Expansion stays in bounds from the first line of a file on, whatever the symbols are.
use Rattle.std.proofs.Common.{◌≡◌, ℕ, ◌+◌, ◌≤◌, List, [], ◌∷◌, length, ap, arith, length-append}
use Rattle.c25_meaning_language.specs.Value.{Table}
use Rattle.c25_meaning_expansion.specs.Files.{Files}
use Rattle.c25_meaning_expansion.specs.Rows.{Row}
use Rattle.c25_meaning_expansion.specs.Expansion.{Config, Gives, Goes, depth}
use Rattle.c25_meaning_expansion.specs.ExpansionRuns.{rewrite, start}
use Rattle.c25_meaning_expansion.specs.ExpansionBounds.{nesting, IsBounded, Gave, nothing, more, line}
use Rattle.c25_meaning_expansion.proofs.ExpansionFalls.{falls_going, falls_giving, given_was_read}
use Rattle.c25_meaning_expansion.specs.declared.expansion.Branch.{Branch}

-- ---- one rewriting

pub starts_bounded : (file : ℕ) (text : List ℕ) → IsBounded (start file text)
starts_bounded file text = omega arith

pub bounded_going : (files : Files) (s : Table) (c d : Config) → IsBounded c → rewrite files s c ≡ Goes d → IsBounded d
bounded_going files s c d bounds e = (falls_going files s c d e).bounded bounds

pub bounded_giving : (files : Files) (s : Table) (c d : Config) (row : Row) → IsBounded c → rewrite files s c ≡ Gives row d → IsBounded d
bounded_giving files s c d row bounds e = (falls_giving files s c d row e).bounded bounds

-- one more may be nested in the innermost `.if` while lines may be read
pub innermost_bounded : (c : Config) (b : Branch) (bs : List Branch) → IsBounded c → c.frame.branches ≡ b ∷ bs → b.nested + c.left ≤ 200000
innermost_bounded c b bs bounds e = omega (arith, bounds, ap nesting e)

-- ---- many

-- each line that was given is one of those that might be read
pub given_were_read : (files : Files) (old new : Config) (rows : List Row) → Gave files old rows new → length rows + new.left ≤ old.left
given_were_read files old _ _ nothing = omega arith
given_were_read files old new rows (more {mid = mid} s gave e) = omega (arith, (falls_going files s mid new e).left, given_were_read files old mid rows gave)
given_were_read files old new _ (line {mid = mid} {rows = rows} {row = row} s gave e) =
    omega (arith, given_was_read files s mid new row e, given_were_read files old mid rows gave, length-append rows (row ∷ []))

pub gave_bounded : (files : Files) (old new : Config) (rows : List Row) → IsBounded old → Gave files old rows new → IsBounded new
gave_bounded files old _ _ bounds nothing = bounds
gave_bounded files old new rows bounds (more {mid = mid} s gave e) = bounded_going files s mid new (gave_bounded files old mid rows bounds gave) e
gave_bounded files old new _ bounds (line {mid = mid} {rows = rows} {row = row} s gave e) = bounded_giving files s mid new row (gave_bounded files old mid rows bounds gave) e

-- ---- from the first line of a file on

pub at_most_200_000_lines : (files : Files) (file : ℕ) (text : List ℕ) (rows : List Row) (c : Config) → Gave files (start file text) rows c → length rows ≤ 200000
at_most_200_000_lines files file text rows c gave = omega (arith, given_were_read files (start file text) c rows gave)

pub at_most_32_blocks : (files : Files) (file : ℕ) (text : List ℕ) (rows : List Row) (c : Config) → Gave files (start file text) rows c → depth c ≤ 32
at_most_32_blocks files file text rows c gave = omega (arith, (gave_bounded files (start file text) c rows (starts_bounded file text) gave).blocks)
