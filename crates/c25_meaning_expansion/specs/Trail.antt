-- The trail of expansion: for each file, expansion and turn that is open, the line that opened it: a call of
-- a macro, `.copy`, or the end of a loop, which opens the turns.
use Rattle.std.specs.Prelude.{ℕ, ◌-◌, List, ◌∷◌, length, drop, nat_lt, if◌then◌else◌}
use Rattle.c25_meaning_expansion.specs.Expansion.{LineOrEnd, Read, Mode, Acting, Config}
use Rattle.c25_meaning_common.specs.declared.placed.FileLine.{FileLine}

-- the place of the next line in the list, or else this place
abbrev pub next_place : List LineOrEnd → FileLine ℕ → FileLine ℕ
next_place (Read row ∷ items) place = row.place
next_place _ place = place

-- the place of the line that a rewriting works on: the line that is acted on after its label was given, or
-- else the next line; at an end, the last line before it
abbrev pub line_by : Mode → Config → FileLine ℕ
line_by (Acting place act) c = place
line_by _ c = next_place c.lines c.frame.last

-- `line_by` on the parts of a configuration
abbrev pub line_of : Config → FileLine ℕ
line_of c = line_by c.mode c

-- the trail after a rewriting from `c` to `d`, the innermost first: the line of a rewriting that opens a
-- file, expansion or turn comes before the others; the lines of those that it ends are dropped
abbrev pub trail_after : Config → Config → List (FileLine ℕ) → List (FileLine ℕ)
trail_after c d trail = if nat_lt (length c.outer) (length d.outer) then line_of c ∷ trail else drop (length c.outer - length d.outer) trail
