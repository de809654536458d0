-- Runs of lines, each of one file.
use Rattle.std.specs.Prelude.{ℕ, ◌+◌, List, [], ◌∷◌, ◌++◌, drop, map, take}
use Rattle.c25_phases.specs.declared.source_lines.FileRun.{FileRun}
use Rattle.c25_meaning_common.specs.declared.placed.FileLine.{FileLine}

-- lines of a file by their numbers
abbrev pub lines_of : (file : List ℕ) → List ℕ → List (FileLine (List ℕ))
lines_of file numbers = map (λ n. record { file = file; line = n }) numbers

-- how many lines runs have
abbrev pub total : List FileRun → ℕ
total [] = 0
total (r ∷ runs) = r.count + total runs

-- the lines of runs, and after them those of one file, by the numbers of all lines
abbrev pub origins_in : List FileRun → (file : List ℕ) → List ℕ → List (FileLine (List ℕ))
origins_in [] file numbers = lines_of file numbers
origins_in (r ∷ runs) file numbers = lines_of r.file.now (take r.count numbers) ++ origins_in runs file (drop r.count numbers)
