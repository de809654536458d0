-- Samples of ports, counted, and the lines of those that were not read.
use Rattle.std.specs.Prelude.{ℕ, zero, suc, ◌-◌, ◌^◌, ◌==◌, List, [], ◌∷◌, ◌++◌, length, min, slice_get, unwrap_or, if◌then◌else◌}
use Rattle.c25_unused_inputs.specs.Texts.{elsewhere_text, had_text, unread_text}

-- how many samples there are, 2^64 - 1 where there are more
abbrev pub count_of : List ℕ → ℕ
count_of samples = min (length samples) (2 ^ 64 - 1)

-- how many samples each port has, of the ports below a number
abbrev pub counts_below : (ℕ → List ℕ) → ℕ → List ℕ
counts_below samples zero = []
counts_below samples (suc port) = counts_below samples port ++ count_of (samples port) ∷ []

-- how many samples each of the ports 0 to 15 has
abbrev pub counts_of : (ℕ → List ℕ) → List ℕ
counts_of samples = counts_below samples 16

-- the count of a port
abbrev pub count_at : List ℕ → ℕ → ℕ
count_at counts port = unwrap_or (slice_get counts port) 0

-- ---- samples that were not read

-- the line of a port of whose samples so many are left; nothing where none is
abbrev pub unread_line : (port had left : ℕ) → List ℕ
unread_line port had left = if left == 0 then [] else unread_text port had left

-- the lines of the ports below a number, by how many samples each had and has left
abbrev pub unread_below : (had left : List ℕ) → ℕ → List ℕ
unread_below had left zero = []
unread_below had left (suc port) = unread_below had left port ++ unread_line port (count_at had port) (count_at left port)

-- the lines of the ports 0 to 15
abbrev pub unread_lines : (had left : List ℕ) → List ℕ
unread_lines had left = unread_below had left 16

-- ---- samples of other ports

-- the line of a port that has so many samples; nothing where it has none
abbrev pub had_line : (port had : ℕ) → List ℕ
had_line port had = if had == 0 then [] else had_text port had

-- the lines of the ports below a number
abbrev pub had_below : List ℕ → ℕ → List ℕ
had_below had zero = []
had_below had (suc port) = had_below had port ++ had_line port (count_at had port)

-- what is said of a port without samples, with the lines of those that have some; nothing where none has any
abbrev pub elsewhere_by : (port : ℕ) → (lines : List ℕ) → List ℕ
elsewhere_by port lines = if length lines == 0 then [] else elsewhere_text port lines

-- what is said of a port without samples: which ports have some; nothing where none has any
abbrev pub elsewhere : List ℕ → (port : ℕ) → List ℕ
elsewhere had port = elsewhere_by port (had_below had 16)
