-- The source that the text of a disassembly is, once its columns are cut off.
use Rattle.std.specs.Prelude.{ℕ, List, [], ◌∷◌, ◌++◌, drop, map, codes}
use Rattle.std.specs.Str.Lines.{lines}

-- texts as lines of a source, each after a blank
abbrev pub lines_with : List (List ℕ) → List ℕ
lines_with [] = []
lines_with (t ∷ ts) = codes " " ++ t ++ (codes "\n" ++ lines_with ts)

-- the source in the lines of a disassembly: each line without its columns, which are an address, a blank,
-- nine bytes for one or two words, and a blank
abbrev pub source_of_text : List ℕ → List ℕ
source_of_text text = lines_with (map (drop 15) (lines text))
