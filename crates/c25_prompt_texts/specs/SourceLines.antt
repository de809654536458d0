-- Lines of a source around one of them, as gdb's `list` shows them, with the mark that its `disassemble` puts in front
-- of the current one (this project's own).
use Rattle.std.specs.Prelude.{ℕ, ◌+◌, ◌-◌, ◌==◌, Bool, true, false, List, [], ◌∷◌, ◌++◌, codes, Option, Some, None, drop, take}
use Rattle.std.specs.Fmt.{decimal}
use Rattle.std.specs.Str.Lines.{lines}
use Rattle.c25_meaning_debugger.specs.Texts.{SourceLine}

-- the mark in front of a line, where it is the current one and where it is another
abbrev pub line_mark : Bool → List ℕ
line_mark true = codes "=> "
line_mark false = codes "   "

-- a line as it is shown: the mark, its number, a tab and its text
abbrev pub source_line : (current number : ℕ) → (text : List ℕ) → List ℕ
source_line current number text = line_mark (number == current) ++ decimal number ++ codes "\t" ++ text ++ codes "\n"

-- lines as they are shown, of which the first has this number
abbrev pub numbered : (current number : ℕ) → List (List ℕ) → List ℕ
numbered current number [] = []
numbered current number (line ∷ more) = source_line current number line ++ numbered current (number + 1) more

-- how many lines are before those that are shown with the line of this number, which is counted from 1
abbrev pub lines_before : ℕ → ℕ
lines_before number = number - 4

-- the line of this number, and the three before and the three after it, as far as there are any
abbrev pub around : {X : Type 0} → List X → (number : ℕ) → List X
around all number = take (number + 3 - lines_before number) (drop (lines_before number) all)

-- the lines of a text around the line of this number
abbrev pub lines_around : (text : List ℕ) → (number : ℕ) → List ℕ
lines_around text number = numbered number (lines_before number + 1) (around (lines text) number)

-- the same of a text that may not be known
abbrev pub text_around : Option (List ℕ) → (number : ℕ) → List ℕ
text_around None number = codes "none\n"
text_around (Some text) number = lines_around text number

-- the lines around a place in the sources, or `none` where it is not known
abbrev pub place_around : (text_of : List ℕ → Option (List ℕ)) → SourceLine → List ℕ
place_around text_of None = codes "none\n"
place_around text_of (Some place) = text_around (text_of place.0) place.1
