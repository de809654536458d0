-- The line that copies a file (8).
use Rattle.std.specs.Prelude.{◌≡◌, ◌⊎◌, ℕ, ◌==◌, List, [], ◌∷◌, ◌++◌, codes, option_and_then, option_map, unwrap_or, Option, Some, None, Ok}
use Rattle.std.specs.List.{find}
use Rattle.std.specs.String.{string_bytes}
use Rattle.c25_asm.specs.Seen.{Seen}
use Rattle.c25_asm.specs.Trails.{IsTrail, IsWhole}
use Rattle.c25_disk.specs.Copies.{HasCopied}
use Rattle.c25_disk.specs.Held.{Held, ReadsSources}
use Rattle.c25_meaning_common.specs.Faults.{placed_text}
use Rattle.c25_meaning_common.specs.declared.placed.FileLine.{FileLine}
use Rattle.c25_meaning_expansion.specs.Files.{Files, text_named}
use Rattle.c25_meaning_expansion.specs.Rows.{rows_of}
use Rattle.c25_meaning_language.specs.ExpansionFault.{Missing}
use Rattle.c25_earlier.specs.declared.copying.NoLine.{NoLine}
use Rattle.c25_earlier.specs.declared.copying.NoLine.TheVariants as none

-- a source is refused, since this line of a file copies the file of this name, which is not there
abbrev pub CopiesIn : Files → (source name file : List ℕ) → (line : ℕ) → Type 0
CopiesIn files source name file line = (trail : List (FileLine ℕ)) × (seen : Option Seen) × IsTrail files source (Missing file line name) trail seen

-- the same of the first of these sources that is refused
abbrev pub Copies : Files → (sources : List (List ℕ)) → (name file : List ℕ) → (line : ℕ) → Type 0
Copies files [] name file line = ⊥
Copies files (source ∷ sources) name file line = CopiesIn files source name file line ⊎ IsWhole files source × Copies files sources name file line

-- the line of this number of a text, if there is one
abbrev pub line_of : List ℕ → ℕ → Option (List ℕ)
line_of text number = option_map (λ row. row.text) (find (λ row. row.place.line == number) (rows_of 0 text))

-- the line of this number of a file
abbrev pub text_at : Files → (file : List ℕ) → ℕ → List ℕ
text_at files file number = unwrap_or (option_and_then (λ text. line_of text number) (text_named files file)) []

-- a line as it is shown: its file, its number and its text
abbrev pub from_text : Files → (file : List ℕ) → ℕ → List ℕ
from_text files file line = codes "  from " ++ placed_text file line (text_at files file line) ++ codes "\n"

-- a text shows the line that copies a file
abbrev pub ShowsCopying : Files → (sources : List (List ℕ)) → (name : List ℕ) → List ℕ → Type 0
ShowsCopying files sources name text = (file : List ℕ) × (line : ℕ) × Copies files sources name file line × (text ≡ from_text files file line)

-- a text shows that line in sources on a disk, over their files and at most 256 others that they copy, or is empty
abbrev pub ShowsCopyingOver : Held → (sources : List (List ℕ)) → (name : List ℕ) → List ℕ → Type 0
ShowsCopyingOver held sources name text =
    ((given : Files) × ReadsSources held [] sources (Ok given) × (files : Files) × HasCopied held given 256 files × ShowsCopying files sources name text) ⊎ (text ≡ [])

-- the name of the file that is asked for
abbrev pub wanted_by : NoLine → Option (List ℕ)
wanted_by (none.Missing name) = Some (string_bytes name)
wanted_by none.Other = None
