-- The words of the old program, compared with those of the program of the new sources.
use Rattle.std.specs.Prelude.{◌≡◌, ℕ, suc, ◌^◌, Bool, true, false, List, ◌∷◌, ◌++◌, codes, length, Result, Ok, Err, string_bytes}
use Rattle.std.specs.Fmt.{decimal}
use Rattle.c25_chain.specs.Built.{Builds}
use Rattle.c25_chain.specs.FaultText.{fault_text}
use Rattle.c25_chain.specs.Refusal.{Fault}
use Rattle.c25_chain.specs.declared.built.Built.{Built}
use Rattle.c25_meaning_expansion.specs.Files.{Files}
use Rattle.c25_meaning_linking.specs.Linking.{ImageData}
use Rattle.c25_move_files.specs.Task.{Words}
use Rattle.c25_moving.specs.DifferenceText.{IsDifferenceText}
use Rattle.c25_moving.specs.Differing.{AreDifferences, IsSame, count_of}
use Rattle.c25_moving.specs.declared.compared.Comparison.{Comparison}

-- the line that says that all words are the same, so many
abbrev pub all_same : (name : List ℕ) → (words : ℕ) → List ℕ
all_same name words = name ++ codes ": all " ++ decimal words ++ codes " words are the same\n"

-- two programs differ, at this address first, and a line says so
pub record IsDifference (name : List ℕ) (old : Words) (image : ImageData) (text : List ℕ) : Type 0 where
  pub first : ℕ
  pub further : List ℕ
  pub addresses : AreDifferences old image.program (2 ^ 16) (first ∷ further)
  pub reported : IsDifferenceText name old image (length (first ∷ further)) first text

-- what is said of the old program and the new one, where all words are the same and where they are not
abbrev pub IsSaid : (is_same : Bool) → (name : List ℕ) → (old : Words) → ImageData → (text : List ℕ) → Type 0
IsSaid true name old image text = IsSame old image.program × (text ≡ all_same name (count_of old))
IsSaid false name old image text = IsDifference name old image text

-- what is reported of the words of the old program and of those of the new one
abbrev pub IsComparison : (name : List ℕ) → (old : Words) → ImageData → Comparison → Type 0
IsComparison name old image c = IsSaid c.is_same name old image (string_bytes c.text)

-- what is reported where the new sources have a program, and where they have none
abbrev pub ComparesBuilt : (name : List ℕ) → (old : Words) → Result Built Fault → Comparison → Type 0
ComparesBuilt name old (Ok built) c = IsComparison name old built.linked.image c
ComparesBuilt name old (Err fault) c = (c.is_same ≡ false) × (string_bytes c.text ≡ fault_text fault ++ codes "\n" ++ name ++ codes ": not compared\n")

-- the program of these sources among files under this command, compared
abbrev pub Compares : (name : List ℕ) → (old : Words) → Files → (sources : List (List ℕ)) → (command : List ℕ) → Comparison → Type 0
Compares name old files sources command c = (built : Result Built Fault) × Builds files sources command built × ComparesBuilt name old built c
