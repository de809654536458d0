-- The earlier line that a fault is about, as it is shown.
use Rattle.std.specs.Prelude.{◌≡◌, ℕ, List, [], ◌++◌, codes, Option, Some, None}
use Rattle.c25_meaning_common.specs.Faults.{placed_text}
use Rattle.c25_meaning_expansion.specs.ExpansionAnswers.{ExpandedLine}
use Rattle.c25_meaning_expansion.specs.Files.{Files}
use Rattle.c25_meaning_language.specs.ExpansionFault.{ExpansionFault, Faulty, Missing}
use Rattle.c25_meaning_language.specs.declared.statement.FaultKind.{FaultKind}
use Rattle.c25_meaning_language.specs.declared.statement.FaultKind.TheVariants as fault
use Rattle.c25_earlier.specs.Defined.{IsEarlier}

-- a line with its file and number, as it was read
abbrev pub first_text : ExpandedLine → List ℕ
first_text line = codes "  first: " ++ placed_text line.file line.line line.text ++ codes "\n"

-- the same of a line, if there is one
abbrev pub first_texts : Option ExpandedLine → List ℕ
first_texts None = []
first_texts (Some line) = first_text line

-- a text shows where the name was defined first that the first line that is refused in these sources defines again
abbrev pub ShowsDefinition : Files → (sources : List (List ℕ)) → List ℕ → Type 0
ShowsDefinition files sources text = (line : Option ExpandedLine) × IsEarlier files sources line × (text ≡ first_texts line)

-- a text shows the earlier line that the first fault of these sources is about, which has this kind; nothing for other
-- faults than 26
abbrev pub ShowsFor : Files → (sources : List (List ℕ)) → FaultKind → List ℕ → Type 0
ShowsFor files sources fault.Defined text = ShowsDefinition files sources text
ShowsFor files sources _ text = text ≡ []

-- the same of the first fault itself
abbrev pub ShowsEarlier : Files → (sources : List (List ℕ)) → ExpansionFault → List ℕ → Type 0
ShowsEarlier files sources (Faulty file line kind) text = ShowsFor files sources kind text
ShowsEarlier files sources (Missing file line name) text = text ≡ []
