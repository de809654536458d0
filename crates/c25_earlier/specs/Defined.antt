-- Where the name was defined first that a line defines again (26).
use Rattle.std.specs.Prelude.{◌≡◌, ◌⊎◌, ℕ, true, false, List, [], ◌∷◌, Option, Some, None}
use Rattle.c25_asm.specs.Seen.{Seen}
use Rattle.c25_asm.specs.Trails.{IsTrail, IsWhole}
use Rattle.c25_meaning_assembly.specs.Sections.{is_predefined}
use Rattle.c25_meaning_common.specs.declared.placed.FileLine.{FileLine}
use Rattle.c25_meaning_expansion.specs.ExpansionAnswers.{ExpandedLine}
use Rattle.c25_meaning_expansion.specs.ExpansionRuns.{start_of}
use Rattle.c25_meaning_expansion.specs.Files.{Files}
use Rattle.c25_meaning_language.specs.ExpansionFault.{ExpansionFault}
use Rattle.c25_earlier.specs.FirstLines.{GetsValue, HasNoValue}
use Rattle.c25_earlier.specs.Names.{names_in}

-- the line with which the first of these names that has a value got it; no line where that name is predefined, or
-- none of the names has a value
abbrev pub IsDefinedFirst : Files → (source : List ℕ) → (names : List (List ℕ)) → Option ExpandedLine → Type 0
IsDefinedFirst files source [] line = line ≡ None
IsDefinedFirst files source (name ∷ names) line =
    (is_predefined name ≡ true) × (line ≡ None)
    ⊎ ((first : ExpandedLine) × GetsValue files source name first × (line ≡ Some first))
    ⊎ (is_predefined name ≡ false) × HasNoValue files source name × IsDefinedFirst files source names line

-- the names that a line defines that is refused, if it was read
abbrev pub names_seen : Option Seen → List (List ℕ)
names_seen None = []
names_seen (Some seen) = names_in seen.text

-- a source is refused, and this line defined first the name that the refused line defines again, if there is one
pub record IsBefore (files : Files) (source : List ℕ) (line : Option ExpandedLine) : Type 0 where
  pub fault : ExpansionFault
  pub trail : List (FileLine ℕ)
  pub seen : Option Seen
  pub refused : IsTrail files source fault trail seen
  pub first : IsDefinedFirst files source (names_seen seen) line

-- the same of the first source that is refused; no line where there is none, or a source is not there
abbrev pub IsEarlier : Files → (sources : List (List ℕ)) → Option ExpandedLine → Type 0
IsEarlier files [] line = line ≡ None
IsEarlier files (source ∷ sources) line =
    IsWhole files source × IsEarlier files sources line
    ⊎ (start_of files source ≡ None) × (line ≡ None)
    ⊎ IsBefore files source line
