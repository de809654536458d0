-- The lines that opened what is open where the source of a name is refused.
use Rattle.std.specs.Prelude.{◌≡◌, ◌⊎◌, ℕ, ◌<◌, ◌≤◌, List, [], length, Option, Some, None, Ok, Err}
use Rattle.c25_meaning_assembly.specs.Sections.{Progress, start, table}
use Rattle.c25_meaning_expansion.specs.Expansion.{Config, Goes, Finishes}
use Rattle.c25_meaning_expansion.specs.ExpansionAnswers.{ExpandedLine, given_by, fault_by}
use Rattle.c25_meaning_expansion.specs.ExpansionRuns.{rewrite, start_of}
use Rattle.c25_meaning_expansion.specs.Files.{Files}
use Rattle.c25_meaning_common.specs.declared.placed.FileLine.{FileLine}
use Rattle.c25_meaning_language.specs.ExpansionFault.{ExpansionFault, Faulty}
use Rattle.c25_meaning_assembly.specs.ModuleOfSource.{read_and_pass}
use Rattle.c25_meaning_expansion.specs.Trail.{trail_after}
use Rattle.c25_phases.specs.Wrong.{Wrong, first_wrong, table_of}
use Rattle.c25_asm.specs.Seen.{Seen, seen_by}

-- rewritings from the first line of the module of a name on, and the lines that they give passed one after another, lead to this
-- configuration, to what the lines have made, and to the lines that opened what is open, the innermost first
pub data Reaches (files : Files) (name : List ℕ) : Config → Progress → List (FileLine ℕ) → Type 0 where
  begins : {c : Config} {p : Progress} {trail : List (FileLine ℕ)} → start_of files name ≡ Some c → p ≡ start → trail ≡ [] → Reaches files name c p trail
  goes : {c d : Config} {p : Progress} {trail after : List (FileLine ℕ)} → Reaches files name c p trail
      → rewrite files (table p) c ≡ Goes d → after ≡ trail_after c d trail → Reaches files name d p after
  passes : {c d : Config} {p q : Progress} {trail after : List (FileLine ℕ)} (line : ExpandedLine) → Reaches files name c p trail
      → given_by files (rewrite files (table p) c) ≡ Some (line, d) → read_and_pass line p ≡ Ok q → after ≡ trail_after c d trail → Reaches files name d q after

-- all lines pass, and make this
pub record PassesAll (files : Files) (name : List ℕ) (p : Progress) : Type 0 where
  pub at : Config
  pub trail : List (FileLine ℕ)
  pub reaches : Reaches files name at p trail
  pub last : Config
  pub ends : rewrite files (table p) at ≡ Finishes last

-- a rewriting is refused: no line is given that could be seen
pub record IsUnexpanded (files : Files) (name : List ℕ) (fault : ExpansionFault) (trail : List (FileLine ℕ)) (seen : Option Seen) : Type 0 where
  pub at : Config
  pub made : Progress
  pub reaches : Reaches files name at made trail
  pub refused : fault_by files (rewrite files (table made) at) ≡ Some fault
  pub unseen : seen ≡ None

-- a line is given after the lines that have made this
pub record Gives (files : Files) (name : List ℕ) (made : Progress) (line : ExpandedLine) (trail : List (FileLine ℕ)) : Type 0 where
  pub at : Config
  pub before : List (FileLine ℕ)
  pub reaches : Reaches files name at made before
  pub next : Config
  pub given : given_by files (rewrite files (table made) at) ≡ Some (line, next)
  pub behind : trail ≡ trail_after at next before

-- a line that is given is refused: it is seen with the names so far
pub record IsWrongLine (files : Files) (name : List ℕ) (fault : ExpansionFault) (trail : List (FileLine ℕ)) (seen : Option Seen) : Type 0 where
  pub made : Progress
  pub line : ExpandedLine
  pub gives : Gives files name made line trail
  pub refused : read_and_pass line made ≡ Err fault
  pub so_far : seen ≡ seen_by fault line made

-- the item of this number comes with a line of this text
pub record ComesWith (files : Files) (name : List ℕ) (number : ℕ) (trail : List (FileLine ℕ)) (text : List ℕ) : Type 0 where
  pub made : Progress
  pub line : ExpandedLine
  pub written : text ≡ line.text
  pub gives : Gives files name made line trail
  pub after : Progress
  pub passes : read_and_pass line made ≡ Ok after
  pub not_before : length made.items ≤ number
  pub by_then : number < length after.items

-- all lines pass, and the first item that is wrong came with a line, which is seen with all names
pub record IsWrongItem (files : Files) (name : List ℕ) (fault : ExpansionFault) (trail : List (FileLine ℕ)) (seen : Option Seen) : Type 0 where
  pub made : Progress
  pub passes : PassesAll files name made
  pub wrong : Wrong
  pub refused : first_wrong made ≡ Some wrong
  pub told : fault ≡ Faulty wrong.origin.file wrong.origin.line wrong.kind
  pub text : List ℕ
  pub line : ComesWith files name wrong.number trail text
  pub with_all : seen ≡ Some (record { text = text; table = table_of made wrong })

-- the source of a name is refused with this fault, these lines opened what is open there, the innermost first,
-- and the line that is refused is seen so, if it is read at all
abbrev pub IsTrail : Files → (name : List ℕ) → ExpansionFault → List (FileLine ℕ) → Option Seen → Type 0
IsTrail files name fault trail seen =
    IsUnexpanded files name fault trail seen ⊎ IsWrongLine files name fault trail seen ⊎ IsWrongItem files name fault trail seen

-- the source of a name is assembled
abbrev pub IsWhole : Files → (name : List ℕ) → Type 0
IsWhole files name = (p : Progress) × PassesAll files name p × (first_wrong p ≡ None)
