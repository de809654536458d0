-- The line with which a name gets its value in the first phase of a source.
use Rattle.std.specs.Prelude.{◌≡◌, ℕ, true, false, List, Option, Some, None, Ok, Err}
use Rattle.c25_asm.specs.Trails.{Reaches, Gives, PassesAll}
use Rattle.c25_meaning_assembly.specs.ModuleOfSource.{read_and_pass}
use Rattle.c25_meaning_assembly.specs.Sections.{Progress, stands, table}
use Rattle.c25_meaning_common.specs.declared.placed.FileLine.{FileLine}
use Rattle.c25_meaning_expansion.specs.Expansion.{Config}
use Rattle.c25_meaning_expansion.specs.ExpansionAnswers.{ExpandedLine, fault_by}
use Rattle.c25_meaning_expansion.specs.ExpansionRuns.{rewrite, start_of}
use Rattle.c25_meaning_expansion.specs.Files.{Files}
use Rattle.c25_meaning_language.specs.ExpansionFault.{ExpansionFault}

-- a name has no value before this line of the source, and has one after it
pub record GetsValue (files : Files) (source name : List ℕ) (line : ExpandedLine) : Type 0 where
  pub made : Progress
  pub trail : List (FileLine ℕ)
  pub gives : Gives files source made line trail
  pub not_before : stands made.names name ≡ false
  pub after : Progress
  pub passes : read_and_pass line made ≡ Ok after
  pub by_then : stands after.names name ≡ true

-- a name has no value where the source ends: there is no such source, all its lines pass, or one is refused, by
-- expansion or by the first phase
pub data HasNoValue (files : Files) (source name : List ℕ) : Type 0 where
  absent : start_of files source ≡ None → HasNoValue files source name
  whole : {p : Progress} → PassesAll files source p → stands p.names name ≡ false → HasNoValue files source name
  unexpanded : {c : Config} {p : Progress} {trail : List (FileLine ℕ)} {fault : ExpansionFault} → Reaches files source c p trail
      → fault_by files (rewrite files (table p) c) ≡ Some fault → stands p.names name ≡ false → HasNoValue files source name
  refused : {p : Progress} {line : ExpandedLine} {trail : List (FileLine ℕ)} {fault : ExpansionFault} → Gives files source p line trail
      → read_and_pass line p ≡ Err fault → stands p.names name ≡ false → HasNoValue files source name

-- the line of the source with which a name gets its value, if there is one
abbrev pub IsFirstLine : Files → (source name : List ℕ) → Option ExpandedLine → Type 0
IsFirstLine files source name (Some line) = GetsValue files source name line
IsFirstLine files source name None = HasNoValue files source name
