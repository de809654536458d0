-- The first item that is wrong.
use Rattle.std.specs.Prelude.{ℕ, ◌+◌, List, [], ◌∷◌, Option, Some, None, Ok, Err}
use Rattle.c25_meaning_assembly.specs.Emission.{all_names, emit, table_at}
use Rattle.c25_meaning_assembly.specs.Sections.{Definitions, Section, PendingItem, Progress}
use Rattle.c25_meaning_language.specs.Value.{Table}
use Rattle.c25_meaning_language.specs.declared.statement.FaultKind.{FaultKind}
use Rattle.c25_phases.specs.Origins.{origin_of}
use Rattle.c25_phases.specs.declared.wrong.WrongItem.{WrongItem}
use Rattle.c25_meaning_common.specs.declared.placed.FileLine.{FileLine}

-- an item that is wrong: its number among all, its line, its fault, and where it begins
pub record Wrong : Type 0 where
  pub number : ℕ
  pub origin : FileLine (List ℕ)
  pub kind : FaultKind
  pub section : ℕ
  pub offset : ℕ

-- the first of these items that is wrong, if there is one; this many items come before them
abbrev pub wrong_from : ℕ → Definitions → List Section → List PendingItem → Option Wrong
wrong_from number names sections [] = None
wrong_from number names sections (item ∷ items) = elim (emit names item.section item.offset sections item.content) [
  | Ok next ↦ wrong_from (number + 1) names next items
  | Err kind ↦ Some (record { number = number; origin = item.origin; kind = kind; section = item.section; offset = item.offset })
]

-- the first item of all lines that is wrong when all names are known, if there is one
abbrev pub first_wrong : Progress → Option Wrong
first_wrong p = wrong_from 0 (all_names p) p.sections p.items

-- what names and `$` stand for where an item is wrong: all names are known, and `$` is where the item begins
abbrev pub table_of : Progress → Wrong → Table
table_of p w = table_at (all_names p) w.section w.offset

-- an item that is wrong
abbrev pub wrong_of : WrongItem → Wrong
wrong_of w = record { number = w.number; origin = origin_of w.origin; kind = w.kind; section = w.section; offset = w.offset }
