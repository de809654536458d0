-- The instruction statements of a program with the lines that they come from: what a debugger tells of an
-- address (SPRU018, source statement format).
--
-- An example: `main.asm` has `NOP` on line 3 and `BNZ LOOP` on line 4, and its `.text` is loaded from 0020h on. Then
-- its statements with their lines are NOP at 0020h, of main.asm 3, and BNZ at 0021h, of main.asm 4; and the lines of
-- the image are 0020h with the size 1, main.asm 3, and 0021h with the size 2, main.asm 4.
use Rattle.std.specs.Prelude.{ℕ, ◌+◌, Bool, List, [], ◌∷◌, ◌++◌, map}
use Rattle.std.specs.List.{flat_map}
use Rattle.c25_meaning_assembly.specs.Sections.{Definitions, PendingItem, Progress}
use Rattle.c25_meaning_common.specs.declared.placed.FileLine.{FileLine}
use Rattle.c25_meaning_expansion.specs.Files.{Files}
use Rattle.c25_meaning_linking.specs.Place.{Place}
use Rattle.c25_meaning_linking.specs.Words.{LineData}
use Rattle.c25_meaning_objects.specs.Module.{Contents}
use Rattle.c25_meaning_processor.specs.Statements.{mark_of}
use Rattle.c25_laws.specs.ProgramStatements.{PlacedStatement, as_loaded, item_statements, lines_in, stands_on}

-- an instruction statement under the map, and the file and the line that it comes from
pub record TracedStatement : Type 0 where
  pub statement : PlacedStatement
  pub origin : FileLine (List ℕ)

-- a statement with the line that it comes from
abbrev pub traced : FileLine (List ℕ) → PlacedStatement → TracedStatement
traced origin s = record { statement = s; origin = origin }

-- the statement of an item with the item's line, if the item is an instruction
abbrev pub traced_item : List Contents → List Place → ℕ → Contents → Definitions → PendingItem → List TracedStatement
traced_item modules places number m names i = map (traced i.origin) (item_statements modules places number m names i i.content)

-- the statements of the lines of a module
abbrev pub traced_lines : List Contents → List Place → ℕ → Contents → Progress → List TracedStatement
traced_lines modules places number m p = flat_map (traced_item modules places number m p.names) p.items

-- the statements of modules, one module after the other; the modules are numbered from `number` on
abbrev pub traced_from : List Contents → List Place → ℕ → List Contents → List Progress → List TracedStatement
traced_from modules places number (m ∷ ms) (p ∷ ps) =
    traced_lines modules places number m p ++ traced_from modules places (number + 1) ms ps
traced_from modules places number _ _ = []

-- the instruction statements of the sources of these names with their lines, where the modules are placed so
abbrev pub traced_statements : Files → List (List ℕ) → List Contents → List Place → List TracedStatement
traced_statements files names modules places = traced_from modules places 0 modules (map (lines_in files) names)

-- whether a statement's section is on page 0
abbrev pub is_on_page_0 : TracedStatement → Bool
is_on_page_0 t = stands_on 0 t.statement

-- what a debugger tells of a statement: where its words are loaded, how many it has, its file and its line
abbrev pub line_of : TracedStatement → LineData
line_of t = record { mark = mark_of (as_loaded t.statement); file = t.origin.file; line = t.origin.line }
