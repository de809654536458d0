-- The line that shows which block is open where one is not closed (31), or where a line ends none (32).
use Rattle.std.specs.Prelude.{ℕ, ◌-◌, List, [], ◌++◌, codes, Option, Some, None, unwrap_or}
use Rattle.c25_explain.specs.Note.{line_of}
use Rattle.c25_meaning_common.specs.Faults.{placed_text}
use Rattle.c25_meaning_expansion.specs.Files.{Files, text_named}
use Rattle.c25_meaning_language.specs.ExpansionFault.{ExpansionFault, Faulty, Missing}
use Rattle.c25_meaning_language.specs.declared.statement.FaultKind.{FaultKind}
use Rattle.c25_meaning_language.specs.declared.statement.FaultKind.TheVariants as fault
use Rattle.c25_outline.specs.Blocks.{innermost}

-- the line of this number of a file with this text
abbrev pub open_line : (file text : List ℕ) → ℕ → List ℕ
open_line file text number = codes "  open: " ++ placed_text file number (unwrap_or (line_of text number) []) ++ codes "\n"

-- the same, if there is a number
abbrev pub open_lines : (file text : List ℕ) → Option ℕ → List ℕ
open_lines file text None = []
open_lines file text (Some number) = open_line file text number

-- the line that began the innermost block that is open after this line of a file
abbrev pub open_in : (file : List ℕ) → (last : ℕ) → (text : Option (List ℕ)) → List ℕ
open_in file last None = []
open_in file last (Some text) = open_lines file text (innermost last text)

-- after which line blocks are looked for: after the line of 31, and before that of 32
abbrev pub last_for : FaultKind → ℕ → Option ℕ
last_for fault.OpenBlock line = Some line
last_for fault.StrayEnd line = Some (line - 1)
last_for _ line = None

-- the line that began the innermost block that is open at a fault of this kind in this line; nothing for other faults
abbrev pub open_at : Files → (file : List ℕ) → (last : Option ℕ) → List ℕ
open_at files file None = []
open_at files file (Some last) = open_in file last (text_named files file)

-- the same of a fault
abbrev pub open_text : Files → ExpansionFault → List ℕ
open_text files (Faulty file line kind) = open_at files file (last_for kind line)
open_text files (Missing file line name) = []
