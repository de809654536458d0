-- The lines that begin a macro of the name that a line gives to a macro again (36).
use Rattle.std.specs.Prelude.{ℕ, List, [], Option, Some, None, option_and_then}
use Rattle.c25_explain.specs.Note.{line_of}
use Rattle.c25_meaning_expansion.specs.Files.{Files, text_named}
use Rattle.c25_meaning_language.specs.ExpansionFault.{ExpansionFault, Faulty, Missing}
use Rattle.c25_meaning_language.specs.declared.statement.FaultKind.{FaultKind}
use Rattle.c25_meaning_language.specs.declared.statement.FaultKind.TheVariants as fault
use Rattle.c25_outline.specs.Taken as outline

-- the lines for a line of a file, if there is such a line
abbrev pub taken_in : Files → (file : List ℕ) → (line : ℕ) → (text : Option (List ℕ)) → List ℕ
taken_in files file line None = []
taken_in files file line (Some text) = outline.taken_text files file line text

-- the lines for a fault of this kind in this line; nothing for other faults
abbrev pub taken_at : Files → (file : List ℕ) → (line : ℕ) → FaultKind → List ℕ
taken_at files file line fault.Redefined = taken_in files file line (option_and_then (λ text. line_of text line) (text_named files file))
taken_at files file line _ = []

-- the same of a fault
abbrev pub taken_text : Files → ExpansionFault → List ℕ
taken_text files (Faulty file line kind) = taken_at files file line kind
taken_text files (Missing file line name) = []
