-- The names that a line gives values to, in the order in which it does (SPRU018, symbols).
use Rattle.std.specs.Prelude.{ℕ, List, [], ◌∷◌, ◌++◌, map, Option, Some, None, Result, Ok, Err}
use Rattle.c25_meaning_assembly.specs.AssemblyLine.{AssemblyAct, Equate, Label, Registers, Reserve, Statement, read_statement}
use Rattle.c25_meaning_assembly.specs.Sections.{register_names}
use Rattle.c25_meaning_language.specs.declared.statement.FaultKind.{FaultKind}

-- the names of the memory-mapped registers
abbrev pub names_of_registers : List (List ℕ)
names_of_registers = map (λ pair. pair.0) register_names

-- the names of a directive: of `.bss` and `.usect`, `.set` and `.equ`, `.label`, and `.mmregs`
abbrev pub names_of_act : AssemblyAct → List (List ℕ)
names_of_act (Reserve section name room) = name ∷ []
names_of_act (Equate name value) = name ∷ []
names_of_act (Label name) = name ∷ []
names_of_act Registers = names_of_registers
names_of_act act = []

-- the name of a label, if there is one
abbrev pub names_of_label : Option (List ℕ) → List (List ℕ)
names_of_label None = []
names_of_label (Some name) = name ∷ []

-- the names of a statement: its label first
abbrev pub names_by : Result Statement FaultKind → List (List ℕ)
names_by (Ok s) = names_of_label s.label ++ names_of_act s.act
names_by (Err f) = []

-- the names of a line; none where it is no statement
unfoldable pub names_in : List ℕ → List (List ℕ)
names_in text = names_by (read_statement text)
