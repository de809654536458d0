-- Whether the assembler reads a line as it stands, without macros and substitution symbols.
use Rattle.std.specs.Prelude.{ℕ, List, Bool, false, ◌||◌, is_some, nat_lt, if◌then◌else◌, Option, Some, None, Result, Ok, Err}
use Rattle.c25_meaning_language.specs.Line.{first_word}
use Rattle.c25_meaning_language.specs.Value.{predefined}
use Rattle.c25_meaning_expansion.specs.Acts.{order_of}
use Rattle.c25_meaning_expansion.specs.ExpansionRules as expansion
use Rattle.c25_meaning_assembly.specs.AssemblyLine as assembly
use Rattle.c25_meaning_expansion.specs.declared.expansion.Directive.{Directive}
use Rattle.c25_meaning_language.specs.declared.statement.FaultKind.{FaultKind}
use Rattle.c25_meaning_language.specs.declared.statement.FaultKind.TheVariants as fault

-- the fault of what is read
abbrev pub fault_of : {A : Type 0} → Result A FaultKind → Option FaultKind
fault_of (Ok x) = None
fault_of (Err f) = Some f

-- the fault of a macro with so many parameters
abbrev pub number_fault : ℕ → Option FaultKind
number_fault parameters = if nat_lt 32 parameters then Some fault.TooManyParameters else None

-- whether this is a name that the assembler itself defines
abbrev pub is_own : List ℕ → Bool
is_own name = is_some (predefined name)

-- whether a label is such a name
abbrev pub labels_own : Option (List ℕ) → Bool
labels_own None = false
labels_own (Some name) = is_own name

-- whether a line gives such a name a value
abbrev pub equates_own : assembly.AssemblyAct → Bool
equates_own (assembly.Equate name value) = is_own name
equates_own _ = false

-- the fault of a statement: the first that its text shows, or 26 where it defines a name of the assembler's own
abbrev pub statement_fault : Result assembly.Statement FaultKind → Option FaultKind
statement_fault (Err f) = Some f
statement_fault (Ok s) = if labels_own s.label || equates_own s.act then Some fault.Defined else None

-- the fault of a line, by its directive of expansion if it has one
abbrev pub fault_by : Option Directive → List ℕ → Option FaultKind
fault_by (Some d) line = fault_of (order_of d line)
fault_by None line = statement_fault (assembly.read_statement line)

-- the fault that a line shows as it stands, if the assembler does not read it
unfoldable pub fault_in : List ℕ → Option FaultKind
fault_in line = fault_by (expansion.directive_in (first_word line)) line
