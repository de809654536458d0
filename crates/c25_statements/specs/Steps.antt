-- Parts of the rules of lines that have functions of their own.
use Rattle.std.specs.Prelude.{ℕ, List, codes, Result, Ok}
use Rattle.c25_meaning_language.specs.DirectiveOperands.{name_in}
use Rattle.c25_meaning_assembly.specs.AssemblyLine.{AssemblyAct, Put, Reserve, alone, expressions_in, flagged, later_in, section_in}
use Rattle.c25_meaning_language.specs.Line.{Piece}
use Rattle.c25_meaning_common.specs.Results.{◌>>=◌}
use Rattle.c25_meaning_assembly.specs.StatementLine.{Operation, operation_of, spelled}
use Rattle.c25_meaning_assembly.specs.declared.assembly.Target.{Target}
use Rattle.c25_meaning_language.specs.declared.statement.FaultKind.{FaultKind}

-- the instruction of a line's first word and operands
abbrev pub operation_with : List ℕ → List (List Piece) → Result Operation FaultKind
operation_with word operands = spelled word >>= λ s. operation_of s operands

-- `.bss` with two operands
abbrev pub reserving_pair : List Piece → List Piece → Result AssemblyAct FaultKind
reserving_pair o p = name_in o >>= λ name. later_in p >>= λ count. Ok (Reserve (codes ".bss") name (alone count))

-- `.bss` with three operands
abbrev pub reserving_flagged : List Piece → List Piece → List Piece → Result AssemblyAct FaultKind
reserving_flagged o p q =
    name_in o >>= λ name. later_in p >>= λ count. later_in q >>= λ flag. Ok (Reserve (codes ".bss") name (flagged count flag))

-- `.usect` with two operands
abbrev pub reserving_pair_in : List ℕ → List Piece → List Piece → Result AssemblyAct FaultKind
reserving_pair_in label o p = section_in o >>= λ section. later_in p >>= λ count. Ok (Reserve section label (alone count))

-- values that make words
abbrev pub putting : Target → List (List Piece) → Result AssemblyAct FaultKind
putting target operands = expressions_in operands >>= λ es. Ok (Put target es)
