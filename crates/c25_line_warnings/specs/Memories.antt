-- Operands of instructions that are most likely not what was meant: registers where a shift stands, and addresses
-- of the other memory.
use Rattle.std.specs.Prelude.{ℕ, ◌==◌, is_some, List, [], ◌∷◌, slice_get, Option, Some, None, Result, Ok, Err, if◌then◌else◌}
use Rattle.c25_meaning_instructions.specs.declared.mnemonic.Spelling.{Spelling}
use Rattle.c25_meaning_language.specs.DirectiveOperands.{name_in}
use Rattle.c25_meaning_language.specs.Line.{Piece}
use Rattle.c25_meaning_assembly.specs.Sections.{Definitions}
use Rattle.c25_meaning_language.specs.Value.{predefined, start_of_text, value_named}
use Rattle.c25_meaning_language.specs.declared.statement.FaultKind.{FaultKind}
use Rattle.c25_meaning_language.specs.declared.value.Base.{Base}
use Rattle.c25_meaning_language.specs.declared.value.Base.TheVariants as base
use Rattle.c25_meaning_language.specs.declared.value.Value.{Value}
use Rattle.c25_meaning_linking.specs.Place.{Place, place_named}
use Rattle.c25_meaning_objects.specs.Module.{SectionBody, SectionData, Uninitialised, Initialised}
use Rattle.c25_line_warnings.specs.Instructions.{has_shift, memory_of}
use Rattle.c25_line_warnings.specs.Said.{only_name}
use Rattle.c25_line_warnings.specs.declared.marks.Memory.{Memory}
use Rattle.c25_line_warnings.specs.declared.marks.Memory.TheVariants.{Program, Data}
use Rattle.c25_line_warnings.specs.declared.warning_kind.WarningKind.{WarningKind}
use Rattle.c25_line_warnings.specs.declared.warning_kind.WarningKind.TheVariants as warning

-- ---- registers

-- a name of a register or a port, if this is one: `AR0` to `AR7`, `PA0` to `PA15`
abbrev pub register_by : Result (List ℕ) FaultKind → Option (List ℕ)
register_by (Ok name) = if is_some (predefined name) then Some name else None
register_by (Err f) = None

-- the register that is the second operand, if it is one
abbrev pub second_register : List (List Piece) → Option (List ℕ)
second_register [] = None
second_register (o ∷ []) = None
second_register (o ∷ p ∷ os) = register_by (name_in p)

-- the register that stands where the shift of an instruction does: `ADD *+,AR3`
unfoldable pub register_shift : Spelling → List (List Piece) → Option (List ℕ)
register_shift s operands = if has_shift s then second_register operands else None

-- ---- addresses

-- what says in which memory a symbol lies: the values of symbols, the module's sections, and where sections
-- are placed, as far as that is known
pub record Memories : Type 0 where
  pub symbols : Definitions
  pub sections : List SectionData
  pub places : List Place

-- the memory of a page: page 0 is program memory
abbrev pub memory_at : ℕ → Memory
memory_at page = if page == 0 then Program else Data

-- the memory of a section that no command places, as the linker has it
abbrev pub usual_memory : SectionBody → Memory
usual_memory (Uninitialised size) = Data
usual_memory (Initialised words) = Program

-- the memory of a section: where it is placed, or else where it usually is
abbrev pub memory_by : Option Place → SectionBody → Memory
memory_by (Some p) body = memory_at p.page
memory_by None body = usual_memory body

-- the memory in which a section is loaded
unfoldable pub memory_of_section : List Place → SectionData → Memory
memory_of_section places s = memory_by (place_named s.name places) s.body

-- the memory of the section that was found
abbrev pub memory_found : List Place → Option SectionData → Option Memory
memory_found places None = None
memory_found places (Some s) = Some (memory_of_section places s)

-- the memory of the section from which a value counts
abbrev pub memory_from : Memories → Base → Option Memory
memory_from m (base.Section n) = memory_found m.places (slice_get m.sections n)
memory_from m (base.Loaded n) = memory_found m.places (slice_get m.sections n)
memory_from m base.Absolute = None
memory_from m (base.External n) = None

-- the memory of a value, if there is one
abbrev pub memory_valued : Memories → Option Value → Option Memory
memory_valued m None = None
memory_valued m (Some v) = memory_from m v.base

-- the memory in which a symbol of the module lies
unfoldable pub memory_named : Memories → List ℕ → Option Memory
memory_named m name = memory_valued m (value_named (record { entries = m.symbols; here = start_of_text }) name)

-- the warning of an address that lies in the second memory and is used as one of the first
abbrev pub misplaced : Memory → Memory → Option WarningKind
misplaced Data Program = Some warning.ProgramAddress
misplaced Program Data = Some warning.DataAddress
misplaced Program Program = None
misplaced Data Data = None

-- a warning with the symbol that it names
abbrev pub misplaced_with : List ℕ → Option WarningKind → Option (WarningKind × List ℕ)
misplaced_with name None = None
misplaced_with name (Some kind) = Some (kind, name)

-- the warning of a name, if it lies in another memory than it is used in
abbrev pub misplaced_in : Memory → List ℕ → Option Memory → Option (WarningKind × List ℕ)
misplaced_in used name None = None
misplaced_in used name (Some lies) = misplaced_with name (misplaced used lies)

-- the warning of the only name of an operand that is an address of this memory
abbrev pub misplaced_only : Memories → Memory → Option (List ℕ) → Option (WarningKind × List ℕ)
misplaced_only m used None = None
misplaced_only m used (Some name) = misplaced_in used name (memory_named m name)

-- the warning of an operand that is an address of a memory
abbrev pub misplaced_by : Memories → Option Memory → List Piece → Option (WarningKind × List ℕ)
misplaced_by m None operand = None
misplaced_by m (Some used) operand = misplaced_only m used (only_name operand)

-- the warning of the operand of this number, with the symbol that is its only name and lies in the other memory
unfoldable pub misplaced_name : Memories → Spelling → ℕ → List Piece → Option (WarningKind × List ℕ)
misplaced_name m s number operand = misplaced_by m (memory_of s number) operand
