-- The instruction statements of a program by their sheets: the numbers of a sheet, and those of its addresses under the map.
use Rattle.std.proofs.Common.{ℕ, ◌+◌, List, [], ◌∷◌, ◌++◌, map, set, Result, Ok, Err, ℤ, ◌+ℤ◌}
use Rattle.std.specs.List.{fold}
use Rattle.c25_meaning_language.specs.ExpansionFault.{ExpansionFault}
use Rattle.c25_meaning_common.specs.Fields.{field_number}
use Rattle.c25_meaning_expansion.specs.Files.{Files}
use Rattle.c25_meaning_assembly.specs.InstructionStatements.{Instruction}
use Rattle.c25_meaning_objects.specs.Module.{Contents}
use Rattle.c25_meaning_linking.specs.Place.{Place}
use Rattle.c25_meaning_language.specs.Statement.{insn_of}
use Rattle.c25_meaning_linking.specs.Words.{base_value, section_base, section_name, section_page, section_run, section_runs_elsewhere}
use Rattle.c25_meaning_assembly.specs.declared.assembly.Address.{Address}
use Rattle.c25_laws.specs.ModuleStatements.{instructions_in}
use Rattle.c25_laws.specs.ProgramStatements.{PlacedStatement}

-- statements, none where there is a fault
abbrev pub without_fault : Result (List Instruction) ExpansionFault → List Instruction
without_fault (Ok statements) = statements
without_fault (Err fault) = []

-- the instruction statements of the source of a name; a source that has a module has no fault
abbrev pub statements_in : Files → List ℕ → List Instruction
statements_in files name = without_fault (instructions_in files name)

-- ---- operands

-- the value of an address under the map: the address or value of its base, and its addend
abbrev pub address_value : List Contents → List Place → ℕ → Contents → Address → ℤ
address_value modules places number m a = base_value modules places number m a.base +ℤ a.addend

-- numbers with that of an address: what a field of its kind holds of its value
abbrev pub with_address : List Contents → List Place → ℕ → Contents → List ℕ → Address → List ℕ
with_address modules places number m ns a = set ns a.operand (field_number a.kind (address_value modules places number m a))

-- the numbers of a statement's operands under the map
abbrev pub operand_numbers : List Contents → List Place → ℕ → Contents → Instruction → List ℕ
operand_numbers modules places number m i = fold (with_address modules places number m) i.sheet.numbers i.sheet.addresses

-- ---- statements

-- a statement of a module: where its section's part stands, its offset there, and its instruction with these numbers
abbrev pub placed_statement : List Contents → List Place → ℕ → Contents → Instruction → PlacedStatement
placed_statement modules places number m i = record {
  section = section_name m i.section;
  page = section_page places m i.section;
  load = section_base modules places number m i.section + i.offset;
  run = section_run modules places number m i.section + i.offset;
  elsewhere = section_runs_elsewhere places m i.section;
  insn = insn_of i.form (operand_numbers modules places number m i);
}

-- the statements of a module
abbrev pub module_statements : List Contents → List Place → ℕ → Contents → List Instruction → List PlacedStatement
module_statements modules places number m statements = map (placed_statement modules places number m) statements

-- the statements of modules, one module after the other; the modules are numbered from `number` on
abbrev pub statements_by : List Contents → List Place → ℕ → List Contents → List (List Instruction) → List PlacedStatement
statements_by modules places number (m ∷ ms) (statements ∷ others) =
    module_statements modules places number m statements ++ statements_by modules places (number + 1) ms others
statements_by modules places number _ _ = []

-- the instruction statements of the sources of these names, whose modules stand at these places
abbrev pub sheet_statements : Files → List (List ℕ) → List Contents → List Place → List PlacedStatement
sheet_statements files names modules places = statements_by modules places 0 modules (map (statements_in files) names)
