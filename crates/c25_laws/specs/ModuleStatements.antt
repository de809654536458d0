-- What a module has of its instruction statements: a mark for each, its words, and the relocations of its
-- fields (SPRU018, relocation; SPRU014, instruction set).
use Rattle.std.specs.Prelude.{◌≡◌, ◌<◌, ◌⊎◌, ℕ, ◌+◌, ◌==◌, List, filter, map, set, Result, slice_index}
use Rattle.std.specs.List.{All, Contains}
use Rattle.c25_meaning_assembly.specs.Addresses.{relocations_of}
use Rattle.c25_meaning_language.specs.ExpansionFault.{ExpansionFault}
use Rattle.c25_meaning_expansion.specs.ExpansionRuns.{start_of}
use Rattle.c25_meaning_expansion.specs.Files.{Files}
use Rattle.c25_meaning_assembly.specs.InstructionStatements.{Instruction, insn_with_zeros, instructions_of}
use Rattle.c25_meaning_objects.specs.Module.{Contents, words_at}
use Rattle.c25_meaning_common.specs.Fields.{field_values}
use Rattle.c25_meaning_assembly.specs.ModuleOfSource.{passed_from}
use Rattle.c25_meaning_linking.specs.Place.{Covers}
use Rattle.c25_meaning_instructions.specs.RelocatedInsn.{HasField, with_field}
use Rattle.c25_meaning_common.specs.Results.{◌>>=◌}
use Rattle.c25_meaning_language.specs.Statement.{form_row, insn_of}
use Rattle.c25_meaning_instructions.specs.Table.{Reads, size}
use Rattle.c25_meaning_assembly.specs.declared.assembly.Address.{Address}
use Rattle.c25_meaning_assembly.specs.declared.assembly.Target.TheVariants as target
use Rattle.c25_meaning_instructions.specs.declared.insn.Insn.{Insn}
use Rattle.c25_meaning_objects.specs.declared.object.ModuleMark.{ModuleMark}
use Rattle.c25_meaning_objects.specs.declared.object.Relocation.{Relocation}
use Rattle.c25_meaning_common.specs.declared.relocation.RelocationKind.TheVariants.{Word16}

-- the instruction with a number in the field of an address
abbrev pub insn_with : Address → ℕ → Instruction → Insn
insn_with a n i = insn_of i.form (set i.sheet.numbers a.operand n)

-- how many words a statement has
abbrev pub words_of_statement : Instruction → ℕ
words_of_statement i = size (form_row i.form)

-- the mark of a statement
abbrev pub mark_of : Instruction → ModuleMark
mark_of i = record { section = i.section; offset = i.offset; size = words_of_statement i }

-- the relocations of a statement's address fields
abbrev pub relocations_in : Instruction → List Relocation
relocations_in i = relocations_of (target.Instruction i.form) i.section i.offset i.sheet.addresses

-- the instruction statements of the source of this name, or its fault
abbrev pub instructions_in : Files → List ℕ → Result (List Instruction) ExpansionFault
instructions_in files name = passed_from files name (start_of files name) >>= λ a. instructions_of a.progress

-- the word of a module at this offset of this section
abbrev pub word_at : Contents → ℕ → ℕ → ℕ
word_at m section offset = slice_index (words_at m.sections section) offset

-- a relocation concerns a word of a statement
pub record IsWithin (i : Instruction) (r : Relocation) : Type 0 where
  pub section_is : r.section ≡ i.section
  pub covers : Covers i.offset (words_of_statement i) r.offset

-- the instruction has the field of this address, with 0 in it; putting a number there is the same as giving
-- the operand that number
pub record HasAddress (i : Instruction) (a : Address) : Type 0 where
  pub field : HasField a.kind (insn_with_zeros i)
  pub replaced : (n : ℕ) → n < field_values a.kind → with_field a.kind n (insn_with_zeros i) ≡ insn_with a n i

-- a module's words at a statement's place read as the statement with 0 in its relocated fields, and the
-- module's relocations of these words are the statement's
pub record IsAssembled (m : Contents) (i : Instruction) : Type 0 where
  pub reads : Reads (word_at m i.section i.offset) (word_at m i.section (i.offset + 1)) (insn_with_zeros i)
  pub addresses : All (HasAddress i) i.sheet.addresses
  pub relocated : All (Contains m.relocations) (relocations_in i)
  pub own : (r : Relocation) → Contains m.relocations r → IsWithin i r → Contains (relocations_in i) r

-- these are the statements of a module: its marks are their places and sizes, section by section in their
-- order; its words there are theirs; and each relocation is one of theirs or fills a whole word, as those of
-- `.word` do
pub record AreStatements (m : Contents) (statements : List Instruction) : Type 0 where
  pub marks : (section : ℕ) → filter (λ mark. mark.section == section) m.marks ≡ map mark_of (filter (λ i. i.section == section) statements)
  pub each : All (IsAssembled m) statements
  pub relocations : All (λ r. ((i : Instruction) × Contains statements i × Contains (relocations_in i) r) ⊎ (r.kind ≡ Word16)) m.relocations
