-- The words of a program from its sources, item by item over their lines: of instructions by the opcode
-- table, of data by the values of their operands (SPRU014, instruction set; SPRU018, assembler directives).
use Rattle.std.specs.Prelude.{◌≡◌, ℕ, ◌+◌, ◌↔◌, List, [], replicate, Some}
use Rattle.std.specs.FinMap as finite
use Rattle.std.specs.List.{Contains, slice_get}
use Rattle.std.specs.Ordering.{nat_cmp}
use Rattle.c25_meaning_expansion.specs.Files.{Files}
use Rattle.c25_meaning_objects.specs.Module.{Contents}
use Rattle.c25_meaning_linking.specs.Place.{Place}
use Rattle.c25_meaning_assembly.specs.Sections.{Content, Definitions, Exported, PendingItem, Operands, Words, Zeros}
use Rattle.c25_meaning_language.specs.Statement.{insn_of}
use Rattle.c25_meaning_instructions.specs.Table.{words}
use Rattle.c25_meaning_linking.specs.Words.{section_base, section_page}
use Rattle.c25_meaning_assembly.specs.declared.assembly.Target.TheVariants as target
use Rattle.c25_laws.specs.ProgramStatements.{lines_in, numbers_under}

-- the words of an item: an instruction, `.word` and `.int`, `.byte`, the bytes of `.string`, the zeros of `.space`
abbrev pub item_words : List Contents → List Place → ℕ → Contents → Definitions → PendingItem → Content → List ℕ
item_words modules places number m names i (Operands (target.Instruction f) trees) = words (insn_of f (numbers_under modules places number m names i.section i.offset (target.Instruction f) trees))
item_words modules places number m names i (Operands (target.Data w) trees) = numbers_under modules places number m names i.section i.offset (target.Data w) trees
item_words modules places number m names i (Words bytes) = bytes
item_words modules places number m names i (Zeros count) = replicate count 0
item_words modules places number m names i (Exported exported) = []

-- the sources of these names have this word at this address of this page: a word of an item of their lines,
-- which begins at the item's offset in its section
pub record HasSourceWord (files : Files) (names : List (List ℕ)) (modules : List Contents) (places : List Place) (page address word : ℕ) : Type 0 where
  pub number : ℕ
  pub name : List ℕ
  pub owner : Contents
  pub item : PendingItem
  pub within : ℕ
  pub name_is : slice_get names number ≡ Some name
  pub owner_is : slice_get modules number ≡ Some owner
  pub item_is : Contains (lines_in files name).items item
  pub word_is : slice_get (item_words modules places number owner (lines_in files name).names item item.content) within ≡ Some word
  pub page_is : page ≡ section_page places owner item.section
  pub address_is : address ≡ section_base modules places number owner item.section + item.offset + within

-- a page has exactly the words that the sources give it
abbrev pub HasSourceWords : Files → List (List ℕ) → List Contents → List Place → ℕ → finite.FinMap nat_cmp ℕ → Type 0
HasSourceWords files names modules places page words =
    (address word : ℕ) → (finite.get words address ≡ Some word) ↔ HasSourceWord files names modules places page address word
