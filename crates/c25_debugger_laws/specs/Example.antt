-- A worked example. `main.asm` has `.ref DELAY` on line 1 and `CALL DELAY` on line 2. `delay.asm` has `.def DELAY`, and
-- on lines 2 to 5 PAC, APAC, SPAC and, with the label DELAY, RET. Both are in `.text`, which is loaded from 003Eh on:
-- main.asm's part has the two words of CALL, so delay.asm's begins at 0040h, and DELAY is 0043h.
use Rattle.std.specs.Prelude.{ℕ, true, false, List, [], ◌∷◌, codes, pos, None}
use Rattle.c25_meaning_assembly.specs.Listing.{Entry}
use Rattle.c25_meaning_assembly.specs.Sections.{Operands, PendingItem, Progress, Section, place}
use Rattle.c25_meaning_assembly.specs.declared.assembly.Target.TheVariants as target
use Rattle.c25_meaning_common.specs.declared.placed.FileLine.{FileLine}
use Rattle.c25_meaning_common.specs.declared.relocation.RelocationKind.TheVariants.{Word16}
use Rattle.c25_meaning_instructions.specs.declared.insn.Change.TheVariants as change
use Rattle.c25_meaning_instructions.specs.declared.mnemonic.JumpName.TheVariants as jump
use Rattle.c25_meaning_instructions.specs.declared.mnemonic.PlainName.{PlainName}
use Rattle.c25_meaning_instructions.specs.declared.mnemonic.PlainName.TheVariants as plain
use Rattle.c25_meaning_language.specs.Tree.{Single, Name}
use Rattle.c25_meaning_language.specs.declared.statement.Form.TheVariants as form
use Rattle.c25_meaning_linking.specs.Place.{Place}
use Rattle.c25_meaning_linking.specs.Words.{LineData}
use Rattle.c25_meaning_objects.specs.Module.{Contents, Initialised}
use Rattle.c25_meaning_objects.specs.declared.object.ModuleMark.{ModuleMark}
use Rattle.c25_meaning_objects.specs.declared.object.RelocationBase.TheVariants as relocated
use Rattle.c25_meaning_objects.specs.declared.object.Scope.TheVariants as scope
use Rattle.c25_meaning_objects.specs.declared.object.SymbolKind.TheVariants as symbol
use Rattle.c25_meaning_objects.specs.declared.object.Version.TheVariants.{Two}

-- the names of both files and of the routine
abbrev pub main_file : List ℕ
main_file = codes "main.asm"

abbrev pub delay_file : List ℕ
delay_file = codes "delay.asm"

abbrev pub delay : List ℕ
delay = codes "DELAY"

-- ---- what the lines make

-- the section `.text` of so many words, with the lines of its marks
abbrev pub text_of : ℕ → List ModuleMark → List (FileLine (List ℕ)) → Section
text_of size marks origins =
    record { name = codes ".text"; initialised = true; size = size; marks = marks; origins = origins; blocks = []; words = []; relocations = [] }

-- a line of a file
abbrev pub line_in : List ℕ → ℕ → FileLine (List ℕ)
line_in file line = record { file = file; line = line }

-- the mark of an instruction in `.text`
abbrev pub mark_at : ℕ → ℕ → ModuleMark
mark_at offset size = record { section = 0; offset = offset; size = size }

-- an instruction without operands, on a line of delay.asm, at an offset
abbrev pub plain_item : PlainName → ℕ → ℕ → PendingItem
plain_item name line offset =
    record { origin = line_in delay_file line; section = 0; offset = offset; content = Operands (target.Instruction (form.Plain name change.Keep)) [] }

-- CALL DELAY
abbrev pub call_item : PendingItem
call_item =
    record { origin = line_in main_file 2; section = 0; offset = 0; content = Operands (target.Instruction (form.Jump jump.Call change.Keep)) (Single (Name delay) ∷ []) }

abbrev pub main_lines : Progress
main_lines = record {
  sections = text_of 2 (mark_at 0 2 ∷ []) (line_in main_file 2 ∷ []) ∷ [];
  current = 0;
  names = [];
  declared = delay ∷ [];
  exported = delay ∷ [];
  registers = false;
  items = call_item ∷ [];
  files = main_file ∷ [];
}

abbrev pub delay_lines : Progress
delay_lines = record {
  sections = text_of 4 (mark_at 0 1 ∷ mark_at 1 1 ∷ mark_at 2 1 ∷ mark_at 3 1 ∷ [])
      (line_in delay_file 2 ∷ line_in delay_file 3 ∷ line_in delay_file 4 ∷ line_in delay_file 5 ∷ []) ∷ [];
  current = 0;
  names = (delay, place 0 3) ∷ [];
  declared = [];
  exported = delay ∷ [];
  registers = false;
  items = plain_item plain.Pac 2 0 ∷ plain_item plain.Apac 3 1 ∷ plain_item plain.Spac 4 2 ∷ plain_item plain.Ret 5 3 ∷ [];
  files = delay_file ∷ [];
}

abbrev pub example_lines : List Progress
example_lines = main_lines ∷ delay_lines ∷ []

-- ---- the modules and their places

abbrev pub main_module : Contents
main_module = record {
  sections = record { name = codes ".text"; body = Initialised (0xFE80 ∷ 0 ∷ []) } ∷ [];
  marks = mark_at 0 2 ∷ [];
  symbols = record { kind = symbol.External; scope = scope.Global; value = pos 0; name = delay } ∷ [];
  relocations = record { section = 0; offset = 1; kind = Word16; base = relocated.External 0; addend = pos 0 } ∷ [];
  version = Two;
  files = main_file ∷ [];
  lines = record { file = 0; line = 2 } ∷ [];
  blocks = [];
}

abbrev pub delay_module : Contents
delay_module = record {
  sections = record { name = codes ".text"; body = Initialised (0xCE14 ∷ 0xCE15 ∷ 0xCE16 ∷ 0xCE26 ∷ []) } ∷ [];
  marks = mark_at 0 1 ∷ mark_at 1 1 ∷ mark_at 2 1 ∷ mark_at 3 1 ∷ [];
  symbols = record { kind = symbol.InSection 0; scope = scope.Global; value = pos 3; name = delay } ∷ [];
  relocations = [];
  version = Two;
  files = delay_file ∷ [];
  lines = record { file = 0; line = 2 } ∷ record { file = 0; line = 3 } ∷ record { file = 0; line = 4 } ∷ record { file = 0; line = 5 } ∷ [];
  blocks = [];
}

abbrev pub example_modules : List Contents
example_modules = main_module ∷ delay_module ∷ []

abbrev pub example_places : List Place
example_places = record { name = codes ".text"; page = 0; base = 0x3E; size = 6; run = None } ∷ []

-- ---- what is expected

-- an instruction at an address, with its size and its line
abbrev pub line_at_address : ℕ → ℕ → List ℕ → ℕ → LineData
line_at_address address size file line = record { mark = record { address = address; size = size }; file = file; line = line }

abbrev pub expected_lines : List LineData
expected_lines =
    line_at_address 0x3E 2 main_file 2 ∷ line_at_address 0x40 1 delay_file 2 ∷ line_at_address 0x41 1 delay_file 3 ∷ line_at_address 0x42 1 delay_file 4 ∷ line_at_address 0x43 1 delay_file 5 ∷ []

-- the entry of CALL DELAY in the listing of main.asm
abbrev pub call_entry : Entry
call_entry = record { line = 2; text = codes "    CALL DELAY"; section = 0; offset = 0; count = 2 }

-- the columns of its two words
abbrev pub first_column : List ℕ
first_column = codes "0000 FE80 "

abbrev pub second_column : List ℕ
second_column = codes "0001 0000'"
