-- The texts of parts: a source with a section for each part, and a command file that puts these sections at their addresses.
use Rattle.std.specs.Prelude.{ℕ, ◌==◌, List, [], ◌∷◌, ◌++◌, Option, Some, None, codes, string_bytes, String, if◌then◌else◌}
use Rattle.std.specs.Fmt.{decimal}
use Rattle.std.specs.List.{flat_map}
use Rattle.std.specs.declared.alloc.Global.{Global}
use Rattle.c25_layout.specs.declared.layout.Item.{Item}
use Rattle.c25_layout.specs.declared.layout.Item.TheVariants as item
use Rattle.c25_layout.specs.declared.layout.Part.{Part}
use Rattle.c25_layout.specs.declared.layout.Row.{Row}
use Rattle.c25_layout.specs.declared.layout.Target.{Target}
use Rattle.c25_meaning_common.specs.Digits.{four_digits}
use Rattle.c25_meaning_instructions.specs.Show.{change_text, long_text, next_text, place_text, show, tail_text}
use Rattle.c25_meaning_instructions.specs.Table.{jump_row, long_mem_row, long_row}
use Rattle.c25_meaning_instructions.specs.declared.insn.Insn.{Insn}
use Rattle.c25_meaning_instructions.specs.declared.insn.Insn.TheVariants as insn
use Rattle.c25_meaning_instructions.specs.declared.mnemonic.LongName.TheVariants as long

-- ---- rows

-- how many words after a name an address is; nothing for the name's own
abbrev pub after_text : ℕ → List ℕ
after_text after = if after == 0 then [] else codes "+" ++ decimal after

-- the address of a name, or one after it
abbrev pub target_text : Target → List ℕ
target_text t = string_bytes t.name ++ after_text t.after

-- the printed text of an instruction, with a text in place of its second word
abbrev pub show_with : List ℕ → Insn → List ℕ
show_with text (insn.Long long.Lrlk number high) = codes "LRLK AR" ++ decimal high ++ codes "," ++ text
show_with text (insn.Long name number high) = (long_row name).name ++ codes " " ++ text ++ codes "," ++ decimal high
show_with text (insn.LongMem name word addr) = (long_mem_row name).name ++ codes " " ++ text ++ codes "," ++ place_text addr ++ tail_text addr
show_with text (insn.Jump name word change next) = (jump_row name).name ++ codes " " ++ text ++ codes "," ++ change_text change ++ next_text next
show_with text i = show i

-- a word of data after others
abbrev pub further_text : ℕ → List ℕ
further_text word = codes "," ++ long_text word

-- words of data, with commas between them
abbrev pub words_text : List ℕ → List ℕ
words_text [] = []
words_text (word ∷ words) = long_text word ++ flat_map further_text words

-- what a row is, as a source has it
abbrev pub item_text : Item → List ℕ
item_text (item.Plain i) = show i
item_text (item.Named i t) = show_with (target_text t) i
item_text (item.Words words) = codes ".word " ++ words_text words.items
item_text (item.Address number t) = codes ".word " ++ target_text t

-- the label of a line, if it has one
abbrev pub label_text : Option (String Global) → List ℕ
label_text None = []
label_text (Some name) = string_bytes name

-- the line that names where a row is loaded
abbrev pub load_line : Option (String Global) → List ℕ
load_line None = []
load_line (Some name) = codes "\t.label " ++ string_bytes name ++ codes "\n"

-- the lines of a row, with its address as a comment
abbrev pub row_text : Row → List ℕ
row_text r = load_line r.load_label ++ label_text r.label ++ codes "\t" ++ item_text r.item ++ codes "\t; " ++ four_digits r.address ++ codes "\n"

-- ---- parts

-- the line with which the section of a part at an address begins
unfoldable pub section_text : ℕ → List ℕ
section_text address = codes "\t.sect \"p" ++ four_digits address ++ codes "\"\n"

-- the lines of a part
abbrev pub part_text : Part → List ℕ
part_text p = section_text p.address ++ flat_map row_text p.rows.items

-- the source
abbrev pub source_text : List Part → List ℕ
source_text parts = flat_map part_text parts

-- where a section runs
unfoldable pub run_at_text : ℕ → List ℕ
run_at_text run = codes ", run = " ++ long_text run

-- where a section runs, if that is not where it is loaded
abbrev pub run_text : Option ℕ → List ℕ
run_text None = []
run_text (Some run) = run_at_text run

-- the name of the section of a part at an address, and where it is loaded
unfoldable pub load_text : ℕ → List ℕ
load_text address = codes "  p" ++ four_digits address ++ codes " : load = " ++ long_text address ++ codes " PAGE 0"

-- the line of a part's section in the command file
abbrev pub place_line : Part → List ℕ
place_line p = load_text p.address ++ run_text p.run ++ codes "\n"

-- the command file
abbrev pub command_text : List Part → List ℕ
command_text parts = codes "SECTIONS\n{\n" ++ flat_map place_line parts ++ codes "}\n"
