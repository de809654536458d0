-- The module that the lines have made, once all its symbols are known (SPRU018, symbols and relocation).
use Rattle.std.specs.Prelude.{ℕ, ◌+◌, Bool, true, false, if◌then◌else◌, List, [], ◌∷◌, ◌++◌, length, map, replicate, Option, Some, None, Result, Ok, Err, pos}
use Rattle.std.specs.List.{flat_map, fold, list_all, position_or_len}
use Rattle.std.specs.Str.{bytes_eq}
use Rattle.c25_meaning_assembly.specs.Addresses.{OperandValues, operand_values, words_of, relocations_of}
use Rattle.c25_meaning_language.specs.ExpansionFault.{ExpansionFault, Faulty}
use Rattle.c25_meaning_objects.specs.Module.{Contents, SectionBody, Uninitialised, Initialised, SectionData, SymbolData}
use Rattle.c25_meaning_common.specs.Results.{◌>>=◌, fold_ok, told}
use Rattle.c25_meaning_assembly.specs.Sections.{Definitions, Section, Content, Operands, Words, Zeros, Exported, PendingItem, Progress, changed, imports, is_in, once, place}
use Rattle.c25_meaning_language.specs.Value.{Table, value_named, start_of_text}
use Rattle.c25_meaning_assembly.specs.declared.assembly.Target.{Target}
use Rattle.c25_meaning_objects.specs.declared.object.LineMark.{LineMark}
use Rattle.c25_meaning_objects.specs.declared.object.Relocation.{Relocation}
use Rattle.c25_meaning_objects.specs.declared.object.Scope.{Scope}
use Rattle.c25_meaning_objects.specs.declared.object.Scope.TheVariants as scope
use Rattle.c25_meaning_objects.specs.declared.object.SymbolKind.{SymbolKind}
use Rattle.c25_meaning_objects.specs.declared.object.SymbolKind.TheVariants as symbol
use Rattle.c25_meaning_objects.specs.declared.object.Version.TheVariants.{Two}
use Rattle.c25_meaning_language.specs.declared.statement.FaultKind.{FaultKind}
use Rattle.c25_meaning_language.specs.declared.statement.FaultKind.TheVariants as fault
use Rattle.c25_meaning_language.specs.declared.value.Base.{Base}
use Rattle.c25_meaning_language.specs.declared.value.Base.TheVariants as base
use Rattle.c25_meaning_language.specs.declared.value.Value.{Value}
use Rattle.c25_meaning_common.specs.declared.placed.FileLine.{FileLine}

-- ---- all symbols

-- names that other modules define, numbered from `n` on
abbrev pub numbered : ℕ → List (List ℕ) → Definitions
numbered n [] = []
numbered n (name ∷ names) = (name, record { base = base.External n; offset = pos 0 }) ∷ numbered (n + 1) names

-- the defined names and after them those that other modules define, each of which has its number in the whole
-- list
abbrev pub names_with : Definitions → List (List ℕ) → Definitions
names_with names declared = names ++ numbered (length names) (imports names declared)

-- all names of a module with their values
abbrev pub all_names : Progress → Definitions
all_names p = names_with p.names p.declared

-- ---- words and relocations

-- a section with more words and relocations at its end
abbrev pub extended : List ℕ → List Relocation → Section → Section
extended words relocations s = record s { words = s.words ++ words; relocations = s.relocations ++ relocations }

-- whether a value does not depend on another module
abbrev pub is_inside : Base → Bool
is_inside base.Absolute = true
is_inside (base.Section n) = true
is_inside (base.Loaded n) = true
is_inside (base.External n) = false

-- whether there is a value and it does not depend on another module
abbrev pub is_here_by : Option Value → Bool
is_here_by None = false
is_here_by (Some v) = is_inside v.base

-- whether a name is defined in this module, or predefined
abbrev pub is_here : Definitions → List ℕ → Bool
is_here names name = is_here_by (value_named (record { entries = names; here = start_of_text }) name)

-- the symbol table at an offset of a section, which is what `$` stands for
abbrev pub table_at : Definitions → ℕ → ℕ → Table
table_at names section offset = record { entries = names; here = place section offset }

-- the sections with the words and relocations of a line's operands at the end of one of them
abbrev pub with_operand_values : Target → ℕ → ℕ → List Section → OperandValues → List Section
with_operand_values t section offset sections s =
    changed (extended (words_of t s.numbers) (relocations_of t section offset s.addresses)) sections section

-- the sections with what one item adds; names of `.def` add nothing, and must be defined here, else Undefined
-- (22)
abbrev pub emit : Definitions → ℕ → ℕ → List Section → Content → Result (List Section) FaultKind
emit names section offset sections (Operands t trees) =
    operand_values t (table_at names section offset) trees >>= λ s. Ok (with_operand_values t section offset sections s)
emit names section offset sections (Words words) = Ok (changed (extended words []) sections section)
emit names section offset sections (Zeros count) = Ok (changed (extended (replicate count 0) []) sections section)
emit names section offset sections (Exported exported) =
    if list_all (is_here names) exported then Ok sections else Err fault.Undefined

-- a result of a line, whose fault gets the line's file and number
abbrev pub at_origin : {A : Type 0} → FileLine (List ℕ) → Result A FaultKind → Result A ExpansionFault
at_origin origin r = told (λ kind. Faulty origin.file origin.line kind) r

-- the sections with what one more item adds, or the fault of its line
abbrev pub emitted : Definitions → List Section → PendingItem → Result (List Section) ExpansionFault
emitted names sections item = at_origin item.origin (emit names item.section item.offset sections item.content)

-- the sections with what all items add, in the order of lines
abbrev pub emit_all : Definitions → List Section → List PendingItem → Result (List Section) ExpansionFault
emit_all names sections items = fold_ok (emitted names) sections items

-- ---- the module

-- the contents of a section: its words if it is initialised, else its size
abbrev pub body_of : Section → SectionBody
body_of s = if s.initialised then Initialised s.words else Uninitialised s.size

-- a section as the module has it
abbrev pub section_of : Section → SectionData
section_of s = record { name = s.name; body = body_of s }

-- the kind of a symbol, by what its value counts from
abbrev pub kind_of : Base → SymbolKind
kind_of base.Absolute = symbol.Absolute
kind_of (base.Section n) = symbol.InSection n
kind_of (base.Loaded n) = symbol.Loaded n
kind_of (base.External n) = symbol.External

-- which modules see a symbol: all, or its own
abbrev pub scope_of : Bool → Scope
scope_of true = scope.Global
scope_of false = scope.Local

-- a symbol as the module has it: all modules see the names of `.global`, `.ref` and `.def`
abbrev pub symbol_of : List (List ℕ) → List ℕ × Value → SymbolData
symbol_of exported pair =
    record { kind = kind_of pair.1.base; scope = scope_of (is_in exported pair.0); value = pair.1.offset; name = pair.0 }

-- the files of marks in the order of their first use, and for each mark its line, with the number of the file
pub record Lines : Type 0 where
  pub files : List (List ℕ)
  pub lines : List LineMark

-- no files and lines: before the first mark
abbrev pub no_lines : Lines
no_lines = record { files = []; lines = [] }

-- the files and lines with those of one more mark; a file that is new gets the next number
abbrev pub with_line : Lines → FileLine (List ℕ) → Lines
with_line l o = record {
  files = once l.files o.file;
  lines = l.lines ++ record { file = position_or_len (bytes_eq o.file) l.files; line = o.line } ∷ [];
}

-- the files and lines of marks that come from these lines
abbrev pub lines_of : List (FileLine (List ℕ)) → Lines
lines_of origins = fold with_line no_lines origins

-- the files and lines of the marks of all sections
abbrev pub lines_in : List Section → Lines
lines_in sections = lines_of (flat_map (λ s. s.origins) sections)

-- the module of these sections and symbols; all modules see the `exported` ones
abbrev pub module_with : List Section → Definitions → List (List ℕ) → Contents
module_with sections names exported = record {
  sections = map section_of sections;
  marks = flat_map (λ s. s.marks) sections;
  symbols = map (symbol_of exported) names;
  relocations = flat_map (λ s. s.relocations) sections;
  version = Two;
  files = (lines_in sections).files;
  lines = (lines_in sections).lines;
  blocks = flat_map (λ s. s.blocks) sections;
}

-- the module of all lines, or the first fault of an operand
unfoldable pub finished : Progress → Result Contents ExpansionFault
finished p = emit_all (all_names p) p.sections p.items >>= λ sections. Ok (module_with sections (all_names p) p.exported)
