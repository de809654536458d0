-- What the lines of a module make, one after the other: sections with their sizes, symbols, and items that
-- wait until all symbols are known (SPRU018, sections, symbols, assembler directives).
use Rattle.std.specs.Prelude.{ℕ, ◌+◌, ◌/◌, ◌^◌, Bool, true, false, not, ◌||◌, ◌&&◌, is_some, nat_le, nat_lt, if◌then◌else◌, List, [], ◌∷◌, ◌++◌, length, filter, set, slice_get, codes, Option, Some, None, Result, Ok, Err, ℤ, pos, negsuc}
use Rattle.std.specs.List.{position, find, list_any}
use Rattle.std.specs.Ordering.{int_eq}
use Rattle.std.specs.Str.{bytes_eq, is_utf8}
use Rattle.c25_meaning_assembly.specs.OperandFields.{target_size}
use Rattle.c25_meaning_assembly.specs.AssemblyLine.{Room, AssemblyAct, Nothing, Enter, Reserve, Equate, Put, Load, Space, Declare, Export, Label, Registers, Statement}
use Rattle.c25_meaning_common.specs.Results.{◌>>=◌, fold_ok}
use Rattle.c25_meaning_language.specs.Absolute.{number_by}
use Rattle.c25_meaning_language.specs.Statement.{valued}
use Rattle.c25_meaning_language.specs.Tree.{Tree}
use Rattle.c25_meaning_language.specs.Value.{Table, value_named, predefined, start_of_text}
use Rattle.c25_meaning_assembly.specs.declared.assembly.Target.{Target}
use Rattle.c25_meaning_assembly.specs.declared.assembly.Target.TheVariants as target
use Rattle.c25_meaning_objects.specs.declared.object.Block.{Block}
use Rattle.c25_meaning_objects.specs.declared.object.ModuleMark.{ModuleMark}
use Rattle.c25_meaning_objects.specs.declared.object.Relocation.{Relocation}
use Rattle.c25_meaning_language.specs.declared.statement.FaultKind.{FaultKind}
use Rattle.c25_meaning_language.specs.declared.statement.FaultKind.TheVariants as fault
use Rattle.c25_meaning_language.specs.declared.value.Base.TheVariants as base
use Rattle.c25_meaning_language.specs.declared.value.Value.{Value}
use Rattle.c25_meaning_common.specs.declared.placed.FileLine.{FileLine}

-- names with their values, in the order of definition
abbrev pub Definitions : Type 0
Definitions = List (List ℕ × Value)

-- a section: the first phase gives it its size, its marks with the line of each, and its blocks; its words
-- and relocations are added when all symbols are known
pub record Section : Type 0 where
  pub name : List ℕ
  pub initialised : Bool
  pub size : ℕ
  pub marks : List ModuleMark
  pub origins : List (FileLine (List ℕ))
  pub blocks : List Block
  pub words : List ℕ
  pub relocations : List Relocation

-- what an item holds: operands that wait for the symbols; words; zeros; or names of `.def`, which must be
-- defined in this module
pub data Content : Type 0 where
  Operands : (target : Target) (trees : List Tree) → Content
  Words : (words : List ℕ) → Content
  Zeros : (count : ℕ) → Content
  Exported : (names : List (List ℕ)) → Content

-- an item: its content, the line that it comes from, and where it begins
pub record PendingItem : Type 0 where
  pub origin : FileLine (List ℕ)
  pub section : ℕ
  pub offset : ℕ
  pub content : Content

-- what the lines so far have made
pub record Progress : Type 0 where
  pub sections : List Section
  -- the number of the current section
  pub current : ℕ
  pub names : Definitions
  -- the names of `.global` and `.ref`
  pub declared : List (List ℕ)
  -- the names of `.global`, `.ref` and `.def`
  pub exported : List (List ℕ)
  -- whether there has been a `.mmregs`
  pub registers : Bool
  pub items : List PendingItem
  -- the names of the files that hold instructions
  pub files : List (List ℕ)

-- a section without words
abbrev pub empty_section : List ℕ → Bool → Section
empty_section name initialised = record { name = name; initialised = initialised; size = 0; marks = []; origins = []; blocks = []; words = []; relocations = [] }

-- before the first line: the initialised section `.text` alone, which is the current one
abbrev pub start : Progress
start = record { sections = empty_section (codes ".text") true ∷ []; current = 0; names = []; declared = []; exported = []; registers = false; items = []; files = [] }

-- ---- places and symbols

-- the size of a section, if there is one
abbrev pub size_by : Option Section → ℕ
size_by None = 0
size_by (Some s) = s.size

-- the size of the section of this number
abbrev pub size_at : List Section → ℕ → ℕ
size_at sections i = size_by (slice_get sections i)

-- the address at an offset of a section
abbrev pub place : ℕ → ℕ → Value
place section offset = record { base = base.Section section; offset = pos offset }

-- the address after the words of a section so far
abbrev pub place_in : List Section → ℕ → Value
place_in sections i = place i (size_at sections i)

-- the address where the words of the next line begin
abbrev pub here : Progress → Value
here p = place_in p.sections p.current

-- the symbol table at the next line, with that address for `$`
abbrev pub table : Progress → Table
table p = record { entries = p.names; here = here p }

-- whether a name has a value; `AR0` and the other predefined names always have
abbrev pub stands : Definitions → List ℕ → Bool
stands names name = is_some (value_named (record { entries = names; here = start_of_text }) name)

-- a name that has no value yet gets this one
unfoldable pub define : List ℕ → Value → Progress → Result Progress FaultKind
define name value p = if stands p.names name then Err fault.Defined else Ok (record p { names = p.names ++ (name, value) ∷ [] })

-- the address where the words of the next line are loaded, wherever they run
abbrev pub loaded_here : Progress → Value
loaded_here p = record { base = base.Loaded p.current; offset = pos (size_at p.sections p.current) }

-- a label gets the address where the words of its line begin
abbrev pub label : Option (List ℕ) → Progress → Result Progress FaultKind
label None p = Ok p
label (Some name) p = define name (here p) p

-- ---- counts that are needed now

-- the number, if it is not negative; else ValueRange (25)
abbrev pub count_by : ℤ → Result ℕ FaultKind
count_by (pos n) = Ok n
count_by (negsuc n) = Err fault.ValueRange

-- the count that a value gives, which must be absolute (23) and not negative (25)
abbrev pub count_of : Value → Result ℕ FaultKind
count_of v = number_by v.base v.offset >>= λ z. count_by z

-- the count that an expression gives
unfoldable pub count_in : Table → Tree → Result ℕ FaultKind
count_in t e = valued t e >>= λ v. count_of v

-- whether a flag is set: its value, which must be absolute (23), is not 0
abbrev pub flag_of : Value → Result Bool FaultKind
flag_of v = number_by v.base v.offset >>= λ z. Ok (not (int_eq z (pos 0)))

-- whether the flag that an expression gives is set; false where no flag is written
abbrev pub flag_in : Table → Option Tree → Result Bool FaultKind
flag_in t None = Ok false
flag_in t (Some e) = valued t e >>= λ v. flag_of v

-- ---- sections

-- whether a section has this name
abbrev pub is_called : List ℕ → Section → Bool
is_called name s = bytes_eq name s.name

-- whether a section, if there is one, is initialised or not as asked
abbrev pub same_kind : Bool → Option Section → Bool
same_kind initialised None = true
same_kind true (Some s) = s.initialised
same_kind false (Some s) = not s.initialised

-- nothing, where a section of this name, if there is one, is of this kind, initialised or not; else
-- OperandForm (52)
abbrev pub of_kind : List ℕ → Bool → Progress → Result (Unit {0}) FaultKind
of_kind name initialised p =
    if same_kind initialised (find (is_called name) p.sections) then Ok tt else Err fault.OperandForm

-- the number of the section that was found, or of a new one at the end of the list; there are at most 255
abbrev pub section_opened_by : Option ℕ → List ℕ → Bool → Progress → Result (ℕ × Progress) FaultKind
section_opened_by (Some i) name initialised p = Ok (i, p)
section_opened_by None name initialised p =
    if nat_le 255 (length p.sections) then Err fault.TooLarge
    else Ok (length p.sections, record p { sections = p.sections ++ empty_section name initialised ∷ [] })

-- the number of the section of this name, which is a new one if there was none
unfoldable pub section_opened : List ℕ → Bool → Progress → Result (ℕ × Progress) FaultKind
section_opened name initialised p = section_opened_by (position (is_called name) p.sections) name initialised p

-- the sections with section `i`, if there is one, changed
abbrev pub changed_by : (Section → Section) → List Section → ℕ → Option Section → List Section
changed_by f sections i None = sections
changed_by f sections i (Some s) = set sections i (f s)

-- the sections with section `i` changed
abbrev pub changed : (Section → Section) → List Section → ℕ → List Section
changed f sections i = changed_by f sections i (slice_get sections i)

-- a section made longer by `n` words
abbrev pub longer : ℕ → Section → Section
longer n s = record s { size = s.size + n }

-- section `i` made longer by `n` words; a section has at most 65,536
unfoldable pub grow : ℕ → ℕ → Progress → Result Progress FaultKind
grow i n p =
    if nat_lt 65536 (size_at p.sections i + n) then Err fault.TooLarge
    else Ok (record p { sections = changed (longer n) p.sections i })

-- ---- what a line does

-- one more item, at the end of the current section
abbrev pub with_item : FileLine (List ℕ) → Content → Progress → Progress
with_item origin content p =
    record p { items = p.items ++ record { origin = origin; section = p.current; offset = size_at p.sections p.current; content = content } ∷ [] }

-- one more item of `n` words, by which the current section grows
unfoldable pub lay : FileLine (List ℕ) → Content → ℕ → Progress → Result Progress FaultKind
lay origin content n p = grow p.current n (with_item origin content p)

-- whether a name is in this list
abbrev pub is_in : List (List ℕ) → List ℕ → Bool
is_in names name = list_any (bytes_eq name) names

-- the names with this one at the end, unless it is among them
abbrev pub once : List (List ℕ) → List ℕ → List (List ℕ)
once names name = if is_in names name then names else names ++ name ∷ []

-- whether no name is in the list twice
abbrev pub are_distinct : List (List ℕ) → Bool
are_distinct [] = true
are_distinct (n ∷ ns) = not (is_in ns n) && are_distinct ns

-- the names with these others at the end, each once
abbrev pub all_once : List (List ℕ) → List (List ℕ) → List (List ℕ)
all_once names [] = names
all_once names (n ∷ ns) = all_once (once names n) ns

-- ---- instructions

-- whether a record has room for a file's name: UTF-8 of at most 65,535 bytes
abbrev pub is_file_name : List ℕ → Bool
is_file_name name = is_utf8 name && nat_le (length name) 65535

-- whether a record has room for a line's number: from 1 on, 32 bits
abbrev pub is_line_number : ℕ → Bool
is_line_number line = nat_le 1 line && nat_lt line (2 ^ 32)

-- a file that holds an instruction is entered in the list of such files, once; there are at most 65,535
abbrev pub use_file : List ℕ → Progress → Result Progress FaultKind
use_file name p =
    if is_in p.files name then Ok p
    else if nat_le 65535 (length p.files) || not (is_file_name name) then Err fault.TooLarge
    else Ok (record p { files = p.files ++ name ∷ [] })

-- the line of an instruction is entered: its number must fit a record, and its file goes into the list
unfoldable pub use_line : FileLine (List ℕ) → Progress → Result Progress FaultKind
use_line origin p = if is_line_number origin.line then use_file origin.file p else Err fault.TooLarge

-- a section with one more mark and the line that it comes from
abbrev pub with_mark : FileLine (List ℕ) → ModuleMark → Section → Section
with_mark origin m s = record s { marks = s.marks ++ m ∷ []; origins = s.origins ++ origin ∷ [] }

-- an instruction of `n` words gets a mark where it begins; data get none
abbrev pub mark : FileLine (List ℕ) → Target → ℕ → ℕ → ℕ → Progress → Result Progress FaultKind
mark origin (target.Instruction f) section offset n p =
    use_line origin p >>= λ q.
    Ok (record q { sections = changed (with_mark origin (record { section = section; offset = offset; size = n })) q.sections section })
mark origin (target.Data w) section offset n p = Ok p

-- ---- reserved words

-- a section with one more block
abbrev pub with_block : Block → Section → Section
with_block b s = record s { blocks = s.blocks ++ b ∷ [] }

-- words that must lie in one data page become a block
abbrev pub block : Bool → ℕ → ℕ → ℕ → Progress → Progress
block true section offset n p =
    record p { sections = changed (with_block (record { section = section; offset = offset; size = n })) p.sections section }
block false section offset n p = p

-- nothing, where a block has 1 to 128 words or the flag is not set; else BadBlock (56)
abbrev pub block_allowed : Bool → ℕ → Result (Unit {0}) FaultKind
block_allowed flag n = if flag && not (nat_le 1 n && nat_le n 128) then Err fault.BadBlock else Ok tt

-- `n` words reserved at the end of a section, and their first address given to a name
unfoldable pub reserve : List ℕ → List ℕ → ℕ → Bool → Progress → Result Progress FaultKind
reserve section name n flag p =
    section_opened section false p >>= λ o. grow o.0 n o.1 >>= λ q.
    define name (place_in o.1.sections o.0) (block flag o.0 (size_at o.1.sections o.0) n q)

-- ---- names

-- whether a name is predefined: `AR0` to `AR7`, `PA0` to `PA15`
abbrev pub is_predefined : List ℕ → Bool
is_predefined name = is_some (predefined name)

-- an absolute value
abbrev pub value_of_number : ℕ → Value
value_of_number n = record { base = base.Absolute; offset = pos n }

-- the memory-mapped registers, by their data addresses (SPRU014, memory-mapped registers)
abbrev pub register_names : Definitions
register_names =
    (codes "DRR", value_of_number 0) ∷ (codes "DXR", value_of_number 1) ∷ (codes "TIM", value_of_number 2)
    ∷ (codes "PRD", value_of_number 3) ∷ (codes "IMR", value_of_number 4) ∷ (codes "GREG", value_of_number 5) ∷ []

-- a name gets the value of this pair
abbrev pub define_pair : Progress → List ℕ × Value → Result Progress FaultKind
define_pair p pair = define pair.0 pair.1 p

-- ---- the directives, each in the order in which its faults are reported

-- what is checked before the label is defined: the kind of the section, then a fault kept from reading the
-- operands
abbrev pub allowed : AssemblyAct → Progress → Result (Unit {0}) FaultKind
allowed (Enter section) p = of_kind section true p
allowed (Reserve section name room) p = of_kind section false p >>= λ _. room >>= λ r. Ok tt
allowed _ p = Ok tt

-- `.text`, `.data`, `.sect`: the current section from here on
abbrev pub enter : List ℕ → Progress → Result Progress FaultKind
enter section p = section_opened section true p >>= λ o. Ok (record o.1 { current = o.0 })

-- a reservation for a name: the count is checked before the flag, and the size of a block after both
abbrev pub reserve_room : List ℕ → List ℕ → Room → Progress → Result Progress FaultKind
reserve_room section name room p =
    count_in (table p) room.count >>= λ n. flag_in (table p) room.flag >>= λ flag. block_allowed flag n >>= λ _. reserve section name n flag p

-- `.bss`, `.usect`: that the name is new is checked before the operands' values
abbrev pub reserve_count : List ℕ → List ℕ → Result Room FaultKind → Progress → Result Progress FaultKind
reserve_count section name room p =
    if stands p.names name then Err fault.Defined
    else (room >>= λ r. reserve_room section name r p)

-- `.set`, `.equ`: that the name is new is checked before the value
abbrev pub equate : List ℕ → Tree → Progress → Result Progress FaultKind
equate name e p =
    if stands p.names name then Err fault.Defined
    else (valued (table p) e >>= λ v. define name v p)

-- an instruction, `.word`, `.int`, `.byte`: an item, and a mark for an instruction
abbrev pub put : FileLine (List ℕ) → Target → List Tree → Progress → Result Progress FaultKind
put origin t trees p =
    lay origin (Operands t trees) (target_size t (length trees)) p >>= λ q.
    mark origin t p.current (size_at p.sections p.current) (target_size t (length trees)) q

-- `.space`: a number of bits, rounded up to whole words of 0
abbrev pub space : FileLine (List ℕ) → Tree → Progress → Result Progress FaultKind
space origin e p = count_in (table p) e >>= λ n. lay origin (Zeros ((n + 15) / 16)) ((n + 15) / 16) p

-- `.global`, `.ref`: names that all modules see, and that another module may define
abbrev pub declare : List (List ℕ) → Progress → Result Progress FaultKind
declare names p =
    if list_any is_predefined names then Err fault.Defined
    else Ok (record p { declared = all_once p.declared names; exported = all_once p.exported names })

-- `.def`: names that all modules see, and that this module must define
abbrev pub export : FileLine (List ℕ) → List (List ℕ) → Progress → Result Progress FaultKind
export origin names p =
    if list_any is_predefined names then Err fault.Defined
    else Ok (with_item origin (Exported names) (record p { exported = all_once p.exported names }))

-- `.label`: the name of the address where the words after it are loaded, wherever they run
abbrev pub name_loaded : List ℕ → Progress → Result Progress FaultKind
name_loaded name p = define name (loaded_here p) p

-- `.mmregs`: the names of the memory-mapped registers; a second one has no effect
unfoldable pub registers : Progress → Result Progress FaultKind
registers p = if p.registers then Ok p else fold_ok define_pair (record p { registers = true }) register_names

-- the result of what a line asks for
abbrev pub act : FileLine (List ℕ) → AssemblyAct → Progress → Result Progress FaultKind
act origin Nothing p = Ok p
act origin (Enter section) p = enter section p
act origin (Reserve section name room) p = reserve_count section name room p
act origin (Equate name e) p = equate name e p
act origin (Put t trees) p = put origin t trees p
act origin (Load words) p = lay origin (Words words) (length words) p
act origin (Space e) p = space origin e p
act origin (Declare names) p = declare names p
act origin (Export names) p = export origin names p
act origin (Label name) p = name_loaded name p
act origin Registers p = registers p

-- ---- how many names

-- the names that are declared and not defined here: those of other modules
abbrev pub imports : Definitions → List (List ℕ) → List (List ℕ)
imports names declared = filter (λ name. not (stands names name)) declared

-- how many names are defined or declared, each counted once
abbrev pub name_count : Definitions → List (List ℕ) → ℕ
name_count names declared = length names + length (imports names declared)

-- nothing, where a module has at most 65,535 names; else TooLarge (54)
abbrev pub few : Progress → Result (Unit {0}) FaultKind
few p = if nat_lt 65535 (name_count p.names p.declared) then Err fault.TooLarge else Ok tt

-- one more line; its faults in the order in which they are reported: 52, 20 and 21 that wait for the
-- sections; 26; 22 to 25; 56; 54
unfoldable pub pass : FileLine (List ℕ) → Statement → Progress → Result Progress FaultKind
pass origin s p = allowed s.act p >>= λ _. label s.label p >>= λ q. act origin s.act q >>= λ r. few r >>= λ _. Ok r
