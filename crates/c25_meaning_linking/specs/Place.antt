-- The places of a program's parts: the sections of one name in all modules are one section of the program, in
-- the order of the modules and one after the other (SPRU018, linker description, the SECTIONS directive).
use Rattle.std.specs.Prelude.{◌≡◌, ℕ, ◌+◌, ◌<◌, ◌≤◌, Bool, false, ◌&&◌, List, [], ◌∷◌, ◌++◌, Option, Some, filter, is_some, unwrap_or, find, map, take, if◌then◌else◌}
use Rattle.std.specs.Option.{option_map_or}
use Rattle.std.specs.List.{list_any, flat_map, slice_get, sum_by}
use Rattle.std.specs.Str.{bytes_eq}
use Rattle.c25_meaning_objects.specs.Module.{SectionData, Contents, body_size, has_words}
use Rattle.c25_meaning_objects.specs.declared.object.Block.{Block}

-- a section of the program: its page, the address of its first word, how many words it has, and its run
-- address, if SECTIONS gives one
pub record Place : Type 0 where
  pub name : List ℕ
  pub page : ℕ
  pub base : ℕ
  pub size : ℕ
  pub run : Option ℕ

-- the address where the first word of a section runs: its run address, or else where it is loaded
abbrev pub run_base : Place → ℕ
run_base p = unwrap_or p.run p.base

-- what each module gives, one module after the other; the modules are numbered from `number` on
abbrev pub by_modules : {A : Type 0} → (ℕ → Contents → List A) → ℕ → List Contents → List A
by_modules gives number [] = []
by_modules gives number (m ∷ modules) = gives number m ++ by_modules gives (number + 1) modules

-- the sections of modules, one module after the other
abbrev pub all_sections : List Contents → List SectionData
all_sections modules = flat_map (λ m. m.sections) modules

-- whether a section has this name
abbrev pub is_section_named : List ℕ → SectionData → Bool
is_section_named name s = bytes_eq name s.name

-- how many words a section adds to the section of this name
abbrev pub size_for : List ℕ → SectionData → ℕ
size_for name s = if is_section_named name s then body_size s.body else 0

-- how many words the modules have in sections of this name
abbrev pub size_of_parts : List ℕ → List Contents → ℕ
size_of_parts name modules = sum_by (size_for name) (all_sections modules)

-- whether a module has a section of this name
abbrev pub is_there : List ℕ → List Contents → Bool
is_there name modules = list_any (is_section_named name) (all_sections modules)

-- whether a module has an initialised section of this name
abbrev pub is_initialised : List ℕ → List Contents → Bool
is_initialised name modules = list_any (λ s. is_section_named name s && has_words s.body) (all_sections modules)

-- a block of a section of the program: how many words of the section stand before it, and how many words it has
pub record BlockData : Type 0 where
  pub offset : ℕ
  pub size : ℕ

-- whether a block of a module is in its section of this name
abbrev pub is_block_named : List ℕ → Contents → Block → Bool
is_block_named name m b = option_map_or (is_section_named name) (slice_get m.sections b.section) false

-- a block of a part that has this many words of its section before it
abbrev pub block_behind : ℕ → Block → BlockData
block_behind words b = record { offset = words + b.offset; size = b.size }

-- the blocks that a module adds to the section of this name, where its part has this many words before it
abbrev pub blocks_behind : List ℕ → ℕ → Contents → List BlockData
blocks_behind name words m = map (block_behind words) (filter (is_block_named name m) m.blocks)

-- the blocks that a module adds, after the parts of the modules before it; modules are counted from 0
abbrev pub part_blocks : List Contents → List ℕ → ℕ → Contents → List BlockData
part_blocks modules name number m = blocks_behind name (size_of_parts name (take number modules)) m

-- the blocks of the section of this name, by modules
abbrev pub blocks_of : List ℕ → List Contents → List BlockData
blocks_of name modules = by_modules (part_blocks modules name) 0 modules

-- the place of the section of this name
abbrev pub place_named : List ℕ → List Place → Option Place
place_named name places = find (λ p. bytes_eq name p.name) places

-- the address where a section is loaded; 0 where there is no such section
abbrev pub base_of : List ℕ → List Place → ℕ
base_of name places = option_map_or (λ p. p.base) (place_named name places) 0

-- the address where a section runs; 0 where there is no such section
abbrev pub run_base_of : List ℕ → List Place → ℕ
run_base_of name places = option_map_or run_base (place_named name places) 0

-- whether a section has a run address; it is then taken to run elsewhere than it is loaded
abbrev pub runs_elsewhere : List ℕ → List Place → Bool
runs_elsewhere name places = option_map_or (λ p. is_some p.run) (place_named name places) false

-- the page of a section; 0 where there is no such section
abbrev pub page_of : List ℕ → List Place → ℕ
page_of name places = option_map_or (λ p. p.page) (place_named name places) 0

-- the address where the part of a module is loaded, after the parts of the modules before it; modules are
-- counted from 0
abbrev pub part_base : List Contents → List Place → ℕ → List ℕ → ℕ
part_base modules places number name = base_of name places + size_of_parts name (take number modules)

-- the address where the part of a module runs, after the parts of the modules before it
abbrev pub part_run : List Contents → List Place → ℕ → List ℕ → ℕ
part_run modules places number name = run_base_of name places + size_of_parts name (take number modules)

-- a word is one of `size` words from `base` on
pub record Covers (base size word : ℕ) : Type 0 where
  pub from : base ≤ word
  pub upto : word < base + size

-- the module of this number is `owner`, and its section of this index is `section`
pub record IsPart (modules : List Contents) (number index : ℕ) (owner : Contents) (section : SectionData) : Type 0 where
  pub owner_is : slice_get modules number ≡ Some owner
  pub section_is : slice_get owner.sections index ≡ Some section

-- an address of a page lies in the part that a module has of a section of the program
pub record LiesIn (modules : List Contents) (places : List Place) (number : ℕ) (section : SectionData) (page address : ℕ) : Type 0 where
  pub page_is : page ≡ page_of section.name places
  pub covers : Covers (part_base modules places number section.name) (body_size section.body) address
