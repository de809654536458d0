-- The places of the sections of a program, or which section cannot be placed (SPRU018, linker description,
-- the directives MEMORY and SECTIONS, and assembler description, the blocking flag of .bss; the order of
-- placement and the ranges without MEMORY are this project's own).
use Rattle.std.specs.Prelude.{◌≡◌, ℕ, ◌+◌, ◌%◌, ◌<◌, ◌≤◌, ◌==◌, Bool, true, false, ◌&&◌, not, List, [], ◌∷◌, ◌++◌, Option, None, IfSome, Result, Ok, Err, filter, map, reverse, max, unwrap_or, codes, if◌then◌else◌, All, nat_le, nat_lt, ◌⊎◌}
use Rattle.std.specs.List.{list_all, list_any}
use Rattle.std.specs.Option.{option_map_or}
use Rattle.std.specs.Str.{bytes_eq}
use Rattle.c25_meaning_objects.specs.Module.{Contents}
use Rattle.c25_meaning_linking.specs.Command.{RangeData, TargetData, Anywhere, InRange, At, PlacingData, CommandData}
use Rattle.c25_meaning_linking.specs.Place.{Place, Covers, BlockData, all_sections, blocks_of, size_of_parts, is_there, is_initialised}
use Rattle.c25_meaning_linking.specs.declared.link_fault.LinkFault.{LinkFault}
use Rattle.c25_meaning_linking.specs.declared.link_fault.LinkFault.TheVariants.{NoRange, DoesNotFit, Overlap, BadRun}
use Rattle.c25_meaning_common.specs.declared.placed.Placed.{Placed}

-- ---- the sections to be placed, in the order of placement

-- a section that is to be placed: its size, whether it is initialised, what SECTIONS says of its place, its
-- blocks, and its run address, if SECTIONS gives one
pub record Request : Type 0 where
  pub name : List ℕ
  pub size : ℕ
  pub initialised : Bool
  pub target : TargetData
  pub page : Option ℕ
  pub blocks : List BlockData
  pub run : Option ℕ

-- the section of this name, which all modules make together, with this target, page and run address
abbrev pub request : List Contents → List ℕ → TargetData → Option ℕ → Option ℕ → Request
request modules name target page run = record {
  name = name;
  size = size_of_parts name modules;
  initialised = is_initialised name modules;
  target = target;
  page = page;
  blocks = blocks_of name modules;
  run = run;
}

-- a section that SECTIONS lists
abbrev pub listed_request : List Contents → PlacingData → Request
listed_request modules p = request modules p.name p.target p.page p.run

-- a section that SECTIONS does not list
abbrev pub unlisted_request : List Contents → List ℕ → Request
unlisted_request modules name = request modules name Anywhere None None

-- whether the target is an address
abbrev pub has_address : TargetData → Bool
has_address (At address) = true
has_address _ = false

-- whether a listed section is placed first: a module has it, and its target is an address
abbrev pub comes_first : List Contents → PlacingData → Bool
comes_first modules p = has_address p.target && is_there p.name modules

-- whether a listed section is placed after those with an address: a module has it, and its target is not an
-- address
abbrev pub comes_later : List Contents → PlacingData → Bool
comes_later modules p = not (has_address p.target) && is_there p.name modules

-- whether a name is in this list
abbrev pub is_among : List ℕ → List (List ℕ) → Bool
is_among name names = list_any (bytes_eq name) names

-- the names that are not in `seen`, each once, in the order of first appearance
abbrev pub new_names : List (List ℕ) → List (List ℕ) → List (List ℕ)
new_names seen [] = []
new_names seen (name ∷ names) = if is_among name seen then new_names seen names else name ∷ new_names (name ∷ seen) names

-- the names of the sections that SECTIONS does not list, in the order of first appearance in the modules
abbrev pub unlisted_names : List Contents → List PlacingData → List (List ℕ)
unlisted_names modules placings = new_names (map (λ p. p.name) placings) (map (λ s. s.name) (all_sections modules))

-- the sections in the order of placement: first the listed ones with an address, then the other listed ones,
-- then those that are not listed
abbrev pub requests : List Contents → List PlacingData → List Request
requests modules placings =
    map (listed_request modules) (filter (comes_first modules) placings)
    ++ map (listed_request modules) (filter (comes_later modules) placings)
    ++ map (unlisted_request modules) (unlisted_names modules placings)

-- ---- the ranges that a section may be placed in

-- the ranges without MEMORY: all words of page 0, and the words of page 1 from 300h on
abbrev pub default_ranges : List RangeData
default_ranges =
    record { page = 0; name = codes "PROG"; origin = 0; size = 65536 }
    ∷ record { page = 1; name = codes "DATA"; origin = 768; size = 64768 } ∷ []

-- the ranges of a command
abbrev pub ranges_for : CommandData → List RangeData
ranges_for c = unwrap_or c.memory default_ranges

-- the sections that a command lists
abbrev pub placings_for : CommandData → List PlacingData
placings_for c = unwrap_or c.sections []

-- whether a range has this page and name
abbrev pub is_named_on : List ℕ → ℕ → RangeData → Bool
is_named_on name page r = r.page == page && bytes_eq name r.name

-- the page of a section where SECTIONS names none: for the name of a range, 0 if a range of page 0 has that
-- name, else 1; for an address 0; without a target 0 if the section is initialised and 1 if not
abbrev pub default_page : List RangeData → TargetData → Bool → ℕ
default_page ranges Anywhere initialised = if initialised then 0 else 1
default_page ranges (InRange name) initialised = if list_any (is_named_on name 0) ranges then 0 else 1
default_page ranges (At address) initialised = 0

-- the page of a section
abbrev pub page_for : List RangeData → Request → ℕ
page_for ranges r = unwrap_or r.page (default_page ranges r.target r.initialised)

-- whether a range is one for this target: the one of the target's name on the page, or else any on the page
abbrev pub is_usable : TargetData → ℕ → RangeData → Bool
is_usable (InRange name) page r = is_named_on name page r
is_usable _ page r = r.page == page

-- the ranges that a section may be placed in
abbrev pub usable : List RangeData → Request → List RangeData
usable ranges r = filter (is_usable r.target (page_for ranges r)) ranges

-- ---- addresses

-- whether a section lies wholly inside a range; the address of an empty section is a word of the range
abbrev pub is_inside : ℕ → ℕ → RangeData → Bool
is_inside base size r = nat_le r.origin base && nat_le (base + max size 1) (r.origin + r.size)

-- whether a word of a page lies in the section placed there
abbrev pub has_word : ℕ → ℕ → Place → Bool
has_word page word p = p.page == page && nat_le p.base word && nat_lt word (p.base + p.size)

-- whether a word of a page lies in one of these placed sections
abbrev pub is_taken : ℕ → List Place → ℕ → Bool
is_taken page places word = list_any (has_word page word) places

-- no word of a section at this address lies in a section placed on its page before
abbrev pub IsFree : ℕ → ℕ → ℕ → List Place → Type 0
IsFree page base size places = (word : ℕ) → Covers base size word → is_taken page places word ≡ false

-- whether a block of a section at this address lies inside one page of 128 words: from the block's first word
-- on, the page has room for the whole block
abbrev pub is_paged : ℕ → BlockData → Bool
is_paged base b = nat_le ((base + b.offset) % 128 + b.size) 128

-- whether each block of a section at this address lies inside one page of 128 words
abbrev pub blocks_fit : ℕ → List BlockData → Bool
blocks_fit base blocks = list_all (is_paged base) blocks

-- a section fits at an address: inside the range, its blocks inside their pages, and free of the sections
-- placed before
pub record FitsAt (page base size : ℕ) (blocks : List BlockData) (range : RangeData) (places : List Place) : Type 0 where
  pub inside : is_inside base size range ≡ true
  pub paged : blocks_fit base blocks ≡ true
  pub free : IsFree page base size places

-- this is the least address of a range at which a section fits
pub record IsLeastFit (page size : ℕ) (blocks : List BlockData) (range : RangeData) (places : List Place) (base : ℕ) : Type 0 where
  pub fits : FitsAt page base size blocks range places
  pub least : (other : ℕ) → FitsAt page other size blocks range places → base ≤ other

-- a section fits nowhere in a range
abbrev pub NoneFits : ℕ → ℕ → List BlockData → List Place → RangeData → Type 0
NoneFits page size blocks places range = (base : ℕ) → ¬ FitsAt page base size blocks range places

-- this is the least address at which a section fits in the first range where it fits
pub record IsFirstFit (page size : ℕ) (blocks : List BlockData) (ranges : List RangeData) (places : List Place) (base : ℕ) : Type 0 where
  pub before : List RangeData
  pub range : RangeData
  pub after : List RangeData
  pub ranges_are : ranges ≡ before ++ range ∷ after
  pub none_before : All (NoneFits page size blocks places) before
  pub least : IsLeastFit page size blocks range places base

-- ---- one section

-- whether a section may lie at its address: each block inside one page, and the section inside one of the
-- ranges
abbrev pub may_stand : ℕ → ℕ → List BlockData → List RangeData → Bool
may_stand address size blocks ranges = blocks_fit address blocks && list_any (is_inside address size) ranges

-- where a section with an address is loaded, or why it cannot be loaded there
abbrev pub IsBaseAt : ℕ → ℕ → ℕ → List BlockData → List RangeData → List Place → Result ℕ LinkFault → Type 0
IsBaseAt address page size blocks ranges places (Ok base) =
    (base ≡ address) × (may_stand address size blocks ranges ≡ true) × IsFree page address size places
IsBaseAt address page size blocks ranges places (Err DoesNotFit) = may_stand address size blocks ranges ≡ false
IsBaseAt address page size blocks ranges places (Err Overlap) =
    (may_stand address size blocks ranges ≡ true) × ¬ IsFree page address size places
IsBaseAt address page size blocks ranges places (Err _) = ⊥

-- where a section without an address is loaded, or that it fits nowhere; an empty one is put at the origin of
-- the first range
abbrev pub IsBaseIn : ℕ → ℕ → List BlockData → RangeData → List RangeData → List Place → Result ℕ LinkFault → Type 0
IsBaseIn page size blocks first ranges places (Ok base) =
    (size ≡ 0 → base ≡ first.origin) × (0 < size → IsFirstFit page size blocks ranges places base)
IsBaseIn page size blocks first ranges places (Err DoesNotFit) = (0 < size) × All (NoneFits page size blocks places) ranges
IsBaseIn page size blocks first ranges places (Err _) = ⊥

-- where a section is loaded, or why it cannot be; the list has the ranges that it may be placed in
abbrev pub IsBase : TargetData → ℕ → ℕ → List BlockData → List RangeData → List Place → Result ℕ LinkFault → Type 0
IsBase target page size blocks [] places answer = answer ≡ Err NoRange
IsBase (At address) page size blocks (first ∷ ranges) places answer = IsBaseAt address page size blocks (first ∷ ranges) places answer
IsBase target page size blocks (first ∷ ranges) places answer = IsBaseIn page size blocks first (first ∷ ranges) places answer

-- where a section is loaded among the sections placed before it, or why it cannot be
abbrev pub IsBaseOf : List RangeData → List Place → Request → Result ℕ LinkFault → Type 0
IsBaseOf ranges places r answer = IsBase r.target (page_for ranges r) r.size r.blocks (usable ranges r) places answer

-- ---- where a section runs

-- whether a section has a run address, and this word is one where it runs
abbrev pub runs_at : ℕ → Place → Bool
runs_at word p = option_map_or (λ run. nat_le run word && nat_lt word (run + p.size)) p.run false

-- whether one of these sections has a run address, and this word is one where it runs
abbrev pub is_run_at : List Place → ℕ → Bool
is_run_at places word = list_any (runs_at word) places

-- none of these sections has a run address and runs at one of `size` words from `run` on
abbrev pub IsRunFree : ℕ → ℕ → List Place → Type 0
IsRunFree run size places = (word : ℕ) → Covers run size word → is_run_at places word ≡ false

-- a section may run at an address: it is initialised, is loaded on page 0, and runs at words of block B0,
-- seen at FF00h to FFFFh, at which no section with a run address that was placed before it runs
pub record RunsAt (ranges : List RangeData) (places : List Place) (r : Request) (run : ℕ) : Type 0 where
  pub from : 0xFF00 ≤ run
  pub below : run ≤ 0xFFFF
  pub upto : run + r.size ≤ 0x10000
  pub initialised : r.initialised ≡ true
  pub page : page_for ranges r ≡ 0
  pub free : IsRunFree run r.size places

-- a section may run where the command says, if the command says where
abbrev pub Runs : List RangeData → List Place → Request → Type 0
Runs ranges places r = IfSome r.run (RunsAt ranges places r)

-- why a section cannot be placed: it cannot be loaded, or else it cannot run where the command says
abbrev pub IsUnfit : List RangeData → List Place → Request → LinkFault → Type 0
IsUnfit ranges places r fault =
    IsBaseOf ranges places r (Err fault)
    ⊎ ((base : ℕ) × IsBaseOf ranges places r (Ok base) × ¬ Runs ranges places r × (fault ≡ BadRun))

-- this is the place of a section among the sections placed before it
pub record Stands (ranges : List RangeData) (places : List Place) (r : Request) (p : Place) : Type 0 where
  pub name_is : p.name ≡ r.name
  pub page_is : p.page ≡ page_for ranges r
  pub size_is : p.size ≡ r.size
  pub base_is : IsBaseOf ranges places r (Ok p.base)
  pub run_is : p.run ≡ r.run
  pub runs : Runs ranges places r

-- ---- all sections

-- each section has its place among the places of those before it; both lists have the last one first
abbrev pub Stand : List RangeData → List Request → List Place → Type 0
Stand ranges [] [] = Unit {0}
Stand ranges [] (p ∷ places) = ⊥
Stand ranges (r ∷ requests) [] = ⊥
Stand ranges (r ∷ requests) (p ∷ places) = Stands ranges (reverse places) r p × Stand ranges requests places

-- these are the places of all sections, in the order of placement
abbrev pub ArePlaced : List RangeData → List Request → List Place → Type 0
ArePlaced ranges requests places = Stand ranges (reverse requests) (reverse places)

-- the first section that cannot be placed, and why
pub record IsUnplaced (ranges : List RangeData) (requests : List Request) (refusal : Placed (List ℕ) LinkFault) : Type 0 where
  pub before : List Request
  pub refused : Request
  pub after : List Request
  pub places : List Place
  pub requests_are : requests ≡ before ++ refused ∷ after
  pub placed : ArePlaced ranges before places
  pub fault_is : IsUnfit ranges places refused refusal.fault
  pub name_is : refusal.place ≡ refused.name

-- the places of the sections of these modules under a command
abbrev pub IsGoodMap : List Contents → CommandData → List Place → Type 0
IsGoodMap modules command places = ArePlaced (ranges_for command) (requests modules (placings_for command)) places
