-- The address of `.bss` in a command file, where a block would cross a page of data memory.
use Rattle.std.specs.Prelude.{◌≡◌, ◌⊎◌, ℕ, ◌+◌, ◌*◌, ◌/◌, ◌%◌, ◌^◌, ◌-◌, ◌==◌, nat_le, nat_lt, max, min, Bool, true, false, ◌&&◌, ◌||◌, if◌then◌else◌, List, [], ◌∷◌, ◌++◌, Option, Some, None, Ok, bytes_eq, codes, fold, unwrap_or}
use Rattle.std.specs.List.{list_all, list_any}
use Rattle.c25_meaning_common.specs.Digits.{four_digits}
use Rattle.c25_meaning_linking.specs.Command.{At, CommandData, PlacingData, RangeData, TargetData}
use Rattle.c25_meaning_linking.specs.CommandText.{command_of}
use Rattle.c25_meaning_linking.specs.GoodMap.{is_inside, placings_for, ranges_for}
use Rattle.c25_moving.specs.declared.blocks.BlockAt.{BlockAt}
use Rattle.c25_moving.specs.declared.blocks.Reserved.{Reserved}
use Rattle.c25_moving.specs.declared.bss_place.BssPlace.{BssPlace}
use Rattle.c25_moving.specs.declared.bss_place.BssPlace.TheVariants.{AtPage, Stays, WithinPage}
use Rattle.c25_moving.specs.declared.bss_given.Given.{Given}

-- ---- the address

-- whether a block lies in one page, where its part begins at this address
abbrev pub is_in_page : (address : ℕ) → BlockAt → Bool
is_in_page address b = nat_le ((address + b.place) % 128 + b.size) 128

-- whether each block of parts, one part after another, lies in one page, where the first part begins at this address
unfoldable pub parts_fit : (address : ℕ) → List Reserved → Bool
parts_fit address [] = true
parts_fit address (p ∷ ps) = list_all (is_in_page address) p.blocks.items && parts_fit (address + p.words) ps

-- where the next page begins; an address that begins a page is that itself
abbrev pub next_page : ℕ → ℕ
next_page address = (address + 127) / 128 * 128

-- the address of `.bss` in place of this one: the same where no block crosses a page from there, else where the next page begins
abbrev pub bss_address : (given : ℕ) → List Reserved → ℕ
bss_address given parts = if parts_fit given parts then given else next_page given

-- how many words parts have; more than can be counted are as many as can
abbrev pub words_in : List Reserved → ℕ
words_in parts = fold (λ n p. min (n + p.words) (2 ^ 32 - 1)) 0 parts

-- whether so many words from an address on lie inside so many from this origin on; without words the address does
abbrev pub is_within : (address words origin size : ℕ) → Bool
is_within address words origin size = nat_le origin address && nat_le (address + max words 1) (origin + size)

-- whether so many words from an address on lie inside a range of this page
abbrev pub has_room : (page address words : ℕ) → List RangeData → Bool
has_room page address words ranges = list_any (λ r. page == r.page && is_inside address words r) ranges

-- what becomes of an address that is to become this one: it does if a range of its page has room there
abbrev pub moved_to : (page address words : ℕ) → List RangeData → BssPlace
moved_to page address words ranges = if nat_lt address 65536 && has_room page address words ranges then AtPage address else WithinPage

-- what becomes of the address of `.bss`
abbrev pub bss_place : Given → List RangeData → List Reserved → BssPlace
bss_place given ranges parts =
    if bss_address given.address parts == given.address then Stays
    else moved_to given.page (bss_address given.address parts) (words_in parts) ranges

-- ---- the command file

-- the address and the page of this target
abbrev pub given_at : TargetData → (page : Option ℕ) → Option Given
given_at (At address) page = Some (record { address = address; page = unwrap_or page 0 })
given_at target page = None

-- the address that placings give `.bss`, if they do, with its page: without a number after PAGE it is page 0
unfoldable pub given_in : List PlacingData → Option Given
given_in [] = None
given_in (p ∷ ps) = if bytes_eq p.name (codes ".bss") then given_at p.target p.page else given_in ps

-- a text is a command that gives `.bss` this address
abbrev pub Gives : (text : List ℕ) → Given → Type 0
Gives text given = (command : CommandData) × (command_of text ≡ Ok command) × (given_in (placings_for command) ≡ Some given)

-- a text is another one with this word in place of some bytes
pub record IsReplaced (old new word : List ℕ) : Type 0 where
  pub front : List ℕ
  pub was : List ℕ
  pub back : List ℕ
  pub old_is : old ≡ front ++ was ++ back
  pub new_is : new ≡ front ++ word ++ back

-- an address in hexadecimal, as a command file has it
abbrev pub address_text : ℕ → List ℕ
address_text address = codes "0x" ++ four_digits address

-- a command file gives `.bss` this address in place of another one, and is otherwise the old text, byte for byte
pub record IsMoved (old new : List ℕ) (given : Given) (address : ℕ) : Type 0 where
  pub replaced : IsReplaced old new (address_text address)
  pub gives : Gives new (record given { address = address })

-- a command file is changed since a block would cross a page: the old one gives `.bss` an address, parts of it have such a block
-- from there, and the new one gives it the address where the next page begins, in a range that has the words
pub record IsAtPage (old new : List ℕ) : Type 0 where
  pub given : Given
  pub command : CommandData
  pub reads : command_of old ≡ Ok command
  pub gives : given_in (placings_for command) ≡ Some given
  pub parts : List Reserved
  pub address : ℕ
  pub place : bss_place given (ranges_for command) parts ≡ AtPage address
  pub moved : IsMoved old new given address

-- a command file is the old one, or gives `.bss` the address where the next page begins
abbrev pub IsPlaced : (old new : List ℕ) → Type 0
IsPlaced old new = (new ≡ old) ⊎ IsAtPage old new
