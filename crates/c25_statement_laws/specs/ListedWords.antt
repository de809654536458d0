-- The words that the listing of a source shows, next to those of the program (the listing's columns are this
-- project's own; SPRU018, source listings).
--
-- An example: line 4 of a source is `BNZ LOOP` at offset 2 of its `.text`, and LOOP is offset 0 of it. Its listing has
-- `0002 F580 ` on the line of that text and `0003 0000'` on the line after it. Loaded from 0020h on, the program has
-- F580h at 0022h, as the listing shows it, and 0020h at 0023h: the field is the whole word, which the listing shows
-- as 0.
use Rattle.std.specs.Prelude.{◌≡◌, ℕ, ◌+◌, ◌%◌, ◌<◌, Bool, true, false, nat_lt, List, Some, Ok, slice_index}
use Rattle.std.specs.List.{Contains, slice_get}
use Rattle.c25_meaning_assembly.specs.ItemPlaces.{words_in}
use Rattle.c25_meaning_assembly.specs.Listing.{Entry, is_at, is_relocated}
use Rattle.c25_meaning_assembly.specs.ModuleOfSource.{Assembled, assembled}
use Rattle.c25_meaning_assembly.specs.Sections.{PendingItem}
use Rattle.c25_meaning_common.specs.Fields.{field_values, filled}
use Rattle.c25_meaning_expansion.specs.Files.{Files}
use Rattle.c25_meaning_linking.specs.Place.{Place}
use Rattle.c25_meaning_linking.specs.Words.{section_base}
use Rattle.c25_meaning_objects.specs.Module.{Contents, words_at}
use Rattle.c25_meaning_objects.specs.declared.object.Relocation.{Relocation}

-- ---- which words a line made

-- where a line's words stand: the line's number, a section, an offset in it and a count
pub record Extent : Type 0 where
  pub line : ℕ
  pub section : ℕ
  pub offset : ℕ
  pub count : ℕ

-- the words that an entry of a listing shows
abbrev pub entry_extent : Entry → Extent
entry_extent e = record { line = e.line; section = e.section; offset = e.offset; count = e.count }

-- the words of an item
abbrev pub item_extent : PendingItem → Extent
item_extent i = record { line = i.origin.line; section = i.section; offset = i.offset; count = words_in i.content }

-- whether there is a word
abbrev pub has_words : Extent → Bool
has_words x = nat_lt 0 x.count

-- ---- a word of a listing

-- the listing of the source of this number has an entry with a word at this index
pub record IsListed (files : Files) (names : List (List ℕ)) (number : ℕ) (e : Entry) (within : ℕ) : Type 0 where
  pub name : List ℕ
  pub made : Assembled
  pub name_is : slice_get names number ≡ Some name
  pub made_is : assembled files name ≡ Ok made
  pub entry_is : Contains made.entries e
  pub small : within < e.count

-- the word that the listing shows there (`word_column`)
abbrev pub shown : Contents → Entry → ℕ → ℕ
shown m e within = slice_index (words_at m.sections e.section) (e.offset + within)

-- whether `'` stands after it
abbrev pub is_open : Contents → Entry → ℕ → Bool
is_open m e within = is_relocated m e.section (e.offset + within)

-- the address where it is loaded: its section's part of the source's module, and its offset there
abbrev pub listed_address : List Contents → List Place → ℕ → Contents → Entry → ℕ → ℕ
listed_address modules places number m e within = section_base modules places number m e.section + e.offset + within

-- a word agrees with what the listing shows: it is the same where no `'` stands after it; and where one does, it is
-- the same but for one field, which the listing shows as 0
pub record Agrees (m : Contents) (e : Entry) (within word : ℕ) : Type 0 where
  pub plain : is_open m e within ≡ false → word ≡ shown m e within
  pub but_field : is_open m e within ≡ true → (r : Relocation) × Contains m.relocations r × (is_at e.section (e.offset + within) r ≡ true)
      × ((value : ℕ) × (value < field_values r.kind) × (word ≡ filled r.kind value (shown m e within)) × (shown m e within % field_values r.kind ≡ 0))
