-- The words of parts, and which parts are those of an image: what is taken for an instruction or has a name is free, the words are not.
use Rattle.std.specs.Prelude.{◌≡◌, ◌⊎◌, ℕ, ◌+◌, ◌<◌, ◌≤◌, List, [], ◌∷◌, length, Some}
use Rattle.std.specs.FinMap as finite
use Rattle.std.specs.List.{All, flat_map}
use Rattle.std.specs.Ordering.{nat_cmp}
use Rattle.c25_layout.specs.Blank.{IsBlank}
use Rattle.c25_layout.specs.declared.layout.Item.{Item}
use Rattle.c25_layout.specs.declared.layout.Item.TheVariants as item
use Rattle.c25_layout.specs.declared.layout.Part.{Part}
use Rattle.c25_layout.specs.declared.layout.Row.{Row}
use Rattle.c25_meaning_instructions.specs.Table.{InRange, words}
use Rattle.c25_meaning_instructions.specs.declared.insn.Insn.{Insn}

-- ---- words of rows and parts

-- the words of a row: the number of an instruction with a name is the one that it was read with
abbrev pub item_words : Item → List ℕ
item_words (item.Plain i) = words i
item_words (item.Named i t) = words i
item_words (item.Words ws) = ws.items
item_words (item.Address number t) = number ∷ []

-- the words of rows
abbrev pub rows_words : List Row → List ℕ
rows_words rows = flat_map (λ r. item_words r.item) rows

-- the words of parts
abbrev pub parts_words : List Part → List ℕ
parts_words parts = flat_map (λ p. rows_words p.rows.items) parts

-- ---- words of an image

-- an image has these words, one after the other, from an address on
abbrev pub StandAt : finite.FinMap nat_cmp ℕ → ℕ → List ℕ → Type 0
StandAt image address [] = Unit {0}
StandAt image address (word ∷ rest) = (finite.get image address ≡ Some word) × StandAt image (address + 1) rest

-- the words of an instruction stand in an image at an address
pub record HasInsn (image : finite.FinMap nat_cmp ℕ) (address : ℕ) (i : Insn) : Type 0 where
  pub stands : StandAt image address (words i)
  pub inside : address + length (words i) ≤ 65536
  pub in_range : InRange i

-- the operands of an instruction are in range, and one line has few words of data
abbrev pub IsSayable : Item → Type 0
IsSayable (item.Plain i) = InRange i
IsSayable (item.Named i t) = InRange i
IsSayable (item.Words ws) = length ws.items ≤ 16
IsSayable (item.Address number t) = Unit {0}

-- the words of a row, one at least, stand in an image at an address, and a line can say them
pub record IsItem (image : finite.FinMap nat_cmp ℕ) (address : ℕ) (i : Item) : Type 0 where
  pub stands : StandAt image address (item_words i)
  pub some : 0 < length (item_words i)
  pub inside : address + length (item_words i) ≤ 65536
  pub sayable : IsSayable i

-- rows stand from an address on, one after the other
abbrev pub AreRows : finite.FinMap nat_cmp ℕ → ℕ → List Row → Type 0
AreRows image address [] = Unit {0}
AreRows image address (row ∷ rest) = (row.address ≡ address) × IsItem image address row.item × AreRows image (address + length (item_words row.item)) rest

-- the rows of a part stand in an image from its address on
abbrev pub IsPart : finite.FinMap nat_cmp ℕ → Part → Type 0
IsPart image part = AreRows image part.address part.rows.items

-- an address is that of a word of a part
abbrev pub IsIn : Part → ℕ → Type 0
IsIn part address = (part.address ≤ address) × (address < part.address + length (rows_words part.rows.items))

-- an address is that of a word of one of some parts
abbrev pub IsInOne : List Part → ℕ → Type 0
IsInOne [] address = ⊥
IsInOne (part ∷ rest) address = IsIn part address ⊎ IsInOne rest address

-- parts with words follow one another from an address on, and end with the memory
abbrev pub Follow : ℕ → List Part → Type 0
Follow from [] = Unit {0}
Follow from (p ∷ parts) =
    (from ≤ p.address) × (0 < length (rows_words p.rows.items)) × (p.address + length (rows_words p.rows.items) ≤ 65536) × Follow (p.address + length (rows_words p.rows.items)) parts

-- parts of an image, one after the other: the words of each stand in the image, and each word of the image is in one of
-- them, but for those that stand among `blank` erased words at least, one after the other
pub record ArePartsOf (image : finite.FinMap nat_cmp ℕ) (blank : ℕ) (parts : List Part) : Type 0 where
  pub stand : All (IsPart image) parts
  pub follow : Follow 0 parts
  pub whole : (address word : ℕ) → address < 65536 → finite.get image address ≡ Some word → IsInOne parts address ⊎ IsBlank image blank address
  pub few : length (parts_words parts) ≤ 65536

-- ---- what is found on the way

-- a part begins at an address and ends before another
pub record IsPartTo (image : finite.FinMap nat_cmp ℕ) (address : ℕ) (part : Part) (end : ℕ) : Type 0 where
  pub begins : part.address ≡ address
  pub stands : IsPart image part
  pub ends : end ≡ address + length (rows_words part.rows.items)
  pub some : address < end
  pub inside : end ≤ 65536

-- parts end before an address, which is this one for none
abbrev pub EndBy : ℕ → List Part → ℕ → Type 0
EndBy from [] end = from ≤ end
EndBy from (p ∷ parts) end = EndBy (p.address + length (rows_words p.rows.items)) parts end

-- the words of an image before an address are in parts, and no others
pub record ArePartsTo (image : finite.FinMap nat_cmp ℕ) (blank : ℕ) (parts : List Part) (end : ℕ) : Type 0 where
  pub stand : All (IsPart image) parts
  pub follow : Follow 0 parts
  pub end_by : EndBy 0 parts end
  pub whole : (address word : ℕ) → address < end → finite.get image address ≡ Some word → IsInOne parts address ⊎ IsBlank image blank address
  pub few : length (parts_words parts) ≤ end
  pub inside : end ≤ 65536
