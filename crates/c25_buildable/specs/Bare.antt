-- Parts without their names: the same words, and each runs where it is loaded.
use Rattle.std.specs.Prelude.{◌≡◌, List, [], ◌∷◌, Option, None}
use Rattle.c25_layout.specs.Layout.{IsSayable, item_words}
use Rattle.c25_layout.specs.declared.layout.Item.{Item}
use Rattle.c25_layout.specs.declared.layout.Item.TheVariants as item
use Rattle.c25_layout.specs.declared.layout.Part.{Part}
use Rattle.c25_layout.specs.declared.layout.Row.{Row}

-- a row has no name in place of a number
abbrev pub IsNameless : Item → Type 0
IsNameless (item.Plain i) = Unit {0}
IsNameless (item.Named i t) = ⊥
IsNameless (item.Words ws) = Unit {0}
IsNameless (item.Address number t) = ⊥

-- an item is another one without its name
pub record IsBareItem (i bare : Item) : Type 0 where
  pub words : item_words bare ≡ item_words i
  pub sayable : IsSayable i → IsSayable bare
  pub nameless : IsNameless bare

-- a row is another one without its names
pub record IsBareRow (r bare : Row) : Type 0 where
  pub address : bare.address ≡ r.address
  pub label : bare.label ≡ None
  pub load_label : bare.load_label ≡ None
  pub item : IsBareItem r.item bare.item

-- rows are others without their names
abbrev pub AreBareRows : List Row → List Row → Type 0
AreBareRows [] [] = Unit {0}
AreBareRows [] (b ∷ bare) = ⊥
AreBareRows (r ∷ rows) [] = ⊥
AreBareRows (r ∷ rows) (b ∷ bare) = IsBareRow r b × AreBareRows rows bare

-- a part is another one without its names, and runs where it is loaded
pub record IsBarePart (p bare : Part) : Type 0 where
  pub address : bare.address ≡ p.address
  pub run : bare.run ≡ None
  pub rows : AreBareRows p.rows.items bare.rows.items

-- parts are others without their names, and run where they are loaded
abbrev pub AreBareParts : List Part → List Part → Type 0
AreBareParts [] [] = Unit {0}
AreBareParts [] (b ∷ bare) = ⊥
AreBareParts (p ∷ parts) [] = ⊥
AreBareParts (p ∷ parts) (b ∷ bare) = IsBarePart p b × AreBareParts parts bare
