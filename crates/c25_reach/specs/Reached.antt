-- What the words of the parts of an image are taken for, counted.
use Rattle.std.specs.Prelude.{◌+◌, List, [], ◌∷◌, length}
use Rattle.c25_layout.specs.declared.layout.Item.{Item}
use Rattle.c25_layout.specs.declared.layout.Item.TheVariants as item
use Rattle.c25_layout.specs.declared.layout.Part.{Part}
use Rattle.c25_layout.specs.declared.layout.Row.{Row}
use Rattle.c25_meaning_instructions.specs.Table.{size_of}
use Rattle.c25_reach.specs.declared.reach.Reach.{Reach}

-- nothing yet
abbrev pub nothing : Reach
nothing = record { instructions = 0; instruction_words = 0; data_words = 0 }

-- what two have together
abbrev pub together : Reach → Reach → Reach
together a b = record {
  instructions = a.instructions + b.instructions;
  instruction_words = a.instruction_words + b.instruction_words;
  data_words = a.data_words + b.data_words;
}

-- what a row is
abbrev pub item_reach : Item → Reach
item_reach (item.Plain i) = record { instructions = 1; instruction_words = size_of i; data_words = 0 }
item_reach (item.Named i t) = record { instructions = 1; instruction_words = size_of i; data_words = 0 }
item_reach (item.Words words) = record { instructions = 0; instruction_words = 0; data_words = length words.items }
item_reach (item.Address number t) = record { instructions = 0; instruction_words = 0; data_words = 1 }

-- what rows are
abbrev pub rows_reach : List Row → Reach
rows_reach [] = nothing
rows_reach (row ∷ rest) = together (item_reach row.item) (rows_reach rest)

-- what parts are
abbrev pub parts_reach : List Part → Reach
parts_reach [] = nothing
parts_reach (part ∷ rest) = together (rows_reach part.rows.items) (parts_reach rest)
