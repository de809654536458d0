-- How this crate's types stand for the definitions' data.
use Rattle.std.specs.Prelude.{◌≡◌, ℕ, List, map, option_map}
use Rattle.c25_meaning_linking.specs.Words as words
use Rattle.c25_module.specs.View.{contents, symbol_data}
use Rattle.c25_place.specs.View.{named}
use Rattle.c25_link.specs.declared.definitions.Definition.{Definition}
use Rattle.c25_link.specs.declared.definitions.Definitions.{Definitions}

-- a definition
abbrev pub definition_view : Definition → words.Definition
definition_view d = record { number = d.number; owner = contents d.owner.now; symbol = symbol_data d.symbol.now }

-- definitions
abbrev pub definitions_view : List Definition → List words.Definition
definitions_view ds = map definition_view ds

-- the names of definitions
abbrev pub names_of : List words.Definition → List (List ℕ)
names_of ds = map (λ d. d.symbol.name) ds

-- the list and the map hold these definitions, and each name finds its own
pub record HasDefinitions (d : Definitions) (ds : List words.Definition) : Type 0 where
  pub list : definitions_view d.list.items ≡ ds
  pub found : (name : List ℕ) → option_map definition_view (named d.found name) ≡ words.definition_of name ds
