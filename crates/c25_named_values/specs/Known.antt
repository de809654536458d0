-- What names stand for that are looked up elsewhere, and tables of those that an expression has.
use Rattle.std.specs.Prelude.{ℕ, List, [], ◌∷◌, ◌++◌, Option, Some, None, option_map, pos}
use Rattle.c25_meaning_language.specs.Line.{Piece}
use Rattle.c25_meaning_language.specs.Value.{Table, named_by, predefined, value_named}
use Rattle.c25_meaning_language.specs.declared.line.TokenKind.{TokenKind}
use Rattle.c25_meaning_language.specs.declared.line.TokenKind.TheVariants as kind
use Rattle.c25_meaning_language.specs.declared.value.Base.TheVariants.{Absolute}
use Rattle.c25_meaning_language.specs.declared.value.Value.{Value}

-- an address as a value
abbrev pub absolute : ℕ → Value
absolute address = record { base = Absolute; offset = pos address }

-- what a name stands for: an AR or PA name for its number, another for its address, if it has one
abbrev pub value_at : (addresses : List ℕ → Option ℕ) → List ℕ → Option Value
value_at addresses name = named_by (predefined name) (option_map absolute (addresses name))

-- ---- tables, as the code has them

-- a table without names, with the address that `$` stands for
abbrev pub first_table : ℕ → Table
first_table here = record { entries = []; here = absolute here }

-- a table with a name of this address more, unless the name stands for something
abbrev pub with_new : Option Value → Table → List ℕ → ℕ → Table
with_new (Some known) table name address = table
with_new None table name address = record { entries = table.entries ++ (name, absolute address) ∷ []; here = table.here }

-- a table with a name more, if it has an address
abbrev pub with_name : Table → List ℕ → Option ℕ → Table
with_name table name None = table
with_name table name (Some address) = with_new (value_named table name) table name address

-- a table with a token more, if it is a name that has an address
abbrev pub with_token : (addresses : List ℕ → Option ℕ) → Table → TokenKind → List ℕ → Table
with_token addresses table kind.Name text = with_name table text (addresses text)
with_token addresses table _ text = table

abbrev pub with_piece : (addresses : List ℕ → Option ℕ) → Table → Piece → Table
with_piece addresses table p = with_token addresses table p.kind p.text

-- a table with the names among tokens
abbrev pub with_pieces : (addresses : List ℕ → Option ℕ) → Table → List Piece → Table
with_pieces addresses table [] = table
with_pieces addresses table (p ∷ ps) = with_pieces addresses (with_piece addresses table p) ps
