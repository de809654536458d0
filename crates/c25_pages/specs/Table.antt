-- The knowledge that a table is: what a look-up in it finds.
use Rattle.std.specs.Prelude.{ℕ, Bool, ◌==◌, ◌&&◌, List, Option, find, unwrap_or, ◌≡◌, ◌+◌, ◌*◌, [], ◌∷◌, true, nat_le}
use Rattle.std.specs.List.{slice_get, list_any}
use Rattle.std.specs.Option.{option_map, option_and_then}
use Rattle.c25_meaning_pages.specs.declared.known.Dropped.{Dropped}
use Rattle.c25_meaning_pages.specs.declared.known.Known.{Known}
use Rattle.c25_meaning_pages.specs.Known.{Knowledge}
use Rattle.c25_pages.specs.declared.table.Row.{Row}
use Rattle.c25_pages.specs.declared.table.Context.{Context}
use Rattle.c25_pages.specs.declared.table.Spared.{Spared}
use Rattle.c25_pages.specs.declared.table.Table.{Table}

-- whether a row is that of an address in a context
abbrev pub is_at : (context address : ℕ) → Row → Bool
is_at context address row = (row.context == context) && (row.address == address)

-- what the first row of an address in a context says
unfoldable pub known_in : List Row → (context address : ℕ) → Option Known
known_in rows context address = option_map (λ row. row.known) (find (is_at context address) rows)

-- what is known where the routine of a context returns
unfoldable pub return_in : List Context → (context : ℕ) → Option Known
return_in contexts context = option_and_then (λ c. c.known_on_return) (slice_get contexts context)

-- where the routine of a context takes its own return from the stack
unfoldable pub drop_in : List Context → (context : ℕ) → Option Dropped
drop_in contexts context = option_and_then (λ c. c.known_on_drop) (slice_get contexts context)

-- how many words are at most on the stack where a context begins; 0 where the table has no such context
unfoldable pub depth_in : List Context → (context : ℕ) → ℕ
depth_in contexts context = unwrap_or (option_map (λ c. c.depth) (slice_get contexts context)) 0

-- the data word that the statement at an address is supposed not to write
unfoldable pub spared_in : List Spared → (address : ℕ) → Option ℕ
spared_in spared address = option_map (λ s. s.word) (find (λ s. s.address == address) spared)

-- whether BACC and CALA may go to an address
unfoldable pub lands_on : List ℕ → (target : ℕ) → Bool
lands_on landings target = list_any (λ landing. landing == target) landings

-- the place of a row in the order of rows: by contexts, and by addresses in each
abbrev pub row_key : Row → ℕ
row_key row = row.context * 65536 + row.address

-- rows ascend, the first of them from a place on
abbrev pub ascend_from : ℕ → List Row → Bool
ascend_from low [] = true
ascend_from low (row ∷ rows) = nat_le low (row_key row) && ascend_from (row_key row + 1) rows

-- the rows of a table ascend, so that each address has one row at most in a context
abbrev pub IsOrdered : Table → Type 0
IsOrdered table = ascend_from 0 table.rows.items ≡ true

-- the knowledge that a table is
abbrev pub knowledge_of : Table → Knowledge
knowledge_of table =
    record {
      known_at = known_in table.rows.items;
      known_on_return = return_in table.contexts.items;
      known_on_drop = drop_in table.contexts.items;
      depth = depth_in table.contexts.items;
      spared = spared_in table.spared.items;
      may_go = λ address target. lands_on table.landings.items target;
      lines = table.lines;
    }
