-- What the reader's and the writer's types stand for among the definitions' data.
use Rattle.std.specs.Prelude.{ℕ, Bool, if◌then◌else◌, List, [], ◌∷◌, ◌++◌}
use Rattle.c25_meaning_common.specs.declared.failure.Failure.{Failure}
use Rattle.c25_meaning_common.specs.declared.failure.Failure.TheVariants.{NoMemory, Fault}
use Rattle.c25_hex.specs.declared.hex_fault.HexFault.{HexFault}
use Rattle.c25_meaning_common.specs.declared.placed.Placed.{Placed}
use Rattle.c25_hex.specs.Hex.{HexState}
use Rattle.c25_hex.specs.Cells.{cells_map}
use Rattle.c25_hex.specs.declared.kind.Kind.{Kind}
use Rattle.c25_hex.specs.declared.kind.Kind.TheVariants as kinds
use Rattle.c25_hex.specs.declared.state.Reader.{Reader}
use Rattle.c25_hex.specs.declared.stretch.Stretch.{Stretch}
use Rattle.c25_hex.specs.HexText as text

-- the byte of a kind
abbrev pub code_of : Kind → ℕ
code_of kinds.Data = 0
code_of kinds.End = 1
code_of kinds.SegmentBase = 2
code_of kinds.SegmentStart = 3
code_of kinds.LinearBase = 4
code_of kinds.LinearStart = 5

-- the state of a text's reading
abbrev pub hex_state : Reader → HexState
hex_state r = record { base = r.base; bytes = cells_map r.bytes.items; ended = r.ended }

-- the words of one line
abbrev pub stretch_of : Stretch → text.Stretch
stretch_of s = record { address = s.address; words = s.words.items }

-- the line of a stretch with its end, after the line of the base where that is needed
abbrev pub stretch_text : Bool → text.Stretch → List ℕ
stretch_text set s = text.text_of ((if text.needs_base set s then text.base_line ∷ [] else []) ++ text.data_line s ∷ [])

-- a line's failure, with the number of the line
abbrev pub at_line : Failure HexFault → ℕ → Failure (Placed ℕ HexFault)
at_line (NoMemory n) line = NoMemory n
at_line (Fault f) line = Fault (record { place = line; fault = f })
