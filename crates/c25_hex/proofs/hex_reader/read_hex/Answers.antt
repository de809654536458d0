use Rattle.std.proofs.Common.{ℕ, List, Option, subst}
use Rattle.c25_hex.specs.Hex.{HasWordsOf}
use Rattle.c25_hex.specs.Cells.{cells_map}
use Rattle.c25_hex.proofs.hex_reader.read_hex.Goals as goal

pub returns-clause-found : goal.returns-clause-found
returns-clause-found c =
    let P : List (Option ℕ) → Type 0 = λ cells. HasWordsOf (cells_map cells) c.in_ok-words_of.field-0 in
    (cells_map c.in_ok-reader.reader.bytes.items, c.in_ok-reader.ensures, subst P c.deref.ensures.value c.in_ok-words_of.ensures)
