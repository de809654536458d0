-- The pieces of a line.
use Rattle.std.specs.Prelude.{ℕ, ◌==◌, Bool, false, List, string_bytes}
use Rattle.std.specs.List.{flat_map}
use Rattle.c25_move_lines.specs.declared.pieces.Piece.{Piece}
use Rattle.c25_move_lines.specs.declared.pieces.PieceKind.{PieceKind}
use Rattle.c25_move_lines.specs.declared.pieces.PieceKind.TheVariants.{Sign}

-- the text that pieces are, one after another
abbrev pub text_of : List Piece → List ℕ
text_of ps = flat_map (λ p. string_bytes p.text) ps

-- whether a piece of this kind is a comma
abbrev pub is_comma : PieceKind → Bool
is_comma (Sign c) = c == 44
is_comma kind = false
