-- What lists of tokens, and the operands that are made of them, stand for.
use Rattle.std.specs.Prelude.{List, map}
use denote.Ref.{Bor}
use Rattle.c25_meaning_language.specs.Line.{Piece}
use Rattle.c25_text.specs.View.{piece_of}
use Rattle.c25_text.specs.declared.tokens.Token.{Token}

-- the pieces of a line that tokens stand for
abbrev pub pieces_of : List Token → List Piece
pieces_of ts = map piece_of ts

-- the operands of a line, each as its pieces
abbrev pub operands_view : List (Bor (List Token)) → List (List Piece)
operands_view os = map (λ o. pieces_of o.now) os
