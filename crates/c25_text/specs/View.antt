-- What the types of lines and tokens stand for in the definition of a line.
use Rattle.std.specs.Prelude.{◌≡◌, ℕ, ◌+◌, ◌-◌, ◌<◌, ◌≤◌, List, ◌∷◌, length, slice_index, slice_range}
use Rattle.std.specs.Option.{option_map}
use Rattle.c25_meaning_language.specs.Line.{Piece, Part, Parts, scan_from}
use Rattle.c25_meaning_language.specs.declared.line.TokenKind.{TokenKind}
use Rattle.c25_text.specs.declared.tokens.Token.{Token}
use Rattle.c25_text.specs.declared.tokens.Tokens.{Tokens}
use Rattle.c25_text.specs.declared.line.Word.{Word}
use Rattle.c25_text.specs.declared.line.Line.{Line}

-- the piece of a line that a token stands for
abbrev pub piece_of : Token → Piece
piece_of t = record { kind = t.kind; start = t.start; text = t.text.now }

-- where a token ends
abbrev pub end_of : Token → ℕ
end_of t = t.start + length t.text.now

-- the first token of a text from a place on: what it is, and where it begins and ends; its first and its last
-- byte are ASCII
pub record IsFirstToken (text : List ℕ) (from : ℕ) (kind : TokenKind) (start end : ℕ) : Type 0 where
  pub some : start < end
  pub within : end ≤ length text
  pub first : slice_index text start < 128
  pub last : slice_index text (end - 1) < 128
  pub pieces : (scan_from from text).pieces ≡ record { kind = kind; start = start; text = slice_range text start end } ∷ (scan_from end text).pieces

-- the tokens that an iterator still gives
abbrev pub pieces_left : Tokens → List Piece
pieces_left s = (scan_from s.at s.text.now).pieces

-- the part of a line that a `Word` stands for: its mnemonic field or its comment
abbrev pub part_of : Word → Part
part_of w = record { start = w.start; text = w.text.now }

-- the parts that a line stands for
abbrev pub parts_of : Line → Parts
parts_of l = record {
  label = option_map (λ s. s.now) l.label;
  word = option_map part_of l.word;
  pieces = (scan_from l.operands l.text.now).pieces;
  comment = option_map part_of l.comment;
}
