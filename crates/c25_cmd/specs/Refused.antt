-- What a text has at the place where its command is refused.
use Rattle.std.specs.Prelude.{ℕ, ◌+◌, ◌==◌, ◌&&◌, List, [], ◌∷◌, take, drop, Option, Some, None, Result, Ok, Err, nat_lt, nat_le, if◌then◌else◌}
use Rattle.std.specs.List.{fold}
use Rattle.c25_meaning_linking.specs.Command.{CommandData}
use Rattle.c25_meaning_linking.specs.CommandText.{command_at}
use Rattle.c25_meaning_linking.specs.CommandTokens.{lexeme, tokens}
use Rattle.c25_meaning_linking.specs.declared.command_fault.CommandFault.{CommandFault}
use Rattle.c25_meaning_linking.specs.declared.command_token.Lexeme.{Lexeme}
use Rattle.c25_meaning_linking.specs.declared.command_token.Lexeme.TheVariants as piece
use Rattle.c25_meaning_common.specs.declared.placed.Placed.{Placed}
use Rattle.c25_cmd.specs.declared.refused.RefusedAt.{RefusedAt}
use Rattle.c25_cmd.specs.declared.refused.RefusedAt.TheVariants as standing

-- what a text has at a place: a word or another byte, and the column of its line, or the end of the text
pub data RefusedAtData : Type 0 where
  Word : ℕ → List ℕ → RefusedAtData
  Character : ℕ → ℕ → RefusedAtData
  End : RefusedAtData

-- the column after a byte: a line end begins a line, and a byte that goes on a character of UTF-8 has the
-- column of that character
abbrev pub column_behind : ℕ → ℕ → ℕ
column_behind column b = if b == 10 then 1 else (if nat_le 128 b && nat_lt b 192 then column else column + 1)

-- the column of a place, from 1
abbrev pub column_at : List ℕ → ℕ → ℕ
column_at text place = fold column_behind 1 (take place text)

-- a lexeme at the front of bytes as a word, where it is one, and else as the first byte
abbrev pub written : Lexeme → ℕ → ℕ → List ℕ → RefusedAtData
written (piece.Word n) column b text = Word column (take n text)
written _ column b text = Character column b

-- what a text has at its front, where it begins in this column
unfoldable pub at_front : ℕ → List ℕ → RefusedAtData
at_front column [] = End
at_front column (b ∷ rest) = written (lexeme (b ∷ rest)) column b (b ∷ rest)

-- what a text has at a place
abbrev pub standing_at : List ℕ → ℕ → RefusedAtData
standing_at text place = at_front (column_at text place) (drop place text)

-- what a text has where the reading of its command is refused; nothing where it is a command
abbrev pub standing_of : List ℕ → Result CommandData (Placed ℕ CommandFault) → Option RefusedAtData
standing_of text (Ok command) = None
standing_of text (Err fault) = Some (standing_at text fault.place)

-- what a text has where its own command is refused
abbrev pub refused_at : List ℕ → Option RefusedAtData
refused_at text = standing_of text (command_at (tokens text))

-- what the code reports of that place, as clauses see it
abbrev pub standing_data : RefusedAt → RefusedAtData
standing_data (standing.Word column text) = Word column text.now
standing_data (standing.Character column byte) = Character column byte
standing_data standing.End = End
