-- What the types stand for with which old operands are read.
use Rattle.std.specs.Prelude.{map}
use Rattle.c25_old_expressions.specs.Marks.{sym_of}
use Rattle.c25_old_expressions.specs.OldSymbols as old
use Rattle.c25_old_expressions.specs.OldSymbols.{SoFar}
use Rattle.c25_old_expressions.specs.declared.lexemes.OldLexeme.{OldLexeme}
use Rattle.c25_old_expressions.specs.declared.lexemes.OldLexeme.TheVariants.{Gap, End, One, Two, Unread}
use Rattle.c25_old_expressions.specs.declared.scanner.Scanner.{Scanner}

-- the lexeme of the definition that a lexeme of the code stands for
abbrev pub lexeme_of : OldLexeme → old.OldLexeme
lexeme_of Gap = old.Gap
lexeme_of End = old.End
lexeme_of (One s n) = old.One (sym_of s) n
lexeme_of (Two high low) = old.Two high low
lexeme_of Unread = old.Unread

-- the operands that a scanner has so far
abbrev pub so_far : Scanner → SoFar
so_far s = record { symbols = map sym_of s.symbols.items; begins = s.begins; comma = s.comma }
