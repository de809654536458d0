-- What a symbol of an operand stands for, and what it is to an expression.
use Rattle.std.specs.Prelude.{ℕ, Bool, true, false, List, map}
use Rattle.std.specs.List.{slice_split}
use Rattle.c25_meaning_language.specs.Tree as tree
use Rattle.c25_meaning_language.specs.Tree.{Mark, Operand, Stray, mark_by}
use Rattle.c25_meaning_language.specs.Line.{Piece}
use Rattle.c25_meaning_language.specs.declared.line.Sign.TheVariants as sign
use Rattle.c25_meaning_language.specs.declared.line.TokenKind.{TokenKind}
use Rattle.c25_meaning_language.specs.declared.line.TokenKind.TheVariants as kind
use Rattle.c25_old_expressions.specs.declared.symbol.Symbol.{Symbol}
use Rattle.c25_old_expressions.specs.declared.symbol.Symbol.TheVariants.{Constant, Name, Here, Signed, Text}

-- a symbol of operands: a part of expressions, or a text that belongs to no expression, as a string or a name with a dot
pub data Sym : Type 0 where
  Part : Mark → Sym
  Plain : List ℕ → Sym

-- what a symbol is to an expression
abbrev pub mark : Sym → Mark
mark (Part m) = m
mark (Plain text) = Stray

-- whether a symbol is a comma
abbrev pub is_comma : Sym → Bool
is_comma (Part (tree.Signed sign.Comma)) = true
is_comma _ = false

-- the operands: the symbols between commas
abbrev pub operands_of : List Sym → List (List Sym)
operands_of ss = slice_split is_comma ss

-- the symbol that a token of this kind and text is
abbrev pub symbol_by : TokenKind → List ℕ → Sym
symbol_by kind.Quoted text = Plain text
symbol_by kind.DottedName text = Plain text
symbol_by k text = Part (mark_by k text)

-- the symbols that the tokens of a line are
abbrev pub symbols_of : List Piece → List Sym
symbols_of ps = map (λ p. symbol_by p.kind p.text) ps

-- the symbol of the definition that a symbol of the code stands for
abbrev pub sym_of : Symbol → Sym
sym_of (Constant n) = Part (Operand (tree.Constant n))
sym_of (Name s) = Part (Operand (tree.Name s.now))
sym_of Here = Part (Operand tree.Here)
sym_of (Signed s) = Part (tree.Signed s)
sym_of (Text s) = Plain s.now

-- what a symbol of the code is to an expression
abbrev pub mark_of : Symbol → Mark
mark_of s = mark (sym_of s)

-- what symbols of the code are to an expression
abbrev pub marks_of : List Symbol → List Mark
marks_of ss = map mark (map sym_of ss)
