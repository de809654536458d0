-- The operands of a statement: how commas separate its tokens, and what each operand is by its tokens
-- (SPRU018, source statement format; SPRU014, indirect addressing).
use Rattle.std.specs.Prelude.{ℕ, Bool, true, false, List, [], ◌∷◌, codes, Option, Some, None, if◌then◌else◌}
use Rattle.std.specs.List.{slice_split}
use Rattle.std.specs.Str.{bytes_eq, str_eq_ignore_ascii_case}
use Rattle.c25_meaning_language.specs.Line.{Piece}
use Rattle.c25_meaning_language.specs.declared.line.LineFault.{LineFault}
use Rattle.c25_meaning_language.specs.declared.line.LineFault.TheVariants as line
use Rattle.c25_meaning_language.specs.declared.line.TokenKind.{TokenKind}
use Rattle.c25_meaning_language.specs.declared.line.TokenKind.TheVariants as kind
use Rattle.c25_meaning_language.specs.declared.line.Sign.TheVariants as sign
use Rattle.c25_meaning_instructions.specs.declared.insn.Change.{Change}
use Rattle.c25_meaning_instructions.specs.declared.insn.Change.TheVariants as change
use Rattle.c25_meaning_language.specs.declared.statement.FaultKind.{FaultKind}
use Rattle.c25_meaning_language.specs.declared.statement.FaultKind.TheVariants as fault
use Rattle.c25_meaning_language.specs.declared.statement.Written.{Written}
use Rattle.c25_meaning_language.specs.declared.statement.Written.TheVariants as written

-- a fault of a line's text as a fault of a source
abbrev pub line_fault : LineFault → FaultKind
line_fault line.BadLabel = fault.BadLabel
line_fault line.BadConstant = fault.BadConstant
line_fault line.OpenQuote = fault.OpenQuote
line_fault line.StrayText = fault.StrayText

-- whether a token is a comma
abbrev pub is_comma : TokenKind → Bool
is_comma (kind.Sign sign.Comma) = true
is_comma _ = false

-- the operands: the tokens between commas; an empty operand counts, but no tokens are no operands
abbrev pub operands_of : List Piece → List (List Piece)
operands_of [] = []
operands_of (p ∷ ps) = slice_split (λ q. is_comma q.kind) (p ∷ ps)

-- whether a token is `*`
abbrev pub is_star : TokenKind → Bool
is_star (kind.Sign sign.Star) = true
is_star _ = false

-- whether a token is the constant `0`, in this spelling
abbrev pub is_zero : TokenKind → List ℕ → Bool
is_zero kind.Constant text = bytes_eq text (codes "0")
is_zero _ text = false

-- whether a token is the name `BR0`, letters in either case
abbrev pub is_br0 : TokenKind → List ℕ → Bool
is_br0 kind.Name text = str_eq_ignore_ascii_case text (codes "BR0")
is_br0 _ text = false

-- the change of `*-` and `*+`, by the sign
abbrev pub by_one : TokenKind → Option Change
by_one (kind.Sign sign.Minus) = Some change.Decrement
by_one (kind.Sign sign.Plus) = Some change.Increment
by_one _ = None

-- the change of `*0-` and `*0+`, by the sign
abbrev pub by_ar0 : TokenKind → Option Change
by_ar0 (kind.Sign sign.Minus) = Some change.Subtract
by_ar0 (kind.Sign sign.Plus) = Some change.Add
by_ar0 _ = None

-- the change of `*BR0-` and `*BR0+`, by the sign
abbrev pub by_reverse : TokenKind → Option Change
by_reverse (kind.Sign sign.Minus) = Some change.ReverseSubtract
by_reverse (kind.Sign sign.Plus) = Some change.ReverseAdd
by_reverse _ = None

-- the change by the two tokens after `*`: `0` or `BR0`, and a sign
abbrev pub by_two : Piece → TokenKind → Option Change
by_two p k = if is_zero p.kind p.text then by_ar0 k else (if is_br0 p.kind p.text then by_reverse k else None)

-- the change by the tokens after `*`
abbrev pub change_behind : List Piece → Option Change
change_behind [] = Some change.Keep
change_behind (p ∷ []) = by_one p.kind
change_behind (p ∷ q ∷ []) = by_two p q.kind
change_behind _ = None

-- the change of an operand in one of the seven indirect forms
abbrev pub indirect : List Piece → Option Change
indirect [] = None
indirect (p ∷ ps) = if is_star p.kind then change_behind ps else None

-- whether a token is a string
abbrev pub is_quoted : TokenKind → Bool
is_quoted kind.Quoted = true
is_quoted _ = false

-- whether tokens are one string
abbrev pub is_string : List Piece → Bool
is_string (p ∷ []) = is_quoted p.kind
is_string _ = false

-- what an operand is: indirect if it has a change, else a string, else an expression
abbrev pub written_by : Option Change → Bool → Written
written_by (Some change) quoted = written.Indirect change
written_by None true = written.Quoted
written_by None false = written.Expression

-- what an operand is by its tokens
abbrev pub written_of : List Piece → Written
written_of ps = written_by (indirect ps) (is_string ps)
