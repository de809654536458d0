-- Remarks on the operands of a line: their expressions (20), how many they are (51) and what they are (52).
use Rattle.std.specs.Prelude.{ℕ, ◌-◌, ◌==◌, Bool, true, false, not, ◌&&◌, if◌then◌else◌, nat_lt, List, [], ◌∷◌, length, slice_get, Option, Some, None, is_some, unwrap_or, codes}
use Rattle.std.specs.Option.{option_map, option_and_then, option_or}
use Rattle.c25_meaning_assembly.specs.declared.assembly.Directive.{Directive}
use Rattle.c25_meaning_assembly.specs.declared.assembly.Directive.TheVariants as directive
use Rattle.c25_meaning_instructions.specs.Spellings.{spelling_of}
use Rattle.c25_meaning_instructions.specs.declared.mnemonic.Mnemonic.{Mnemonic}
use Rattle.c25_meaning_instructions.specs.declared.mnemonic.Mnemonic.TheVariants as family
use Rattle.c25_meaning_instructions.specs.declared.mnemonic.LongMemName.{LongMemName}
use Rattle.c25_meaning_instructions.specs.declared.mnemonic.LongMemName.TheVariants as long_mem
use Rattle.c25_meaning_instructions.specs.declared.mnemonic.LongName.{LongName}
use Rattle.c25_meaning_instructions.specs.declared.mnemonic.LongName.TheVariants as long
use Rattle.c25_meaning_instructions.specs.declared.mnemonic.PlainName.{PlainName}
use Rattle.c25_meaning_instructions.specs.declared.mnemonic.PlainName.TheVariants as plain_name
use Rattle.c25_meaning_instructions.specs.declared.mnemonic.ShortName.{ShortName}
use Rattle.c25_meaning_instructions.specs.declared.mnemonic.ShortName.TheVariants as short
use Rattle.c25_meaning_instructions.specs.declared.mnemonic.Spelling.{Spelling}
use Rattle.c25_meaning_instructions.specs.declared.mnemonic.Spelling.TheVariants as spelling
use Rattle.c25_meaning_language.specs.DirectiveOperands.{is_name}
use Rattle.c25_meaning_language.specs.Forms.{is_expression}
use Rattle.c25_meaning_language.specs.Line.{Piece, Part}
use Rattle.c25_meaning_language.specs.Operands.{operands_of, written_of}
use Rattle.c25_meaning_language.specs.declared.line.Sign.TheVariants as sign
use Rattle.c25_meaning_language.specs.declared.line.TokenKind.{TokenKind}
use Rattle.c25_meaning_language.specs.declared.line.TokenKind.TheVariants as kind
use Rattle.c25_meaning_language.specs.declared.statement.FaultKind.TheVariants as fault
use Rattle.c25_places.specs.Refused.{first_refused}
use Rattle.c25_places.specs.declared.wanted.Operation.TheVariants.{Does}
use Rattle.c25_hints.specs.Indirect.{in_word, is_register, of_indirect}
use Rattle.c25_hints.specs.Remark.{Remark, about, plain}
use Rattle.c25_hints.specs.Tables.{directive_forms, text_in}
use Rattle.c25_hints.specs.declared.cause.Cause.{Cause}
use Rattle.c25_hints.specs.declared.cause.Cause.TheVariants as cause

-- ---- tokens side by side

-- whether an operand of an operator may end with a token
abbrev pub ends_operand : TokenKind → Bool
ends_operand (kind.Sign sign.Dollar) = true
ends_operand (kind.Sign sign.CloseParenthesis) = true
ends_operand (kind.Sign s) = false
ends_operand _ = true

-- whether one may begin with a token
abbrev pub begins_operand : TokenKind → Bool
begins_operand (kind.Sign sign.Dollar) = true
begins_operand (kind.Sign sign.OpenParenthesis) = true
begins_operand (kind.Sign s) = false
begins_operand _ = true

-- the first token that begins an operand where one ends; `ends` says whether one ends before the first token
unfoldable pub second_operand : Bool → List Piece → Option Piece
second_operand ends [] = None
second_operand ends (p ∷ ps) = if ends && begins_operand p.kind then Some p else second_operand (ends_operand p.kind) ps

-- ---- expressions (20)

-- whether a token is a constant
abbrev pub is_constant : TokenKind → Bool
is_constant kind.Constant = true
is_constant _ = false

-- the remark on a sign with which an expression begins, by the token after it
abbrev pub of_sign : TokenKind → Piece → Option Remark
of_sign (kind.Sign sign.Dollar) p = if is_constant p.kind then Some (plain cause.LocalLabel) else None
of_sign (kind.Sign sign.Greater) p = Some (plain cause.HexadecimalByGreater)
of_sign (kind.Sign sign.Star) p = if is_register p then Some (about cause.RegisterInExpression p.text) else None
of_sign _ p = None

-- the remark on an operand that begins with this token, if it is `*`
abbrev pub of_star : TokenKind → List Piece → Option Remark
of_star (kind.Sign sign.Star) ps = Some (of_indirect ps)
of_star _ ps = None

-- the remark on the sign with which an operand begins
abbrev pub of_front : List Piece → Option Remark
of_front (p ∷ q ∷ ps) = option_or (of_sign p.kind q) (of_star p.kind (p ∷ q ∷ ps))
of_front _ = None

-- whether a blank stands between a token and a later one
abbrev pub are_apart : Piece → Piece → Bool
are_apart p q = nat_lt (length p.text) (q.start - p.start)

-- whether a sign is rather the first of a comment than an operator between two tokens, as in `15 -1 of them`: an operand
-- ends before it, and a blank stands before it and none after it
abbrev pub is_comment_sign : (before sign after : Piece) → Bool
is_comment_sign before sign after =
    (ends_operand before.kind && not (begins_operand sign.kind)) && (are_apart before sign && not (are_apart sign after))

-- the same of a token and the two before it, which there may be
abbrev pub opens_comment : (before sign : Option Piece) → Piece → Bool
opens_comment (Some before) (Some sign) p = is_comment_sign before sign p
opens_comment _ _ p = false

-- the first such sign among tokens; `before` and `last` are the two that come before these, where there are any
unfoldable pub comment_sign : (before last : Option Piece) → List Piece → Option Piece
comment_sign before last [] = None
comment_sign before last (p ∷ ps) = if opens_comment before last p then last else comment_sign last (Some p) ps

-- where a comment of an operand begins that goes on with this name: at the name, or at a sign before it
abbrev pub comment_start : Piece → Option Piece → Piece
comment_start name None = name
comment_start name (Some sign) = if nat_lt sign.start name.start then sign else name

-- the remark on a token of an operand that begins an operand of an operator where one ends: a name is mostly one of a comment
abbrev pub of_second : List Piece → Piece → Remark
of_second operand p =
    if is_name p.kind then about cause.CommentInExpression (comment_start p (comment_sign None None operand)).text
    else about cause.NoOperator p.text

-- the remark on the last token: an operator or an open parenthesis
abbrev pub of_last : Piece → Option Remark
of_last p = if not (ends_operand p.kind) then Some (about cause.NothingAfter p.text) else None

-- the remark on an operand that is written as an expression
abbrev pub of_expression : List Piece → Option Remark
of_expression [] = Some (plain cause.NoOperand)
of_expression (p ∷ ps) =
    option_or (option_or (of_front (p ∷ ps)) (option_map (of_second (p ∷ ps)) (second_operand false (p ∷ ps))))
    (option_and_then of_last (slice_get (p ∷ ps) (length (p ∷ ps) - 1)))

-- the remark on an operand; none of one that is no expression, as `*+` or a string
abbrev pub of_operand : List Piece → Option Remark
of_operand operand = if is_expression (written_of operand) then of_expression operand else None

-- the remark on the first operand that has one
unfoldable pub of_operands : List (List Piece) → Option Remark
of_operands [] = None
of_operands (o ∷ os) = option_or (of_operand o) (of_operands os)

-- the remark on the first operand that has one, in a line with this word
abbrev pub refused_in : Option Part → List (List Piece) → Option Remark
refused_in None operands = of_operands operands
refused_in (Some word) operands = option_map (in_word word.text) (of_operands operands)

-- ---- forms (51, 52)

-- the operands of an instruction with a short constant
abbrev pub short_form : ShortName → List ℕ
short_form short.Lark = codes "ar,constant"
short_form _ = codes "constant"

-- the operands of an instruction with a constant of 16 bits
abbrev pub long_form : LongName → List ℕ
long_form long.Lrlk = codes "ar,constant"
long_form _ = codes "constant[,shift]"

-- the operands of an instruction with two addresses
abbrev pub long_mem_form : LongMemName → List ℕ
long_mem_form long_mem.Blkd = codes "dma,dma | dma,ind[,next]"
long_mem_form _ = codes "pma,dma | pma,ind[,next]"

-- the operands of an instruction without an address; most have none
abbrev pub plain_form : PlainName → List ℕ
plain_form plain_name.Norm = codes "[ind]"
plain_form plain_name.Spm = codes "constant"
plain_form plain_name.Fort = codes "constant"
plain_form plain_name.Cmpr = codes "constant"
plain_form _ = []

-- the operands of a row of the opcode table, in the words of SPRU014: `dma` and `pma` are addresses of data and
-- of program memory, `ind` is an indirect operand, `next` the next auxiliary register
abbrev pub row_form : Mnemonic → List ℕ
row_form (family.Mem name) = codes "dma | ind[,next]"
row_form (family.Shifted name) = codes "dma[,shift] | ind[,shift[,next]]"
row_form (family.ArMem name) = codes "ar,dma | ar,ind[,next]"
row_form (family.Port name) = codes "dma,port | ind,port[,next]"
row_form (family.Bit name) = codes "dma,bit | ind,bit[,next]"
row_form (family.Short name) = short_form name
row_form (family.Long name) = long_form name
row_form (family.LongMem name) = long_mem_form name
row_form (family.Jump name) = codes "pma[,ind[,next]]"
row_form (family.Plain name) = plain_form name

-- the operands of an instruction
abbrev pub spelling_form : Spelling → List ℕ
spelling_form (spelling.Row mnemonic) = row_form mnemonic
spelling_form spelling.Larp = codes "ar"
spelling_form _ = []

-- the operands of a directive or an instruction
abbrev pub form_of : List ℕ → Option (List ℕ)
form_of word = option_or (text_in directive_forms word) (option_map spelling_form (spelling_of word))

-- the remark that shows a form
abbrev pub of_form : List ℕ → List ℕ → Remark
of_form word [] = about cause.TakesNothing word
of_form word (b ∷ rest) = record { cause = cause.Form; word = word; more = b ∷ rest }

-- the cause of a remark on so many operands, where other numbers are wanted
unfoldable pub count_cause : ℕ → Cause
count_cause n =
    if n == 0 then cause.FormOfNone else if n == 1 then cause.FormOfOne else if n == 2 then cause.FormOfTwo
    else if n == 3 then cause.FormOfThree else cause.FormOfMore

-- the remark that says how many operands stand in a line, and shows the form that is wanted
abbrev pub of_number : List ℕ → List Piece → List ℕ → Remark
of_number word pieces form = record { cause = count_cause (length (operands_of pieces)); word = word; more = form }

-- the remark on too few operands or too many, where two stand side by side or else
abbrev pub of_count : List ℕ → List Piece → List ℕ → Remark
of_count word pieces [] = about cause.TakesNothing word
of_count word pieces (b ∷ rest) = unwrap_or (option_map (λ p. about cause.NoComma p.text) (second_operand false pieces)) (of_number word pieces (b ∷ rest))

-- the remark on operands of another number
abbrev pub counted : Option Part → List Piece → Option Remark
counted None pieces = None
counted (Some word) pieces = option_map (of_count word.text pieces) (form_of word.text)

-- the form of a line with an operand of another form
abbrev pub form_shown : Option Part → Option Remark
form_shown None = None
form_shown (Some word) = option_map (of_form word.text) (form_of word.text)

-- the remark on the name of a section, which is of the other kind
abbrev pub section_kind : Directive → Option Remark
section_kind directive.Sect = Some (plain cause.ReservedSection)
section_kind directive.Usect = Some (plain cause.FilledSection)
section_kind _ = None

-- the remark on a line with this directive, where each operand is what it has to be
abbrev pub of_section : Option Directive → List Piece → Option Remark
of_section None pieces = None
of_section (Some d) pieces = if is_some (first_refused fault.OperandForm (Does d) 0 (operands_of pieces)) then None else section_kind d

-- the remark on an operand of another form, or on a section of the other kind
abbrev pub formed : Option Directive → Option Part → List Piece → Option Remark
formed d word pieces = option_or (of_section d pieces) (form_shown word)
