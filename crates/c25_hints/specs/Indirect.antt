-- Remarks on an operand that begins with `*` and is none of the indirect forms (20).
use Rattle.std.specs.Prelude.{ℕ, ◌-◌, Bool, true, false, ◌&&◌, if◌then◌else◌, List, length, slice_get, take, Option, Some, None, is_some, unwrap_or}
use Rattle.std.specs.Option.{option_and_then}
use Rattle.c25_meaning_instructions.specs.Spellings.{spelling_of}
use Rattle.c25_meaning_instructions.specs.declared.mnemonic.Mnemonic.{Mnemonic}
use Rattle.c25_meaning_instructions.specs.declared.mnemonic.Mnemonic.TheVariants as family
use Rattle.c25_meaning_instructions.specs.declared.mnemonic.PlainName.TheVariants as plain_name
use Rattle.c25_meaning_instructions.specs.declared.mnemonic.Spelling.{Spelling}
use Rattle.c25_meaning_instructions.specs.declared.mnemonic.Spelling.TheVariants as spelling
use Rattle.c25_meaning_language.specs.DirectiveOperands.{is_name}
use Rattle.c25_meaning_language.specs.Line.{Piece}
use Rattle.c25_meaning_language.specs.Operands.{written_of}
use Rattle.c25_meaning_language.specs.Value.{predefined}
use Rattle.c25_places.specs.Wanted.{is_indirect}
use Rattle.c25_hints.specs.Remark.{Remark, about, naming, plain}
use Rattle.c25_hints.specs.declared.cause.Cause.{Cause}
use Rattle.c25_hints.specs.declared.cause.Cause.TheVariants as cause

-- ---- what stands there

-- whether a token is a register: a predefined name
abbrev pub is_register : Piece → Bool
is_register p = is_name p.kind && is_some (predefined p.text)

-- the remark on a token after an indirect form: on a register
abbrev pub of_next : Piece → Option Remark
of_next p = if is_register p then Some (about cause.RegisterInExpression p.text) else None

-- the remark on the last token of an operand, where the tokens before it are one of the indirect forms
abbrev pub of_last : List Piece → Option Remark
of_last ps = if is_indirect (written_of (take (length ps - 1) ps)) then option_and_then of_next (slice_get ps (length ps - 1)) else None

-- the remark on an operand that begins with `*` and is none of the indirect forms
abbrev pub of_indirect : List Piece → Remark
of_indirect ps = unwrap_or (of_last ps) (plain cause.IndirectForms)

-- ---- by the word of the line

-- the remark on a register after an indirect form, by what this instruction has before its next register
abbrev pub next_in : Mnemonic → (word register : List ℕ) → Remark
next_in (family.Shifted name) word register = naming cause.NextAfterShift word register
next_in (family.Port name) word register = naming cause.NextAfterPort word register
next_in (family.Bit name) word register = naming cause.NextAfterBit word register
next_in _ word register = about cause.RegisterInExpression register

-- whether an instruction takes an indirect operand
abbrev pub takes_indirect : Mnemonic → Bool
takes_indirect (family.Short name) = false
takes_indirect (family.Long name) = false
takes_indirect (family.Plain plain_name.Norm) = true
takes_indirect (family.Plain name) = false
takes_indirect _ = true

-- whether a remark is one on a register after an indirect form
abbrev pub is_next : Cause → Bool
is_next cause.RegisterInExpression = true
is_next _ = false

-- whether a remark is one on an indirect operand
abbrev pub is_on_indirect : Cause → Bool
is_on_indirect cause.RegisterInExpression = true
is_on_indirect cause.IndirectForms = true
is_on_indirect _ = false

-- a remark on an indirect operand, in a line with an instruction that takes one
abbrev pub indirect_in : Mnemonic → (word : List ℕ) → Remark → Remark
indirect_in mnemonic word r = if is_next r.cause then next_in mnemonic word r.word else r

-- a remark on an indirect operand, in a line with an instruction, which may be that of no row of the opcode table
abbrev pub indirect_spelled : Spelling → (word : List ℕ) → Remark → Remark
indirect_spelled (spelling.Row mnemonic) word r =
    if takes_indirect mnemonic then indirect_in mnemonic word r else about cause.NoIndirect word
indirect_spelled _ word r = about cause.NoIndirect word

-- a remark on an indirect operand, in a line with this word, which may be no mnemonic
abbrev pub indirect_by : Option Spelling → (word : List ℕ) → Remark → Remark
indirect_by None word r = about cause.NoIndirect word
indirect_by (Some s) word r = indirect_spelled s word r

-- a remark on the operands of a line with this word
abbrev pub in_word : List ℕ → Remark → Remark
in_word word r = if is_on_indirect r.cause then indirect_by (spelling_of word) word r else r
