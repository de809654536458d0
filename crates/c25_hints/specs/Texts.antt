-- Remarks on the text of a line (10 to 13), by the part that is refused.
use Rattle.std.specs.Prelude.{ℕ, ◌+◌, ◌-◌, ◌==◌, ◌||◌, ◌&&◌, Bool, if◌then◌else◌, nat_lt, List, length, drop, slice_index, slice_range, Option, Some, None}
use Rattle.std.specs.List.{list_any}
use Rattle.std.specs.Option.{option_map, option_and_then}
use Rattle.c25_meaning_common.specs.Bytes.{begins_name, is_blank, is_digit}
use Rattle.c25_meaning_common.specs.Digits.{are_digits}
use Rattle.c25_meaning_language.specs.declared.statement.FaultKind.{FaultKind}
use Rattle.c25_meaning_language.specs.declared.statement.FaultKind.TheVariants as fault
use Rattle.c25_places.specs.Refused.{refused_part}
use Rattle.c25_places.specs.declared.part.Part.{Part}
use Rattle.c25_hints.specs.Remark.{Remark, plain}
use Rattle.c25_hints.specs.declared.cause.Cause.{Cause}
use Rattle.c25_hints.specs.declared.cause.Cause.TheVariants as cause

-- a byte below 20h, or 7Fh
abbrev pub is_control : ℕ → Bool
is_control b = nat_lt b 32 || b == 127

-- ---- labels and names (10)

-- why a text that has this byte first is no label; the rest of it may show more
abbrev pub label_cause : ℕ → List ℕ → Cause
label_cause b text =
    if is_blank b then cause.NoLabel
    else (if b == 26 then cause.ControlZ
    else (if is_control b then cause.ControlCharacter
    else (if b == 46 then cause.DirectiveAsLabel
    else (if b == 36 then cause.LocalLabel
    else (if is_digit b then cause.LabelWithDigit
    else (if list_any (λ c. c == 58) text then cause.LabelWithColon
    else (if nat_lt 128 (length text) then cause.LongName
    else cause.StrayInName)))))))

-- ---- constants (11)

-- what a constant with this last byte may have for digits
abbrev pub digits_cause : ℕ → Cause
digits_cause b =
    if b == 104 || b == 72 then cause.HexadecimalDigits
    else (if b == 113 || b == 81 then cause.OctalDigits
    else (if b == 98 || b == 66 then cause.BinaryDigits
    else cause.DecimalDigits))

-- why a text is no constant
abbrev pub constant_cause : List ℕ → Cause
constant_cause text =
    if slice_index text 1 == 120 || slice_index text 1 == 88 then cause.HexadecimalByX
    else (if are_digits 16 text then cause.HexadecimalAlone
    else digits_cause (slice_index text (length text - 1)))

-- ---- quotes (12)

-- why the quote at a place is not closed
abbrev pub quote_cause : List ℕ → ℕ → Cause
quote_cause text at =
    if slice_index text at == 34 then cause.OpenString
    else (if begins_name (slice_index text (at - 1)) then cause.Apostrophe
    else (if list_any (λ c. c == 39) (drop (at + 1) text) then cause.ManyCharacters
    else cause.OpenCharacter))

-- ---- characters (13)

-- why a character may not stand there, by its byte and the next one
abbrev pub stray_cause : ℕ → ℕ → Option Cause
stray_cause b next =
    if b == 26 then Some cause.ControlZ
    else (if is_control b then Some cause.ControlCharacter
    else (if b == 35 then Some cause.NumberSign
    else (if b == 64 then Some cause.AtSign
    else (if b == 33 then Some cause.Exclamation
    else (if b == 46 && is_digit next then Some cause.Fraction
    else (if b == 63 || b == 58 then Some cause.Unsubstituted
    else (if nat_lt 127 b then Some cause.BeyondAscii
    else None)))))))

-- ---- the part of a line

-- why a part of a text is refused with a fault
abbrev pub cause_of : FaultKind → List ℕ → Part → Option Cause
cause_of fault.BadLabel text p = Some (label_cause (slice_index text p.start) (slice_range text p.start p.end))
cause_of fault.BadConstant text p = Some (constant_cause (slice_range text p.start p.end))
cause_of fault.OpenQuote text p = Some (quote_cause text p.start)
cause_of fault.StrayText text p = stray_cause (slice_index text p.start) (slice_index text (p.start + 1))
cause_of _ text p = None

-- the remark on the text of a line that is refused with this fault
abbrev pub of_text : List ℕ → FaultKind → Option Remark
of_text text kind = option_map plain (option_and_then (cause_of kind text) (refused_part text kind))
