-- Remarks on a name that stands for nothing (22), on a number that is too large (53) and on an address where a number is wanted (55).
use Rattle.std.specs.Prelude.{ℕ, ◌-◌, ◌==◌, ◌||◌, ◌&&◌, Bool, false, nat_le, if◌then◌else◌, pos, List, [], ◌∷◌, length, slice_index, take, map, codes, Option, Some, None, is_some, Result, Ok, Err, ℤ}
use Rattle.std.specs.List.{list_any}
use Rattle.std.specs.Ordering.{int_eq}
use Rattle.std.specs.Option.{option_map, option_and_then, option_or}
use Rattle.c25_meaning_assembly.specs.Sections.{register_names}
use Rattle.c25_meaning_common.specs.Digits.{are_digits}
use Rattle.c25_meaning_language.specs.DirectiveOperands.{is_name}
use Rattle.c25_meaning_language.specs.Line.{Parts, Piece, first_word, line_of}
use Rattle.c25_meaning_language.specs.Value.{Table}
use Rattle.c25_meaning_language.specs.declared.line.LineFault.{LineFault}
use Rattle.c25_meaning_language.specs.declared.statement.FaultKind.TheVariants as fault
use Rattle.c25_places.specs.Values.{refused_value}
use Rattle.c25_places.specs.declared.value_parts.Misfit.{Misfit}
use Rattle.c25_hints.specs.Operands.{form_of, of_form}
use Rattle.c25_hints.specs.Remark.{Remark, about}
use Rattle.c25_hints.specs.Tables.{is_spelled, longer, text_in}
use Rattle.c25_hints.specs.declared.cause.Cause.TheVariants as cause

-- ---- names (22)

-- the first of these names with the letters of this one, in either case
unfoldable pub same_letters : List (List ℕ) → List ℕ → Option (List ℕ)
same_letters [] name = None
same_letters (n ∷ names) name = if is_spelled n name then Some n else same_letters names name

-- the names of a symbol table, in order of definition
abbrev pub defined_names : Table → List (List ℕ)
defined_names table = map (λ e. e.0) table.entries

-- a name that is defined in other case
abbrev pub of_case : List (List ℕ) → List ℕ → Option Remark
of_case names name = option_map (about cause.OtherCase) (same_letters names name)

-- whether a name is hexadecimal digits with an `h` after them
abbrev pub is_hexadecimal : List ℕ → Bool
is_hexadecimal name =
    (slice_index name (length name - 1) == 104 || slice_index name (length name - 1) == 72) && are_digits 16 (take (length name - 1) name)

-- a name that is meant as a hexadecimal constant
abbrev pub of_digits : List ℕ → Option Remark
of_digits name = if is_hexadecimal name then Some (about cause.HexadecimalName name) else None

-- a name that `.mmregs` defines
abbrev pub of_register : List ℕ → Option Remark
of_register name = option_map (about cause.RegisterName) (same_letters (map (λ r. r.0) register_names) name)

-- whether two letters are AR or PA, in either case
abbrev pub begins_register : ℕ → ℕ → Bool
begins_register a b = ((a == 65 || a == 97) && (b == 82 || b == 114)) || ((a == 80 || a == 112) && (b == 65 || b == 97))

-- whether a name is AR or PA and a decimal number, as those of auxiliary registers and ports are
abbrev pub is_numbered : List ℕ → Bool
is_numbered (a ∷ b ∷ digits) = begins_register a b && are_digits 10 digits
is_numbered _ = false

-- a name like theirs
abbrev pub of_numbered : List ℕ → Option Remark
of_numbered name = if is_numbered name then Some (about cause.NoSuchRegister name) else None

-- the remark on a name that stands for nothing, where these are defined
abbrev pub of_name : List (List ℕ) → List ℕ → Option Remark
of_name names name = option_or (option_or (option_or (of_case names name) (of_digits name)) (of_register name)) (of_numbered name)

-- the name that begins at a place, among tokens
unfoldable pub name_at : ℕ → List Piece → Option (List ℕ)
name_at start [] = None
name_at start (p ∷ ps) = if is_name p.kind && p.start == start then Some p.text else name_at start ps

-- the same in a line
abbrev pub name_in : ℕ → Result Parts LineFault → Option (List ℕ)
name_in start (Err f) = None
name_in start (Ok parts) = name_at start parts.pieces

-- the name of a line that stands for nothing
abbrev pub refused_name : List ℕ → Table → Option (List ℕ)
refused_name text table = option_and_then (λ r. name_in r.part.start (line_of text)) (refused_value text fault.Undefined table)

-- the remark on a line of which a name is refused (22)
abbrev pub undefined : List ℕ → Table → Option Remark
undefined text table = option_and_then (of_name (defined_names table)) (refused_name text table)

-- the directives that need the values of their operands at once; `.if` and its like are gone after expansion
abbrev pub at_once : List (List ℕ)
at_once = codes ".set" ∷ codes ".equ" ∷ codes ".space" ∷ codes ".bss" ∷ codes ".usect" ∷ []

-- whether a word is one of these, letters in either case
abbrev pub needs_values : List ℕ → Bool
needs_values word = is_some (same_letters at_once word)

-- whether a line has one of these directives
abbrev pub is_at_once : Option (List ℕ) → Bool
is_at_once None = false
is_at_once (Some word) = needs_values word

-- the remark on a line of which a name is refused (22), where its value is needed at once
abbrev pub needed_at_once : List ℕ → Table → Option Remark
needed_at_once text table =
    if is_at_once (first_word text) then option_map (about cause.NeededAtOnce) (refused_name text table) else None

-- the remark on a line of which a name is refused (22), like which there is none
abbrev pub nowhere_defined : List ℕ → Table → Option Remark
nowhere_defined text table = option_map (about cause.NowhereDefined) (refused_name text table)

-- ---- numbers (53)

-- what takes a longer number than eight bits
abbrev pub of_word : List ℕ → Option Remark
of_word word = option_map (about cause.Longer) (text_in longer word)

-- the instructions with a port, and those that store the accumulator with a shift of 3 bits
abbrev pub with_ports : List (List ℕ)
with_ports = codes "IN" ∷ codes "OUT" ∷ []

abbrev pub with_stores : List (List ℕ)
with_stores = codes "SACL" ∷ codes "SACH" ∷ []

-- the form of an instruction with a port: mostly the port stands where the address does
abbrev pub of_port : List ℕ → Option Remark
of_port word = if is_some (same_letters with_ports word) then option_map (of_form word) (form_of word) else None

-- what to do in place of a larger shift
abbrev pub of_store : List ℕ → Option Remark
of_store word = option_map (about cause.ShiftBefore) (same_letters with_stores word)

-- the remark on a number that does not go into 8, 4 or 3 bits, in a line with this word
abbrev pub misfit_in : List ℕ → ℤ → Option Remark
misfit_in word most =
    if int_eq most (pos 255) then of_word word else if int_eq most (pos 15) then of_port word
    else if int_eq most (pos 7) then of_store word else None

-- the same in a line that may have no word
abbrev pub of_misfit : Option (List ℕ) → Misfit → Option Remark
of_misfit word m = option_and_then (λ w. misfit_in w m.most) word

-- the remark on a line of which a number is refused (53)
abbrev pub out_of_range : List ℕ → Table → Option Remark
out_of_range text table =
    option_and_then (of_misfit (first_word text)) (option_and_then (λ r. r.misfit) (refused_value text fault.FieldRange table))

-- ---- addresses (55)

-- whether one of these tokens stands at a place or after it
abbrev pub goes_on : ℕ → List Piece → Bool
goes_on place pieces = list_any (λ p. nat_le place p.start) pieces

-- what takes an address, in a line that may have no word
abbrev pub of_taker : Option (List ℕ) → Option Remark
of_taker word = option_and_then (λ w. option_map (about cause.TakesAddress) (text_in longer w)) word

-- the same in a line whose last operand ends at a place; an operand before others is no constant of eight bits
abbrev pub of_address : ℕ → Result Parts LineFault → Option (List ℕ) → Option Remark
of_address end (Err f) word = None
of_address end (Ok parts) word = if goes_on end parts.pieces then None else of_taker word

-- the remark on a line of which an address is refused (55)
abbrev pub relocated : List ℕ → Table → Option Remark
relocated text table =
    option_and_then (λ r. of_address r.part.end (line_of text) (first_word text)) (refused_value text fault.NotRelocatable table)
