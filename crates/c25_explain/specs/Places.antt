-- The two lines that show which part of a source's line is refused.
use Rattle.std.specs.Fmt.{decimal, signed_decimal}
use Rattle.std.specs.Option.{option_map, option_or}
use Rattle.std.specs.Prelude.{ℕ, ◌==◌, ◌&&◌, Bool, if◌then◌else◌, nat_le, nat_lt, List, [], ◌∷◌, ◌++◌, codes, drop, take, Option, Some, None, ℤ}
use Rattle.c25_asm.specs.Seen.{Seen}
use Rattle.c25_hints.specs.Similar.{remark_among}
use Rattle.c25_meaning_language.specs.ExpansionFault.{ExpansionFault, Faulty, Missing}
use Rattle.c25_meaning_language.specs.declared.statement.FaultKind.{FaultKind}
use Rattle.c25_places.specs.Refused.{refused_part}
use Rattle.c25_places.specs.Values.{refused_value}
use Rattle.c25_places.specs.declared.part.Part.{Part}
use Rattle.c25_places.specs.declared.value_parts.Misfit.{Misfit}
use Rattle.c25_places.specs.declared.value_parts.RefusedValue.{RefusedValue}

-- ---- columns

-- whether a byte goes on with a character that began before it (UTF-8)
abbrev pub goes_on : ℕ → Bool
goes_on b = nat_le 128 b && nat_lt b 192

-- what stands below a byte: a tab below a tab, a blank below the first byte of any other character
abbrev pub blank_below : ℕ → List ℕ
blank_below b = if goes_on b then [] else (if b == 9 then codes "\t" else codes " ")

-- what stands below a text: tabs below its tabs, and blanks below its other characters
abbrev pub blanks_below : List ℕ → List ℕ
blanks_below [] = []
blanks_below (b ∷ bs) = blank_below b ++ blanks_below bs

-- a caret below the first byte of a character
abbrev pub caret_below : ℕ → List ℕ
caret_below b = if goes_on b then [] else codes "^"

-- one caret for each character of a text
abbrev pub carets_below : List ℕ → List ℕ
carets_below [] = []
carets_below (b ∷ bs) = caret_below b ++ carets_below bs

-- ---- the lines

-- a line of a source with its number
abbrev pub number_line : ℕ → List ℕ → List ℕ
number_line number text = codes "  " ++ decimal number ++ codes " | " ++ text ++ codes "\n"

-- what stands at the front of the line below one with this number
abbrev pub margin : ℕ → List ℕ
margin number = codes "  " ++ blanks_below (decimal number) ++ codes " | "

-- carets below a part of a text
abbrev pub part_below : List ℕ → Part → List ℕ
part_below text part = blanks_below (take part.start text) ++ carets_below (drop part.start (take part.end text))

-- the line below one with this number and this text: carets below a part of it, and a remark on that part
abbrev pub caret_line : ℕ → List ℕ → Part → (remark : List ℕ) → List ℕ
caret_line number text part remark = margin number ++ part_below text part ++ remark ++ codes "\n"

-- a value that does not go into its range
unfoldable pub value_text : ℤ → List ℕ
value_text value = codes " " ++ signed_decimal value ++ codes " does not go into "

-- a range, by its least and its largest number
unfoldable pub range_text : ℤ → ℤ → List ℕ
range_text least most = signed_decimal least ++ codes " to " ++ signed_decimal most

-- the remark on a value that does not go into its range
abbrev pub misfit_remark : Misfit → List ℕ
misfit_remark m = value_text m.value ++ range_text m.least m.most

-- a hint after what separates it from the text before it; nothing where there is no hint
abbrev pub hint_after : (separator : List ℕ) → Option (List ℕ) → List ℕ
hint_after separator None = []
hint_after separator (Some hint) = separator ++ hint

-- the remark on a part that is refused: the value that does not go into its range, and the hint, where they are
-- known
abbrev pub remark_on : Option Misfit → (hint : Option (List ℕ)) → List ℕ
remark_on None hint = hint_after (codes " ") hint
remark_on (Some m) hint = misfit_remark m ++ hint_after (codes "; ") hint

-- ---- what they show

-- a part that is refused for itself, and not for its value
abbrev pub by_itself : Part → RefusedValue
by_itself part = record { part = part; misfit = None }

-- the part that is refused of a line, as it is read: the operand whose value has this fault, or else the part
-- that has it by itself
abbrev pub refused_of : Seen → FaultKind → Option RefusedValue
refused_of seen kind = option_or (refused_value seen.text kind seen.table) (option_map by_itself (refused_part seen.text kind))

-- both lines, with this hint; nothing where no part is known
abbrev pub lines_with : ℕ → List ℕ → (hint : Option (List ℕ)) → Option RefusedValue → List ℕ
lines_with number text hint None = []
lines_with number text hint (Some r) = number_line number text ++ caret_line number text r.part (remark_on r.misfit hint)

-- the two lines of a line of this number with this fault, which is seen so, with the hint on it, where there are
-- these macros; nothing where it is not seen
abbrev pub part_text : ℕ → FaultKind → (macros : List (List ℕ)) → Option Seen → List ℕ
part_text number kind macros None = []
part_text number kind macros (Some seen) = lines_with number seen.text (remark_among seen.text kind seen.table macros) (refused_of seen kind)

-- the two lines of the line with this fault
abbrev pub place_text : ExpansionFault → (macros : List (List ℕ)) → Option Seen → List ℕ
place_text (Faulty file line kind) macros seen = part_text line kind macros seen
place_text (Missing file line name) macros seen = []
