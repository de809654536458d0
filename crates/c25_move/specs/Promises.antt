-- What is promised of each line of an old source that is moved, whatever the rules make of it.
use Rattle.std.specs.Prelude.{◌≡◌, ◌≢◌, ℕ, List, [], ◌∷◌, ◌||◌, not, Bool, true, false, if◌then◌else◌, codes, Option, Some, None, option_to_list, is_some, bytes_eq}
use Rattle.std.specs.List.{flat_map}
use Rattle.std.specs.Str.{str_eq_ignore_ascii_case}
use Rattle.c25_meaning_language.specs.Line.{first_word}
use Rattle.c25_meaning_language.specs.declared.statement.FaultKind.{FaultKind}
use Rattle.c25_move_lines.specs.declared.style.Style.{Style}
use Rattle.c25_move_lines.specs.declared.style.Style.TheVariants.{Early, Coff}
use Rattle.c25_move_lines.specs.LocalLabels.{Scope}
use Rattle.c25_move_lines.specs.Progress.{another_block, begins_block}
use Rattle.c25_move_lines.specs.Values.{KeepsAllValues, KeepsLabels}
use Rattle.c25_move.specs.declared.region.Region.{Region}
use Rattle.c25_move.specs.declared.region.Region.TheVariants.{Outside, Body, Behind}
use Rattle.c25_line_faults.specs.Reading.{fault_in}
use Rattle.c25_move.specs.Rewritten.{Rewritten, old_text}

-- ---- where a line stands

-- whether the word of a line is this one, letters in either case
abbrev pub has_word : List ℕ → List ℕ → Bool
has_word word line = elim (first_word line) [ None ↦ false | Some w ↦ str_eq_ignore_ascii_case w word ]

-- whether a line ends the source: in the early style `END` does too
abbrev pub ends_source : Style → List ℕ → Bool
ends_source Early line = has_word (codes ".end") line || has_word (codes "END") line
ends_source Coff line = has_word (codes ".end") line

-- where the lines after a line stand
abbrev pub region_after : Style → Region → List ℕ → Region
region_after style Outside line = if ends_source style line then Behind else (if has_word (codes ".macro") line then Body else Outside)
region_after style Body line = if has_word (codes ".endm") line then Outside else Body
region_after style Behind line = Behind

-- how many blocks of local labels began before the line after a line: one more after a line that begins one
abbrev pub blocks_after : (blocks : ℕ) → List ℕ → ℕ
blocks_after blocks line = elim (first_word line) [ None ↦ blocks | Some word ↦ if begins_block word then another_block blocks else blocks ]

-- where a line stands: in which region, and where local labels get names
pub record Standing : Type 0 where
  pub region : Region
  pub scope : Scope

-- at the beginning of a source, where so many blocks of local labels began before it
abbrev pub at_start : (text : List ℕ) → (blocks : ℕ) → Standing
at_start text blocks = record { region = Outside; scope = record { source = text; blocks = blocks } }

-- where the line after a line stands
abbrev pub standing_after : Style → Standing → List ℕ → Standing
standing_after style s line = record {
  region = region_after style s.region line;
  scope = record { source = s.scope.source; blocks = blocks_after s.scope.blocks line };
}

-- ---- what is promised of a line

-- the line is as it was
abbrev pub IsUnchanged : Rewritten → Type 0
IsUnchanged m = m.lines ≡ m.old ∷ []

-- nothing is reported of the line
pub record IsUnreported (m : Rewritten) : Type 0 where
  pub done : m.done ≡ []
  pub left : m.left ≡ []
  pub refused : m.refused ≡ []

-- the line is as it was, and nothing is reported of it
pub record Stays (m : Rewritten) : Type 0 where
  pub unchanged : IsUnchanged m
  pub unreported : IsUnreported m

-- whether a word is one of these names, byte for byte
unfoldable pub is_among : List (List ℕ) → List ℕ → Bool
is_among [] word = false
is_among (name ∷ names) word = if bytes_eq word name then true else is_among names word

-- whether the word of a line is the name of one of these macros
abbrev pub calls : List (List ℕ) → List ℕ → Bool
calls macros line = elim (first_word line) [ None ↦ false | Some w ↦ is_among macros w ]

-- whether a line that stands here is judged by itself: neither in the body of a macro nor as a call of one
abbrev pub is_judged : List (List ℕ) → Region → List ℕ → Bool
is_judged macros Outside line = not (calls macros line)
is_judged macros Body line = false
is_judged macros Behind line = false

-- the fault of a new line that is judged by itself and is not read
abbrev pub fault_reported : List (List ℕ) → Region → List ℕ → Option FaultKind
fault_reported macros region line = if is_judged macros region line then fault_in line else None

-- the faults that are reported of new lines, in their order
abbrev pub refused_in : List (List ℕ) → Region → List (List ℕ) → List FaultKind
refused_in macros region lines = flat_map (λ line. option_to_list (fault_reported macros region line)) lines

-- the promises of a line
pub record KeepsPromises (style : Style) (macros : List (List ℕ)) (s : Standing) (m : Rewritten) : Type 0 where
  -- a line of which nothing is reported is unchanged, byte for byte
  pub unreported_is_unchanged : IsUnreported m → IsUnchanged m
  -- in a source for the COFF assembler a line that the assembler reads stays
  pub read_stays : style ≡ Coff → fault_in m.old ≡ None → Stays m
  -- what follows the end of the source stays
  pub behind_stays : s.region ≡ Behind → Stays m
  -- of the new lines, each that is not read is reported with its fault, and no other fault is
  pub refused_is_reported : m.refused ≡ refused_in macros s.region m.lines
  -- before the end of the source, of a line that calls no macro: values that were rewritten are the same, and in the early
  -- style each value is, or a value is left
  pub values_are_kept : s.region ≢ Behind → calls macros m.old ≡ false → KeepsAllValues style m.old m.lines m.done m.left
  -- outside of macros, of a line that calls none: where local labels got names, its label and its operands say the same under
  -- the names of the line's scope, or a value or a local label is left
  pub labels_are_kept : s.region ≡ Outside → calls macros m.old ≡ false → KeepsLabels style s.scope m.old m.lines m.done m.left

-- whether a line stays whatever the rules would make of it: after the end, or where the assembler reads it
abbrev pub stays_put : Style → Region → List ℕ → Bool
stays_put style Behind line = true
stays_put Coff region line = not (is_some (fault_in line))
stays_put Early region line = false

-- ---- a whole source

-- the promises of lines, the first of which stands here
abbrev pub KeepAll : Style → List (List ℕ) → Standing → List Rewritten → Type 0
KeepAll style macros s [] = Unit {0}
KeepAll style macros s (m ∷ ms) = KeepsPromises style macros s m × KeepAll style macros (standing_after style s m.old) ms

-- a text is moved, where so many blocks of local labels began before it: it is the old lines with their ends, one after another,
-- and each line keeps its promises
pub record IsMoved (style : Style) (macros : List (List ℕ)) (blocks : ℕ) (text : List ℕ) (ms : List Rewritten) : Type 0 where
  pub lines : old_text ms ≡ text
  pub promises : KeepAll style macros (at_start text blocks) ms

-- nothing is reported of any line
abbrev pub AreUnreported : List Rewritten → Type 0
AreUnreported [] = Unit {0}
AreUnreported (m ∷ ms) = IsUnreported m × AreUnreported ms

-- the assembler reads each old line as it stands
abbrev pub AreRead : List Rewritten → Type 0
AreRead [] = Unit {0}
AreRead (m ∷ ms) = (fault_in m.old ≡ None) × AreRead ms

-- of each line before the end of the source that calls no macro: values that were rewritten are the same, and in the early
-- style each value is, or a value is left
abbrev pub AreValuesKept : Style → List (List ℕ) → Region → List Rewritten → Type 0
AreValuesKept style macros region [] = Unit {0}
AreValuesKept style macros region (m ∷ ms) =
    (region ≢ Behind → calls macros m.old ≡ false → KeepsAllValues style m.old m.lines m.done m.left)
    × AreValuesKept style macros (region_after style region m.old) ms

-- of each line outside of macros that calls none: where local labels got names, its label and its operands say the same under
-- the names of the line's scope, or a value or a local label is left
abbrev pub AreLabelsKept : Style → List (List ℕ) → Standing → List Rewritten → Type 0
AreLabelsKept style macros s [] = Unit {0}
AreLabelsKept style macros s (m ∷ ms) =
    (s.region ≡ Outside → calls macros m.old ≡ false → KeepsLabels style s.scope m.old m.lines m.done m.left)
    × AreLabelsKept style macros (standing_after style s m.old) ms
