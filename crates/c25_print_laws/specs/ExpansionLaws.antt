-- Notions of the laws of expansion: lines that expansion gives as they are, and lines that a false `.if`
-- skips.
use Rattle.std.specs.Prelude.{◌≡◌, ℕ, zero, suc, ◌+◌, ◌≤◌, ◌==◌, Bool, true, false, List, [], ◌∷◌, length, Option, Some, None}
use Rattle.c25_meaning_language.specs.Line.{first_word}
use Rattle.c25_meaning_expansion.specs.Rows.{Row}
use Rattle.c25_substitution.specs.PlainTexts.{StandsForNothing, HasNoMark}
use Rattle.c25_meaning_expansion.specs.Expansion.{Dictionary, seen}
use Rattle.c25_meaning_expansion.specs.ExpansionRules.{directive_in, macro_of, takes_lines}
use Rattle.c25_meaning_expansion.specs.declared.expansion.Branch.{Branch}
use Rattle.c25_meaning_expansion.specs.declared.expansion.Directive.{Directive}
use Rattle.c25_meaning_expansion.specs.declared.expansion.Directive.TheVariants as directive

-- a line that expansion gives as it is: no directive of expansion and no macro's name in its mnemonic field,
-- no name in it that stands for a text, no `?`, and at most 1,024 bytes
pub record IsPlain (names : Dictionary) (text : List ℕ) : Type 0 where
  pub no_directive : directive_in (first_word text) ≡ None
  pub no_macro : macro_of (first_word text) names ≡ None
  pub no_name : StandsForNothing (seen names) text
  pub no_mark : HasNoMark text
  pub short : length text ≤ 1024

-- lines that expansion gives as they are, where no name stands for a text or a macro
abbrev pub ArePlain : List Row → Type 0
ArePlain [] = Unit {0}
ArePlain (row ∷ rows) = (directive_in (first_word row.text) ≡ None) × HasNoMark row.text × (length row.text ≤ 1024) × ArePlain rows

-- whether lines are taken in a file, expansion or turn with these open `.if`s
abbrev pub are_taken : List Branch → Bool
are_taken [] = true
are_taken (b ∷ bs) = takes_lines b.phase

-- whether a line with this directive, with `nested` `.if`s open before it, belongs to the lines of a false
-- `.if`: outside all nested ones it is no `.elseif`, `.else` or `.endif`; `rest` is asked of the lines after
-- it
abbrev pub closed_by : ℕ → Option Directive → (ℕ → Bool) → Bool
closed_by nested (Some directive.If) rest = rest (nested + 1)
closed_by zero (Some directive.ElseIf) rest = false
closed_by zero (Some directive.Else) rest = false
closed_by zero (Some directive.EndIf) rest = false
closed_by (suc nested) (Some directive.EndIf) rest = rest nested
closed_by nested _ rest = rest nested

-- whether all these lines belong to the lines of a false `.if`, and every nested `.if` has its `.endif` among
-- them
abbrev pub are_closed : ℕ → List Row → Bool
are_closed nested [] = nested == 0
are_closed nested (row ∷ rows) = closed_by nested (directive_in (first_word row.text)) (λ n. are_closed n rows)
