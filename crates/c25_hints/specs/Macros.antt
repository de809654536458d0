-- Remarks on the name of a macro that is not defined so far (50), by the macros that are known.
use Rattle.std.specs.Prelude.{ℕ, Bool, true, false, if◌then◌else◌, List, [], ◌∷◌, Option, Some, None}
use Rattle.std.specs.Option.{option_and_then}
use Rattle.std.specs.Str.{bytes_eq}
use Rattle.c25_meaning_language.specs.Line.{first_word}
use Rattle.c25_meaning_language.specs.declared.statement.FaultKind.{FaultKind}
use Rattle.c25_meaning_language.specs.declared.statement.FaultKind.TheVariants as fault
use Rattle.c25_hints.specs.Remark.{Remark, about}
use Rattle.c25_hints.specs.Values.{of_case}
use Rattle.c25_hints.specs.declared.cause.Cause.TheVariants as cause

-- whether a name is among names
unfoldable pub has_name : List (List ℕ) → List ℕ → Bool
has_name [] name = false
has_name (n ∷ names) name = if bytes_eq n name then true else has_name names name

-- the remark on a word that is the name of one of these macros, or has the letters of one in other case
abbrev pub of_macro : List (List ℕ) → List ℕ → Option Remark
of_macro macros word = if has_name macros word then Some (about cause.MacroElsewhere word) else of_case macros word

-- the remark on a line with this fault by these macros
abbrev pub of_macros : List ℕ → FaultKind → List (List ℕ) → Option Remark
of_macros text fault.UnknownMnemonic macros = option_and_then (of_macro macros) (first_word text)
of_macros text _ macros = None
