-- The macros that files define, before expansion.
use Rattle.std.specs.Prelude.{ℕ, Bool, false, if◌then◌else◌, List, [], codes, option_to_list, Option, Some, None, Result, Ok, Err}
use Rattle.std.specs.List.{flat_map}
use Rattle.std.specs.Str.{str_eq_ignore_ascii_case}
use Rattle.std.specs.Str.Lines.{lines}
use Rattle.c25_meaning_expansion.specs.Files.{Files, text_named}
use Rattle.c25_meaning_language.specs.Line.{first_word, label_in}
use Rattle.c25_meaning_language.specs.declared.line.LineFault.{LineFault}

-- whether the word of a line is `.macro`, letters in either case
abbrev pub is_macro : Option (List ℕ) → Bool
is_macro None = false
is_macro (Some word) = str_eq_ignore_ascii_case word (codes ".macro")

-- a label that is valid
abbrev pub valid_label : Result (Option (List ℕ)) LineFault → Option (List ℕ)
valid_label (Ok label) = label
valid_label (Err f) = None

-- the name of the macro that begins in a line, if one does: the label of a `.macro`
abbrev pub macro_in : List ℕ → Option (List ℕ)
macro_in text = if is_macro (first_word text) then valid_label (label_in text) else None

-- the names of the macros that begin in the lines of a file
unfoldable pub macros_in_file : Option (List ℕ) → List (List ℕ)
macros_in_file None = []
macros_in_file (Some text) = flat_map (λ line. option_to_list (macro_in line)) (lines text)

-- the names of the macros that begin in lines of these files, in the order of the files
abbrev pub macros_in_files : Files → List (List ℕ)
macros_in_files files = flat_map (λ f. macros_in_file (text_named files f.0)) files
