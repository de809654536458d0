-- Names that are spelled like a word that stands for nothing (22, 50).
use Rattle.std.specs.Prelude.{ℕ, ◌/◌, ◌==◌, ◌&&◌, Bool, if◌then◌else◌, nat_le, List, [], ◌∷◌, ◌++◌, length, map, take, slice_index, codes, Option, Some, None}
use Rattle.std.specs.List.{filter, join_by}
use Rattle.std.specs.Char.{to_ascii_lowercase}
use Rattle.std.specs.Option.{option_map, option_and_then, option_or}
use Rattle.std.specs.Str.{chars}
use Rattle.strsim.specs.Edits.{osa_table}
use Rattle.c25_meaning_instructions.specs.Spellings.{spellings}
use Rattle.c25_meaning_instructions.specs.Table.{spelling_text}
use Rattle.c25_meaning_language.specs.Line.{first_word}
use Rattle.c25_meaning_language.specs.Value.{Table}
use Rattle.c25_meaning_language.specs.declared.statement.FaultKind.{FaultKind}
use Rattle.c25_meaning_language.specs.declared.statement.FaultKind.TheVariants as fault
use Rattle.c25_hints.specs.Hints.{remark_on}
use Rattle.c25_hints.specs.Macros.{of_macros}
use Rattle.c25_hints.specs.Remark.{Remark, text_of}
use Rattle.c25_hints.specs.Tables.{directive_forms}
use Rattle.c25_hints.specs.Values.{defined_names, needed_at_once, nowhere_defined, refused_name}
use Rattle.c25_hints.specs.declared.cause.Cause.TheVariants as cause

-- ---- which names are near

-- a text in lower case, as characters
abbrev pub letters : List ℕ → List ℕ
letters text = chars (map to_ascii_lowercase text)

-- how many steps lead from one text to another: a character less, more or other, or two neighbours that change
-- places (strsim, optimal string alignment); letters in either case
abbrev pub steps : List ℕ → List ℕ → ℕ
steps a b = (osa_table (letters a) (letters b)).last_row (length (letters b))

-- whether so many steps lead to a name, and are at most half as many as the word has bytes
abbrev pub is_near : ℕ → List ℕ → List ℕ → Bool
is_near count word name = steps word name == count && nat_le count (length word / 2)

-- the names to which so many steps lead
abbrev pub near : ℕ → List ℕ → List (List ℕ) → List (List ℕ)
near count word names = filter (is_near count word) names

-- up to three names to which one step or two lead: first those of one, each in the order of the names
abbrev pub similar : List ℕ → List (List ℕ) → List (List ℕ)
similar word names = take 3 (near 1 word names ++ near 2 word names)

-- ---- which names there are

-- the mnemonics, in the order of the opcode table
unfoldable pub mnemonics : List (List ℕ)
mnemonics = map spelling_text spellings

-- the directives, in the order of their table
abbrev pub directives : List (List ℕ)
directives = map (λ r. r.0) directive_forms

-- the names that a word in the mnemonic field may stand for: directives for one with a dot, else these macros and
-- the mnemonics
abbrev pub operations : List (List ℕ) → List ℕ → List (List ℕ)
operations macros word = if slice_index word 0 == 46 then directives else macros ++ mnemonics

-- ---- the remark

-- the remark that lists names
abbrev pub of_joined : List (List ℕ) → Remark
of_joined names = record { cause = cause.Similar; word = []; more = join_by (λ s. s) (codes ", ") names }

-- the same, if there are any
abbrev pub of_names : List (List ℕ) → Option Remark
of_names [] = None
of_names (n ∷ names) = Some (of_joined (n ∷ names))

-- the remark that lists names like the first word of a line, where there are these macros
abbrev pub of_first_word : List ℕ → List (List ℕ) → Option Remark
of_first_word text macros = option_and_then (λ w. of_names (similar w (operations macros w))) (first_word text)

-- the remark that lists names like the name of a line that stands for nothing
abbrev pub of_refused_name : List ℕ → Table → Option Remark
of_refused_name text table = option_and_then (λ w. of_names (similar w (defined_names table))) (refused_name text table)

-- the remark on the name of a line that stands for nothing: its value is needed at once, or nothing defines it
abbrev pub of_no_value : List ℕ → Table → Option Remark
of_no_value text table = option_or (needed_at_once text table) (nowhere_defined text table)

-- the remark on a line with this fault that lists names like the word that is refused, or says why it has no value
abbrev pub of_similar : List ℕ → FaultKind → Table → (macros : List (List ℕ)) → Option Remark
of_similar text fault.UnknownMnemonic table macros = of_first_word text macros
of_similar text fault.Undefined table macros = option_or (of_refused_name text table) (of_no_value text table)
of_similar text _ table macros = None

-- the text of the remark on a line, where these macros are known: that its word is the name of one, what the line
-- shows, or else the names like its word
abbrev pub remark_among : List ℕ → FaultKind → Table → (macros : List (List ℕ)) → Option (List ℕ)
remark_among text kind table macros =
    option_map text_of (option_or (option_or (of_macros text kind macros) (remark_on text kind table)) (of_similar text kind table macros))

-- the same, where no macro is known
abbrev pub remark_text : List ℕ → FaultKind → Table → Option (List ℕ)
remark_text text kind table = remark_among text kind table []
