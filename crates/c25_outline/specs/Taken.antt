-- The lines that begin a macro of the name that another line gives to a macro too (36), before expansion.
use Rattle.std.specs.Prelude.{ℕ, Bool, false, ◌&&◌, ◌||◌, not, nat_lt, is_some, if◌then◌else◌, List, [], ◌∷◌, ◌++◌, codes, Option, Some, None}
use Rattle.std.specs.List.{flat_map}
use Rattle.std.specs.Option.{option_map_or}
use Rattle.std.specs.Str.{bytes_eq}
use Rattle.c25_meaning_common.specs.Faults.{placed_text}
use Rattle.c25_meaning_expansion.specs.Files.{Files, text_named}
use Rattle.c25_meaning_expansion.specs.Rows.{Row, rows_of}
use Rattle.c25_meaning_instructions.specs.Spellings.{spelling_of}
use Rattle.c25_outline.specs.Macros.{macro_in}
use Rattle.c25_outline.specs.declared.taken.MacroLine.{MacroLine}

-- a line of a file that begins a macro, and the name of the macro
pub record Begun : Type 0 where
  pub file : List ℕ
  pub line : ℕ
  pub name : List ℕ

-- whether a line begins a macro of this name; names are compared byte by byte, as where a macro is called
abbrev pub begins : (name text : List ℕ) → Bool
begins name text = option_map_or (bytes_eq name) (macro_in text) false

-- whether a line of a file stands before another line; a line of another file counts as one that does
abbrev pub is_before : Begun → (file : List ℕ) → (line : ℕ) → Bool
is_before b file line = not (bytes_eq file b.file) || nat_lt line b.line

-- a line as it is shown: its file, its number and its text
unfoldable pub macro_text : (file : List ℕ) → (line : ℕ) → (text : List ℕ) → List ℕ
macro_text file line text = codes "  macro: " ++ placed_text file line text ++ codes "\n"

-- a line of a file, if it stands before and begins a macro of the same name
abbrev pub row_text : Begun → (file : List ℕ) → Row → List ℕ
row_text b file row = if begins b.name row.text && is_before b file row.place.line then macro_text file row.place.line row.text else []

-- the lines of a file that do
unfoldable pub file_text : Begun → (file : List ℕ) → Option (List ℕ) → List ℕ
file_text b file None = []
file_text b file (Some text) = flat_map (row_text b file) (rows_of 0 text)

-- the lines of all files that do, in the order of the files
abbrev pub files_text : Files → Begun → List ℕ
files_text files b = flat_map (λ f. file_text b f.0 (text_named files f.0)) files

-- the first of two texts that is not empty
abbrev pub or_else : List ℕ → List ℕ → List ℕ
or_else [] other = other
or_else (c ∷ cs) other = c ∷ cs

-- the lines of all files that stand before this line, which has this text, and begin a macro of the same name; where
-- there is none, the line itself
abbrev pub begun_text : Files → Begun → (text : List ℕ) → List ℕ
begun_text files b text = or_else (files_text files b) (macro_text b.file b.line text)

-- the same for a name that is not that of a mnemonic; nothing for that of a mnemonic
abbrev pub named_text : Files → Begun → (text : List ℕ) → List ℕ
named_text files b text = if is_some (spelling_of b.name) then [] else begun_text files b text

-- the same for a line of a file; nothing where it begins no macro
abbrev pub taken_text : Files → (file : List ℕ) → (line : ℕ) → (text : List ℕ) → List ℕ
taken_text files file line text = elim (macro_in text) [ None ↦ [] | Some name ↦ named_text files (record { file = file; line = line; name = name }) text ]

-- ---- how the code has it

-- a line that begins a macro, as clauses see it
abbrev pub begun_of : MacroLine → Begun
begun_of b = record { file = b.file.now; line = b.line; name = b.name.now }
