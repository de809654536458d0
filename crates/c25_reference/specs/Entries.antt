-- The names that have an entry in the reference, and the text of an entry (this project's own; the names are those of SPRU014 and
-- SPRU018).
use Rattle.std.specs.Prelude.{ℕ, List, ◌++◌, Option, Some, None, codes, find, map, option_map}
use Rattle.std.specs.Str.{str_eq_ignore_ascii_case}
use Rattle.c25_meaning_assembly.specs.AssemblyLine as assembly
use Rattle.c25_meaning_expansion.specs.Acts as expansion
use Rattle.c25_meaning_instructions.specs.Spellings.{spelling_of}
use Rattle.c25_meaning_instructions.specs.Table.{spelling_text}
use Rattle.c25_reference.specs.declared.entry.Entry.{Entry}

-- the name of the instruction that a word spells, letters in either case
abbrev pub instruction_named : List ℕ → Option (List ℕ)
instruction_named word = option_map spelling_text (spelling_of word)

-- the first of these names that a word is, letters in either case
abbrev pub name_among : List ℕ → List (List ℕ) → Option (List ℕ)
name_among word names = find (str_eq_ignore_ascii_case word) names

-- the first of two answers, and the second where the first has none
abbrev pub or_else : Option (List ℕ) → Option (List ℕ) → Option (List ℕ)
or_else (Some name) other = Some name
or_else None other = other

-- the name of the directive that a word is, letters in either case: one that the assembler acts on, one without effect, or one of
-- expansion
abbrev pub directive_named : List ℕ → Option (List ℕ)
directive_named word =
    or_else (name_among word (map (λ d. d.0) assembly.directives))
    (or_else (name_among word assembly.ignored) (name_among word (map (λ d. d.0) expansion.directives)))

-- the name of the instruction or the directive that a word is, letters in either case
abbrev pub entry_named : List ℕ → Option (List ℕ)
entry_named word = or_else (instruction_named word) (directive_named word)

-- an entry's forms, what it does, and its examples, with an empty line between them
abbrev pub whole_text : Entry → List ℕ
whole_text e = e.form.now ++ codes "\n" ++ e.does.now ++ codes "\nExample:\n\n" ++ e.example.now
