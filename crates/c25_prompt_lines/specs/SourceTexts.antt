-- The texts of the files that the sources are read from.
use Rattle.std.specs.Prelude.{ℕ, List, map, Option, string_bytes}
use Rattle.c25_meaning_expansion.specs.Files.{Files, text_named}
use Rattle.c25_prompt_lines.specs.declared.program.SourceText.{SourceText}

-- texts with the names of their files, as the definitions have them
abbrev pub files_of : List SourceText → Files
files_of texts = map (λ t. (string_bytes t.name, string_bytes t.text)) texts

-- the text of the file of this name, if there is one
abbrev pub text_in : List SourceText → List ℕ → Option (List ℕ)
text_in texts name = text_named (files_of texts) name
