-- A line of a source as it stands in its file, where expansion refuses it, or there is no room for it, and
-- no line is given that is read.
use Rattle.std.specs.Prelude.{ℕ, List, [], Option, Some, None, option_and_then, unwrap_or}
use Rattle.c25_asm.specs.Seen.{Seen}
use Rattle.c25_explain.specs.Note.{line_of}
use Rattle.c25_meaning_expansion.specs.Files.{Files, text_named}
use Rattle.c25_meaning_language.specs.ExpansionFault.{ExpansionFault, Faulty, Missing}
use Rattle.c25_meaning_language.specs.Value.{start_of_text}

-- the text of a line of a file; empty where there is no such line
abbrev pub written_text : Files → (file : List ℕ) → ℕ → List ℕ
written_text files file line = unwrap_or (option_and_then (λ text. line_of text line) (text_named files file)) []

-- a line of a file before substitution, with no names
abbrev pub written_line : Files → (file : List ℕ) → ℕ → Seen
written_line files file line = record { text = written_text files file line; table = record { entries = []; here = start_of_text } }

-- a line as it is read, or else as it stands in its file
abbrev pub seen_at : Files → (file : List ℕ) → ℕ → Option Seen → Option Seen
seen_at files file line None = Some (written_line files file line)
seen_at files file line (Some seen) = Some seen

-- the line of a fault as it is read, or else as it stands in its file
abbrev pub seen_or_written : Files → ExpansionFault → Option Seen → Option Seen
seen_or_written files (Faulty file line kind) seen = seen_at files file line seen
seen_or_written files (Missing file line name) seen = seen
