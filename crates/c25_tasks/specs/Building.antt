-- Programs of sources on a disk, and their output files.
use Rattle.std.specs.Prelude.{ℕ, List, [], ◌∷◌, ◌++◌, Option, Some, None, Result}
use Rattle.c25_chain.specs.Built.{Builds}
use Rattle.c25_chain.specs.Refusal.{Fault}
use Rattle.c25_chain.specs.declared.built.Built.{Built}
use Rattle.c25_disk.specs.Held.{Held}
use Rattle.c25_disk.specs.Written.{contents_of}
use Rattle.c25_disk.specs.declared.writing.Output.{Output}
use Rattle.c25_meaning_expansion.specs.Files.{Files}
use Rattle.c25_report.specs.ProgramFiles.{files_of}
use Rattle.c25_report.specs.declared.texts.ProgramFileTexts.{ProgramFileTexts}
use Rattle.c25_tasks.specs.declared.texts.Program.{Program}
use Rattle.c25_inputs.specs.Files.{AfterOptional, AfterSources, ComesTo, SourceNames, assembled_in}

-- ---- programs

-- the program of the named sources among given files and those that they copy, under the text of a command
-- file; or why there is none
abbrev pub BuildsOver : Held → Files → List (List ℕ) → List ℕ → Result Built Fault → Type 0
BuildsOver held given names command answer = ComesTo held given (λ files result. Builds files names command result) answer

-- the program of sources on a disk: the sources are read first, and then the command file, where one is named
abbrev pub BuildsFrom : Held → SourceNames → Option (List ℕ) → Result Built Fault → Type 0
BuildsFrom held sources command answer = AfterSources held sources (λ given. AfterOptional held command (BuildsOver held given (assembled_in sources))) answer

-- ---- files

-- the texts of the files of a built program
abbrev pub texts_in : Built → ProgramFileTexts
texts_in built = record { page0 = built.linked.page0.text; page1 = built.linked.page1.text; map = built.linked.map; listings = built.listings }

-- files, and one more after them, if there is one
abbrev pub and_file : Files → Option Output → Files
and_file files None = files
and_file files (Some file) = files ++ contents_of file ∷ []

-- the files of a program, and after them that of its symbols, if there is one
abbrev pub program_files : (base : List ℕ) → Program → Files
program_files base program = and_file (files_of base (texts_in program.built)) program.symbols
