-- The task `build`: the files of a program of sources on a disk, with its symbols and its EPROMs where they are asked for.
use Rattle.std.specs.Prelude.{◌≡◌, ◌⊎◌, ℕ, List, [], ◌∷◌, ◌++◌, Option, Some, None, option_map, Result, Ok, Err}
use Rattle.std.specs.Io.KnownBytes.{Keeps}
use Rattle.std.specs.String.{string_bytes}
use Rattle.c25_chain.specs.Refusal.{Fault}
use Rattle.c25_chain.specs.declared.built.Built.{Built}
use Rattle.c25_disk.specs.Held.{Adds, Held, Stay}
use Rattle.c25_disk.specs.Written.{contents_of}
use Rattle.c25_fronts.specs.Folders.{Opens}
use Rattle.c25_inputs.specs.Files.{SourceNames}
use Rattle.c25_meaning_expansion.specs.Files.{Files}
use Rattle.c25_options.specs.Task.{text_of, texts_of}
use Rattle.c25_options.specs.declared.task.BuildTask.{BuildTask}
use Rattle.c25_report.specs.Ending.{IsPrinted}
use Rattle.c25_report.specs.declared.ending.Ending.{Ending}
use Rattle.c25_report.specs.declared.ending.Ending.TheVariants.{Done}
use Rattle.c25_report.specs.declared.ending.Report.{Report}
use Rattle.c25_rom.specs.Made.{Made, made_of}
use Rattle.c25_rom.specs.declared.fault.PastRom.{PastRom}
use Rattle.c25_source_notes.specs.declared.notes.SourceNotes.{SourceNotes}
use Rattle.c25_tasks.specs.Building.{BuildsFrom, program_files}
use Rattle.c25_tasks.specs.Reading.{AreNotesUnder, Noting, read_by, sources_under}
use Rattle.c25_tasks.specs.Roms.{IsPastReport, rom_asked}
use Rattle.c25_tasks.specs.Running.{is_explained}
use Rattle.c25_tasks.specs.Symbols.{BuildsWithSymbolsFrom}
use Rattle.c25_tasks.specs.Tells.{IsAnswerOrReport, IsMisuse, IsReportOf, IsShortOf, IsUnwrittenAmong, Printed, WritesTexts, Wrote}
use Rattle.c25_tasks.specs.declared.texts.Program.{Program}
use Rattle.c25_tasks.specs.declared.roms.RomAsked.{RomAsked}
use Rattle.c25_tasks.specs.declared.symbols.BuiltWithSymbols.{BuiltWithSymbols}

-- ---- programs

-- a program is this one without a file of its symbols, or the failure is that of building it
abbrev pub IsPlain : Result Built Fault → Result Program Fault → Type 0
IsPlain (Ok built) (Ok program) = (program.built ≡ built) × (program.symbols ≡ None)
IsPlain (Ok built) (Err fault) = ⊥
IsPlain (Err fault) (Ok program) = ⊥
IsPlain (Err fault) (Err told) = told ≡ fault

-- a program is this one with the file of this name for its symbols, or the failure is that of building it
abbrev pub IsWithSymbols : (file : List ℕ) → Result BuiltWithSymbols Fault → Result Program Fault → Type 0
IsWithSymbols file (Ok b) (Ok program) = (program.built ≡ b.built) × (option_map contents_of program.symbols ≡ Some (file, string_bytes b.symbols))
IsWithSymbols file (Ok b) (Err fault) = ⊥
IsWithSymbols file (Err fault) (Ok program) = ⊥
IsWithSymbols file (Err fault) (Err told) = told ≡ fault

-- the program of sources on a disk under a command file, where one is named, with the file of its symbols, where one is
-- named; or why there is none
abbrev pub BuildsProgram : Held → SourceNames → (command symbols : Option (List ℕ)) → Result Program Fault → Type 0
BuildsProgram held sources command None answer = (told : Result Built Fault) × BuildsFrom held sources command told × IsPlain told answer
BuildsProgram held sources command (Some file) answer = (told : Result BuiltWithSymbols Fault) × BuildsWithSymbolsFrom held sources command told × IsWithSymbols file told answer

-- the program of sources on a disk, or the report of why there is none
abbrev pub BuildsOrReports : Held → SourceNotes → SourceNames → (command symbols : Option (List ℕ)) → Result Program Report → Type 0
BuildsOrReports held notes sources command symbols answer =
    (told : Result Program Fault) × BuildsProgram held sources command symbols told × IsAnswerOrReport held notes told answer

-- ---- files

-- files are written, and then a text is printed; where a file cannot be written, or memory runs out before, no text is printed
abbrev pub WritesAndPrints : Held → SourceNotes → Files → (text : List ℕ) → Ending → (note : List ℕ) → Wrote → Printed → Type 0
WritesAndPrints held notes files text e note written out =
    (IsPrinted text Done e out.0 out.1 × (note ≡ []) × Adds written.0 written.1 files)
    ⊎ ((IsUnwrittenAmong held notes files e note written ⊎ IsShortOf e note written) × Keeps out.0 out.1)

-- files are written, and after them those of EPROMs, whose lines are printed; where a word has no place in them, nothing is
-- written
abbrev pub WritesRom : Held → SourceNotes → Files → Result Made PastRom → Ending → (note : List ℕ) → Wrote → Printed → Type 0
WritesRom held notes files (Ok rom) e note written out = WritesAndPrints held notes (files ++ rom.files) rom.lines e note written out
WritesRom held notes files (Err past) e note written out = IsPastReport (is_explained notes) past e note × Stay written.0 written.1 × Keeps out.0 out.1

-- the files of a program are written, and those of the EPROMs of its program memory, where they are asked for
abbrev pub WritesProgram : Held → SourceNotes → (base : List ℕ) → Option RomAsked → Program → Ending → (note : List ℕ) → Wrote → Printed → Type 0
WritesProgram held notes base None program e note written out = WritesTexts held notes (program_files base program) e note written × Keeps out.0 out.1
WritesProgram held notes base (Some asked) program e note written out =
    WritesRom held notes (program_files base program) (made_of base asked.shape program.built.linked.image.program asked.fill) e note written out

-- the same where there is a program, and else the report of why there is none
abbrev pub WritesBuilt : Held → SourceNotes → (base : List ℕ) → Option RomAsked → Result Program Fault → Ending → (note : List ℕ) → Wrote → Printed → Type 0
WritesBuilt held notes base rom (Ok program) e note written out = WritesProgram held notes base rom program e note written out
WritesBuilt held notes base rom (Err fault) e note written out = IsReportOf held notes fault e note × Stay written.0 written.1 × Keeps out.0 out.1

-- ---- the task

-- what is done with these notes for sources, where these EPROMs are asked for
abbrev pub BuildsToDisk : Held → SourceNotes → SourceNames → (command symbols : Option (List ℕ)) → (base : List ℕ) → Option RomAsked → Ending → (note : List ℕ) → Wrote → Printed → Type 0
BuildsToDisk held notes sources command symbols base rom e note written out =
    (told : Result Program Fault) × BuildsProgram held sources command symbols told × WritesBuilt held notes base rom told e note written out

-- what is done for a task where these EPROMs are asked for
abbrev pub BuildsWith : Held → Opens → BuildTask → Option RomAsked → Ending → (note : List ℕ) → Wrote → Printed → Type 0
BuildsWith held opens task rom e note written out =
    Noting (AreNotesUnder task.faults task.command (sources_under task.sources.items task.reading) [])
    (λ notes. BuildsToDisk (read_by (texts_of task.sources.items) (text_of task.command ∷ []) task.reading opens held) notes (sources_under task.sources.items task.reading) (text_of task.command) (text_of task.symbols) task.base.now rom e note written out)

-- what is done for a task by what its options for EPROMs ask for; where something is wrong with these, nothing is read
abbrev pub BuildsAsked : Held → Opens → BuildTask → Result (Option RomAsked) (List ℕ) → Ending → (note : List ℕ) → Wrote → Printed → Type 0
BuildsAsked held opens task (Ok rom) e note written out = BuildsWith held opens task rom e note written out
BuildsAsked held opens task (Err line) e note written out = IsMisuse line e × (note ≡ []) × Stay written.0 written.1 × Keeps out.0 out.1

-- what is done for a task
abbrev pub DoesBuild : Held → Opens → BuildTask → Ending → (note : List ℕ) → Wrote → Printed → Type 0
DoesBuild held opens task e note written out = BuildsAsked held opens task (rom_asked (text_of task.rom.size) (text_of task.rom.fill)) e note written out
