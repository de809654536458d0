-- The tasks `run` and `debug` of an image: a source and a command file are made of it, which stand on no disk, and these are run.
use Rattle.std.specs.Prelude.{◌≡◌, ◌⊎◌, ℕ, Bool, false, List, [], ◌∷◌, Option, Some, None, Result, Ok, Err, map}
use Rattle.std.specs.Io.KnownBytes.{Keeps}
use Rattle.std.specs.String.{string_bytes}
use Rattle.c25_disk.specs.Held.{Held}
use Rattle.c25_fronts.specs.Folders.{Opens}
use Rattle.c25_fronts.specs.Fronts.{entry_of, fronted, with_fronts}
use Rattle.c25_image_source.specs.Asked.{first_file, mistake_text, run_asked}
use Rattle.c25_image_source.specs.Made.{MakesSource, command_name, source_name}
use Rattle.c25_image_source.specs.declared.asked.ImageAsked.{ImageAsked}
use Rattle.c25_image_source.specs.declared.fault.SourceFault.{SourceFault}
use Rattle.c25_image_source.specs.declared.made.MadeNames.{MadeNames}
use Rattle.c25_image_source.specs.declared.made.MadeSource.{MadeSource}
use Rattle.c25_image_source.specs.declared.mistake.Mistake.{Mistake}
use Rattle.c25_inputs.specs.Files.{plain_names}
use Rattle.c25_meaning_common.specs.declared.failure.Failure.{Failure}
use Rattle.c25_meaning_expansion.specs.Files.{Files}
use Rattle.c25_options.specs.Task.{text_of, texts_of}
use Rattle.c25_options.specs.declared.task.DebugImageTask.{DebugImageTask}
use Rattle.c25_options.specs.declared.task.DebugTask.{DebugTask}
use Rattle.c25_options.specs.declared.task.ImageRun.{ImageRun}
use Rattle.c25_options.specs.declared.task.RunFiles.{RunFiles}
use Rattle.c25_options.specs.declared.task.RunImageTask.{RunImageTask}
use Rattle.c25_options.specs.declared.task.RunTask.{RunTask}
use Rattle.c25_options.specs.declared.task.SourceOptions.{SourceOptions}
use Rattle.c25_report.specs.Ending.{IsShort}
use Rattle.c25_report.specs.declared.ending.Ending.{Ending}
use Rattle.c25_report.specs.declared.ending.Report.{Report}
use Rattle.c25_source.specs.declared.source.Source.{Source}
use Rattle.c25_tasks.specs.Counting.{DoesRun}
use Rattle.c25_tasks.specs.Debugging.{DoesDebug}
use Rattle.c25_tasks.specs.Images.{IsStill, TellsFailure, made_files}
use Rattle.c25_tasks.specs.Reading.{AreNotesUnder, Noting}
use Rattle.c25_tasks.specs.Tells.{IsMisuse, IsShortOf, Printed, Wrote}
use Rattle.c25_tasks.specs.declared.image_texts.ImageTexts.{ImageTexts}

-- ---- texts

-- the files that stand for the texts of an image
abbrev pub files_of : ImageTexts → Files
files_of texts = map entry_of texts.fronts.items

-- these are the texts of an image: a source of its words, certified by a build, and the command file, under names that begin with
-- that of its first file
pub record AreTextsOf (held : Held) (asked : ImageAsked) (texts : ImageTexts) : Type 0 where
  pub source : string_bytes texts.names.source ≡ source_name asked.base.now
  pub command : string_bytes texts.names.command ≡ command_name asked.base.now
  pub made : MadeSource
  pub makes : MakesSource held asked (source_name asked.base.now) (Ok made)
  pub files : files_of texts ≡ made_files (source_name asked.base.now) (command_name asked.base.now) made.source

-- the texts of an image under names, unless memory runs out
abbrev pub MakesUnder : MadeNames → Source → Result ImageTexts Report → Type 0
MakesUnder names made (Ok texts) = (texts.names ≡ names) × (files_of texts ≡ made_files (string_bytes names.source) (string_bytes names.command) made)
MakesUnder names made (Err report) = IsShort report.ending × (string_bytes report.note ≡ [])

-- the report of a failure for which an image has no source
abbrev pub TellsFailed : Held → (explain : Bool) → ImageAsked → Failure SourceFault → Ending → (note : List ℕ) → Type 0
TellsFailed held explain asked failed e note =
    Noting (AreNotesUnder (record { explain = explain; all = false }) None (plain_names []) ((first_file asked.files).now ∷ [])) (λ notes. TellsFailure held notes (text_of asked.hints) failed e note)

-- memory ran out, or it is reported why an image has no source
abbrev pub TellsRefused : Held → (explain : Bool) → ImageAsked → Ending → (note : List ℕ) → Type 0
TellsRefused held explain asked e note =
    (IsShort e × (note ≡ []))
    ⊎ ((failed : Failure SourceFault) × MakesSource held asked (source_name asked.base.now) (Err failed) × TellsFailed held explain asked failed e note)

-- the report of why there are no texts of an image
abbrev pub TellsNone : Held → (explain : Bool) → Result ImageAsked Mistake → Ending → (note : List ℕ) → Type 0
TellsNone held explain (Err mistake) e note = IsMisuse (mistake_text mistake) e × (note ≡ [])
TellsNone held explain (Ok asked) e note = TellsRefused held explain asked e note

-- the texts of an image, by what its command line asks for
abbrev pub AreTexts : Held → Result ImageAsked Mistake → ImageTexts → Type 0
AreTexts held (Err mistake) texts = ⊥
AreTexts held (Ok asked) texts = AreTextsOf held asked texts

-- the texts of an image, or the report of why there are none
abbrev pub MakesTexts : Held → (explain : Bool) → Result ImageAsked Mistake → Result ImageTexts Report → Type 0
MakesTexts held explain asked (Ok texts) = AreTexts held asked texts
MakesTexts held explain asked (Err report) = TellsNone held explain asked report.ending (string_bytes report.note)

-- ---- runs of texts

-- no symbols are defined, and no folders are named
pub record IsPlainReading (reading : SourceOptions) : Type 0 where
  pub definitions : texts_of reading.definitions.items ≡ []
  pub folders : texts_of reading.folders.items ≡ []

-- the files of a run are the command file of an image's texts, and what is named for the image
pub record AreFilesOf (image : ImageRun) (texts : ImageTexts) (files : RunFiles) : Type 0 where
  pub command : text_of files.command ≡ Some (string_bytes texts.names.command)
  pub samples : files.samples ≡ image.samples
  pub schedule : files.schedule ≡ image.schedule

-- the task `run` of the source of an image
pub record IsRunOf (task : RunImageTask) (texts : ImageTexts) (run : RunTask) : Type 0 where
  pub sources : texts_of run.sources.items ≡ string_bytes texts.names.source ∷ []
  pub steps : run.steps ≡ task.steps
  pub files : AreFilesOf task.image texts run.files
  pub results : run.results ≡ task.results
  pub reading : IsPlainReading run.reading
  pub faults : run.faults ≡ task.faults

-- the task `debug` of the source of an image
pub record IsDebugOf (task : DebugImageTask) (texts : ImageTexts) (debug : DebugTask) : Type 0 where
  pub sources : texts_of debug.sources.items ≡ string_bytes texts.names.source ∷ []
  pub script : debug.script ≡ task.script
  pub interactive : debug.interactive ≡ task.interactive
  pub files : AreFilesOf task.image texts debug.files
  pub reading : IsPlainReading debug.reading
  pub faults : debug.faults ≡ task.faults

-- the source of an image is run where its texts stand on the disk in addition, unless memory runs out
abbrev pub RunsTexts : Held → Opens → RunImageTask → ImageTexts → Ending → (note : List ℕ) → Printed → Wrote → Type 0
RunsTexts held opens task texts e note out written =
    (IsShortOf e note written × Keeps out.0 out.1)
    ⊎ ((run : RunTask) × IsRunOf task texts run × DoesRun (fronted (files_of texts) held) (with_fronts (files_of texts) opens) run e note out written)

-- the source of an image is debugged where its texts stand on the disk in addition, unless memory runs out
abbrev pub DebugsTexts : Held → Opens → (input : Option (List ℕ)) → DebugImageTask → ImageTexts → Ending → (note : List ℕ) → Printed → Type 0
DebugsTexts held opens input task texts e note out =
    (IsShort e × (note ≡ []) × Keeps out.0 out.1)
    ⊎ ((debug : DebugTask) × IsDebugOf task texts debug × DoesDebug (fronted (files_of texts) held) (with_fronts (files_of texts) opens) input debug e note out)

-- ---- the tasks

-- what is done for `run` of an image
abbrev pub DoesRunImage : Held → Opens → RunImageTask → Ending → (note : List ℕ) → Printed → Wrote → Type 0
DoesRunImage held opens task e note out written =
    (TellsNone held task.faults.explain (run_asked task.image) e note × IsStill written out)
    ⊎ ((texts : ImageTexts) × AreTexts held (run_asked task.image) texts × RunsTexts held opens task texts e note out written)

-- what is done for `debug` of an image
abbrev pub DoesDebugImage : Held → Opens → (input : Option (List ℕ)) → DebugImageTask → Ending → (note : List ℕ) → Printed → Type 0
DoesDebugImage held opens input task e note out =
    (TellsNone held task.faults.explain (run_asked task.image) e note × Keeps out.0 out.1)
    ⊎ ((texts : ImageTexts) × AreTexts held (run_asked task.image) texts × DebugsTexts held opens input task texts e note out)
