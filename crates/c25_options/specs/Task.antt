-- The task that a command line asks for, by the matches that `clap` defines.
use Rattle.std.specs.Prelude.{◌≡◌, ℕ, Bool, true, false, List, [], Option, Some, None, Result, Ok, Err, codes, map, option_map}
use Rattle.std.specs.Str.{bytes_eq}
use Rattle.std.specs.Str.Parse.{IsNumeral, digits_value, without_leading_plus}
use Rattle.std.specs.Borrow.{Bor}
use Rattle.clap.specs.Words.{Row, Text, all_of, first_of, kind_of, one_of, subcommand_of}
use Rattle.clap.specs.Kinds.{HasKind, Kinds}
use Rattle.clap.specs.declared.error.Error.{Error}
use Rattle.clap.specs.declared.error.kind.ErrorKind.{ErrorKind}
use Rattle.clap.specs.declared.error.kind.ErrorKind.TheVariants.{OutOfMemory}
use Rattle.c25_meaning_common.specs.declared.failure.Failure.{Failure}
use Rattle.c25_meaning_common.specs.declared.failure.Failure.TheVariants.{NoMemory, Fault}
use Rattle.c25_options.specs.Program.{program}
use Rattle.c25_options.specs.Together.{kinds_of, says_image, words_fault}
use Rattle.c25_options.specs.declared.task.FaultOptions.{FaultOptions}
use Rattle.c25_options.specs.declared.task.ImageOptions.{ImageOptions}
use Rattle.c25_options.specs.declared.task.ImageRun.{ImageRun}
use Rattle.c25_options.specs.declared.task.OldOptions.{OldOptions}
use Rattle.c25_options.specs.declared.task.RomOptions.{RomOptions}
use Rattle.c25_options.specs.declared.task.RunFiles.{RunFiles}
use Rattle.c25_options.specs.declared.task.RunResults.{RunResults}
use Rattle.c25_options.specs.declared.task.SourceOptions.{SourceOptions}
use Rattle.c25_options.specs.declared.task.Task.{Task}
use Rattle.c25_options.specs.declared.task.Task.TheVariants.{RunStandardInput, Assemble, Link, Build, Run, RunImage, Debug, DebugImage, Explain, Disassemble, Check, Move}

-- the texts of borrowed texts
abbrev pub texts_of : List (Bor Text) → List Text
texts_of = map (λ s. s.now)

-- the text of a borrowed text that may be left out
abbrev pub text_of : Option (Bor Text) → Option Text
text_of = option_map (λ s. s.now)

-- the decimal number that a text gives, with or without a plus in front
abbrev pub Gives : Text → ℕ → Type 0
Gives text n = IsNumeral 10 (without_leading_plus text) × (n ≡ digits_value 10 (without_leading_plus text))

-- the number of steps that the text of `--steps` gives (`one_of` takes a minus off, so `-0` is 0), which is 1,000 where there is none
abbrev pub IsSteps : Option Text → ℕ → Type 0
IsSteps None n = n ≡ 1000
IsSteps (Some text) n = Gives text n

-- the number that the text of an option gives, if it was given
abbrev pub IsCount : Option Text → Option ℕ → Type 0
IsCount None count = count ≡ None
IsCount (Some text) None = ⊥
IsCount (Some text) (Some n) = Gives text n

-- whether a flag was given: the text that is found for it is `true` where it was, and else `false`
abbrev pub IsFlag : Option Text → Bool → Type 0
IsFlag None given = given ≡ false
IsFlag (Some text) given = given ≡ bytes_eq text (codes "true")

-- the files of a run are the values of its options
pub record AreRunFiles (rows : List Row) (files : RunFiles) : Type 0 where
  pub command : text_of files.command ≡ first_of (codes "command") rows
  pub samples : text_of files.samples ≡ first_of (codes "samples") rows
  pub schedule : text_of files.schedule ≡ first_of (codes "schedule") rows

-- what is printed and written of a run is what these flags and options say
pub record AreRunResults (rows : List Row) (results : RunResults) : Type 0 where
  pub regs : IsFlag (one_of (codes "regs") rows) results.regs
  pub when : IsFlag (one_of (codes "when") rows) results.when
  pub counts : text_of results.counts ≡ first_of (codes "counts") rows
  pub counts_list : text_of results.counts_list ≡ first_of (codes "counts-list") rows

-- the EPROMs are what these options say
pub record AreRomOptions (rows : List Row) (options : RomOptions) : Type 0 where
  pub size : text_of options.size ≡ first_of (codes "rom") rows
  pub fill : text_of options.fill ≡ first_of (codes "fill") rows

-- how the words of an image are read, and what is known of them, is what these options and flags say
pub record AreImageOptions (rows : List Row) (options : ImageOptions) : Type 0 where
  pub high : text_of options.high ≡ first_of (codes "high") rows
  pub low : text_of options.low ≡ first_of (codes "low") rows
  pub binary : IsFlag (one_of (codes "binary") rows) options.binary
  pub low_first : IsFlag (one_of (codes "low-first") rows) options.low_first
  pub blank : IsCount (one_of (codes "blank") rows) options.blank
  pub hints : text_of options.hints ≡ first_of (codes "hints") rows

-- an image that is run in place of sources, and the files that the run reads in addition to it, are what these options say
pub record AreImageRun (rows : List Row) (image : ImageRun) : Type 0 where
  pub file : text_of image.file ≡ first_of (codes "image") rows
  pub options : AreImageOptions rows image.options
  pub samples : text_of image.samples ≡ first_of (codes "samples") rows
  pub schedule : text_of image.schedule ≡ first_of (codes "schedule") rows

-- how old sources are written is what these options say
pub record AreOldOptions (rows : List Row) (options : OldOptions) : Type 0 where
  pub style : text_of options.style ≡ first_of (codes "style") rows
  pub long_order : text_of options.long_order ≡ first_of (codes "long-order") rows
  pub from : text_of options.from ≡ first_of (codes "from") rows
  pub ignore_case : IsFlag (one_of (codes "ignore-case") rows) options.ignore_case

-- what is reported of faults is what these flags say
pub record AreFaultOptions (rows : List Row) (options : FaultOptions) : Type 0 where
  pub explain : IsFlag (one_of (codes "explain") rows) options.explain
  pub all : IsFlag (one_of (codes "all") rows) options.all

-- the values of an option that may be given several times, in their order; none where it is not given
abbrev pub values_of : Text → List Row → List Text
values_of id rows = elim (all_of id rows) [ None ↦ [] | Some values ↦ values ]

-- how sources are read is what the values of these options say
pub record AreSourceOptions (rows : List Row) (options : SourceOptions) : Type 0 where
  pub definitions : texts_of options.definitions.items ≡ values_of (codes "define") rows
  pub folders : texts_of options.folders.items ≡ values_of (codes "include") rows

-- the task that a subcommand of this name with these matches asks for
abbrev pub Asks : Text → List Row → Task → Type 0
Asks name rows RunStandardInput = ⊥
Asks name rows (Assemble task) =
    (name ≡ codes "asm")
    × (first_of (codes "source") rows ≡ Some task.source.now)
    × (first_of (codes "obj") rows ≡ Some task.object.now)
    × (first_of (codes "list") rows ≡ text_of task.listing)
    × AreSourceOptions rows task.reading
    × AreFaultOptions rows task.faults
Asks name rows (Link task) =
    (name ≡ codes "link")
    × (first_of (codes "command") rows ≡ Some task.command.now)
    × (all_of (codes "object") rows ≡ Some (texts_of task.objects.items))
    × (first_of (codes "out") rows ≡ Some task.base.now)
    × AreFaultOptions rows task.faults
Asks name rows (Build task) =
    (name ≡ codes "build")
    × (all_of (codes "source") rows ≡ Some (texts_of task.sources.items))
    × (first_of (codes "out") rows ≡ Some task.base.now)
    × (first_of (codes "command") rows ≡ text_of task.command)
    × (first_of (codes "symbols") rows ≡ text_of task.symbols)
    × AreRomOptions rows task.rom
    × AreSourceOptions rows task.reading
    × AreFaultOptions rows task.faults
Asks name rows (Run task) =
    (name ≡ codes "run")
    × (says_image rows ≡ false)
    × (all_of (codes "source") rows ≡ Some (texts_of task.sources.items))
    × IsSteps (one_of (codes "steps") rows) task.steps
    × AreRunFiles rows task.files
    × AreRunResults rows task.results
    × AreSourceOptions rows task.reading
    × AreFaultOptions rows task.faults
Asks name rows (RunImage task) =
    (name ≡ codes "run")
    × (says_image rows ≡ true)
    × AreImageRun rows task.image
    × IsSteps (one_of (codes "steps") rows) task.steps
    × AreRunResults rows task.results
    × AreFaultOptions rows task.faults
Asks name rows (Debug task) =
    (name ≡ codes "debug")
    × (says_image rows ≡ false)
    × (all_of (codes "source") rows ≡ Some (texts_of task.sources.items))
    × (first_of (codes "script") rows ≡ text_of task.script)
    × IsFlag (one_of (codes "interactive") rows) task.interactive
    × AreRunFiles rows task.files
    × AreSourceOptions rows task.reading
    × AreFaultOptions rows task.faults
Asks name rows (DebugImage task) =
    (name ≡ codes "debug")
    × (says_image rows ≡ true)
    × AreImageRun rows task.image
    × (first_of (codes "script") rows ≡ text_of task.script)
    × IsFlag (one_of (codes "interactive") rows) task.interactive
    × AreFaultOptions rows task.faults
Asks name rows (Explain fault) = (name ≡ codes "explain") × (first_of (codes "fault") rows ≡ text_of fault)
Asks name rows (Disassemble task) =
    (name ≡ codes "dis")
    × (first_of (codes "file") rows ≡ text_of task.file)
    × (first_of (codes "from") rows ≡ text_of task.from)
    × IsFlag (one_of (codes "source") rows) task.source
    × AreImageOptions rows task.image
    × (first_of (codes "out") rows ≡ text_of task.base)
    × IsFlag (one_of (codes "explain") rows) task.explain
Asks name rows (Check task) =
    (name ≡ codes "check")
    × (all_of (codes "source") rows ≡ Some (texts_of task.sources.items))
    × (first_of (codes "command") rows ≡ text_of task.command)
    × IsFlag (one_of (codes "pages") rows) task.pages
    × AreSourceOptions rows task.reading
    × AreFaultOptions rows task.faults
Asks name rows (Move task) =
    (name ≡ codes "move")
    × (all_of (codes "source") rows ≡ Some (texts_of task.sources.items))
    × (first_of (codes "out") rows ≡ Some task.folder.now)
    × (first_of (codes "command") rows ≡ text_of task.command)
    × AreOldOptions rows task.writing
    × (first_of (codes "hex") rows ≡ text_of task.hex)
    × IsFlag (one_of (codes "quiet") rows) task.quiet

-- the task that what `clap` finds asks for
abbrev pub IsAskedBy : Option (Text × List Row) → Task → Type 0
IsAskedBy None task = ⊥
IsAskedBy (Some found) task = Asks found.0 found.1 task

-- memory ran out: here, or in `clap`, which reports that by a kind of its error
abbrev pub IsWantOfMemory : Failure Error → Type 0
IsWantOfMemory (NoMemory n) = Unit {0}
IsWantOfMemory (Fault error) = kind_of error ≡ OutOfMemory

-- the failure is one of these kinds of error, unless memory ran out
abbrev pub RefusesBy : Kinds → Failure Error → Type 0
RefusesBy kinds (NoMemory n) = Unit {0}
RefusesBy kinds (Fault error) = HasKind kinds error

-- what is read of what `clap` finds: a task of which this holds where it has no error, and else that error, or out of memory
abbrev pub ReadsFound : Option ErrorKind → (Task → Type 0) → Result Task (Failure Error) → Type 0
ReadsFound error Is (Ok task) = (error ≡ None) × Is task
ReadsFound error Is (Err failure) = RefusesBy (kinds_of error) failure

-- what is read of a command line, the program's name first: a task where there is no fault, of `clap` or of arguments that do
-- not stand together, and else one of its faults, or out of memory
abbrev pub Reads : List Text → Result Task (Failure Error) → Type 0
Reads words (Ok task) = (words_fault words ≡ []) × IsAskedBy (subcommand_of program words) task
Reads words (Err failure) = RefusesBy (words_fault words) failure
