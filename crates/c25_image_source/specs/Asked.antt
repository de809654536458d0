-- What a command line of `dis` asks for, and which image one of `run` or `debug` names (this project's own).
use Rattle.std.specs.Prelude.{ℕ, Bool, true, false, ◌||◌, ◌&&◌, if◌then◌else◌, List, Option, Some, None, is_some, Result, Ok, Err, codes}
use Rattle.std.specs.Borrow.{Bor}
use Rattle.c25_image_source.specs.declared.asked.DisAsked.{DisAsked}
use Rattle.c25_image_source.specs.declared.asked.DisAsked.TheVariants as asked
use Rattle.c25_image_source.specs.declared.asked.ImageAsked.{ImageAsked}
use Rattle.c25_image_source.specs.declared.asked.ImageFiles.{ImageFiles}
use Rattle.c25_image_source.specs.declared.asked.ImageFiles.TheVariants as files
use Rattle.c25_image_source.specs.declared.mistake.Mistake.{Mistake}
use Rattle.c25_image_source.specs.declared.mistake.Mistake.TheVariants as mistake
use Rattle.c25_options.specs.declared.task.DisassembleTask.{DisassembleTask}
use Rattle.c25_options.specs.declared.task.ImageOptions.{ImageOptions}
use Rattle.c25_options.specs.declared.task.ImageRun.{ImageRun}
use Rattle.c25_rom.specs.declared.byte_order.ByteOrder.{ByteOrder}
use Rattle.c25_rom.specs.declared.byte_order.ByteOrder.TheVariants.{HighFirst, LowFirst}

-- ---- files

-- the order of the bytes of a word in one file
abbrev pub order_of : (low_first : Bool) → ByteOrder
order_of true = LowFirst
order_of false = HighFirst

-- one file: binary with `--binary`, else a hex text, which has one order of bytes
abbrev pub file_of : Bor (List ℕ) → ImageOptions → Result ImageFiles Mistake
file_of name options =
    if options.binary then Ok (files.Binary name (order_of options.low_first))
    else (if options.low_first then Err mistake.LowFirst
    else Ok (files.Hex name))

-- a pair of files, where both are named; their bytes have no order
abbrev pub both_of : (low_first : Bool) → Option (Bor (List ℕ)) → Option (Bor (List ℕ)) → Result ImageFiles Mistake
both_of low_first None low = Err mistake.NoFile
both_of low_first (Some high) None = Err mistake.NoFile
both_of low_first (Some high) (Some low) = if low_first then Err mistake.LowFirst else Ok (files.Pair high low)

abbrev pub pair_of : ImageOptions → Result ImageFiles Mistake
pair_of options = both_of options.low_first options.high options.low

-- the files of an image: one, or else a pair, and not both
abbrev pub files_of : Option (Bor (List ℕ)) → ImageOptions → Result ImageFiles Mistake
files_of None options = pair_of options
files_of (Some name) options = if is_some options.high || is_some options.low then Err mistake.FileAndPair else file_of name options

-- how many erased words are left out as blank: 16 of a binary image and none of a hex text, where nothing is said
abbrev pub blank_of : ImageFiles → Option ℕ → ℕ
blank_of files (Some count) = count
blank_of (files.Hex name) None = 0
blank_of (files.Binary name order) None = 16
blank_of (files.Pair high low) None = 16

-- ---- tasks

-- an image of files, that is to be written under names that begin so
abbrev pub image_of : ImageFiles → ImageOptions → Option (Bor (List ℕ)) → Result DisAsked Mistake
image_of files options None = Err mistake.NoBase
image_of files options (Some base) = Ok (asked.Source (record { files = files; blank = blank_of files options.blank; hints = options.hints; base = base }))

-- an image of files, where they are named as they may be
abbrev pub image_in : Result ImageFiles Mistake → ImageOptions → Option (Bor (List ℕ)) → Result DisAsked Mistake
image_in (Err mistake) options base = Err mistake
image_in (Ok files) options base = image_of files options base

-- `dis --source`
abbrev pub ask_source : DisassembleTask → Result DisAsked Mistake
ask_source task = if is_some task.from then Err mistake.From else image_in (files_of task.file task.image) task.image task.base

-- a command line says something of an image that is to be written
abbrev pub says_image : DisassembleTask → Bool
says_image task =
    is_some task.image.high || (is_some task.image.low || (task.image.binary || (task.image.low_first || (is_some task.image.blank || (is_some task.image.hints || is_some task.base)))))

-- a file that is to be printed, and where printing begins
abbrev pub print_of : Option (Bor (List ℕ)) → Option (Bor (List ℕ)) → Result DisAsked Mistake
print_of None from = Err mistake.NoFile
print_of (Some file) from = Ok (asked.Print (record { file = file; from = from }))

-- `dis` without `--source`
abbrev pub ask_print : DisassembleTask → Result DisAsked Mistake
ask_print task = if says_image task then Err mistake.NoSource else print_of task.file task.from

-- what a command line of `dis` asks for, or what is wrong with it
abbrev pub dis_asked : DisassembleTask → Result DisAsked Mistake
dis_asked task = if task.source then ask_source task else ask_print task

-- ---- images that are run

-- the first file of an image
abbrev pub first_file : ImageFiles → Bor (List ℕ)
first_file (files.Hex name) = name
first_file (files.Binary name order) = name
first_file (files.Pair high low) = high

-- an image that is run has its files: one, or both of a pair
abbrev pub has_files : ImageRun → Bool
has_files image = is_some image.file || (is_some image.options.high && is_some image.options.low)

-- the files of an image that is run
abbrev pub run_files : ImageRun → Result ImageFiles Mistake
run_files image = if has_files image then files_of image.file image.options else Err mistake.NoImage

-- an image of files that is run: the names of its texts begin with that of its first file
abbrev pub run_image_of : ImageFiles → ImageOptions → ImageAsked
run_image_of files options = record { files = files; blank = blank_of files options.blank; hints = options.hints; base = first_file files }

-- the same, where the files are named as they may be
abbrev pub run_image_in : Result ImageFiles Mistake → ImageOptions → Result ImageAsked Mistake
run_image_in (Err mistake) options = Err mistake
run_image_in (Ok files) options = Ok (run_image_of files options)

-- the image that is run, or what is wrong with its command line
abbrev pub run_asked : ImageRun → Result ImageAsked Mistake
run_asked image = run_image_in (run_files image) image.options

-- ---- what is wrong

-- the line that reports a mistake
abbrev pub mistake_text : Mistake → List ℕ
mistake_text mistake.NoFile = codes "c25: dis takes FILE, or with --source --high FILE and --low FILE"
mistake_text mistake.NoImage = codes "c25: an image is --image FILE, or --high FILE and --low FILE"
mistake_text mistake.FileAndPair = codes "c25: --high and --low stand in place of FILE"
mistake_text mistake.LowFirst = codes "c25: --low-first is for FILE with --binary"
mistake_text mistake.NoBase = codes "c25: --source stands without --out BASE"
mistake_text mistake.From = codes "c25: --from is for printing, and --source prints nothing"
mistake_text mistake.NoSource = codes "c25: --high, --low, --binary, --low-first, --blank, --hints and --out stand with --source"
