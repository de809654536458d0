-- Which arguments of `run` and `debug` stand together: those for sources, or those for an image in their place.
use Rattle.std.specs.Prelude.{Bool, false, ◌||◌, if◌then◌else◌, List, [], ◌∷◌, Option, Some, None, is_some, codes}
use Rattle.std.specs.Str.{bytes_eq}
use Rattle.clap.specs.Faults.{fault_of}
use Rattle.clap.specs.Kinds.{Kinds, or_else}
use Rattle.clap.specs.Words.{Row, Text, first_of, one_of, subcommand_of}
use Rattle.clap.specs.declared.error.kind.ErrorKind.{ErrorKind}
use Rattle.clap.specs.declared.error.kind.ErrorKind.TheVariants.{ArgumentConflict, MissingRequiredArgument}
use Rattle.c25_options.specs.Program.{program}

-- an operand or an option is given
abbrev pub has : Text → List Row → Bool
has id rows = is_some (first_of id rows)

-- what the text that is found for a flag says: it is `true` where the flag is given
abbrev pub says_on : Option Text → Bool
says_on None = false
says_on (Some text) = bytes_eq text (codes "true")

-- a flag is given
abbrev pub is_on : Text → List Row → Bool
is_on id rows = says_on (one_of id rows)

-- an argument names the files of an image
abbrev pub names_image : List Row → Bool
names_image rows = has (codes "image") rows || (has (codes "high") rows || has (codes "low") rows)

-- an argument says how an image is read, or what is known of it
abbrev pub says_how : List Row → Bool
says_how rows = is_on (codes "binary") rows || (is_on (codes "low-first") rows || (has (codes "blank") rows || has (codes "hints") rows))

-- an argument is for an image
abbrev pub says_image : List Row → Bool
says_image rows = names_image rows || says_how rows

-- an argument is for sources
abbrev pub says_sources : List Row → Bool
says_sources rows = has (codes "source") rows || (has (codes "command") rows || (has (codes "define") rows || has (codes "include") rows))

-- the error of arguments, by whether some are for an image and some for sources, and whether there is a source: both conflict, and of
-- neither a source is missing
abbrev pub error_of : (image sources source : Bool) → Option ErrorKind
error_of image sources source =
    if image then (if sources then Some ArgumentConflict else None)
    else (if source then None else Some MissingRequiredArgument)

abbrev pub together_error : List Row → Option ErrorKind
together_error rows = error_of (says_image rows) (says_sources rows) (has (codes "source") rows)

-- the same of the arguments of a subcommand of this name
abbrev pub subcommand_error : Text → List Row → Option ErrorKind
subcommand_error name rows = if bytes_eq name (codes "run") || bytes_eq name (codes "debug") then together_error rows else None

-- ---- words

-- the error of what `clap` finds
abbrev pub found_error : Option (Text × List Row) → Option ErrorKind
found_error None = None
found_error (Some found) = subcommand_error found.0 found.1

-- an error that may be, as the kinds that may come
abbrev pub kinds_of : Option ErrorKind → Kinds
kinds_of None = []
kinds_of (Some kind) = kind ∷ []

-- the kinds of error of words, the program's name first: those of `clap`, and else of what it finds
abbrev pub words_fault : List Text → Kinds
words_fault words = or_else (fault_of program words) (kinds_of (found_error (subcommand_of program words)))
