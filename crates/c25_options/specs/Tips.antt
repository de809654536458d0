-- What is said of a command line that is not read, after the text of `clap`.
use Rattle.std.specs.Prelude.{Bool, false, if◌then◌else◌, ◌||◌, List, [], ◌∷◌, codes, Option, Some, None}
use Rattle.std.specs.Str.{bytes_eq}
use Rattle.clap.specs.Words.{Text, kind_of}
use Rattle.clap.specs.declared.error.Error.{Error}
use Rattle.clap.specs.declared.error.kind.ErrorKind.{ErrorKind}
use Rattle.clap.specs.declared.error.kind.ErrorKind.TheVariants.{InvalidSubcommand, MissingRequiredArgument, UnknownArgument}
use Rattle.c25_options.specs.LinkTips.{missing_tip, operand_in}
use Rattle.c25_options.specs.SourceTips.{named_tip}
use Rattle.c25_meaning_common.specs.declared.failure.Failure.{Failure}
use Rattle.c25_meaning_common.specs.declared.failure.Failure.TheVariants.{NoMemory, Fault}

-- the word stands among these arguments, before any `--`
abbrev pub has_word : Text → List Text → Bool
has_word wanted [] = false
has_word wanted (word ∷ words) = if bytes_eq word (codes "--") then false else bytes_eq word wanted || has_word wanted words

-- of arguments of which one is unknown: `-c` stands for no option, and neither does `-v`
abbrev pub option_tip : List Text → Text
option_tip arguments =
    if has_word (codes "-c") arguments then codes "\n  tip: build, run, debug and check take a command file as '--command FILE'\n"
    else if has_word (codes "-v") arguments then codes "\n  tip: 'c25 --version' prints the version\n"
    else []

-- by the first of all operands, which is no subcommand
abbrev pub first_tip : Option (Text × List Text) → Text
first_tip None = []
first_tip (Some operand) = named_tip operand.0

-- of arguments whose first operand is no subcommand: the name of a file
abbrev pub file_tip : List Text → Text
file_tip arguments = first_tip (operand_in false arguments)

-- of arguments of which the subcommand is invalid: what follows `help`, or the name of a file
abbrev pub help_tip : List Text → Text
help_tip [] = []
help_tip (first ∷ rest) =
    if bytes_eq first (codes "help") then codes "\n  tip: 'c25 help' lists the subcommands, and 'c25 help run' prints the options of one\n" else file_tip (first ∷ rest)

-- the tip for arguments that are refused with an error of this kind; empty where there is none
abbrev pub tip_of_kind : ErrorKind → List Text → Text
tip_of_kind UnknownArgument arguments = option_tip arguments
tip_of_kind InvalidSubcommand arguments = help_tip arguments
tip_of_kind MissingRequiredArgument arguments = missing_tip arguments
tip_of_kind kind arguments = []

-- the tip for a command line that is not read, the program's name first
abbrev pub tip_on : Failure Error → List Text → Text
tip_on fault [] = []
tip_on (NoMemory n) (name ∷ arguments) = []
tip_on (Fault error) (name ∷ arguments) = tip_of_kind (kind_of error) arguments
