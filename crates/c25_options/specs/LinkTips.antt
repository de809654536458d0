-- What is said of a command line of which an argument is missing: of `link` where an object is named in place of the command
-- file, and of other subcommands where no source is named.
use Rattle.std.specs.Prelude.{◌-◌, ◌==◌, ◌||◌, Bool, true, false, if◌then◌else◌, List, [], ◌∷◌, codes, drop, length, slice_index, Option, Some, None, is_some}
use Rattle.std.specs.Str.{bytes_eq, str_eq_ignore_ascii_case}
use Rattle.clap.specs.Words.{Text}
use Rattle.c25_options.specs.SourceTips.{source_tip}

-- whether a word begins with `-`
abbrev pub is_option : Text → Bool
is_option word = slice_index word 0 == 45

-- whether a word is the option of `link` that has its value in the next word
abbrev pub is_output : Text → Bool
is_output word = bytes_eq word (codes "-o") || bytes_eq word (codes "--out")

-- the first of these words that is neither an option nor the value of `--out`, and the words after it; `is_value`
-- says whether the first word is such a value
unfoldable pub operand_in : (is_value : Bool) → List Text → Option (Text × List Text)
operand_in is_value [] = None
operand_in is_value (word ∷ words) =
    if is_value then operand_in false words
    else (if is_output word then operand_in true words
    else (if is_option word then operand_in false words
    else Some (word, words)))

-- whether a word is the name of an object, by its end
abbrev pub is_object : Text → Bool
is_object word = str_eq_ignore_ascii_case (drop (length word - 4) word) (codes ".obj")

-- the tip where this is the first operand of `link`
abbrev pub object_tip : Text → Text
object_tip first =
    if is_object first then codes "\n  tip: link takes the command file first, an empty one will do: 'c25 link FILE.cmd a.obj -o a'\n" else []

-- the tip by the first operand of `link` and the words after it
abbrev pub words_tip : Option (Text × List Text) → Text
words_tip None = []
words_tip (Some operand) = object_tip operand.0

-- the tip where this is the subcommand and these words stand after it
abbrev pub subcommand_tip : (name : Text) → List Text → Text
subcommand_tip name words = if bytes_eq name (codes "link") then words_tip (operand_in false words) else source_tip name (is_some (operand_in false words))

-- the tip by the first of all operands, which is the subcommand, and the words after it
abbrev pub any_tip : Option (Text × List Text) → Text
any_tip None = []
any_tip (Some operand) = subcommand_tip operand.0 operand.1

-- the tip for arguments of which one is missing
abbrev pub missing_tip : List Text → Text
missing_tip arguments = any_tip (operand_in false arguments)
