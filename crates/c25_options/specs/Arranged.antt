-- The order in which the words of a command line are read: `help` and the flags of faults may stand before the
-- subcommand, where `clap` does not read them.
use Rattle.std.specs.Prelude.{◌≡◌, ℕ, ◌+◌, ◌||◌, Bool, if◌then◌else◌, List, [], ◌∷◌, ◌++◌, codes, drop, map, string_bytes, take, Option, Some, None, String, Vec}
use Rattle.std.specs.Str.{bytes_eq}
use Rattle.std.specs.declared.alloc.Global.{Global}
use Rattle.clap.specs.Words.{Text}

-- the word is `--explain` or `--all`
abbrev pub is_fault_flag : Text → Bool
is_fault_flag word = bytes_eq word (codes "--explain") || bytes_eq word (codes "--all")

-- how many of these flags stand before the subcommand
abbrev pub flags_in_front : List Text → ℕ
flags_in_front [] = 0
flags_in_front (word ∷ words) = if is_fault_flag word then 1 + flags_in_front words else 0

-- the first n arguments after the one that follows them
abbrev pub moved : ℕ → List Text → List Text
moved n arguments = take 1 (drop n arguments) ++ take n arguments ++ drop 1 (drop n arguments)

-- `help SUBCOMMAND` asks for what `SUBCOMMAND --help` does, and `help` alone for what `--help` does
abbrev pub asking_help : List Text → List Text
asking_help topic = take 1 topic ++ codes "--help" ∷ drop 1 topic

-- the arguments in the order in which they are read: flags before the subcommand are read after it
abbrev pub arranged_arguments : List Text → List Text
arranged_arguments [] = []
arranged_arguments (first ∷ rest) = if bytes_eq first (codes "help") then asking_help rest else moved (flags_in_front (first ∷ rest)) (first ∷ rest)

-- the words in the order in which they are read, the program's name first
abbrev pub arranged : List Text → List Text
arranged words = take 1 words ++ arranged_arguments (drop 1 words)

-- of a program's name and the arguments after it, the words as they are read, where the arguments are read in
-- another order than they have
abbrev pub AreArranged : (name arguments : List Text) → Option (Vec (String Global) Global) → Type 0
AreArranged name arguments None = arranged_arguments arguments ≡ arguments
AreArranged name arguments (Some found) = map string_bytes found.items ≡ name ++ arranged_arguments arguments

-- the words as they are read, where they are read in another order than they have
abbrev pub IsArranged : List Text → Option (Vec (String Global) Global) → Type 0
IsArranged words None = arranged words ≡ words
IsArranged words (Some found) = map string_bytes found.items ≡ arranged words
