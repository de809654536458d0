-- The matches of a subcommand have each required argument.
use Rattle.std.specs.Prelude.{◌≡◌, ℕ, ◌<◌, ◌^◌, ◌||◌, List, Option, Some, None, IfSome, codes, is_some, true}
use Rattle.std.specs.Str.{bytes_eq}
use Rattle.std.specs.Str.Parse.{IsNumeral, digits_value, without_leading_plus}
use Rattle.clap.specs.Words.{Row, Text, first_of, found_of, one_of, rows_of}
use Rattle.clap.specs.declared.parser.matches.ArgMatches.{ArgMatches}

-- what was found for a command's own arguments
abbrev pub rows_in : ArgMatches → List Row
rows_in matches = rows_of (found_of matches)

-- an argument has a value
abbrev pub IsThere : List Row → Text → Type 0
IsThere rows id = is_some (first_of id rows) ≡ true

-- a decimal number of so many bits, with or without a plus in front
abbrev pub IsNumberText : ℕ → Text → Type 0
IsNumberText bits text = IsNumeral 10 (without_leading_plus text) × (digits_value 10 (without_leading_plus text) < 2 ^ bits)

-- the text that is found for a flag is `true` or `false`
abbrev pub IsFlagText : Text → Type 0
IsFlagText text = (bytes_eq text (codes "true") || bytes_eq text (codes "false")) ≡ true

-- the text that is found for the flag of this name, if one is
abbrev pub IsFlagIn : List Row → Text → Type 0
IsFlagIn rows id = IfSome (one_of id rows) IsFlagText

-- what is found for the flags and the number of an image is what they may be
abbrev pub AreImageFlags : List Row → Type 0
AreImageFlags rows = IsFlagIn rows (codes "binary") × IsFlagIn rows (codes "low-first") × IfSome (one_of (codes "blank") rows) (IsNumberText 32)

-- the name is that of a subcommand, and these matches have a value for each of its required arguments
pub record IsComplete (name : Text) (rows : List Row) : Type 0 where
  pub named : (bytes_eq name (codes "asm") || (bytes_eq name (codes "link") || (bytes_eq name (codes "build") || (bytes_eq name (codes "run") || (bytes_eq name (codes "debug") || (bytes_eq name (codes "explain") || (bytes_eq name (codes "dis") || (bytes_eq name (codes "check") || bytes_eq name (codes "move"))))))))) ≡ true
  pub asm : bytes_eq name (codes "asm") ≡ true → IsThere rows (codes "source") × IsThere rows (codes "obj") × IsFlagIn rows (codes "explain") × IsFlagIn rows (codes "all")
  pub link : bytes_eq name (codes "link") ≡ true → IsThere rows (codes "command") × IsThere rows (codes "object") × IsThere rows (codes "out") × IsFlagIn rows (codes "explain") × IsFlagIn rows (codes "all")
  pub build : bytes_eq name (codes "build") ≡ true → IsThere rows (codes "source") × IsThere rows (codes "out") × IsFlagIn rows (codes "explain") × IsFlagIn rows (codes "all")
  pub run : bytes_eq name (codes "run") ≡ true → AreImageFlags rows × IfSome (one_of (codes "steps") rows) (IsNumberText 32) × IsFlagIn rows (codes "regs") × IsFlagIn rows (codes "when") × IsFlagIn rows (codes "explain") × IsFlagIn rows (codes "all")
  pub debug : bytes_eq name (codes "debug") ≡ true → AreImageFlags rows × IsFlagIn rows (codes "interactive") × IsFlagIn rows (codes "explain") × IsFlagIn rows (codes "all")
  pub dis : bytes_eq name (codes "dis") ≡ true → IsFlagIn rows (codes "source") × IsFlagIn rows (codes "binary") × IsFlagIn rows (codes "low-first") × IfSome (one_of (codes "blank") rows) (IsNumberText 32) × IsFlagIn rows (codes "explain")
  pub check : bytes_eq name (codes "check") ≡ true → IsThere rows (codes "source") × IsFlagIn rows (codes "pages") × IsFlagIn rows (codes "explain") × IsFlagIn rows (codes "all")
  pub moving : bytes_eq name (codes "move") ≡ true → IsThere rows (codes "source") × IsThere rows (codes "out") × IsFlagIn rows (codes "ignore-case") × IsFlagIn rows (codes "quiet")

-- what `clap` finds is a subcommand with complete matches
abbrev pub IsFoundComplete : Option (Text × List Row) → Type 0
IsFoundComplete None = ⊥
IsFoundComplete (Some found) = IsComplete found.0 found.1
