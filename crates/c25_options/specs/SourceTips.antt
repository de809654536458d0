-- What is said of a command line that names a file in place of the subcommand, or no source after it.
use Rattle.std.specs.Prelude.{◌==◌, ◌||◌, ◌&&◌, not, Bool, if◌then◌else◌, [], codes}
use Rattle.std.specs.List.{list_any}
use Rattle.std.specs.Str.{bytes_eq}
use Rattle.clap.specs.Words.{Text}

-- whether a word is the name of a file and of no subcommand: it has a dot
abbrev pub is_file : Text → Bool
is_file word = list_any (λ b. b == 46) word

-- the tip where this stands in place of the subcommand
abbrev pub named_tip : (name : Text) → Text
named_tip name = if is_file name then codes "\n  tip: the subcommand comes first: 'c25 run a.asm' runs the source a.asm\n" else []

-- whether a subcommand takes sources
abbrev pub takes_sources : (name : Text) → Bool
takes_sources name =
    bytes_eq name (codes "run") || bytes_eq name (codes "asm") || bytes_eq name (codes "build") || bytes_eq name (codes "debug") || bytes_eq name (codes "check")

-- the tip where this is the subcommand, an argument is missing, and an operand stands there or not
abbrev pub source_tip : (name : Text) → (has_operand : Bool) → Text
source_tip name has_operand =
    if takes_sources name && not has_operand then codes "\n  tip: name the source after the subcommand, as in 'c25 run a.asm'\n" else []
