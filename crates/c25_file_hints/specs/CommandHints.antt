-- What the code says of a command file, as clauses see it.
use Rattle.std.specs.Option.{option_map}
use Rattle.c25_file_hints.specs.CommandFiles.{HintData, ObjectName, OpenBrace, PageNumber, RunNumber}
use Rattle.c25_file_hints.specs.declared.command_files.CommandHint.{CommandHint}
use Rattle.c25_file_hints.specs.declared.command_files.CommandHint.TheVariants as hint

-- a hint with the word that it names
abbrev pub hint_data : CommandHint → HintData
hint_data (hint.OpenBrace before line) = OpenBrace (option_map (λ word. word.now) before) line
hint_data hint.RunNumber = RunNumber
hint_data hint.PageNumber = PageNumber
hint_data hint.ObjectName = ObjectName
