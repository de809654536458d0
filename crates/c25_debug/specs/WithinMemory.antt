-- Commands that show only words within the memory.
use Rattle.std.specs.Prelude.{◌+◌, ◌≤◌, List}
use Rattle.std.specs.List.{AllByRecursion}
use Rattle.c25_meaning_processor.specs.declared.script.Cmd.{Cmd}
use Rattle.c25_meaning_processor.specs.declared.script.Cmd.TheVariants as cmd

-- the words that a command shows end within the 65,536 of their memory
abbrev pub IsWithin : Cmd → Type 0
IsWithin (cmd.Data address count) = address + count ≤ 65536
IsWithin (cmd.Prog address count) = address + count ≤ 65536
IsWithin _ = Unit {0}

-- the words that each of these commands shows end within the 65,536 of their memory
abbrev pub AreWithin : List Cmd → Type 0
AreWithin commands = AllByRecursion IsWithin commands
