-- How the program's structs stand for the definitions' data.
use Rattle.std.specs.Prelude.{map}
use Rattle.std.specs.String.{string_bytes}
use Rattle.c25_chain.specs.Chain.{Given, given_of}
use Rattle.c25_meaning_expansion.specs.Files.{Files}
use Rattle.c25_tasks.specs.declared.copies.Debug.{Debug}
use Rattle.c25_tasks.specs.declared.copies.Run.{Run}

-- what the chain is given to run
abbrev pub readied_of : Files → Run → Given
readied_of files run = given_of files (map string_bytes run.sources.now) run.texts.command.now run.texts.samples.now run.texts.schedule.now

-- what the chain is given to debug
abbrev pub debugged_of : Files → Debug → Given
debugged_of files debug = given_of files (map string_bytes debug.sources.now) debug.texts.command.now debug.texts.samples.now debug.texts.schedule.now
