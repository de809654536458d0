-- How the structs of a session with sources on a disk stand for the definitions' data.
use Rattle.std.specs.Prelude.{map}
use Rattle.std.specs.String.{string_bytes}
use Rattle.c25_chain.specs.Chain.{Given, given_of}
use Rattle.c25_meaning_expansion.specs.Files.{Files}
use Rattle.c25_prompting.specs.declared.debugged.Debugging.{Debugging}

-- what the chain is given to debug
abbrev pub debugged_of : Files → Debugging → Given
debugged_of files work = given_of files (map string_bytes work.sources.now) work.texts.command.now work.texts.samples.now work.texts.schedule.now
