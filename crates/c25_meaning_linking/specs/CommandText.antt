-- The command of a text, or its first fault from the front: MEMORY, SECTIONS and -e name in any order, each
-- at most once (SPRU018, linker description, linker command files; that each comes at most once is this
-- project's own).
use Rattle.std.specs.Prelude.{ℕ, not, List, drop, codes, Some, is_some, Result, Ok, if◌then◌else◌}
use Rattle.std.specs.Str.{bytes_eq}
use Rattle.c25_meaning_linking.specs.declared.command_token.Keyword.TheVariants as keyword
use Rattle.c25_meaning_linking.specs.declared.command_token.Want.TheVariants as want
use Rattle.c25_meaning_linking.specs.declared.command_fault.CommandFault.TheVariants.{Syntax, Twice}
use Rattle.c25_meaning_common.specs.declared.placed.Placed.{Placed}
use Rattle.c25_meaning_linking.specs.declared.command_fault.CommandFault.{CommandFault}
use Rattle.c25_meaning_linking.specs.CommandTokens.{Token, tokens, line_at}
use Rattle.c25_meaning_linking.specs.CommandGrammar.{Reading, fault_if, begins, wanted, up_to}
use Rattle.c25_meaning_common.specs.Results.{◌>>=◌, told}
use Rattle.c25_meaning_linking.specs.Command.{CommandData, nothing}
use Rattle.c25_meaning_linking.specs.CommandMemory.{memory_at}
use Rattle.c25_meaning_linking.specs.CommandSections.{sections_at}

-- the command with `-e name` read
unfoldable pub entry_in : CommandData → List Token → Reading CommandData
entry_in command ts = do
  word ← wanted want.Name ts
  option ← fault_if (not (bytes_eq word.0.text (codes "-e"))) Syntax ts
  fresh ← fault_if (is_some command.entry) Twice ts
  name ← wanted want.Name word.1
  Ok (record command { entry = Some name.0.text }, name.1)

-- the command with MEMORY read
unfoldable pub memory_in : CommandData → List Token → Reading CommandData
memory_in command ts = do
  fresh ← fault_if (is_some command.memory) Twice ts
  ranges ← memory_at (drop 1 ts)
  Ok (record command { memory = Some ranges.0 }, ranges.1)

-- the command with SECTIONS read
unfoldable pub sections_in : CommandData → List Token → Reading CommandData
sections_in command ts = do
  fresh ← fault_if (is_some command.sections) Twice ts
  placings ← sections_at (drop 1 ts)
  Ok (record command { sections = Some placings.0 }, placings.1)

-- the command with one more of its three parts read
unfoldable pub part_in : CommandData → List Token → Reading CommandData
part_in command ts =
    if begins (want.Keyword keyword.Memory) ts then memory_in command ts
    else (if begins (want.Keyword keyword.Sections) ts then sections_in command ts
    else entry_in command ts)

-- the command of these tokens
unfoldable pub command_at : List Token → Result CommandData (Placed ℕ CommandFault)
command_at ts = do
  parts ← up_to want.End part_in nothing ts
  Ok parts.0

-- the command of a text, or its first fault with the line of its token
abbrev pub command_of : List ℕ → Result CommandData (Placed ℕ CommandFault)
command_of text = told (λ f. record { place = line_at text f.place; fault = f.fault }) (command_at (tokens text))
