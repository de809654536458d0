-- Scripts of the debugger: one command a line (this project's own).
use Rattle.std.specs.Prelude.{ℕ, ◌+◌, List, [], ◌∷◌, codes, Option, Some, None, option_map, option_and_then, Result, nat_le, if◌then◌else◌}
use Rattle.std.specs.Str.{str_eq_ignore_ascii_case}
use Rattle.c25_meaning_processor.specs.declared.script.Cmd.{Cmd}
use Rattle.c25_meaning_processor.specs.declared.script.Cmd.TheVariants as cmd
use Rattle.c25_meaning_common.specs.Digits.{decimal_of, hexadecimal_of}
use Rattle.c25_meaning_common.specs.Items.{ItemOf, items_of}

-- a command with a count in decimal
abbrev pub count_command : (ℕ → Cmd) → List ℕ → Option Cmd
count_command make count = option_map make (decimal_of 4294967295 count)

-- a command with an address in one to four hexadecimal digits
abbrev pub address_command : (ℕ → Cmd) → List ℕ → Option Cmd
address_command make address = option_map make (hexadecimal_of 1 address)

-- an address and a count of words from there on, if all of them lie in the memory
unfoldable pub words_in_memory : List ℕ → List ℕ → Option (ℕ × ℕ)
words_in_memory address count =
    option_and_then (λ a. option_and_then (λ n. if nat_le (a + n) 65536 then Some (a, n) else None) (decimal_of 4294967295 count)) (hexadecimal_of 1 address)

-- the command of a name alone
unfoldable pub plain_command : List ℕ → Option Cmd
plain_command word =
    if str_eq_ignore_ascii_case word (codes "regs") then Some cmd.Regs
    else (if str_eq_ignore_ascii_case word (codes "stack") then Some cmd.Stack
    else (if str_eq_ignore_ascii_case word (codes "where") then Some cmd.Where
    else (if str_eq_ignore_ascii_case word (codes "symbols") then Some cmd.Symbols
    else None)))

-- the command of a name and a number
unfoldable pub command_with_one : List ℕ → List ℕ → Option Cmd
command_with_one word number =
    if str_eq_ignore_ascii_case word (codes "step") then count_command cmd.Step number
    else (if str_eq_ignore_ascii_case word (codes "run") then count_command cmd.Run number
    else (if str_eq_ignore_ascii_case word (codes "list") then count_command cmd.List number
    else (if str_eq_ignore_ascii_case word (codes "break") then address_command cmd.Break number
    else (if str_eq_ignore_ascii_case word (codes "clear") then address_command cmd.Clear number
    else None))))

-- the command of a name, an address and a count
unfoldable pub command_with_two : List ℕ → List ℕ → List ℕ → Option Cmd
command_with_two word address count =
    if str_eq_ignore_ascii_case word (codes "data") then option_map (λ r. cmd.Data r.0 r.1) (words_in_memory address count)
    else (if str_eq_ignore_ascii_case word (codes "prog") then option_map (λ r. cmd.Prog r.0 r.1) (words_in_memory address count)
    else None)

-- the command of a line, if its parts are one; names are in upper or lower case
abbrev pub script_command_of : ItemOf Cmd
script_command_of before (word ∷ []) = plain_command word
script_command_of before (word ∷ number ∷ []) = command_with_one word number
script_command_of before (word ∷ address ∷ count ∷ []) = command_with_two word address count
script_command_of before _ = None

-- the commands of a script, or the number of its first faulty line
abbrev pub script_of : List ℕ → Result (List Cmd) ℕ
script_of = items_of script_command_of
