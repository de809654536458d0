-- The texts of the note of a run's end.
use Rattle.std.specs.Prelude.{ℕ, List, [], ◌++◌, Option, Some, None, codes}
use Rattle.std.specs.Fmt.{decimal}
use Rattle.c25_meaning_common.specs.Digits.{four_digits}
use Rattle.c25_meaning_processor.specs.RunText.{stop_name}
use Rattle.c25_meaning_processor.specs.declared.stop.Stop.{Stop}

-- the lines of the instruction at which a run stands one step before its end
unfoldable pub before_text : List ℕ → List ℕ
before_text place = codes "One step before its end the run stood at\n  " ++ place

-- the lines of the instruction at which a run stands at its end
unfoldable pub end_text : List ℕ → List ℕ
end_text place = codes "At its end it stands at\n  " ++ place

-- the end of a line about a word of an instruction, with the file and the line of the instruction
unfoldable pub place_at : List ℕ → ℕ → List ℕ
place_at file line = codes " at " ++ file ++ (codes ":" ++ decimal line ++ codes ".\n")

-- the same, where the place of the instruction may not be known
abbrev pub place_end : Option (List ℕ × ℕ) → List ℕ
place_end (Some place) = place_at place.0 place.1
place_end None = codes ".\n"

-- an instruction begins there
unfoldable pub instruction_text : ℕ → List ℕ
instruction_text address =
    codes "An instruction begins at " ++ four_digits address
    ++ codes ". An interrupt was taken in the step that stopped, and no instruction\nbegins at its vector (0002, 0004 or 0006); or CNF is 1, and block B0 has other words there.\n"

-- it is the second word of an instruction
unfoldable pub second_text : ℕ → List ℕ → List ℕ
second_text address end = four_digits address ++ codes " is the second word of the instruction" ++ end
    ++ codes "Control has to come to the first: in a table of branches each entry has two words.\n"

-- a section has the word there
unfoldable pub word_text : ℕ → List ℕ → List ℕ
word_text address name =
    codes "No instruction begins at " ++ four_digits address ++ codes ", a word of section " ++ name
    ++ codes ":\nit is data, or code that runs elsewhere (run =).\n"

-- where the last instruction before that word stands in the section, and what to do
unfoldable pub around_text : List ℕ → List ℕ
around_text end = codes "The instruction before it in the section is" ++ end ++ codes "If the run came from there, put a branch, RET or IDLE between them.\n"

-- the same, where there may be no such instruction, or its place is not known
abbrev pub around_by : Option (List ℕ × ℕ) → List ℕ
around_by (Some place) = around_text (place_at place.0 place.1)
around_by None = []

-- no section has the word there, and this one ends just before it
unfoldable pub after_text : ℕ → List ℕ → List ℕ
after_text address name = codes "No section has a word at " ++ four_digits address ++ codes "; section " ++ name
    ++ codes " ends before it.\nEnd a program with IDLE, or with a branch to itself.\n"

-- no section has the word there, and none ends just before it
unfoldable pub nothing_text : ℕ → List ℕ
nothing_text address =
    codes "No section has a word at " ++ four_digits address
    ++ codes ".\nA run begins at 0000; BACC and CALA take an address from ACC, RET from the stack.\n"

-- which words TBLW may write
abbrev pub writing_text : List ℕ
writing_text = codes "It takes the address from ACC; it may write to data in program memory alone.\n"

-- why an instruction cannot be repeated, and what to do
abbrev pub unrepeatable_text : List ℕ
unrepeatable_text = codes "This instruction may not be repeated: take the RPT or RPTK before it away, or write a loop with BANZ.\n"

-- the word that TBLW was to write, at the address in ACC, is one of an instruction
unfoldable pub written_text : ℕ → List ℕ → List ℕ
written_text address end = codes "TBLW was to write to " ++ four_digits address ++ codes ", a word of the instruction" ++ end ++ writing_text

-- the same in a repetition
unfoldable pub repeated_text : ℕ → List ℕ
repeated_text address = codes "TBLW is repeated, and was to write to " ++ four_digits address ++ codes " or a word after it, one of an instruction.\n" ++ writing_text

-- a port had so many samples, and has none left
unfoldable pub dry_text : ℕ → ℕ → List ℕ
dry_text port count = codes "PA" ++ decimal port ++ (codes " has no samples left, after " ++ decimal count ++ codes ".\n")

-- the line that says how to see the example of an end
unfoldable pub example_text : Stop → List ℕ
example_text stop = codes "Example: c25 explain " ++ stop_name stop ++ codes "\n"
