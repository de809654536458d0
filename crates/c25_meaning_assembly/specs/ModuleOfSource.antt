-- The module of a source: each line that expansion gives is read and assembled with the symbols that the
-- lines before it define (SPRU018, the assembler's two passes).
use Rattle.std.specs.Prelude.{ℕ, zero, suc, ◌-◌, List, [], ◌∷◌, ◌++◌, Option, Some, None, Result, Ok, Err}
use Rattle.c25_meaning_assembly.specs.AssemblyLine.{read_statement}
use Rattle.c25_meaning_assembly.specs.Emission.{at_origin, finished}
use Rattle.c25_meaning_expansion.specs.Expansion.{Config}
use Rattle.c25_meaning_expansion.specs.ExpansionAnswers.{ExpandedLine, given_by, fault_by}
use Rattle.c25_meaning_language.specs.ExpansionFault.{ExpansionFault, Missing}
use Rattle.c25_meaning_expansion.specs.ExpansionRuns.{first, start_of}
use Rattle.c25_meaning_expansion.specs.Files.{Files}
use Rattle.c25_meaning_assembly.specs.Listing.{Entry}
use Rattle.c25_meaning_objects.specs.Module.{Contents}
use Rattle.c25_meaning_common.specs.Results.{◌>>=◌}
use Rattle.c25_meaning_assembly.specs.Sections.{Progress, start, table, size_at, pass}
use Rattle.c25_meaning_common.specs.declared.placed.FileLine.{FileLine}

-- what the lines so far have made, and their entries in the listing
pub record LinesSoFar : Type 0 where
  pub progress : Progress
  pub entries : List Entry

-- before the first line: no lines so far
abbrev pub no_lines : LinesSoFar
no_lines = record { progress = start; entries = [] }

-- the file and number of an expanded line
abbrev pub origin_of : ExpandedLine → FileLine (List ℕ)
origin_of l = record { file = l.file; line = l.line }

-- a line's entry in the listing: the words by which it made its section longer
abbrev pub entry_of : ExpandedLine → Progress → Progress → Entry
entry_of l old new = record {
  line = l.line;
  text = l.text;
  section = old.current;
  offset = size_at old.sections old.current;
  count = size_at new.sections old.current - size_at old.sections old.current;
}

-- one line read, for the faults that it shows by itself, and then passed
abbrev pub read_and_pass : ExpandedLine → Progress → Result Progress ExpansionFault
read_and_pass l p = at_origin (origin_of l) (read_statement l.text >>= λ s. pass (origin_of l) s p)

-- the lines so far with one more, and its entry in the listing
unfoldable pub pass_line : ExpandedLine → LinesSoFar → Result LinesSoFar ExpansionFault
pass_line l a =
    read_and_pass l a.progress >>= λ p. Ok (record { progress = p; entries = a.entries ++ entry_of l a.progress p ∷ [] })

-- what follows an answer of expansion: its fault, a line, after which `go_on` goes on, or the end
abbrev pub passed_by : Option ExpansionFault → Option (ExpandedLine × Config) → (Config → LinesSoFar → Result LinesSoFar ExpansionFault) → LinesSoFar → Result LinesSoFar ExpansionFault
passed_by (Some f) given go_on a = Err f
passed_by None None go_on a = Ok a
passed_by None (Some (l, c)) go_on a = pass_line l a >>= λ b. go_on c b

-- what the lines have made that expansion gives from a configuration on, at most `n` of them
unfoldable pub passed : Files → ℕ → Config → LinesSoFar → Result LinesSoFar ExpansionFault
passed files zero c a = Ok a
passed files (suc n) c a =
    passed_by (fault_by files (first files (table a.progress) c)) (given_by files (first files (table a.progress) c)) (passed files n) a

-- the lines of the module whose expansion starts so, or Missing if there is no file of this name; expansion
-- gives at most 200,000
abbrev pub passed_from : Files → List ℕ → Option Config → Result LinesSoFar ExpansionFault
passed_from files name None = Err (Missing name 0 name)
passed_from files name (Some c) = passed files 200001 c no_lines

-- a module, and the entries of its listing
pub record Assembled : Type 0 where
  pub contents : Contents
  pub entries : List Entry

-- the module of these lines with its listing, or the first fault of an operand
abbrev pub completed : LinesSoFar → Result Assembled ExpansionFault
completed a = finished a.progress >>= λ m. Ok (record { contents = m; entries = a.entries })

-- the module of the source of this name, or its first fault: that of the first line that is faulty with the
-- symbols of the lines before it, or else of the first operand that is faulty with all symbols
unfoldable pub assembled : Files → List ℕ → Result Assembled ExpansionFault
assembled files name = passed_from files name (start_of files name) >>= λ a. completed a
