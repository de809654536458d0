-- The lines of a source after expansion, each with its place and the words that it makes.
use Rattle.std.specs.Prelude.{ℕ, zero, suc, ◌-◌, List, [], ◌∷◌, ◌++◌, Option, Some, None, Result, Ok, Err}
use Rattle.c25_meaning_assembly.specs.ModuleOfSource.{read_and_pass}
use Rattle.c25_meaning_assembly.specs.Sections.{Progress, start, table, size_at}
use Rattle.c25_meaning_expansion.specs.Expansion.{Config}
use Rattle.c25_meaning_expansion.specs.ExpansionAnswers.{ExpandedLine, given_by, fault_by}
use Rattle.c25_meaning_expansion.specs.ExpansionRuns.{first, start_of}
use Rattle.c25_meaning_expansion.specs.Files.{Files}
use Rattle.c25_meaning_language.specs.ExpansionFault.{ExpansionFault}
use Rattle.c25_line_warnings.specs.SourceLine.{SourceLine}

-- the lines so far, and what they have made
pub record SourceLines : Type 0 where
  pub progress : Progress
  pub lines : List SourceLine

-- before the first line
abbrev pub no_lines : SourceLines
no_lines = record { progress = start; lines = [] }

-- a line with its words, by what the lines had made before it and then
abbrev pub source_line : ExpandedLine → Progress → Progress → SourceLine
source_line l old new = record {
  file = l.file;
  line = l.line;
  text = l.text;
  section = old.current;
  offset = size_at old.sections old.current;
  count = size_at new.sections old.current - size_at old.sections old.current;
}

-- the lines so far and one more, or nothing where it has a fault
abbrev pub with_line_by : ExpandedLine → SourceLines → Result Progress ExpansionFault → Option SourceLines
with_line_by l a (Ok p) = Some (record { progress = p; lines = a.lines ++ source_line l a.progress p ∷ [] })
with_line_by l a (Err f) = None

-- the lines so far and one more
unfoldable pub with_line : ExpandedLine → SourceLines → Option SourceLines
with_line l a = with_line_by l a (read_and_pass l a.progress)

-- what follows a line: `go_on`, unless the line has a fault
abbrev pub then_on : Option SourceLines → (SourceLines → Option SourceLines) → Option SourceLines
then_on None go_on = None
then_on (Some a) go_on = go_on a

-- what follows an answer of expansion: nothing after its fault, a line, or the end
abbrev pub lines_by : Option ExpansionFault → Option (ExpandedLine × Config) → (Config → SourceLines → Option SourceLines) → SourceLines → Option SourceLines
lines_by (Some f) given go_on a = None
lines_by None None go_on a = Some a
lines_by None (Some (l, c)) go_on a = then_on (with_line l a) (go_on c)

-- the lines that expansion gives from a configuration on, at most `n`, after those so far
unfoldable pub lines_from : Files → ℕ → Config → SourceLines → Option SourceLines
lines_from files zero c a = Some a
lines_from files (suc n) c a =
    lines_by (fault_by files (first files (table a.progress) c)) (given_by files (first files (table a.progress) c)) (lines_from files n) a

-- the lines of the source whose expansion starts so
abbrev pub lines_at : Files → Option Config → Option SourceLines
lines_at files None = None
lines_at files (Some c) = lines_from files 200001 c no_lines

-- the lines of the source of this name, or nothing where one has a fault of the first phase
abbrev pub source_lines : Files → List ℕ → Option SourceLines
source_lines files name = lines_at files (start_of files name)
