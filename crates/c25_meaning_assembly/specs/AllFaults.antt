-- All faults of a source (SPRU018, the assembler's two passes). The first phase leaves out each line that is
-- faulty, but for its label, and goes on with what stood before the line; a line that expansion refuses is left out
-- as `LeftOut` of expansion says. The second phase is gone over only where the first one has no fault: each
-- operand that it refuses is reported.
use Rattle.std.specs.Prelude.{ℕ, zero, suc, Bool, true, false, if◌then◌else◌, List, [], ◌∷◌, ◌++◌, Option, Some, None, Result, Ok, Err}
use Rattle.c25_meaning_assembly.specs.AssemblyLine.{directive_in, label_for}
use Rattle.c25_meaning_assembly.specs.Emission.{all_names, emitted}
use Rattle.c25_meaning_assembly.specs.ModuleOfSource.{read_and_pass}
use Rattle.c25_meaning_assembly.specs.Sections.{Definitions, PendingItem, Progress, Section, label, start, table}
use Rattle.c25_meaning_assembly.specs.declared.assembly.Directive.{Directive}
use Rattle.c25_meaning_expansion.specs.Expansion.{Config}
use Rattle.c25_meaning_expansion.specs.ExpansionAnswers.{ExpandedLine, given_by, fault_by}
use Rattle.c25_meaning_expansion.specs.ExpansionRuns.{first, start_of, weight}
use Rattle.c25_meaning_expansion.specs.Files.{Files}
use Rattle.c25_meaning_expansion.specs.LeftOut.{first_left_out}
use Rattle.c25_meaning_language.specs.ExpansionFault.{ExpansionFault, Faulty, Missing}
use Rattle.c25_meaning_language.specs.Line.{first_word, is_comment_line, label_in}
use Rattle.c25_meaning_language.specs.declared.line.LineFault.{LineFault}
use Rattle.c25_meaning_language.specs.declared.statement.FaultKind.{FaultKind}
use Rattle.c25_meaning_language.specs.declared.statement.FaultKind.TheVariants as fault

-- ---- a line that is left out

-- the label of a field in column 1, if it stands for an address; a field that is no label has none
abbrev pub address_label_by : Option Directive → Result (Option (List ℕ)) LineFault → Option (List ℕ)
address_label_by d (Ok name) = label_for d name
address_label_by d (Err f) = None

-- the label that stands for the address where a line's words begin, whatever else is wrong with the line
unfoldable pub address_label : List ℕ → Option (List ℕ)
address_label text = if is_comment_line text then None else address_label_by (directive_in (first_word text)) (label_in text)

-- what a label leads to, or what there was, where the label cannot be defined
abbrev pub labelled_by : Result Progress FaultKind → Progress → Progress
labelled_by (Ok q) p = q
labelled_by (Err f) p = p

-- what the lines so far have made, and a label, where it can be defined
abbrev pub labelled : Option (List ℕ) → Progress → Progress
labelled name p = labelled_by (label name p) p

-- what a line leaves that is left out but for its label
abbrev pub left_out : List ℕ → Progress → Progress
left_out text p = labelled (address_label text) p

-- ---- the first phase

-- whether nothing is read after a fault of this kind: there is no room for more
abbrev pub is_last_kind : FaultKind → Bool
is_last_kind fault.TooLarge = true
is_last_kind _ = false

-- whether nothing is read after this fault of a line
abbrev pub is_last : ExpansionFault → Bool
is_last (Faulty file line kind) = is_last_kind kind
is_last (Missing file line name) = true

-- what the lines so far have made, and the faults of those among them that were left out
pub record LinesGoneOver : Type 0 where
  pub progress : Progress
  pub faults : List ExpansionFault

-- before the first line
abbrev pub no_lines : LinesGoneOver
no_lines = record { progress = start; faults = [] }

-- the lines so far, and one fault more
abbrev pub with_fault : ExpansionFault → LinesGoneOver → LinesGoneOver
with_fault f a = record a { faults = a.faults ++ f ∷ [] }

-- the lines so far, and one more that is left out for this fault
abbrev pub without_line : ExpandedLine → ExpansionFault → LinesGoneOver → LinesGoneOver
without_line l f a = record { progress = left_out l.text a.progress; faults = a.faults ++ f ∷ [] }

-- what follows a line: `go_on` after a line that passes, or that is left out; nothing after the last fault
abbrev pub after_line : ExpandedLine → Result Progress ExpansionFault → (LinesGoneOver → LinesGoneOver) → LinesGoneOver → LinesGoneOver
after_line l (Ok p) go_on a = go_on (record a { progress = p })
after_line l (Err f) go_on a = if is_last f then with_fault f a else go_on (without_line l f a)

-- what follows a line that expansion refuses for this fault: `go_on` where it is left out; nothing after the last fault
abbrev pub after_fault : ExpansionFault → Option Config → (Config → LinesGoneOver → LinesGoneOver) → LinesGoneOver → LinesGoneOver
after_fault f None go_on a = with_fault f a
after_fault f (Some c) go_on a = go_on c (with_fault f a)

-- what follows an answer of expansion: a fault, nothing after the end, or a line; `after` is what expansion goes on
-- with after its fault, if it goes on
abbrev pub gone_over_by : Option ExpansionFault → (after : Option Config) → Option (ExpandedLine × Config) → (Config → LinesGoneOver → LinesGoneOver) → LinesGoneOver → LinesGoneOver
gone_over_by (Some f) after given go_on a = after_fault f after go_on a
gone_over_by None after None go_on a = a
gone_over_by None after (Some (l, c)) go_on a = after_line l (read_and_pass l a.progress) (go_on c) a

-- the lines that expansion gives or refuses from a configuration on, at most `n`
unfoldable pub gone_over : Files → ℕ → Config → LinesGoneOver → LinesGoneOver
gone_over files zero c a = a
gone_over files (suc n) c a =
    gone_over_by (fault_by files (first files (table a.progress) c)) (first_left_out files (table a.progress) c) (given_by files (first files (table a.progress) c)) (gone_over files n) a

-- the lines of the module whose expansion starts so, or Missing if there is no file of this name; the weight of a
-- configuration bounds how many lines are given or refused from there on
abbrev pub gone_over_from : Files → List ℕ → Option Config → LinesGoneOver
gone_over_from files name None = with_fault (Missing name 0 name) no_lines
gone_over_from files name (Some c) = gone_over files (suc (weight c)) c no_lines

-- ---- the second phase

-- what follows an item: `go_on`, after its fault if it has one; an item that is refused leaves the sections as
-- they are
abbrev pub after_item : Result (List Section) ExpansionFault → (List Section → List ExpansionFault) → List Section → List ExpansionFault
after_item (Ok next) go_on sections = go_on next
after_item (Err f) go_on sections = f ∷ go_on sections

-- the faults of items, in the order of lines
abbrev pub item_faults : Definitions → List Section → List PendingItem → List ExpansionFault
item_faults names sections [] = []
item_faults names sections (item ∷ items) = after_item (emitted names sections item) (λ next. item_faults names next items) sections

-- the faults of the items of all lines, when all names are known
abbrev pub operand_faults : Progress → List ExpansionFault
operand_faults p = item_faults (all_names p) p.sections p.items

-- ---- both

-- the faults of the first phase, or where it has none those of the second
abbrev pub faults_by : List ExpansionFault → Progress → List ExpansionFault
faults_by [] p = operand_faults p
faults_by (f ∷ fs) p = f ∷ fs

-- all faults of lines that were gone over
abbrev pub faults_of : LinesGoneOver → List ExpansionFault
faults_of a = faults_by a.faults a.progress

-- all faults of the source of this name, in the order in which they are reported
unfoldable pub all_faults : Files → List ℕ → List ExpansionFault
all_faults files name = faults_of (gone_over_from files name (start_of files name))
