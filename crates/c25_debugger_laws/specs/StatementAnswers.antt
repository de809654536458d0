-- What a debugger answers to `where` and `list`, by the instruction statements of the sources alone: no word of the
-- image is read, no mark and no line of it (this project's own; the texts are those of the debugger).
--
-- An example: line 14 of mean.asm is `BANZ NEXT,*-`, its words are loaded at 0009h and 000Ah and run there, and NEXT
-- is 0005h. Where PC is 0009h, `where` answers `0009 BANZ 00005h,*- mean.asm:14`; where PC is 000Ah, `000A none`.
use Rattle.std.specs.Prelude.{◌≡◌, ℕ, ◌==◌, true, ◌&&◌, nat_le, if◌then◌else◌, List, [], ◌∷◌, ◌++◌, find, filter, map, take, Option, Some, None}
use Rattle.std.specs.List.{flat_map}
use Rattle.std.specs.List.Sorted.{IsPermutation}
use Rattle.std.specs.Option.{option_and_then}
use Rattle.c25_meaning_debugger.specs.Debugger.{Answers, Point, beginning}
use Rattle.c25_meaning_debugger.specs.Texts.{insn_line}
use Rattle.c25_meaning_image.specs.Marks.{fit_from}
use Rattle.c25_meaning_image.specs.declared.mark.Mark.{Mark}
use Rattle.c25_meaning_instructions.specs.Table.{words}
use Rattle.c25_meaning_linking.specs.Linking.{ImageData}
use Rattle.c25_meaning_processor.specs.Run.{Signals, Stepping}
use Rattle.c25_meaning_processor.specs.State.{State, World, holds, under}
use Rattle.c25_meaning_processor.specs.Statements.{mark_of}
use Rattle.c25_meaning_processor.specs.declared.script.Cmd.{Cmd}
use Rattle.c25_meaning_processor.specs.declared.script.Cmd.TheVariants as cmd
use Rattle.c25_laws.specs.ProgramStatements.{as_loaded, runs_in_b0, runs_in_place}
use Rattle.c25_statement_laws.specs.StatementLines.{TracedStatement}

-- ---- which statement

-- the statement that begins at an address of page 0 and runs where it is loaded, if there is one
abbrev pub statement_there : List TracedStatement → ℕ → Option TracedStatement
statement_there all address = find (λ t. runs_in_place t.statement && t.statement.load == address) all

-- the statement that runs at an address of block B0, if there is one
abbrev pub copy_there : List TracedStatement → ℕ → Option TracedStatement
copy_there all address = find (λ t. runs_in_b0 t.statement && t.statement.run == address) all

-- ---- `where`

-- the line of a statement at an address: the address, the instruction, its file and its line; `none` without them
-- where there is no statement
abbrev pub statement_line : ℕ → Option TracedStatement → List ℕ
statement_line address None = insn_line address None None
statement_line address (Some t) = insn_line address (Some t.statement.insn) (Some (t.origin.file, t.origin.line))

-- the line for PC where this statement runs there in B0: its own, if B0 holds its words; else that of the statement
-- that is loaded there
abbrev pub line_by : List TracedStatement → World → ℕ → Option TracedStatement → List ℕ
line_by all w pc None = statement_line pc (statement_there all pc)
line_by all w pc (Some t) =
    if holds w t.statement.run (words t.statement.insn) then statement_line pc (Some t) else statement_line pc (statement_there all pc)

-- the answer to `where` in a state; statements run in B0 under CNF 1 alone
abbrev pub where_text : List TracedStatement → State → List ℕ
where_text all s = line_by all s.world s.registers.pc (option_and_then (under s.registers.cnf) (copy_there all s.registers.pc))

-- ---- `list`

-- the mark of a statement where it is loaded
abbrev pub loaded_mark : TracedStatement → Mark
loaded_mark t = mark_of (as_loaded t.statement)

-- a text is the answer to `list`: the lines of the first n statements at PC or above, in the order of their
-- addresses, of those on page 0 that run where they are loaded
pub record IsListText (all : List TracedStatement) (pc n : ℕ) (text : List ℕ) : Type 0 where
  pub ordered : List TracedStatement
  pub same : IsPermutation (filter (λ t. runs_in_place t.statement) all) ordered
  pub ascend : fit_from 0 (map loaded_mark ordered) ≡ true
  pub text_is : text ≡ flat_map (λ t. statement_line t.statement.load (Some t)) (take n (filter (λ t. nat_le pc t.statement.load) ordered))

-- ---- scripts

-- what a command answers at a point, and the point after it: `where` and `list` by the statements of the sources, and
-- all else as a debugger does. Of the image, `symbols` alone is read.
abbrev pub AnswersOf : List TracedStatement → Stepping → Signals → ImageData → Cmd → Point → List ℕ → Point → Type 0
AnswersOf all step signals image cmd.Where p text q = (text ≡ where_text all p.state) × (q ≡ p)
AnswersOf all step signals image (cmd.List n) p text q = IsListText all p.state.registers.pc n text × (q ≡ p)
AnswersOf all step signals image c p text q = Answers step signals image c p text q

-- what commands answer, one after another, and the point after them
abbrev pub AllAnswersOf : List TracedStatement → Stepping → Signals → ImageData → List Cmd → Point → List ℕ → Point → Type 0
AllAnswersOf all step signals image [] p text q = (text ≡ []) × (q ≡ p)
AllAnswersOf all step signals image (c ∷ cs) p text q =
    (first rest : List ℕ) × (m : Point) × AnswersOf all step signals image c p first m × AllAnswersOf all step signals image cs m rest q × (text ≡ first ++ rest)

-- what a whole script answers, from a first state on
abbrev pub ScriptAnswersOf : List TracedStatement → Stepping → Signals → ImageData → List Cmd → State → List ℕ → Type 0
ScriptAnswersOf all step signals image commands s text = (q : Point) × AllAnswersOf all step signals image commands (beginning s) text q
