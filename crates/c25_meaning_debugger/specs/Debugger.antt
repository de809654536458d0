-- What a debugger answers to the commands of a script, over an image and the states of a run, whatever one
-- step is (this project's own).
use Rattle.std.specs.Prelude.{◌≡◌, ℕ, ◌-◌, List, [], ◌∷◌, ◌++◌, Option, Some, None, min}
use Rattle.c25_meaning_linking.specs.Linking.{ImageData, line_at}
use Rattle.c25_meaning_processor.specs.Run.{Signals, Stepping}
use Rattle.c25_meaning_image.specs.Marks.{size_at}
use Rattle.c25_meaning_processor.specs.State.{State, data_at, program_at}
use Rattle.c25_meaning_processor.specs.Status.{regs_of}
use Rattle.c25_meaning_processor.specs.WordStep.{IsFetchedBy, mark_found}
use Rattle.c25_meaning_instructions.specs.declared.insn.Insn.{Insn}
use Rattle.c25_meaning_image.specs.declared.mark.RunMark.{RunMark}
use Rattle.c25_meaning_processor.specs.declared.script.Cmd.{Cmd}
use Rattle.c25_meaning_processor.specs.declared.script.Cmd.TheVariants as cmd
use Rattle.c25_meaning_processor.specs.Goes.{Goes, Halting, is_breakpoint}
use Rattle.c25_meaning_processor.specs.Set.{can_set, with_breakpoint, without_breakpoint}
use Rattle.c25_meaning_debugger.specs.Texts.{AreLinesOf, IsWhere, SourceLine, cleared_text, halting_text, insn_line, marks_from, regs_text, set_text, stack_text, symbols_text, words_text}

-- a point of a session: how many steps are done in all, the state, and the breakpoints in the order in which
-- they were set
pub record Point : Type 0 where
  pub steps : ℕ
  pub state : State
  pub breaks : List ℕ

-- ---- steps

-- how many of n steps are tried once `steps` are done: never more than 4,294,967,295 in all
abbrev pub tried : ℕ → ℕ → ℕ
tried steps n = min n (4294967295 - steps)

-- n steps with these breakpoints lead from one point to another, and this text is answered
pub record Steps (step : Stepping) (signals : Signals) (breaks : List ℕ) (n : ℕ) (p : Point) (text : List ℕ) (q : Point) : Type 0 where
  pub halting : Halting
  pub goes : Goes step signals breaks p.steps (tried p.steps n) p.state halting q.steps q.state
  pub same : q.breaks ≡ p.breaks
  pub text_is : text ≡ halting_text halting q.steps q.state.registers.pc

-- ---- commands

-- a word of data memory, as the processor reads it
abbrev pub data_word : State → ℕ → ℕ
data_word s address = data_at s.registers.cnf s.world address

-- a word of program memory, as the processor reads it
abbrev pub program_word : State → ℕ → ℕ
program_word s address = program_at s.registers.cnf s.world address

-- the line of a source at which the instruction at an address of an image stands, if it is known
abbrev pub source_line_at : ImageData → ℕ → SourceLine
source_line_at image address = line_at address image.lines

-- the answer to `where` is the line of the instruction whose mark is at PC; where no mark is there, the line
-- has `none` for an instruction
abbrev pub IsMarkAt : ImageData → State → List ℕ → Type 0
IsMarkAt image s text = IsWhere image.program (source_line_at image) s.registers.pc (size_at image.marks s.registers.pc) text

-- the answer to `where` for an address of B0: the line of the instruction that is fetched there, with the
-- line of its source where it is loaded; where none is fetched, that of the mark at PC
abbrev pub IsFetchedLine : ImageData → State → RunMark → Option Insn → List ℕ → Type 0
IsFetchedLine image s m None text = IsMarkAt image s text
IsFetchedLine image s m (Some i) text = text ≡ insn_line s.registers.pc (Some i) (source_line_at image m.load)

-- the answer to `where`, given the run mark of the instruction that runs at PC in B0, if there is one
abbrev pub IsWhereBy : ImageData → State → Option RunMark → List ℕ → Type 0
IsWhereBy image s None text = IsMarkAt image s text
IsWhereBy image s (Some m) text =
    (i : Option Insn) × IsFetchedBy s.registers.cnf s.world s.registers.pc (Some m) i × IsFetchedLine image s m i text

-- what a command answers at a point, and the point after it
abbrev pub Answers : Stepping → Signals → ImageData → Cmd → Point → List ℕ → Point → Type 0
Answers step signals image (cmd.Step n) p text q = Steps step signals [] n p text q
Answers step signals image (cmd.Run n) p text q = Steps step signals p.breaks n p text q
Answers step signals image (cmd.Break address) p text q =
    (text ≡ set_text (can_set p.breaks address) address) × (q ≡ record p { breaks = with_breakpoint p.breaks address })
Answers step signals image (cmd.Clear address) p text q =
    (text ≡ cleared_text (is_breakpoint p.breaks address) address) × (q ≡ record p { breaks = without_breakpoint p.breaks address })
Answers step signals image cmd.Regs p text q = (text ≡ regs_text (regs_of p.state.registers)) × (q ≡ p)
Answers step signals image (cmd.Data address count) p text q = (text ≡ words_text (data_word p.state) address count) × (q ≡ p)
Answers step signals image (cmd.Prog address count) p text q = (text ≡ words_text (program_word p.state) address count) × (q ≡ p)
Answers step signals image cmd.Stack p text q = (text ≡ stack_text (regs_of p.state.registers)) × (q ≡ p)
Answers step signals image cmd.Where p text q =
    IsWhereBy image p.state (mark_found p.state.registers.cnf p.state.world p.state.registers.pc) text × (q ≡ p)
Answers step signals image (cmd.List n) p text q = AreLinesOf image.program (source_line_at image) (marks_from image.marks p.state.registers.pc n) text × (q ≡ p)
Answers step signals image cmd.Symbols p text q = (text ≡ symbols_text image.described.symbols) × (q ≡ p)

-- what commands answer, one after another, and the point after them
abbrev pub AnswersAll : Stepping → Signals → ImageData → List Cmd → Point → List ℕ → Point → Type 0
AnswersAll step signals image [] p text q = (text ≡ []) × (q ≡ p)
AnswersAll step signals image (c ∷ cs) p text q =
    (first rest : List ℕ) × (m : Point) × Answers step signals image c p first m × AnswersAll step signals image cs m rest q × (text ≡ first ++ rest)

-- the point at which a session begins: no step is done, and no breakpoint is set
abbrev pub beginning : State → Point
beginning s = record { steps = 0; state = s; breaks = [] }

-- what a whole script answers, from a first state on
abbrev pub AnswersScript : Stepping → Signals → ImageData → List Cmd → State → List ℕ → Type 0
AnswersScript step signals image commands s text = (q : Point) × AnswersAll step signals image commands (beginning s) text q
