-- Why a run left the code, and what it did not use of its inputs.
use Rattle.std.specs.Prelude.{◌≡◌, ◌⊎◌, ◌==◌, ℕ, ◌+◌, ◌%◌, ◌^◌, not, ◌&&◌, List, [], ◌++◌, length, Option, Some, None, option_and_then, Result, Ok, Err, if◌then◌else◌}
use Rattle.c25_meaning_instructions.specs.Table.{Reads}
use Rattle.c25_meaning_instructions.specs.declared.insn.Insn.{Insn}
use Rattle.c25_meaning_instructions.specs.declared.insn.Insn.TheVariants as insn
use Rattle.c25_meaning_instructions.specs.declared.mnemonic.PortName.TheVariants as port
use Rattle.c25_meaning_linking.specs.Linking.{ImageData}
use Rattle.c25_chain.specs.Headline.{first_state}
use Rattle.c25_chain.specs.declared.ready.Ready.{Ready}
use Rattle.c25_meaning_processor.specs.Run.{Reaches, Signals}
use Rattle.c25_meaning_processor.specs.Signals.{signals_of}
use Rattle.c25_meaning_processor.specs.Samples.{samples_at, samples_of}
use Rattle.c25_meaning_processor.specs.State.{State, program_at}
use Rattle.c25_meaning_processor.specs.WordStep.{WordStep}
use Rattle.c25_meaning_processor.specs.declared.sample.Sample.{Sample}
use Rattle.c25_meaning_processor.specs.declared.schedule.ScheduleEntry.{ScheduleEntry}
use Rattle.c25_meaning_processor.specs.declared.stop.Stop.{Stop}
use Rattle.c25_meaning_processor.specs.declared.stop.Stop.TheVariants.{OutOfCode, CodeWrite, BadRepeat, PortDry}
use Rattle.c25_run_ends.specs.Ground.{ground_text, tblw_text}
use Rattle.c25_run_ends.specs.Standing.{StandsAt, StoodBefore}
use Rattle.c25_run_ends.specs.Texts.{dry_text, end_text, example_text, unrepeatable_text}
use Rattle.c25_unused_inputs.specs.Ports.{count_at, counts_of, elsewhere}
use Rattle.c25_unused_inputs.specs.Stepping.{StopsWithin}
use Rattle.c25_unused_inputs.specs.Unused.{IsUnused}
use Rattle.c25_unused_inputs.specs.declared.requests.RunEnd.{RunEnd}

-- ---- the cause

-- the port that an instruction reads, if it is an IN
abbrev pub port_read : Insn → Option ℕ
port_read (insn.Port port.In address number) = Some number
port_read (insn.Port port.Out address number) = None
port_read _ = None

-- two words read as this instruction, or as none
abbrev pub AreRead : ℕ → ℕ → Option Insn → Type 0
AreRead first second (Some i) = Reads first second i
AreRead first second None = (i : Insn) → Reads first second i → ⊥

-- the port that the instruction at PC reads, if it is an IN
abbrev pub ReadsPort : State → Option ℕ → Type 0
ReadsPort s number =
    (i : Option Insn)
    × AreRead (program_at s.registers.cnf s.world s.registers.pc) (program_at s.registers.cnf s.world ((s.registers.pc + 1) % 2 ^ 16)) i
    × (number ≡ option_and_then port_read i)

-- the lines of a port that is read and never had a sample, by what is said of other ports
abbrev pub none_lines : (port : ℕ) → (others : List ℕ) → List ℕ
none_lines port others = if length others == 0 then dry_text port 0 else others

-- the lines of a port that is read without samples, by how many it had
abbrev pub dry_lines : (port had : ℕ) → (others : List ℕ) → List ℕ
dry_lines port had others = if had == 0 then none_lines port others else dry_text port had

-- the lines of a port that is read without samples, with how many of these each port had; nothing where no IN is at PC,
-- since the step took an interrupt
abbrev pub dry_by : (had : List ℕ) → Option ℕ → List ℕ
dry_by had (Some port) = dry_lines port (count_at had port) (elsewhere had port)
dry_by had None = []

-- what stopped a step in this state, in a run in which the ports had so many samples
abbrev pub IsCause : ImageData → (had : List ℕ) → State → Stop → List ℕ → Type 0
IsCause image had s OutOfCode text = text ≡ ground_text image s.registers.pc
IsCause image had s CodeWrite text = text ≡ tblw_text image (s.registers.acc.value % 2 ^ 16) (not s.registers.repeating && not s.registers.asleep)
IsCause image had s BadRepeat text = text ≡ unrepeatable_text
IsCause image had s PortDry text = (port : Option ℕ) × ReadsPort s port × (text ≡ dry_by had port)

-- ---- the note

-- the lines of a step that stopped in this state: where the run stands, and what stopped it
pub record IsStopTold (image : ImageData) (had : List ℕ) (s : State) (stop : Stop) (text : List ℕ) : Type 0 where
  pub place : List ℕ
  pub stands : StandsAt image s place
  pub cause : List ℕ
  pub is_cause : IsCause image had s stop cause
  pub text_is : text ≡ end_text place ++ cause ++ example_text stop

-- why step k of a run from state s stopped: where the run stood one step before, and the lines of the step that stopped
pub record IsStopNote (signals : Signals) (image : ImageData) (had : List ℕ) (s : State) (k : ℕ) (stop : Stop) (note : List ℕ) : Type 0 where
  pub before : List ℕ
  pub stood : StoodBefore signals image s k before
  pub last : State
  pub reached : Reaches WordStep signals 0 k s last
  pub lines : List ℕ
  pub told : IsStopTold image had last stop lines
  pub note_is : note ≡ before ++ lines

-- how a run of k steps ended: why it stopped then, if it did
abbrev pub EndsAs : Signals → ImageData → (had : List ℕ) → State → (k : ℕ) → Option Stop → List ℕ → Type 0
EndsAs signals image had s k None text = text ≡ []
EndsAs signals image had s k (Some stop) text = IsStopNote signals image had s k stop text

-- the note of a run from state s that ends so: why it stopped, if it did, and what it did not use of its inputs
pub record IsEndNote (image : ImageData) (had : List ℕ) (entries : List ScheduleEntry) (s : State) (end : RunEnd) (note : List ℕ) : Type 0 where
  pub front : List ℕ
  pub ends : EndsAs (signals_of entries) image had s end.steps end.stop front
  pub rest : List ℕ
  pub unused : IsUnused had entries s end rest
  pub note_is : note ≡ front ++ rest

-- the same where all of these steps can be done, else nothing
abbrev pub Explains : ImageData → (had : List ℕ) → List ScheduleEntry → State → RunEnd → List ℕ → Type 0
Explains image had entries s end note = IsEndNote image had entries s end note ⊎ ((note ≡ []) × StopsWithin (signals_of entries) end.steps s)

-- the note of a program's run, with what a text of samples reads as; nothing where it has a fault
abbrev pub ExplainsBy : Ready → RunEnd → List ℕ → Result (List Sample) ℕ → Type 0
ExplainsBy ready end note (Ok all) =
    Explains ready.built.linked.image (counts_of (samples_at all)) ready.schedule (first_state ready.built.linked.image ready.samples) end note
ExplainsBy ready end note (Err line) = note ≡ []

-- all steps of a run were done, and it had no inputs that it could leave
pub record HasNoInputs (ready : Ready) (samples : List ℕ) (end : RunEnd) : Type 0 where
  pub done : end.stop ≡ None
  pub no_samples : samples ≡ []
  pub no_events : ready.schedule ≡ []

-- the note of a program's run that ends so, with the samples of this text; nothing where there is nothing to say
abbrev pub ExplainsEnd : Ready → (samples : List ℕ) → RunEnd → List ℕ → Type 0
ExplainsEnd ready samples end note = ExplainsBy ready end note (samples_of samples) ⊎ (HasNoInputs ready samples end × (note ≡ []))
