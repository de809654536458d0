-- What an answer says of the run of a program.
use Rattle.std.specs.Prelude.{◌≡◌, ℕ, ◌<◌, List, length, slice_index}
use Rattle.std.specs.FinMap as finite
use Rattle.std.specs.Ordering.{nat_cmp}
use Rattle.c25_board.specs.declared.board.Outcome.{Outcome}
use Rattle.c25_board.specs.declared.board.Outcome.TheVariants as outcome
use Rattle.c25_meaning_processor.specs.FirstState.{first_of_pages}
use Rattle.c25_meaning_processor.specs.Run.{Ending, Ran, Left, Runs, Signals}
use Rattle.c25_meaning_processor.specs.Samples.{samples_at}
use Rattle.c25_meaning_processor.specs.Signals.{signals_of}
use Rattle.c25_meaning_processor.specs.State.{State}
use Rattle.c25_meaning_processor.specs.Status.{regs_of}
use Rattle.c25_meaning_processor.specs.WordStep.{WordStep}
use Rattle.c25_meaning_image.specs.declared.mark.Mark.{Mark}
use Rattle.c25_meaning_image.specs.declared.mark.RunMark.{RunMark}
use Rattle.c25_meaning_processor.specs.declared.registers.Regs.{Regs}
use Rattle.c25_meaning_processor.specs.declared.sample.Sample.{Sample}
use Rattle.c25_meaning_processor.specs.declared.schedule.ScheduleEntry.{ScheduleEntry}
use Rattle.c25_chain.specs.declared.run.RunResult.{RunResult}

-- what a run did and left: its outputs in order, registers, data memory, how it ended, and how many steps were done
pub record RunData : Type 0 where
  pub outputs : List (ℕ × ℕ)
  pub regs : Regs
  pub memory : List ℕ
  pub outcome : Outcome
  pub steps : ℕ

-- the outputs, the registers and all of data memory are those of a state
pub record Shows (t : State) (d : RunData) : Type 0 where
  pub outputs : d.outputs ≡ t.world.outputs
  pub regs : d.regs ≡ regs_of t.registers
  pub size : length d.memory ≡ 65536
  pub memory : (address : ℕ) → address < 65536 → slice_index d.memory address ≡ t.world.words address

-- a run of n steps with this end has this outcome and number of steps, and shows its last state
abbrev pub EndsAs : ℕ → Ending → RunData → Type 0
EndsAs n (Ran t) d = (d.outcome ≡ outcome.Ran) × (d.steps ≡ n) × Shows t d
EndsAs n (Left j stop t) d = (d.outcome ≡ outcome.Left j stop) × (d.steps ≡ j) × Shows t d

-- n steps of the words of both pages from a reset on, with instructions at these places and instructions that
-- run in block B0, under these samples and this schedule
abbrev pub RunsWords : (page0 page1 : finite.FinMap nat_cmp ℕ) → List Mark → List RunMark → List Sample → List ScheduleEntry → ℕ → Ending → Type 0
RunsWords page0 page1 marks run_marks samples entries n e = Runs WordStep (signals_of entries) 0 n (first_of_pages page0 page1 marks run_marks (samples_at samples)) e

-- the data of a run are those of n steps of these words
abbrev pub IsRunOf : (page0 page1 : finite.FinMap nat_cmp ℕ) → List Mark → List RunMark → List Sample → List ScheduleEntry → ℕ → RunData → Type 0
IsRunOf page0 page1 marks run_marks samples entries n d = (e : Ending) × RunsWords page0 page1 marks run_marks samples entries n e × EndsAs n e d

-- the state in which a run ended
abbrev pub last_state : Ending → State
last_state (Ran t) = t
last_state (Left j stop t) = t

-- the data of a run as the code has it
abbrev pub run_data : RunResult → RunData
run_data d = record { outputs = d.outputs.items; regs = d.regs; memory = d.memory.items; outcome = d.outcome; steps = d.steps }

-- the result of a run is that of n steps of these words
abbrev pub HasRun : (page0 page1 : finite.FinMap nat_cmp ℕ) → List Mark → List RunMark → List Sample → List ScheduleEntry → ℕ → RunResult → Type 0
HasRun page0 page1 marks run_marks samples entries n d = IsRunOf page0 page1 marks run_marks samples entries n (run_data d)

-- the result of a run is that of n steps from a state on, and this is the state in which they ended
pub record HasRunFrom (signals : Signals) (s : State) (n : ℕ) (d : RunResult) (t : State) : Type 0 where
  pub end : Ending
  pub run : Runs WordStep signals 0 n s end
  pub ends : EndsAs n end (run_data d)
  pub last : last_state end ≡ t
