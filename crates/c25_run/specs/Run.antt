-- The printed run of a program: by the end of its words, by the statements of its sources, and by what the
-- chain answers.
use Rattle.std.specs.Prelude.{◌≡◌, ◌⊎◌, ℕ, Bool, true, false, List, [], Option}
use Rattle.std.specs.Io.KnownBytes.{Appends, Keeps}
use Rattle.c25_board.specs.declared.board.Outcome.{Outcome}
use Rattle.c25_chain.specs.Chain.{Given, IsAnswer}
use Rattle.c25_chain.specs.Headline.{first_state, source_statements}
use Rattle.c25_chain.specs.OutcomeText.{outcome_of, steps_of}
use Rattle.c25_chain.specs.Ready.{RunsReady, statements_end}
use Rattle.c25_chain.specs.Run.{last_state}
use Rattle.c25_chain.specs.declared.chain.Chain.{Chain}
use Rattle.c25_chain.specs.declared.ready.Ready.{Ready}
use Rattle.c25_chain.specs.Inspection.{TellsWhere}
use Rattle.c25_meaning_linking.specs.Linking.{ImageData}
use Rattle.c25_count_laws.specs.Counts.{StatementStep}
use Rattle.c25_meaning_processor.specs.Run.{Ending, Left, Runs, Stepping}
use Rattle.c25_meaning_processor.specs.State.{State}
use Rattle.c25_meaning_processor.specs.WordStep.{WordStep}
use Rattle.c25_meaning_processor.specs.Signals.{signals_of}
use Rattle.c25_meaning_processor.specs.declared.schedule.ScheduleEntry.{ScheduleEntry}
use Rattle.c25_report.specs.Ending as report
use Rattle.c25_report.specs.declared.ending.Ending as report_ending
use Rattle.c25_report.specs.Ending.{HasFront, IsShort}
use Rattle.c25_report.specs.declared.ending.Ending.TheVariants as ending
use Rattle.c25_run.specs.Printed.{PrintsFront}
use Rattle.c25_run.specs.Timed.{IsAnswerText, IsEndText}
use Rattle.c25_run.specs.declared.run.LeftAt.{LeftAt}
use Rattle.c25_run.specs.declared.run.RunDetails.{RunDetails}

-- what is reported: an ending and a note
abbrev pub Telling : Type 1
Telling = report_ending.Ending → (note : List ℕ) → Type 0

-- what is reported, with what is known of what a writer held before and holds then
abbrev pub Printing : Type 1
Printing = report_ending.Ending → (note : List ℕ) → (old new : Option (List ℕ)) → Type 0

-- what is reported of a printed run: how it ended, and, where the registers are asked for, what a debugger
-- answers to `regs` and `where` in the last state, after so many steps, unless memory runs out for that
abbrev pub TellsOutcome : (regs : Bool) → ImageData → List ScheduleEntry → Outcome → (steps : ℕ) → State → Telling
TellsOutcome false image entries o steps t e note = (e ≡ report.ending_of o) × (note ≡ [])
TellsOutcome true image entries o steps t e note = ((e ≡ report.ending_of o) × TellsWhere image entries steps t note) ⊎ (IsShort e × (note ≡ []))

-- a text is printed, and this is reported; or it cannot be printed to its end, and some of its first bytes
-- are
abbrev pub PrintsText : (text : List ℕ) → Telling → Printing
PrintsText text tells e note old new = (Appends old new text × tells e note) ⊎ ((e ≡ ending.Unprinted) × (note ≡ []) × HasFront text old new)

-- memory runs out before the first step, and nothing is printed
abbrev pub IsShortBefore : Printing
IsShortBefore e note old new = IsShort e × (note ≡ []) × Keeps old new

-- ---- by the end of the program's words

-- what is reported of n steps with this end
abbrev pub TellsEnd : (regs : Bool) → ImageData → List ScheduleEntry → ℕ → Ending → Telling
TellsEnd regs image entries n end = TellsOutcome regs image entries (outcome_of end) (steps_of n end) (last_state end)

-- a text of n such steps of a program with this end, under its samples and its schedule, is printed
abbrev pub PrintsEnd : RunDetails → Stepping → Ready → ℕ → Ending → Printing
PrintsEnd details step ready n end e note old new =
    (text : List ℕ) × IsEndText details.when step (signals_of ready.schedule) n (first_state ready.built.linked.image ready.samples) end text
    × PrintsText text (TellsEnd details.regs ready.built.linked.image ready.schedule n end) e note old new

-- n steps of a program are printed by the end of its words, under its samples and its schedule
abbrev pub PrintsRun : Ready → ℕ → RunDetails → Printing
PrintsRun ready n details e note old new =
    ((end : Ending) × RunsReady ready n end × PrintsEnd details WordStep ready n end e note old new) ⊎ IsShortBefore e note old new

-- ---- by the statements of its sources

-- the steps of the statements of a program's sources
abbrev pub SourceStep : Given → Ready → Stepping
SourceStep given ready = StatementStep (source_statements given.files given.sources ready.built.linked.image.described)

-- n steps of a program are printed as the steps of the statements of its sources
abbrev pub PrintsStatements : Given → Ready → ℕ → RunDetails → Printing
PrintsStatements given ready n details e note old new =
    PrintsEnd details (SourceStep given ready) ready n (statements_end given ready n) e note old new ⊎ IsShortBefore e note old new

-- ---- by the chain's answer

-- what is reported of the run of an answer
abbrev pub TellsAnswer : (regs : Bool) → (given : Given) (n : ℕ) (chain : Chain) → IsAnswer given n chain → Telling
TellsAnswer regs given n chain a = TellsOutcome regs a.image (a.inputs).entries chain.outcome chain.steps (last_state (a.run).0)

-- n steps of what the chain is given are printed as the chain answers: a text of each of its answers is
-- printed
abbrev pub PrintsAnswer : Given → ℕ → RunDetails → Printing
PrintsAnswer given n details e note old new =
    ((chain : Chain) → (a : IsAnswer given n chain) → (text : List ℕ) × IsAnswerText details.when chain text × PrintsText text (TellsAnswer details.regs given n chain a) e note old new)
    ⊎ IsShortBefore e note old new

-- ---- where a run leaves the code

-- of n steps from a state on, this one stops, for this reason
abbrev pub LeavesFrom : List ScheduleEntry → ℕ → State → LeftAt → Type 0
LeavesFrom entries n s left = (t : State) × Runs WordStep (signals_of entries) 0 n s (Left left.step left.stop t)

-- of n steps of a program this one stops, for this reason
abbrev pub LeavesRun : Ready → ℕ → LeftAt → Type 0
LeavesRun ready n left = (t : State) × RunsReady ready n (Left left.step left.stop t)

-- ---- what the code has

-- n steps from a state without outputs on are printed; where the writer fails, by the steps that were done
abbrev pub PrintsFrom : RunDetails → ImageData → List ScheduleEntry → ℕ → State → Printing
PrintsFrom details image entries n s e note old new =
    ((end : Ending) × (text : List ℕ) × Runs WordStep (signals_of entries) 0 n s end × IsEndText details.when WordStep (signals_of entries) n s end text × Appends old new text
    × TellsEnd details.regs image entries n end e note)
    ⊎ (((e ≡ ending.Unprinted) × (note ≡ []) × PrintsFront details.when (signals_of entries) n s old new) ⊎ IsShortBefore e note old new)
