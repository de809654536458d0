-- What a debugger answers to `regs` and `where` about a board.
use Rattle.std.specs.Prelude.{ℕ, List, [], ◌∷◌}
use Rattle.c25_meaning_debugger.specs.Debugger.{AnswersAll, Point}
use Rattle.c25_meaning_linking.specs.Linking.{ImageData}
use Rattle.c25_meaning_processor.specs.Run.{Signals}
use Rattle.c25_meaning_processor.specs.State.{State}
use Rattle.c25_meaning_processor.specs.WordStep.{WordStep}
use Rattle.c25_meaning_processor.specs.Signals.{signals_of}
use Rattle.c25_meaning_processor.specs.declared.schedule.ScheduleEntry.{ScheduleEntry}
use Rattle.c25_meaning_processor.specs.declared.script.Cmd.TheVariants as cmd

-- a text is what a debugger over an image answers from here on to `regs` and then to `where`
abbrev pub TellsBoth : Signals → ImageData → Point → List ℕ → Type 0
TellsBoth signals image begun text = (q : Point) × AnswersAll WordStep signals image (cmd.Regs ∷ cmd.Where ∷ []) begun text q

-- a text is what a debugger answers to `regs` and `where` after so many steps, in this state
abbrev pub TellsWhere : ImageData → List ScheduleEntry → ℕ → State → List ℕ → Type 0
TellsWhere image entries steps s text = TellsBoth (signals_of entries) image (record { steps = steps; state = s; breaks = [] }) text
