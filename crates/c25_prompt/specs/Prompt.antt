-- What the prompt answers to commands, over an image and the states of a run, whatever one step is (this
-- project's own). No command changes a register or a word of memory: each leads to a state of the run from the
-- first state on.
use Rattle.std.specs.Prelude.{◌≡◌, ℕ, zero, suc, ◌+◌, ◌-◌, ◌%◌, ◌==◌, ◌&&◌, ◌||◌, Bool, true, false, not, List, [], ◌++◌, Option, Some, None, slice_index, if◌then◌else◌}
use Rattle.c25_meaning_debugger.specs.Debugger.{Answers, Point, beginning, program_word, source_line_at, tried}
use Rattle.c25_meaning_debugger.specs.Texts.{AreLinesOf, cleared_text, marks_from, regs_text, set_text}
use Rattle.c25_meaning_instructions.specs.Table.{Reads}
use Rattle.c25_meaning_instructions.specs.declared.insn.Insn.{Insn}
use Rattle.c25_meaning_instructions.specs.declared.insn.Insn.TheVariants as insn
use Rattle.c25_meaning_instructions.specs.declared.mnemonic.JumpName.TheVariants as jump
use Rattle.c25_meaning_instructions.specs.declared.mnemonic.PlainName.TheVariants as plain
use Rattle.c25_meaning_linking.specs.Linking.{ImageData}
use Rattle.c25_meaning_processor.specs.Goes.{is_breakpoint}
use Rattle.c25_meaning_processor.specs.Run.{Reaches, Signals, Stepping}
use Rattle.c25_meaning_processor.specs.Set.{can_set, with_breakpoint, without_breakpoint}
use Rattle.c25_meaning_processor.specs.State.{State}
use Rattle.c25_meaning_processor.specs.Status.{regs_of}
use Rattle.c25_meaning_processor.specs.declared.script.Cmd.{Cmd}
use Rattle.c25_meaning_processor.specs.declared.script.Cmd.TheVariants as cmd
use Rattle.c25_prompt.specs.Help.{help_text}
use Rattle.c25_prompt.specs.Outputs.{AreOutputs}
use Rattle.c25_prompt.specs.Ignored.{counts_asked, counts_text, ignore_text, left_at, one_less, without_count}
use Rattle.c25_prompt.specs.Past.{IsHits, StopsLast}
use Rattle.c25_prompt.specs.Runs.{Goes, end_text}
use Rattle.c25_prompt.specs.Shown.{shown_text}
use Rattle.c25_prompt.specs.Trace.{IsTrace}
use Rattle.c25_prompt_lines.specs.declared.command.PromptCommand.{PromptCommand}
use Rattle.c25_prompt_lines.specs.declared.command.PromptCommand.TheVariants as prompt
use Rattle.c25_prompt_texts.specs.Fields.{status_text}
use Rattle.c25_prompt_texts.specs.Inputs.{inputs_shown}
use Rattle.c25_prompt.specs.declared.ended.Ended.{Ended}
use Rattle.c25_prompt.specs.declared.ended.Ended.TheVariants as ended
use Rattle.c25_prompt.specs.declared.ignored.Ignored.{Ignored}

-- a point of a session at the prompt: that of a debugger, those of its breakpoints that are cleared when they
-- are met, the data addresses that are watched, in the order in which they were set, and the meetings of
-- breakpoints that are passed
pub record PromptPoint : Type 0 where
  pub at : Point
  pub once : List ℕ
  pub watches : List ℕ
  pub ignored : List Ignored

-- the point at which a session begins
abbrev pub first_point : State → PromptPoint
first_point s = record { at = beginning s; once = []; watches = []; ignored = [] }

-- a point with other breakpoints and counts
abbrev pub with_breaks : PromptPoint → (breaks once : List ℕ) → List Ignored → PromptPoint
with_breaks p breaks once ignored = record {
  at = record { steps = p.at.steps; state = p.at.state; breaks = breaks };
  once = once;
  watches = p.watches;
  ignored = ignored;
}

-- ---- parts of runs, up to a meeting

-- whether a part of a run ended at a breakpoint that is cleared when it is met, and none of its meetings is left to
-- pass
abbrev pub met_once : Ended → (pc : ℕ) → List Ignored → (once : List ℕ) → Bool
met_once ended.Met pc ignored once = is_breakpoint once pc && (left_at ignored pc == 0)
met_once ended.Ran pc ignored once = false
met_once (ended.Left stop) pc ignored once = false
met_once (ended.Changed address old new) pc ignored once = false
met_once ended.Full pc ignored once = false

-- the breakpoints that are left after a part of a run
abbrev pub left_after : Ended → (pc : ℕ) → List Ignored → (once breaks : List ℕ) → List ℕ
left_after end pc ignored once breaks = if met_once end pc ignored once then without_breakpoint breaks pc else breaks

-- the counts that are left after a part of a run: a meeting takes one from that of its breakpoint
abbrev pub counts_after : Ended → (pc : ℕ) → List Ignored → List Ignored
counts_after ended.Met pc ignored = one_less ignored pc
counts_after ended.Ran pc ignored = ignored
counts_after (ended.Left stop) pc ignored = ignored
counts_after (ended.Changed address old new) pc ignored = ignored
counts_after ended.Full pc ignored = ignored

-- n steps at most, with these breakpoints and these watches, none after a meeting, lead from one point to another
-- and end so
pub record Went (step : Stepping) (signals : Signals) (breaks watches : List ℕ) (n : ℕ) (p : PromptPoint) (end : Ended) (q : PromptPoint) : Type 0 where
  pub goes : Goes step signals breaks watches p.at.steps (tried p.at.steps n) p.at.state end q.at.steps q.at.state
  pub breaks_left : q.at.breaks ≡ left_after end q.at.state.registers.pc p.ignored p.once p.at.breaks
  pub once_left : q.once ≡ left_after end q.at.state.registers.pc p.ignored p.once p.once
  pub counts_left : q.ignored ≡ counts_after end q.at.state.registers.pc p.ignored
  pub same : q.watches ≡ p.watches

-- ---- runs

-- whether this is the address
abbrev pub is_address : Option ℕ → ℕ → Bool
is_address None pc = false
is_address (Some address) pc = address == pc

-- whether a run ends with a part that ended so: always, but where it met a breakpoint of which a meeting is left to
-- pass and which does not stand where the run is to end
abbrev pub ends_run : Ended → (goal : Option ℕ) → (pc : ℕ) → List Ignored → Bool
ends_run ended.Met goal pc ignored = (left_at ignored pc == 0) || is_address goal pc
ends_run ended.Ran goal pc ignored = true
ends_run (ended.Left stop) goal pc ignored = true
ends_run (ended.Changed address old new) goal pc ignored = true
ends_run ended.Full goal pc ignored = true

-- the breakpoints, and one where a run is to end, if it is to end at an address
abbrev pub with_goal : (breaks : List ℕ) → (goal : Option ℕ) → List ℕ
with_goal breaks None = breaks
with_goal breaks (Some address) = with_breakpoint breaks address

-- a run of n steps at most, which passes so many meetings, leads from one point to another and ends so: each
-- meeting of a breakpoint takes one from its count, and where one was left the run goes on with the steps that are
-- left; where it is to end at an address it has a breakpoint there, which is not kept, and ends there whatever is
-- left
abbrev pub WentPast : Stepping → Signals → (goal : Option ℕ) → (meetings n : ℕ) → PromptPoint → Ended → PromptPoint → Type 0
WentPast step signals goal zero n p end q =
    Went step signals (with_goal p.at.breaks goal) p.watches n p end q × (ends_run end goal q.at.state.registers.pc p.ignored ≡ true)
WentPast step signals goal (suc meetings) n p end q =
    (m : PromptPoint) × Went step signals (with_goal p.at.breaks goal) p.watches n p ended.Met m × (ends_run ended.Met goal m.at.state.registers.pc p.ignored ≡ false)
    × WentPast step signals goal meetings (n - (m.at.steps - p.at.steps)) m end q

-- a run of n steps at most leads from one point to another and ends so, whatever it passes
abbrev pub WentOn : Stepping → Signals → (goal : Option ℕ) → (n : ℕ) → PromptPoint → Ended → PromptPoint → Type 0
WentOn step signals goal n p end q = (meetings : ℕ) × WentPast step signals goal meetings n p end q

-- a run that is to end at an address; where as many breakpoints as may be are set, no step is done
abbrev pub WentTo : Stepping → Signals → (can : Bool) → (address n : ℕ) → PromptPoint → Ended → PromptPoint → Type 0
WentTo step signals true address n p end q = WentOn step signals (Some address) n p end q
WentTo step signals false address n p end q = (end ≡ ended.Full) × (q ≡ p)

-- this text says how a run ended that led to a point
abbrev pub Says : List ℕ → Ended → PromptPoint → Type 0
Says text end q = text ≡ end_text end q.at.steps q.at.state.registers.pc

-- n steps at most, and this text says how they ended
pub record Runs (step : Stepping) (signals : Signals) (n : ℕ) (p : PromptPoint) (text : List ℕ) (q : PromptPoint) : Type 0 where
  pub end : Ended
  pub went : WentOn step signals None n p end q
  pub says : Says text end q

-- a run up to an address, and this text says how it ended
pub record RunsTo (step : Stepping) (signals : Signals) (address n : ℕ) (p : PromptPoint) (text : List ℕ) (q : PromptPoint) : Type 0 where
  pub end : Ended
  pub went : WentTo step signals (can_set p.at.breaks address) address n p end q
  pub says : Says text end q

-- where this call returns to: the address on the top of the stack
abbrev pub return_address : State → ℕ
return_address s = slice_index s.registers.stack 0

-- the point so many steps before, but not before the first, as the run from the first state reached it; the
-- breakpoints, watches and counts stay
pub record Backs (step : Stepping) (signals : Signals) (first : State) (n : ℕ) (p : PromptPoint) (text : List ℕ) (q : PromptPoint) : Type 0 where
  pub steps : q.at.steps ≡ p.at.steps - n
  pub reached : Reaches step signals 0 q.at.steps first q.at.state
  pub breaks : q.at.breaks ≡ p.at.breaks
  pub once : q.once ≡ p.once
  pub watches : q.watches ≡ p.watches
  pub ignored : q.ignored ≡ p.ignored
  pub says : Says text ended.Ran q

-- the last point before this one at which a breakpoint is met or a watched word is another, as the run from the
-- first state reached it, or else the first, whatever is left to pass; the breakpoints, watches and counts stay
pub record BacksTo (step : Stepping) (signals : Signals) (first : State) (p : PromptPoint) (text : List ℕ) (q : PromptPoint) : Type 0 where
  pub end : Ended
  pub stops : StopsLast step signals p.at.breaks p.watches first (p.at.steps - 1) end q.at.steps q.at.state
  pub breaks : q.at.breaks ≡ p.at.breaks
  pub once : q.once ≡ p.once
  pub watches : q.watches ≡ p.watches
  pub ignored : q.ignored ≡ p.ignored
  pub says : Says text end q

-- ---- breakpoints and watches

-- the breakpoints for once after one was asked for: it is one where this sets it
abbrev pub with_once : (breaks once : List ℕ) → ℕ → List ℕ
with_once breaks once address =
    if not (is_breakpoint breaks address) && can_set breaks address then with_breakpoint once address else once

-- ---- commands of a script

-- what a command of a script answers, and the point after it: as in a script, but that a run stops after a
-- step that changes a watched word, too, and passes meetings of breakpoints, that `clear` forgets how many, and that
-- `regs` also shows the fields of the status words
abbrev pub ScriptAnswers : Stepping → Signals → ImageData → Cmd → PromptPoint → List ℕ → PromptPoint → Type 0
ScriptAnswers step signals image (cmd.Run n) p text q = Runs step signals n p text q
ScriptAnswers step signals image (cmd.Clear address) p text q =
    (text ≡ cleared_text (is_breakpoint p.at.breaks address) address)
    × (q ≡ with_breaks p (without_breakpoint p.at.breaks address) (without_breakpoint p.once address) (without_count p.ignored address))
ScriptAnswers step signals image cmd.Regs p text q =
    (text ≡ regs_text (regs_of p.at.state.registers) ++ status_text (regs_of p.at.state.registers)) × (q ≡ p)
ScriptAnswers step signals image c p text q = Answers step signals image c p.at text q.at × (q.once ≡ p.once) × (q.watches ≡ p.watches) × (q.ignored ≡ p.ignored)

-- ---- over a call

-- where the call that an instruction makes returns to, if it is a CALL or a CALA
abbrev pub returns_to : Option Insn → (pc : ℕ) → Option ℕ
returns_to (Some (insn.Jump jump.Call target change next)) pc = Some ((pc + 2) % 65536)
returns_to (Some (insn.Plain plain.Cala operand)) pc = Some ((pc + 1) % 65536)
returns_to _ pc = None

-- the instruction that two words read as, if they read as one
abbrev pub IsRead : ℕ → ℕ → Option Insn → Type 0
IsRead word next None = (i : Insn) → Reads word next i → ⊥
IsRead word next (Some i) = Reads word next i

-- the words at PC read as this instruction
abbrev pub StandsAtPc : State → Option Insn → Type 0
StandsAtPc s i = IsRead (program_word s s.registers.pc) (program_word s ((s.registers.pc + 1) % 65536)) i

-- one step, or a run to where a call returns to
abbrev pub WentOver : Stepping → Signals → Option ℕ → PromptPoint → Ended → PromptPoint → Type 0
WentOver step signals None p end q = WentOn step signals None 1 p end q
WentOver step signals (Some address) p end q = WentTo step signals (can_set p.at.breaks address) address 4294967295 p end q

-- the address at which `next` alone stops: that where a call returns to, unless a breakpoint is set there of which
-- no meeting is left to pass
abbrev pub only_next : (breaks : List ℕ) → List Ignored → Option ℕ → Option ℕ
only_next breaks ignored None = None
only_next breaks ignored (Some address) = if is_breakpoint breaks address && (left_at ignored address == 0) then None else Some address

-- whether `next` goes on after a step that ended so: where it was done, and where the call has returned
abbrev pub goes_on : Ended → (only : Option ℕ) → (pc : ℕ) → Bool
goes_on ended.Ran only pc = true
goes_on ended.Met only pc = is_address only pc
goes_on (ended.Left stop) only pc = false
goes_on (ended.Changed address old new) only pc = false
goes_on ended.Full only pc = false

-- whether `next` goes on after a step from one point to another over this instruction
abbrev pub next_goes_on : Ended → Option Insn → PromptPoint → PromptPoint → Bool
next_goes_on end i p m = goes_on end (only_next p.at.breaks p.ignored (returns_to i p.at.state.registers.pc)) m.at.state.registers.pc

-- what is answered after one of the steps of `next`: what the others answer, or how it ended
abbrev pub NextAfter : (going : Bool) → (more : PromptPoint → List ℕ → PromptPoint → Type 0) → Ended → PromptPoint → List ℕ → PromptPoint → Type 0
NextAfter true more end m text q = more m text q
NextAfter false more end m text q = Says text end m × (q ≡ m)

-- n steps, each over the whole of a routine that it calls
abbrev pub Nexts : Stepping → Signals → ℕ → PromptPoint → List ℕ → PromptPoint → Type 0
Nexts step signals zero p text q = Says text ended.Ran p × (q ≡ p)
Nexts step signals (suc n) p text q =
    (i : Option Insn) × (end : Ended) × (m : PromptPoint) × StandsAtPc p.at.state i × WentOver step signals (returns_to i p.at.state.registers.pc) p end m
    × NextAfter (next_goes_on end i p m) (λ m text q. Nexts step signals n m text q) end m text q

-- ---- commands

-- what a command answers at a point of a run from the first state on, and the point after it
abbrev pub PromptAnswers : Stepping → Signals → ImageData → (first : State) → PromptCommand → PromptPoint → List ℕ → PromptPoint → Type 0
PromptAnswers step signals image first (prompt.Script c) p text q = ScriptAnswers step signals image c p text q
PromptAnswers step signals image first (prompt.Next n) p text q = Nexts step signals n p text q
PromptAnswers step signals image first prompt.Finish p text q = RunsTo step signals (return_address p.at.state) 4294967295 p text q
PromptAnswers step signals image first (prompt.Until address n) p text q = RunsTo step signals address n p text q
PromptAnswers step signals image first (prompt.Watch address) p text q =
    (text ≡ set_text (can_set p.watches address) address) × (q ≡ record p { watches = with_breakpoint p.watches address })
PromptAnswers step signals image first (prompt.Unwatch address) p text q =
    (text ≡ cleared_text (is_breakpoint p.watches address) address) × (q ≡ record p { watches = without_breakpoint p.watches address })
PromptAnswers step signals image first (prompt.Once address) p text q =
    (text ≡ set_text (can_set p.at.breaks address) address)
    × (q ≡ with_breaks p (with_breakpoint p.at.breaks address) (with_once p.at.breaks p.once address) p.ignored)
PromptAnswers step signals image first (prompt.Ignore address n) p text q =
    (text ≡ ignore_text (is_breakpoint p.at.breaks address) address n)
    × (q ≡ record p { ignored = counts_asked (is_breakpoint p.at.breaks address) p.ignored address n })
PromptAnswers step signals image first prompt.Ignored p text q = (text ≡ counts_text p.at.breaks p.ignored) × (q ≡ p)
PromptAnswers step signals image first (prompt.Back n) p text q = Backs step signals first n p text q
PromptAnswers step signals image first prompt.BackTo p text q = BacksTo step signals first p text q
PromptAnswers step signals image first (prompt.Hits address) p text q = IsHits step signals first address p.at.steps text × (q ≡ p)
PromptAnswers step signals image first (prompt.Trace most) p text q = IsTrace step signals image first p.at.steps most text × (q ≡ p)
PromptAnswers step signals image first prompt.Inputs p text q = (text ≡ inputs_shown p.at.state.world.samples) × (q ≡ p)
PromptAnswers step signals image first (prompt.ListFrom address n) p text q =
    AreLinesOf image.program (source_line_at image) (marks_from image.marks address n) text × (q ≡ p)
PromptAnswers step signals image first (prompt.Outputs most) p text q = AreOutputs step signals first p.at.steps most text × (q ≡ p)
PromptAnswers step signals image first (prompt.Print what) p text q = (text ≡ shown_text p.at.state what) × (q ≡ p)
PromptAnswers step signals image first prompt.Help p text q = (text ≡ help_text) × (q ≡ p)
PromptAnswers step signals image first prompt.Quit p text q = (text ≡ []) × (q ≡ p)
