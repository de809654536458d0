-- Lines that are answered one by one.
use Rattle.std.proofs.Common.{◌≡◌, ℕ, suc, ◌+◌, false, List, subst, arith}
use Rattle.c25_meaning_processor.specs.Run.{Signals}
use Rattle.c25_meaning_processor.specs.Signals.{signals_of}
use Rattle.c25_meaning_processor.specs.State.{State}
use Rattle.c25_meaning_processor.specs.WordStep.{WordStep}
use Rattle.c25_meaning_processor.specs.declared.schedule.ScheduleEntry.{ScheduleEntry}
use Rattle.c25_prompt_lines.specs.Addresses.{ProgramData}
use Rattle.c25_prompt.specs.Conversing.{IsTurn}
use Rattle.c25_prompt.specs.Each.{AnswersEach, Standing, Turns}
use Rattle.c25_prompt.specs.Session.{IsOnRun}
use Rattle.c25_prompt.specs.declared.conversation.Turn.{Turn}

-- a turn of a session whose program and start are those of another
pub turn_of : (es fs : List ScheduleEntry) (p q : ProgramData) (s t : State) (turn : Turn) (before after : Standing) → fs ≡ es → q ≡ p → t ≡ s
    → IsTurn WordStep (signals_of fs) q t turn before after → IsTurn WordStep (signals_of es) p s turn before after
turn_of es fs p q s t turn before after same_schedule same_program same_first h =
    subst (λ (x : List ScheduleEntry). IsTurn WordStep (signals_of x) p s turn before after) same_schedule
    (subst (λ (x : ProgramData). IsTurn WordStep (signals_of fs) x s turn before after) same_program
    (subst (λ (x : State). IsTurn WordStep (signals_of fs) q x turn before after) same_first h))

-- a board that is on the run of a session whose start is that of another
pub run_of : (es fs entries : List ScheduleEntry) (s t u : State) (k : ℕ) → fs ≡ es → t ≡ s → IsOnRun fs t entries k u → IsOnRun es s entries k u
run_of es fs entries s t u k same_schedule same_first h =
    subst (λ (x : List ScheduleEntry). IsOnRun x s entries k u) same_schedule (subst (λ (x : State). IsOnRun fs x entries k u) same_first h)

-- one more line is answered
pub one_more : (signals : Signals) (program : ProgramData) (first : State) (n : ℕ) (before between after : Standing) → AnswersEach WordStep signals program first n before between
    → Turns WordStep signals program first false between after → AnswersEach WordStep signals program first (n + 1) before after
one_more signals program first n before between after each turn =
    let more : suc n ≡ n + 1 = omega arith in
    subst (λ (x : ℕ). AnswersEach WordStep signals program first x before after) more (between, each, turn)
