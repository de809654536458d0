-- Conversations over the words and over the statements.
use Rattle.std.proofs.Common.{◌≡◌, ℕ, zero, suc, Bool, false, true, List, Option, Some, None, Result, Ok, Err, sym, subst}
use Rattle.c25_meaning_processor.specs.Run.{Reaches, Signals, Stepping}
use Rattle.c25_meaning_processor.specs.State.{State}
use Rattle.c25_meaning_processor.specs.Statements.{IsImageOf, Statements, statement_step}
use Rattle.c25_meaning_processor.specs.WordStep.{WordStep}
use Rattle.c25_prompt.specs.Conversing.{Converses, IsTurn}
use Rattle.c25_prompt.specs.Each.{AnswersEach, Standing, Turns}
use Rattle.c25_prompt.specs.Session.{ReadAnswers, SessionAnswers, SessionPoint, here}
use Rattle.c25_prompt.specs.declared.conversation.Turn.{Turn}
use Rattle.c25_prompt.specs.declared.conversation.Turn.TheVariants as turn
use Rattle.c25_prompt_lines.specs.Addresses.{ProgramData}
use Rattle.c25_prompt_lines.specs.Commands.{command_of}
use Rattle.c25_prompt_lines.specs.declared.command.SessionCommand.{SessionCommand}
use Rattle.c25_prompt_lines.specs.declared.command.Wrong.{Wrong}

-- a step of the statements
abbrev Statement : Statements → Stepping
Statement ss lines bio s o = o ≡ statement_step ss lines bio s

-- over the words: a command leads to a state of the run, the run's states keep the statements, and what is
-- answered where they are kept is answered over the statements
module _ (ss : Statements) (signals : Signals) (program : ProgramData) (first : State) (begun : IsImageOf ss first.world)
    (stays : (c : SessionCommand) (p q : SessionPoint) (text : List ℕ) → SessionAnswers WordStep signals program first c p text q
    → Reaches WordStep signals 0 p.point.at.steps first p.point.at.state → Reaches WordStep signals 0 q.point.at.steps first q.point.at.state)
    (keeps : (k : ℕ) (s : State) → Reaches WordStep signals 0 k first s → IsImageOf ss s.world)
    (turns : (c : SessionCommand) (p q : SessionPoint) (text : List ℕ) → IsImageOf ss p.point.at.state.world → SessionAnswers WordStep signals program first c p text q
    → SessionAnswers (Statement ss) signals program first c p text q) where
  -- a point is on the run from the first state
  abbrev Reached : SessionPoint → Type 0
  Reached p = Reaches WordStep signals 0 p.point.at.steps first p.point.at.state

  read_turns : (read : Result (Option SessionCommand) Wrong) (p q : SessionPoint) (text : List ℕ) → Reached p → ReadAnswers WordStep signals program first read p text q
      → ReadAnswers (Statement ss) signals program first read p text q × Reached q
  read_turns (Ok None) p q text reached h = (h, subst Reached (sym h.1) reached)
  read_turns (Ok (Some c)) p q text reached h = (turns c p q text (keeps p.point.at.steps p.point.at.state reached) h, stays c p q text h reached)
  read_turns (Err wrong) p q text reached h = (h, subst Reached (sym h.1) reached)

  line_turns : (ends : Bool) (before after : Standing) → Reached before.point → Turns WordStep signals program first ends before after
      → Turns (Statement ss) signals program first ends before after × Reached after.point
  line_turns ends before after reached t =
      let both = read_turns (command_of program (here program before.point) t.line) before.point after.point t.text reached t.answers in
      (record { line = t.line; some = t.some; read = t.read; text = t.text; answers = both.0; written = t.written; quits = t.quits }, both.1)

  each_turns : (n : ℕ) (before after : Standing) → Reached before.point → AnswersEach WordStep signals program first n before after
      → AnswersEach (Statement ss) signals program first n before after × Reached after.point
  each_turns zero before after reached same = (same, subst (λ (s : Standing). Reached s.point) same reached)
  each_turns (suc n) before after reached (between, each, line) =
      let most = each_turns n before between reached each in
      let last = line_turns false between after most.1 line in
      ((between, most.0, last.0), last.1)

  last_turns : (end : Turn) (before after : Standing) → Reached before.point → IsTurn WordStep signals program first end before after → IsTurn (Statement ss) signals program first end before after
  last_turns turn.Answered before after reached t = (line_turns false before after reached t).0
  last_turns turn.Quit before after reached t = (line_turns true before after reached t).0
  last_turns turn.End before after reached over = over

  pub talks_turn : (before after : Standing) → Reached before.point → Converses WordStep signals program first before after → Converses (Statement ss) signals program first before after
  talks_turn before after reached c =
      let each = each_turns c.lines before c.between reached c.each in
      record { lines = c.lines; between = c.between; each = each.0; end = c.end; ends = c.ends; last = last_turns c.end c.between after each.1 c.last }
