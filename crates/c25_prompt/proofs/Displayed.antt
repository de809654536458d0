-- Commands of sessions: what is said of commands of the prompt holds of them.
use Rattle.std.proofs.Common.{◌≡◌, ℕ, ◌++◌, List, Option, Some, None, sym, ap, subst, ◌∙◌}
use Rattle.c25_meaning_debugger.specs.Texts.{SourceLine}
use Rattle.c25_meaning_image.specs.declared.mark.RunMark.{RunMark}
use Rattle.c25_meaning_instructions.specs.declared.insn.Insn.{Insn}
use Rattle.c25_meaning_linking.specs.Linking.{ImageData}
use Rattle.c25_meaning_processor.specs.Run.{Reaches, Signals, Stepping}
use Rattle.c25_meaning_processor.specs.State.{State}
use Rattle.c25_meaning_processor.specs.WordStep.{mark_found}
use Rattle.c25_prompt.specs.Displays.{DisplayData}
use Rattle.c25_prompt.specs.Prompt.{PromptAnswers, PromptPoint}
use Rattle.c25_prompt.specs.Session.{PlainAnswers, SessionAnswers, SessionPoint, shown_after}
use Rattle.c25_prompt.specs.Source.{AreLinesThere, IsPlaceBy, fetched_place}
use Rattle.c25_prompt.proofs.OneAnswer.{OneReading, one_copy}
use Rattle.c25_prompt_lines.specs.Addresses.{ProgramData}
use Rattle.c25_prompt_lines.specs.declared.command.PromptCommand.{PromptCommand}
use Rattle.c25_prompt_lines.specs.declared.command.SessionCommand.{SessionCommand}
use Rattle.c25_prompt_lines.specs.declared.command.SessionCommand.TheVariants as session
use Rattle.c25_prompt_texts.specs.SourceLines.{place_around}

-- ---- on the run

module _ (step : Stepping) (signals : Signals) (program : ProgramData) (first : State)
    (stays : (c : PromptCommand) (p q : PromptPoint) (text : List ℕ) → PromptAnswers step signals program.image first c p text q
    → Reaches step signals 0 p.at.steps first p.at.state → Reaches step signals 0 q.at.steps first q.at.state) where
  same : (p q : SessionPoint) → q.point ≡ p.point → Reaches step signals 0 p.point.at.steps first p.point.at.state → Reaches step signals 0 q.point.at.steps first q.point.at.state
  same p q is before = subst (λ (x : PromptPoint). Reaches step signals 0 x.at.steps first x.at.state) (sym is) before

  pub session_stays : (c : SessionCommand) (p q : SessionPoint) (text : List ℕ) → SessionAnswers step signals program first c p text q
      → Reaches step signals 0 p.point.at.steps first p.point.at.state → Reaches step signals 0 q.point.at.steps first q.point.at.state
  session_stays (session.Plain c) p q text (told, answers, kept, is) before = stays c p.point q.point told answers before
  session_stays session.Line p q text (told, is) before = same p q (ap (λ (x : SessionPoint). x.point) is) before
  session_stays (session.Display what) p q text (told, is) before = same p q (ap (λ (x : SessionPoint). x.point) is) before
  session_stays session.Displayed p q text (told, is) before = same p q (ap (λ (x : SessionPoint). x.point) is) before
  session_stays (session.Undisplay number) p q text (told, is) before = same p q (ap (λ (x : SessionPoint). x.point) is) before
  session_stays session.UndisplayAll p q text (told, is) before = same p q (ap (λ (x : SessionPoint). x.point) is) before

-- ---- alike

module _ (one other : Stepping) (signals : Signals) (program : ProgramData) (first : State) (p q : SessionPoint)
    (turns : (c : PromptCommand) (text : List ℕ) → PromptAnswers one signals program.image first c p.point text q.point → PromptAnswers other signals program.image first c p.point text q.point) where
  pub session_turns : (c : SessionCommand) (text : List ℕ) → SessionAnswers one signals program first c p text q → SessionAnswers other signals program first c p text q
  session_turns (session.Plain c) text (told, answers, kept, is) = (told, turns c told answers, kept, is)
  session_turns session.Line text h = h
  session_turns (session.Display what) text h = h
  session_turns session.Displayed text h = h
  session_turns (session.Undisplay number) text h = h
  session_turns session.UndisplayAll text h = h

-- ---- one answer

-- an instruction has one place
place_same : (reading : OneReading) (image : ImageData) (s : State) (m : Option RunMark) (a b : SourceLine) → IsPlaceBy image s m a → IsPlaceBy image s m b → a ≡ b
place_same reading image s None a b v w = v ∙ sym w
place_same reading image s (Some m) a b (i, fetched, is) (j, fetched_too, is_too) =
    is ∙ ap (λ (x : Option Insn). fetched_place image s m x) (one_copy reading s m i j fetched fetched_too) ∙ sym is_too

lines_same : (reading : OneReading) (program : ProgramData) (u : State) (s t : List ℕ) → AreLinesThere program u s → AreLinesThere program u t → s ≡ t
lines_same reading program u s t (a, at, is) (b, at_too, is_too) =
    is ∙ ap (λ (x : SourceLine). place_around program.texts x) (place_same reading program.image u (mark_found u.registers.cnf u.world u.registers.pc) a b at at_too) ∙ sym is_too

point_same : (q r : SessionPoint) → q.point ≡ r.point → q.displays ≡ r.displays → q ≡ r
point_same q r point displays =
    let session : PromptPoint → DisplayData → SessionPoint = λ a b. record { point = a; displays = b } in
    ap (λ x. session x q.displays) point ∙ ap (λ x. session r.point x) displays

module _ (step : Stepping) (signals : Signals) (program : ProgramData) (first : State) (reading : OneReading)
    (once : (c : PromptCommand) (p q r : PromptPoint) (s t : List ℕ) → PromptAnswers step signals program.image first c p s q → PromptAnswers step signals program.image first c p t r → (s ≡ t) × (q ≡ r)) where
  plain_same : (c : PromptCommand) (p q r : SessionPoint) (s t : List ℕ) → PlainAnswers step signals program first c p s q → PlainAnswers step signals program first c p t r → (s ≡ t) × (q ≡ r)
  plain_same c p q r s t (told, answers, kept, is) (told_too, answers_too, kept_too, is_too) =
      let both = once c p.point q.point r.point told told_too answers answers_too in
      let point : q ≡ r = point_same q r both.1 (kept ∙ sym kept_too) in
      (is ∙ ap (λ x. x ++ shown_after c q.point.at.state q.displays) both.0 ∙ ap (λ (x : SessionPoint). told_too ++ shown_after c x.point.at.state x.displays) point ∙ sym is_too, point)

  pub session_same : (c : SessionCommand) (p q r : SessionPoint) (s t : List ℕ) → SessionAnswers step signals program first c p s q → SessionAnswers step signals program first c p t r → (s ≡ t) × (q ≡ r)
  session_same (session.Plain c) p q r s t v w = plain_same c p q r s t v w
  session_same session.Line p q r s t (v, is) (w, is_too) = (lines_same reading program p.point.at.state s t v w, is ∙ sym is_too)
  session_same (session.Display what) p q r s t (v, is) (w, is_too) = (v ∙ sym w, is ∙ sym is_too)
  session_same session.Displayed p q r s t (v, is) (w, is_too) = (v ∙ sym w, is ∙ sym is_too)
  session_same (session.Undisplay number) p q r s t (v, is) (w, is_too) = (v ∙ sym w, is ∙ sym is_too)
  session_same session.UndisplayAll p q r s t (v, is) (w, is_too) = (v ∙ sym w, is ∙ sym is_too)
