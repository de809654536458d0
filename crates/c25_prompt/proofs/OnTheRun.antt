-- Every command leads to a point that the run from the first state reaches.
use Rattle.std.proofs.Common.{◌≡◌, ℕ, zero, suc, ◌+◌, ◌-◌, Bool, true, false, List, [], Option, Some, None, Ok, sym, ap, subst, arith}
use Rattle.c25_meaning_debugger.specs.Debugger.{Point, Steps, tried}
use Rattle.c25_meaning_linking.specs.Linking.{ImageData}
use Rattle.c25_meaning_processor.specs.Goes as goes
use Rattle.c25_meaning_processor.specs.Run.{Reaches, Signals, Stepping}
use Rattle.c25_meaning_processor.specs.Set.{can_set}
use Rattle.c25_meaning_processor.specs.State.{State}
use Rattle.c25_meaning_processor.specs.declared.script.Cmd.{Cmd}
use Rattle.c25_meaning_processor.specs.declared.script.Cmd.TheVariants as cmd
use Rattle.c25_run_laws.proofs.Joined.{joined}
use Rattle.c25_prompt.specs.Prompt.{NextAfter, Nexts, PromptAnswers, PromptPoint, RunsTo, ScriptAnswers, Went, WentOver, WentPast, WentTo, next_goes_on, return_address, returns_to, with_goal}
use Rattle.c25_prompt.specs.Runs as runs
use Rattle.c25_prompt.specs.Runs.{Passes}
use Rattle.c25_prompt_lines.specs.declared.command.PromptCommand.{PromptCommand}
use Rattle.c25_prompt_lines.specs.declared.command.PromptCommand.TheVariants as prompt
use Rattle.c25_prompt.specs.declared.ended.Ended.{Ended}
use Rattle.c25_prompt.specs.declared.ended.Ended.TheVariants as ended

module _ (step : Stepping) (signals : Signals) where
  pub passed : (breaks watches : List ℕ) (k n : ℕ) (s t : State) → Passes step signals breaks watches k n s t → Reaches step signals k n s t
  passed breaks watches k zero s t same = same
  passed breaks watches k (suc n) s t (u, before, steps, unmet, left) = (u, passed breaks watches k n s u before, steps)

  unwatched : (breaks : List ℕ) (k n : ℕ) (s t : State) → goes.Passes step signals breaks k n s t → Reaches step signals k n s t
  unwatched breaks k zero s t same = same
  unwatched breaks k (suc n) s t (u, before, steps, unmet) = (u, unwatched breaks k n s u before, steps)

  -- from a first state on, more steps
  pub more : (k n j : ℕ) (first s t : State) → Reaches step signals 0 k first s → Reaches step signals k n s t → j ≡ k + n → Reaches step signals 0 j first t
  more k n j first s t before then at =
      let here : 0 + k ≡ k = omega arith in
      subst (λ (i : ℕ). Reaches step signals 0 i first t) (sym at) (joined step signals 0 k n first s t before (subst (λ (i : ℕ). Reaches step signals i n s t) (sym here) then))

  one_more : (k n j : ℕ) (first s u t : State) → Reaches step signals 0 k first s → Reaches step signals k n s u → step (signals.lines (k + n)) (signals.bio (k + n)) u (Ok t) → j ≡ k + n + 1
      → Reaches step signals 0 j first t
  one_more k n j first s u t before then steps at =
      let there : j ≡ k + suc n = omega arith in
      more k (suc n) j first s t before (u, then, steps) there

  pub went_on : (breaks watches : List ℕ) (k n j : ℕ) (first s t : State) (e : Ended) → Reaches step signals 0 k first s → runs.Goes step signals breaks watches k n s e j t → Reaches step signals 0 j first t
  went_on breaks watches k n j first s t ended.Ran before (p, at) = more k n j first s t before (passed breaks watches k n s t p) at
  went_on breaks watches k n j first s t ended.Met before (u, p, left, met) = one_more k p.done j first s u t before (passed breaks watches k p.done s u p.passed) p.steps p.at
  went_on breaks watches k n j first s t (ended.Left stop) before p = more k p.done j first s t before (passed breaks watches k p.done s t p.passed) p.at
  went_on breaks watches k n j first s t (ended.Changed address old new) before (u, p, is, was, now) =
      one_more k p.done j first s u t before (passed breaks watches k p.done s u p.passed) p.steps p.at
  went_on breaks watches k n j first s t ended.Full before p = absurd p

  halted : (breaks : List ℕ) (k n j : ℕ) (first s t : State) (h : goes.Halting) → Reaches step signals 0 k first s → goes.Goes step signals breaks k n s h j t → Reaches step signals 0 j first t
  halted breaks k n j first s t goes.Ran before (p, at) = more k n j first s t before (unwatched breaks k n s t p) at
  halted breaks k n j first s t goes.Met before m = one_more k m.done j first s m.last t before (unwatched breaks k m.done s m.last m.passed) m.steps m.at
  halted breaks k n j first s t (goes.Left stop) before p = more k p.done j first s t before (unwatched breaks k p.done s t p.passed) p.at

module _ (step : Stepping) (signals : Signals) (image : ImageData) (first : State) where
  -- the run from the first state reaches a point
  abbrev IsReached : Point → Type 0
  IsReached p = Reaches step signals 0 p.steps first p.state

  same_point : (p q : Point) → q ≡ p → IsReached p → IsReached q
  same_point p q same before = subst IsReached (sym same) before

  went : (breaks watches : List ℕ) (n : ℕ) (p : PromptPoint) (e : Ended) (q : PromptPoint) → Went step signals breaks watches n p e q → IsReached p.at → IsReached q.at
  went breaks watches n p e q w before = went_on step signals breaks watches p.at.steps (tried p.at.steps n) q.at.steps first p.at.state q.at.state e before w.goes

  went_past : (goal : Option ℕ) (meetings n : ℕ) (p : PromptPoint) (e : Ended) (q : PromptPoint) → WentPast step signals goal meetings n p e q → IsReached p.at → IsReached q.at
  went_past goal zero n p e q (w, last) before = went (with_goal p.at.breaks goal) p.watches n p e q w before
  went_past goal (suc meetings) n p e q (m, w, on, rest) before =
      went_past goal meetings (n - (m.at.steps - p.at.steps)) m e q rest (went (with_goal p.at.breaks goal) p.watches n p ended.Met m w before)

  went_to : (can : Bool) (address n : ℕ) (p : PromptPoint) (e : Ended) (q : PromptPoint) → WentTo step signals can address n p e q → IsReached p.at → IsReached q.at
  went_to true address n p e q w before = went_past (Some address) w.0 n p e q w.1 before
  went_to false address n p e q (full, same) before = same_point p.at q.at (ap (λ (x : PromptPoint). x.at) same) before

  went_over : (returns : Option ℕ) (p : PromptPoint) (e : Ended) (q : PromptPoint) → WentOver step signals returns p e q → IsReached p.at → IsReached q.at
  went_over None p e q w before = went_past None w.0 1 p e q w.1 before
  went_over (Some address) p e q w before = went_to (can_set p.at.breaks address) address 4294967295 p e q w before

  ran_to : (address n : ℕ) (p : PromptPoint) (text : List ℕ) (q : PromptPoint) → RunsTo step signals address n p text q → IsReached p.at → IsReached q.at
  ran_to address n p text q r before = went_to (can_set p.at.breaks address) address n p r.end q r.went before

  after : (n : ℕ) (going : Bool) (e : Ended) (m : PromptPoint) (text : List ℕ) (q : PromptPoint) → ((x : PromptPoint) → Nexts step signals n x text q → IsReached x.at → IsReached q.at)
      → NextAfter going (λ x t y. Nexts step signals n x t y) e m text q → IsReached m.at → IsReached q.at
  after n true e m text q rest more here = rest m more here
  after n false e m text q rest (told, same) here = same_point m.at q.at (ap (λ (x : PromptPoint). x.at) same) here

  nexts : (n : ℕ) (p : PromptPoint) (text : List ℕ) (q : PromptPoint) → Nexts step signals n p text q → IsReached p.at → IsReached q.at
  nexts zero p text q (told, same) before = same_point p.at q.at (ap (λ (x : PromptPoint). x.at) same) before
  nexts (suc n) p text q (i, e, m, stands, over, then) before =
      after n (next_goes_on e i p m) e m text q (λ x more here. nexts n x text q more here) then (went_over (returns_to i p.at.state.registers.pc) p e m over before)

  stepped : (n : ℕ) (p : Point) (text : List ℕ) (q : Point) → Steps step signals [] n p text q → IsReached p → IsReached q
  stepped n p text q s before = halted step signals [] p.steps (tried p.steps n) q.steps first p.state q.state s.halting before s.goes

  by_script : (c : Cmd) (p : PromptPoint) (text : List ℕ) (q : PromptPoint) → ScriptAnswers step signals image c p text q → IsReached p.at → IsReached q.at
  by_script (cmd.Step n) p text q (s, once, watches, ignored) before = stepped n p.at text q.at s before
  by_script (cmd.Run n) p text q r before = went_past None r.went.0 n p r.end q r.went.1 before
  by_script (cmd.Clear address) p text q (told, same) before = subst (λ (x : PromptPoint). IsReached x.at) (sym same) before
  by_script (cmd.Break address) p text q (answered, once, watches, ignored) before = subst IsReached (sym answered.1) before
  by_script cmd.Regs p text q (told, same) before = subst (λ (x : PromptPoint). IsReached x.at) (sym same) before
  by_script (cmd.Data address n) p text q (answered, once, watches, ignored) before = same_point p.at q.at answered.1 before
  by_script (cmd.Prog address n) p text q (answered, once, watches, ignored) before = same_point p.at q.at answered.1 before
  by_script cmd.Stack p text q (answered, once, watches, ignored) before = same_point p.at q.at answered.1 before
  by_script cmd.Where p text q (answered, once, watches, ignored) before = same_point p.at q.at answered.1 before
  by_script (cmd.List n) p text q (answered, once, watches, ignored) before = same_point p.at q.at answered.1 before
  by_script cmd.Symbols p text q (answered, once, watches, ignored) before = same_point p.at q.at answered.1 before

  by_command : (c : PromptCommand) (p q : PromptPoint) (text : List ℕ) → PromptAnswers step signals image first c p text q → IsReached p.at → IsReached q.at
  by_command (prompt.Script c) p q text a before = by_script c p text q a before
  by_command (prompt.Next n) p q text a before = nexts n p text q a before
  by_command prompt.Finish p q text a before = ran_to (return_address p.at.state) 4294967295 p text q a before
  by_command (prompt.Until address n) p q text a before = ran_to address n p text q a before
  by_command (prompt.Watch address) p q text (told, same) before = subst (λ (x : PromptPoint). IsReached x.at) (sym same) before
  by_command (prompt.Unwatch address) p q text (told, same) before = subst (λ (x : PromptPoint). IsReached x.at) (sym same) before
  by_command (prompt.Once address) p q text (told, same) before = subst (λ (x : PromptPoint). IsReached x.at) (sym same) before
  by_command (prompt.Ignore address n) p q text (told, same) before = subst (λ (x : PromptPoint). IsReached x.at) (sym same) before
  by_command prompt.Ignored p q text (told, same) before = subst (λ (x : PromptPoint). IsReached x.at) (sym same) before
  by_command (prompt.Back n) p q text b before = b.reached
  by_command prompt.BackTo p q text b before = b.stops.reached
  by_command (prompt.Hits address) p q text (told, same) before = subst (λ (x : PromptPoint). IsReached x.at) (sym same) before
  by_command (prompt.Trace most) p q text (told, same) before = subst (λ (x : PromptPoint). IsReached x.at) (sym same) before
  by_command prompt.Inputs p q text (told, same) before = subst (λ (x : PromptPoint). IsReached x.at) (sym same) before
  by_command (prompt.ListFrom address n) p q text (told, same) before = subst (λ (x : PromptPoint). IsReached x.at) (sym same) before
  by_command (prompt.Outputs n) p q text (told, same) before = subst (λ (x : PromptPoint). IsReached x.at) (sym same) before
  by_command (prompt.Print what) p q text (told, same) before = subst (λ (x : PromptPoint). IsReached x.at) (sym same) before
  by_command prompt.Help p q text (told, same) before = subst (λ (x : PromptPoint). IsReached x.at) (sym same) before
  by_command prompt.Quit p q text (told, same) before = subst (λ (x : PromptPoint). IsReached x.at) (sym same) before

pub stays : (step : Stepping) (signals : Signals) (image : ImageData) (first : State) (c : PromptCommand) (p q : PromptPoint) (text : List ℕ)
    → PromptAnswers step signals image first c p text q → Reaches step signals 0 p.at.steps first p.at.state → Reaches step signals 0 q.at.steps first q.at.state
stays step signals image first c p q text a before = by_command step signals image first c p q text a before
