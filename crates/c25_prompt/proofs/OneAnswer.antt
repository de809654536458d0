-- A command over the words has one answer at most, and leads to one point.
use Rattle.std.proofs.Common.{◌≡◌, ℕ, zero, suc, ◌+◌, ◌-◌, ◌%◌, ◌++◌, Bool, true, false, List, [], ◌∷◌, Option, Some, None, Ok, Err, refl, sym, ap, subst, ◌∙◌, arith}
use Rattle.std.specs.FinMap as map
use Rattle.std.specs.Ordering.{nat_cmp}
use Rattle.c25_meaning_debugger.specs.Debugger.{IsFetchedLine, IsMarkAt, IsWhereBy, Point, Steps, program_word, source_line_at, tried}
use Rattle.c25_meaning_debugger.specs.Texts.{AreLinesOf, IsLineOf, IsWhere, ReadsAt, SourceLine, halting_text, insn_line, marks_from}
use Rattle.c25_meaning_image.specs.Marks.{size_at}
use Rattle.c25_meaning_image.specs.declared.mark.Mark.{Mark}
use Rattle.c25_meaning_image.specs.declared.mark.RunMark.{RunMark}
use Rattle.c25_meaning_instructions.specs.Table.{Reads}
use Rattle.c25_meaning_instructions.specs.declared.insn.Insn.{Insn}
use Rattle.c25_meaning_linking.specs.Linking.{ImageData}
use Rattle.c25_meaning_processor.specs.Goes as goes
use Rattle.c25_meaning_processor.specs.Run.{Reaches, Runs, Signals, ending_after}
use Rattle.c25_meaning_processor.specs.Set.{can_set, with_breakpoint}
use Rattle.c25_meaning_processor.specs.State.{State, StepResult}
use Rattle.c25_meaning_processor.specs.WordStep.{IsFetchedBy, WordStep, mark_found}
use Rattle.c25_meaning_processor.specs.declared.lines.Lines.{Lines}
use Rattle.c25_meaning_processor.specs.declared.script.Cmd.{Cmd}
use Rattle.c25_meaning_processor.specs.declared.script.Cmd.TheVariants as cmd
use Rattle.c25_prompt.specs.Prompt as prompts
use Rattle.c25_prompt.specs.Prompt.{Backs, BacksTo, IsRead, NextAfter, Nexts, PromptAnswers, PromptPoint, RunsTo, Says, ScriptAnswers, StandsAtPc, Went, WentOn, WentOver, WentPast, WentTo, counts_after, ends_run, left_after, next_goes_on, return_address, returns_to, with_goal}
use Rattle.c25_prompt.specs.Runs.{Goes, end_text}
use Rattle.c25_prompt.specs.Seen.{GoesUnwatched}
use Rattle.c25_prompt.specs.declared.ended.Ended.{Ended}
use Rattle.c25_prompt.specs.declared.ended.Ended.TheVariants as ended
use Rattle.c25_prompt.specs.declared.ignored.Ignored.{Ignored}
use Rattle.c25_prompt_lines.specs.declared.command.PromptCommand.{PromptCommand}
use Rattle.c25_prompt_lines.specs.declared.command.PromptCommand.TheVariants as prompt
use Rattle.c25_prompt.proofs.BackAgain.{EndsOnce}
use Rattle.c25_prompt.proofs.OneEnd.{OneResult, one_end, one_reached}
use Rattle.c25_prompt.proofs.Jumped.{one_trace}
use Rattle.c25_prompt.proofs.OneStop.{one_hits, one_stop}
use Rattle.c25_prompt.proofs.PutOut.{one_text}
use Rattle.c25_prompt.proofs.Went.{goes_unwatched}

-- two words read as one instruction at most
abbrev pub OneReading : Type 0
OneReading = (first second : ℕ) (i j : Insn) → Reads first second i → Reads first second j → i ≡ j

-- ---- one step over the words

one_run : (lines : Lines) (bio : Bool) (s : State) (o : StepResult) → WordStep lines bio s o → Runs WordStep (record { lines = λ _. lines; bio = λ _. bio }) 0 1 s (ending_after 0 s o)
one_run lines bio s (Ok t) h = (s, refl, h)
one_run lines bio s (Err stop) h = record { done = 0; before = omega arith; at = refl; reached = refl; stops = h }

same_result : (s : State) (o p : StepResult) → ending_after 0 s o ≡ ending_after 0 s p → o ≡ p
same_result s (Ok t) (Ok u) e = cc
same_result s (Ok t) (Err stop) e = absurd (cc)
same_result s (Err stop) (Ok u) e = absurd (cc)
same_result s (Err stop) (Err other) e = cc

pub one_result : EndsOnce → OneResult WordStep
one_result once lines bio s o p h i =
    same_result s o p (once (record { lines = λ _. lines; bio = λ _. bio }) 0 1 s (ending_after 0 s o) (ending_after 0 s p) (one_run lines bio s o h) (one_run lines bio s p i))

-- ---- texts of instructions

module _ (reading : OneReading) where
  one_at : (words : map.FinMap nat_cmp ℕ) (address size : ℕ) (i j : Option Insn) → ReadsAt words address size i → ReadsAt words address size j → i ≡ j
  one_at words address size None None p q = refl
  one_at words address size None (Some j) p q = absurd (p j q.0 q.1)
  one_at words address size (Some i) None p q = absurd (q i p.0 p.1)
  one_at words address size (Some i) (Some j) p q = ap Some (reading _ _ i j p.0 q.0)

  one_line : (words : map.FinMap nat_cmp ℕ) (lines : ℕ → SourceLine) (mark : Mark) (s t : List ℕ) → IsLineOf words lines mark s → IsLineOf words lines mark t → s ≡ t
  one_line words lines mark s t p q =
      p.text_is ∙ ap (λ i. insn_line mark.address i (lines mark.address)) (one_at words mark.address mark.size p.insn q.insn p.reads q.reads) ∙ sym q.text_is

  one_listed : (words : map.FinMap nat_cmp ℕ) (lines : ℕ → SourceLine) (marks : List Mark) (s t : List ℕ) → AreLinesOf words lines marks s → AreLinesOf words lines marks t → s ≡ t
  one_listed words lines [] s t p q = p ∙ sym q
  one_listed words lines (mark ∷ marks) s t (first, rest, is, are, joined) (other, more, is_too, are_too, joined_too) =
      joined ∙ ap (λ x. x ++ rest) (one_line words lines mark first other is is_too) ∙ ap (λ x. other ++ x) (one_listed words lines marks rest more are are_too) ∙ sym joined_too

  one_where : (words : map.FinMap nat_cmp ℕ) (lines : ℕ → SourceLine) (address : ℕ) (size : Option ℕ) (s t : List ℕ) → IsWhere words lines address size s → IsWhere words lines address size t → s ≡ t
  one_where words lines address None s t p q = p ∙ sym q
  one_where words lines address (Some size) s t p q = one_line words lines (record { address = address; size = size }) s t p q

  one_marked : (image : ImageData) (u : State) (s t : List ℕ) → IsMarkAt image u s → IsMarkAt image u t → s ≡ t
  one_marked image u s t p q = one_where image.program (source_line_at image) u.registers.pc (size_at image.marks u.registers.pc) s t p q

  pub one_copy : (u : State) (m : RunMark) (i j : Option Insn) → IsFetchedBy u.registers.cnf u.world u.registers.pc (Some m) i → IsFetchedBy u.registers.cnf u.world u.registers.pc (Some m) j → i ≡ j
  one_copy u m None None p q = refl
  one_copy u m None (Some j) p q = absurd (p j q)
  one_copy u m (Some i) None p q = absurd (q i p)
  one_copy u m (Some i) (Some j) p q = ap Some (reading _ _ i j p.reads q.reads)

  one_fetched : (image : ImageData) (u : State) (m : RunMark) (i : Option Insn) (s t : List ℕ) → IsFetchedLine image u m i s → IsFetchedLine image u m i t → s ≡ t
  one_fetched image u m None s t p q = one_marked image u s t p q
  one_fetched image u m (Some i) s t p q = p ∙ sym q

  one_place : (image : ImageData) (u : State) (m : Option RunMark) (s t : List ℕ) → IsWhereBy image u m s → IsWhereBy image u m t → s ≡ t
  one_place image u None s t p q = one_marked image u s t p q
  one_place image u (Some m) s t (i, fetched, is) (j, fetched_too, is_too) =
      one_fetched image u m j s t (subst (λ (x : Option Insn). IsFetchedLine image u m x s) (one_copy u m i j fetched fetched_too) is) is_too

  one_read : (word next : ℕ) (i j : Option Insn) → IsRead word next i → IsRead word next j → i ≡ j
  one_read word next None None p q = refl
  one_read word next None (Some j) p q = absurd (p j q)
  one_read word next (Some i) None p q = absurd (q i p)
  one_read word next (Some i) (Some j) p q = ap Some (reading word next i j p q)

-- ---- points

-- two points with the same parts are one
point_same : (p q : PromptPoint) → p.at.steps ≡ q.at.steps → p.at.state ≡ q.at.state → p.at.breaks ≡ q.at.breaks → p.once ≡ q.once → p.watches ≡ q.watches → p.ignored ≡ q.ignored → p ≡ q
point_same p q steps state breaks once watches ignored =
    let point : ℕ → State → List ℕ → List ℕ → List ℕ → List Ignored → PromptPoint = λ a b c d e f. record { at = record { steps = a; state = b; breaks = c }; once = d; watches = e; ignored = f } in
    ap (λ x. point x p.at.state p.at.breaks p.once p.watches p.ignored) steps ∙ ap (λ x. point q.at.steps x p.at.breaks p.once p.watches p.ignored) state
    ∙ ap (λ x. point q.at.steps q.at.state x p.once p.watches p.ignored) breaks ∙ ap (λ x. point q.at.steps q.at.state q.at.breaks x p.watches p.ignored) once
    ∙ ap (λ x. point q.at.steps q.at.state q.at.breaks q.once x p.ignored) watches ∙ ap (λ x. point q.at.steps q.at.state q.at.breaks q.once q.watches x) ignored

-- the same point of a debugger, and the same of the prompt's own
whole_same : (p q : PromptPoint) → p.at ≡ q.at → p.once ≡ q.once → p.watches ≡ q.watches → p.ignored ≡ q.ignored → p ≡ q
whole_same p q at once watches ignored =
    let point : Point → List ℕ → List ℕ → List Ignored → PromptPoint = λ a b c d. record { at = a; once = b; watches = c; ignored = d } in
    ap (λ x. point x p.once p.watches p.ignored) at ∙ ap (λ x. point q.at x p.watches p.ignored) once ∙ ap (λ x. point q.at q.once x p.ignored) watches
    ∙ ap (λ x. point q.at q.once q.watches x) ignored

left_same : (e f : Ended) (s t : State) (ignored : List Ignored) (once breaks : List ℕ) → e ≡ f → s ≡ t → left_after e s.registers.pc ignored once breaks ≡ left_after f t.registers.pc ignored once breaks
left_same e f s t ignored once breaks same there =
    ap (λ x. left_after x s.registers.pc ignored once breaks) same ∙ ap (λ (x : State). left_after f x.registers.pc ignored once breaks) there

counts_same : (e f : Ended) (s t : State) (ignored : List Ignored) → e ≡ f → s ≡ t → counts_after e s.registers.pc ignored ≡ counts_after f t.registers.pc ignored
counts_same e f s t ignored same there = ap (λ x. counts_after x s.registers.pc ignored) same ∙ ap (λ (x : State). counts_after f x.registers.pc ignored) there

true_not_false : true ≡ false → ⊥
true_not_false e = absurd (cc)

said_same : (e f : Ended) (q r : PromptPoint) (s t : List ℕ) → e ≡ f → q ≡ r → Says s e q → Says t f r → s ≡ t
said_same e f q r s t same there p o =
    p ∙ ap (λ x. end_text x q.at.steps q.at.state.registers.pc) same ∙ ap (λ (x : PromptPoint). end_text f x.at.steps x.at.state.registers.pc) there ∙ sym o

-- ---- commands

module _ (once : EndsOnce) (reading : OneReading) (signals : Signals) where
  went_same : (breaks watches : List ℕ) (n : ℕ) (p : PromptPoint) (e f : Ended) (q r : PromptPoint) → Went WordStep signals breaks watches n p e q → Went WordStep signals breaks watches n p f r → (e ≡ f) × (q ≡ r)
  went_same breaks watches n p e f q r v w =
      let end = one_end WordStep (one_result once) signals breaks watches p.at.steps p.at.state (tried p.at.steps n) e f q.at.steps r.at.steps q.at.state r.at.state v.goes w.goes in (
        end.0,
        point_same q r end.1 end.2
            (v.breaks_left ∙ left_same e f q.at.state r.at.state p.ignored p.once p.at.breaks end.0 end.2 ∙ sym w.breaks_left)
            (v.once_left ∙ left_same e f q.at.state r.at.state p.ignored p.once p.once end.0 end.2 ∙ sym w.once_left) (v.same ∙ sym w.same)
            (v.counts_left ∙ counts_same e f q.at.state r.at.state p.ignored end.0 end.2 ∙ sym w.counts_left),
      )

  -- a part that ends a run is none after which it goes on
  not_both : (goal : Option ℕ) (n : ℕ) (p : PromptPoint) (e : Ended) (q m : PromptPoint) → Went WordStep signals (with_goal p.at.breaks goal) p.watches n p e q
      → ends_run e goal q.at.state.registers.pc p.ignored ≡ true → Went WordStep signals (with_goal p.at.breaks goal) p.watches n p ended.Met m
      → ends_run ended.Met goal m.at.state.registers.pc p.ignored ≡ false → ⊥
  not_both goal n p e q m v last w on =
      let same = went_same (with_goal p.at.breaks goal) p.watches n p e ended.Met q m v w in
      true_not_false
      (sym last ∙ ap (λ (x : Ended). ends_run x goal q.at.state.registers.pc p.ignored) same.0 ∙ ap (λ (x : PromptPoint). ends_run ended.Met goal x.at.state.registers.pc p.ignored) same.1 ∙ on)

  went_past_same : (goal : Option ℕ) (i j n : ℕ) (p : PromptPoint) (e f : Ended) (q r : PromptPoint) → WentPast WordStep signals goal i n p e q → WentPast WordStep signals goal j n p f r → (e ≡ f) × (q ≡ r)
  went_past_same goal zero zero n p e f q r (v, last) (w, last_too) = went_same (with_goal p.at.breaks goal) p.watches n p e f q r v w
  went_past_same goal zero (suc j) n p e f q r (v, last) (m, w, on, rest) = absurd (not_both goal n p e q m v last w on)
  went_past_same goal (suc i) zero n p e f q r (m, v, on, rest) (w, last) = absurd (not_both goal n p f r m w last v on)
  went_past_same goal (suc i) (suc j) n p e f q r (m, v, on, rest) (o, w, on_too, rest_too) =
      let same = went_same (with_goal p.at.breaks goal) p.watches n p ended.Met ended.Met m o v w in
      went_past_same goal i j (n - (o.at.steps - p.at.steps)) o e f q r (subst (λ (x : PromptPoint). WentPast WordStep signals goal i (n - (x.at.steps - p.at.steps)) x e q) same.1 rest) rest_too

  went_on_same : (goal : Option ℕ) (n : ℕ) (p : PromptPoint) (e f : Ended) (q r : PromptPoint) → WentOn WordStep signals goal n p e q → WentOn WordStep signals goal n p f r → (e ≡ f) × (q ≡ r)
  went_on_same goal n p e f q r (i, v) (j, w) = went_past_same goal i j n p e f q r v w

  went_to_same : (can : Bool) (address n : ℕ) (p : PromptPoint) (e f : Ended) (q r : PromptPoint) → WentTo WordStep signals can address n p e q → WentTo WordStep signals can address n p f r → (e ≡ f) × (q ≡ r)
  went_to_same true address n p e f q r v w = went_on_same (Some address) n p e f q r v w
  went_to_same false address n p e f q r (full, same) (full_too, same_too) = (full ∙ sym full_too, same ∙ sym same_too)

  went_over_same : (returns : Option ℕ) (p : PromptPoint) (e f : Ended) (q r : PromptPoint) → WentOver WordStep signals returns p e q → WentOver WordStep signals returns p f r → (e ≡ f) × (q ≡ r)
  went_over_same None p e f q r v w = went_on_same None 1 p e f q r v w
  went_over_same (Some address) p e f q r v w = went_to_same (can_set p.at.breaks address) address 4294967295 p e f q r v w

  runs_same : (n : ℕ) (p q r : PromptPoint) (s t : List ℕ) → prompts.Runs WordStep signals n p s q → prompts.Runs WordStep signals n p t r → (s ≡ t) × (q ≡ r)
  runs_same n p q r s t v w =
      let same = went_on_same None n p v.end w.end q r v.went w.went in
      (said_same v.end w.end q r s t same.0 same.1 v.says w.says, same.1)

  runs_to_same : (address n : ℕ) (p q r : PromptPoint) (s t : List ℕ) → RunsTo WordStep signals address n p s q → RunsTo WordStep signals address n p t r → (s ≡ t) × (q ≡ r)
  runs_to_same address n p q r s t v w =
      let same = went_to_same (can_set p.at.breaks address) address n p v.end w.end q r v.went w.went in
      (said_same v.end w.end q r s t same.0 same.1 v.says w.says, same.1)

  -- what comes after one of the steps of `next`
  abbrev After : ℕ → Bool → Ended → PromptPoint → List ℕ → PromptPoint → Type 0
  After n going e m text q = NextAfter going (λ x t y. Nexts WordStep signals n x t y) e m text q

  -- after one of the steps of `next`, where what comes then is one
  after_same : (n : ℕ) (i j : Option Insn) (e f : Ended) (p m o q r : PromptPoint) (s t : List ℕ)
      → ((x y z : PromptPoint) (a b : List ℕ) → Nexts WordStep signals n x a y → Nexts WordStep signals n x b z → (a ≡ b) × (y ≡ z))
      → StandsAtPc p.at.state i → WentOver WordStep signals (returns_to i p.at.state.registers.pc) p e m → After n (next_goes_on e i p m) e m s q
      → StandsAtPc p.at.state j → WentOver WordStep signals (returns_to j p.at.state.registers.pc) p f o → After n (next_goes_on f j p o) f o t r → (s ≡ t) × (q ≡ r)
  after_same n i j e f p m o q r s t rest stands over after stands_too over_too after_too =
      let pc = p.at.state.registers.pc in
      let insn : i ≡ j = one_read reading (program_word p.at.state pc) (program_word p.at.state ((pc + 1) % 65536)) i j stands stands_too in
      let both = went_over_same (returns_to j pc) p e f m o (subst (λ (x : Option Insn). WentOver WordStep signals (returns_to x pc) p e m) insn over) over_too in
      let going = ap (λ x. next_goes_on x i p m) both.0 ∙ ap (λ x. next_goes_on f x p m) insn ∙ ap (λ x. next_goes_on f j p x) both.1 in
      by_going (next_goes_on f j p o)
      (subst (λ (x : Bool). After n x f o s q) going
      (subst (λ (x : Ended). After n (next_goes_on e i p m) x o s q) both.0 (subst (λ (x : PromptPoint). After n (next_goes_on e i p m) e x s q) both.1 after))) after_too
    where
      by_going : (going : Bool) → After n going f o s q → After n going f o t r → (s ≡ t) × (q ≡ r)
      by_going true v w = rest o q r s t v w
      by_going false (v, same) (w, same_too) = (v ∙ sym w, same ∙ sym same_too)

  nexts_same : (n : ℕ) (p q r : PromptPoint) (s t : List ℕ) → Nexts WordStep signals n p s q → Nexts WordStep signals n p t r → (s ≡ t) × (q ≡ r)
  nexts_same zero p q r s t (v, same) (w, same_too) = (v ∙ sym w, same ∙ sym same_too)
  nexts_same (suc n) p q r s t (i, e, m, stands, over, after) (j, f, o, stands_too, over_too, after_too) =
      after_same n i j e f p m o q r s t (λ x y z a b v w. nexts_same n x y z a b v w) stands over after stands_too over_too after_too

  backs_same : (first : State) (n : ℕ) (p q r : PromptPoint) (s t : List ℕ) → Backs WordStep signals first n p s q → Backs WordStep signals first n p t r → (s ≡ t) × (q ≡ r)
  backs_same first n p q r s t v w =
      let steps : q.at.steps ≡ r.at.steps = v.steps ∙ sym w.steps in
      let reached = subst (λ (x : ℕ). Reaches WordStep signals 0 x first q.at.state) steps v.reached in
      let state = one_reached WordStep (one_result once) signals 0 r.at.steps first q.at.state r.at.state reached w.reached in
      let same = point_same q r steps state (v.breaks ∙ sym w.breaks) (v.once ∙ sym w.once) (v.watches ∙ sym w.watches) (v.ignored ∙ sym w.ignored) in
      (said_same ended.Ran ended.Ran q r s t refl same v.says w.says, same)

  backs_to_same : (first : State) (p q r : PromptPoint) (s t : List ℕ) → BacksTo WordStep signals first p s q → BacksTo WordStep signals first p t r → (s ≡ t) × (q ≡ r)
  backs_to_same first p q r s t v w =
      let end = one_stop WordStep (one_result once) signals p.at.breaks p.watches first (p.at.steps - 1) v.end w.end q.at.steps r.at.steps q.at.state r.at.state v.stops w.stops in
      let same = point_same q r end.1 end.2 (v.breaks ∙ sym w.breaks) (v.once ∙ sym w.once) (v.watches ∙ sym w.watches) (v.ignored ∙ sym w.ignored) in
      (said_same v.end w.end q r s t end.0 same v.says w.says, same)

  -- how a run of a script ends, at the prompt
  abbrev as_ended : goes.Halting → Ended
  as_ended goes.Ran = ended.Ran
  as_ended goes.Met = ended.Met
  as_ended (goes.Left stop) = ended.Left stop

  unwatched : (breaks : List ℕ) (k n : ℕ) (s : State) (h : goes.Halting) (j : ℕ) (t : State) → goes.Goes WordStep signals breaks k n s h j t → GoesUnwatched signals breaks k n s (as_ended h) j t
  unwatched breaks k n s goes.Ran j t g = g
  unwatched breaks k n s goes.Met j t g = g
  unwatched breaks k n s (goes.Left stop) j t g = g

  said : (h : goes.Halting) (j pc : ℕ) → halting_text h j pc ≡ end_text (as_ended h) j pc
  said goes.Ran j pc = refl
  said goes.Met j pc = refl
  said (goes.Left stop) j pc = refl

  steps_same : (n : ℕ) (p q r : Point) (s t : List ℕ) → Steps WordStep signals [] n p s q → Steps WordStep signals [] n p t r → (s ≡ t) × (q ≡ r)
  steps_same n p q r s t v w =
      let of : (h : goes.Halting) (j : ℕ) (u : State) → goes.Goes WordStep signals [] p.steps (tried p.steps n) p.state h j u → Goes WordStep signals [] [] p.steps (tried p.steps n) p.state (as_ended h) j u =
      λ h j u g. goes_unwatched signals p.steps p.state [] (tried p.steps n) j u (as_ended h) (unwatched [] p.steps (tried p.steps n) p.state h j u g) in
      let end = one_end WordStep (one_result once) signals [] [] p.steps p.state (tried p.steps n) (as_ended v.halting) (as_ended w.halting) q.steps r.steps q.state r.state
      (of v.halting q.steps q.state v.goes) (of w.halting r.steps r.state w.goes) in
      let point : ℕ → State → List ℕ → Point = λ a b c. record { steps = a; state = b; breaks = c } in (
        v.text_is ∙ said v.halting q.steps q.state.registers.pc ∙ ap (λ e. end_text e q.steps q.state.registers.pc) end.0 ∙ ap (λ j. end_text (as_ended w.halting) j q.state.registers.pc) end.1
            ∙ ap (λ (u : State). end_text (as_ended w.halting) r.steps u.registers.pc) end.2 ∙ sym (said w.halting r.steps r.state.registers.pc) ∙ sym w.text_is,
        ap (λ j. point j q.state q.breaks) end.1 ∙ ap (λ u. point r.steps u q.breaks) end.2 ∙ ap (λ b. point r.steps r.state b) (v.same ∙ sym w.same),
      )

  -- the points after a command that leads to this point of a debugger
  led : (at : Point) (p q r : PromptPoint) → q.at ≡ at → r.at ≡ at → (q.once ≡ p.once) × (q.watches ≡ p.watches) × (q.ignored ≡ p.ignored)
      → (r.once ≡ p.once) × (r.watches ≡ p.watches) × (r.ignored ≡ p.ignored) → q ≡ r
  led at p q r here there (cleared, watches, ignored) (cleared_too, watches_too, ignored_too) = whole_same q r (here ∙ sym there) (cleared ∙ sym cleared_too) (watches ∙ sym watches_too) (ignored ∙ sym ignored_too)

  script_same : (image : ImageData) (c : Cmd) (p q r : PromptPoint) (s t : List ℕ) → ScriptAnswers WordStep signals image c p s q → ScriptAnswers WordStep signals image c p t r → (s ≡ t) × (q ≡ r)
  script_same image (cmd.Step n) p q r s t (v, cleared, watches, ignored) (w, cleared_too, watches_too, ignored_too) =
      let same = steps_same n p.at q.at r.at s t v w in
      (same.0, whole_same q r same.1 (cleared ∙ sym cleared_too) (watches ∙ sym watches_too) (ignored ∙ sym ignored_too))
  script_same image (cmd.Run n) p q r s t v w = runs_same n p q r s t v w
  script_same image (cmd.Clear address) p q r s t (v, same) (w, same_too) = (v ∙ sym w, same ∙ sym same_too)
  script_same image (cmd.Break address) p q r s t (v, cleared, watches, ignored) (w, cleared_too, watches_too, ignored_too) = (v.0 ∙ sym w.0, led (record { steps = p.at.steps; state = p.at.state; breaks = with_breakpoint p.at.breaks address }) p q r v.1 w.1 (cleared, watches, ignored) (cleared_too, watches_too, ignored_too))
  script_same image cmd.Regs p q r s t (v, same) (w, same_too) = (v ∙ sym w, same ∙ sym same_too)
  script_same image (cmd.Data address n) p q r s t (v, cleared, watches, ignored) (w, cleared_too, watches_too, ignored_too) = (v.0 ∙ sym w.0, led p.at p q r v.1 w.1 (cleared, watches, ignored) (cleared_too, watches_too, ignored_too))
  script_same image (cmd.Prog address n) p q r s t (v, cleared, watches, ignored) (w, cleared_too, watches_too, ignored_too) = (v.0 ∙ sym w.0, led p.at p q r v.1 w.1 (cleared, watches, ignored) (cleared_too, watches_too, ignored_too))
  script_same image cmd.Stack p q r s t (v, cleared, watches, ignored) (w, cleared_too, watches_too, ignored_too) = (v.0 ∙ sym w.0, led p.at p q r v.1 w.1 (cleared, watches, ignored) (cleared_too, watches_too, ignored_too))
  script_same image cmd.Where p q r s t (v, cleared, watches, ignored) (w, cleared_too, watches_too, ignored_too) =
      let u = p.at.state in
      (one_place reading image u (mark_found u.registers.cnf u.world u.registers.pc) s t v.0 w.0, led p.at p q r v.1 w.1 (cleared, watches, ignored) (cleared_too, watches_too, ignored_too))
  script_same image (cmd.List n) p q r s t (v, cleared, watches, ignored) (w, cleared_too, watches_too, ignored_too) =
      (one_listed reading image.program (source_line_at image) (marks_from image.marks p.at.state.registers.pc n) s t v.0 w.0, led p.at p q r v.1 w.1 (cleared, watches, ignored) (cleared_too, watches_too, ignored_too))
  script_same image cmd.Symbols p q r s t (v, cleared, watches, ignored) (w, cleared_too, watches_too, ignored_too) = (v.0 ∙ sym w.0, led p.at p q r v.1 w.1 (cleared, watches, ignored) (cleared_too, watches_too, ignored_too))

  pub one_answer : (image : ImageData) (first : State) (c : PromptCommand) (p q r : PromptPoint) (s t : List ℕ) → PromptAnswers WordStep signals image first c p s q → PromptAnswers WordStep signals image first c p t r
      → (s ≡ t) × (q ≡ r)
  one_answer image first (prompt.Script c) p q r s t v w = script_same image c p q r s t v w
  one_answer image first (prompt.Next n) p q r s t v w = nexts_same n p q r s t v w
  one_answer image first prompt.Finish p q r s t v w = runs_to_same (return_address p.at.state) 4294967295 p q r s t v w
  one_answer image first (prompt.Until address n) p q r s t v w = runs_to_same address n p q r s t v w
  one_answer image first (prompt.Watch address) p q r s t (v, same) (w, same_too) = (v ∙ sym w, same ∙ sym same_too)
  one_answer image first (prompt.Unwatch address) p q r s t (v, same) (w, same_too) = (v ∙ sym w, same ∙ sym same_too)
  one_answer image first (prompt.Once address) p q r s t (v, same) (w, same_too) = (v ∙ sym w, same ∙ sym same_too)
  one_answer image first (prompt.Ignore address n) p q r s t (v, same) (w, same_too) = (v ∙ sym w, same ∙ sym same_too)
  one_answer image first prompt.Ignored p q r s t (v, same) (w, same_too) = (v ∙ sym w, same ∙ sym same_too)
  one_answer image first (prompt.Back n) p q r s t v w = backs_same first n p q r s t v w
  one_answer image first prompt.BackTo p q r s t v w = backs_to_same first p q r s t v w
  one_answer image first (prompt.Hits address) p q r s t (v, same) (w, same_too) =
      (one_hits WordStep (one_result once) signals p.at.breaks p.watches first address p.at.steps s t v w, same ∙ sym same_too)
  one_answer image first (prompt.Trace most) p q r s t (v, same) (w, same_too) =
      (one_trace WordStep (one_result once) signals image first p.at.steps most s t v w, same ∙ sym same_too)
  one_answer image first prompt.Inputs p q r s t (v, same) (w, same_too) = (v ∙ sym w, same ∙ sym same_too)
  one_answer image first (prompt.ListFrom address n) p q r s t (v, same) (w, same_too) =
      (one_listed reading image.program (source_line_at image) (marks_from image.marks address n) s t v w, same ∙ sym same_too)
  one_answer image first (prompt.Outputs most) p q r s t (v, same) (w, same_too) =
      (one_text WordStep (one_result once) signals first p.at.steps most s t v w, same ∙ sym same_too)
  one_answer image first (prompt.Print what) p q r s t (v, same) (w, same_too) = (v ∙ sym w, same ∙ sym same_too)
  one_answer image first prompt.Help p q r s t (v, same) (w, same_too) = (v ∙ sym w, same ∙ sym same_too)
  one_answer image first prompt.Quit p q r s t (v, same) (w, same_too) = (v ∙ sym w, same ∙ sym same_too)
