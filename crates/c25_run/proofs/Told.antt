-- What is reported of a printed run.
use Rattle.std.proofs.Common.{◌≡◌, ◌↔◌, ◌∙◌, ℕ, Bool, true, List, [], Option, None, Some, ap, inl, inr, refl, subst, sym}
use Rattle.std.specs.FinMap as finite
use Rattle.std.specs.Ordering.{nat_cmp}
use Rattle.c25_board.specs.declared.board.Outcome.{Outcome}
use Rattle.c25_chain.specs.Chain.{Given}
use Rattle.c25_chain.specs.Headline.{first_state}
use Rattle.c25_chain.specs.OutcomeText.{outcome_of, steps_of}
use Rattle.c25_chain.specs.Ready.{IsReady, RunsReady, statements_end}
use Rattle.c25_chain.specs.Run.{last_state}
use Rattle.c25_chain.specs.declared.ready.Ready.{Ready}
use Rattle.c25_chain.specs.Inspection.{TellsWhere}
use Rattle.c25_meaning_debugger.specs.Debugger.{IsFetchedLine, IsWhereBy, Point}
use Rattle.c25_meaning_image.specs.declared.mark.RunMark.{RunMark}
use Rattle.c25_meaning_instructions.specs.declared.insn.Insn.{Insn}
use Rattle.c25_meaning_linking.specs.Linking.{ImageData}
use Rattle.c25_meaning_processor.specs.FirstState.{first_of_pages}
use Rattle.c25_meaning_processor.specs.Run.{Ending}
use Rattle.c25_meaning_processor.specs.State.{State, World}
use Rattle.c25_meaning_processor.specs.WordStep.{IsFetchedBy, mark_found}
use Rattle.c25_meaning_processor.specs.Samples.{samples_at}
use Rattle.c25_meaning_processor.specs.Signals.{signals_of}
use Rattle.c25_meaning_processor.specs.declared.schedule.ScheduleEntry.{ScheduleEntry}
use Rattle.c25_run_laws.specs.Behind.{behind, world_behind}
use Rattle.c25_report.specs.Ending as report
use Rattle.c25_report.specs.declared.ending.Ending as report_ending
use Rattle.c25_run.proofs.Joined.{EndOnce, Joins, PutFew}
use Rattle.c25_run.proofs.TimedFronts.{front_in_end}
use Rattle.c25_run.specs.Run.{PrintsFrom, PrintsRun, TellsEnd}
use Rattle.c25_run.specs.declared.run.RunDetails.{RunDetails}

-- ---- where a board stands

abbrev pub FetchedBehind : Type 0
FetchedBehind = (outputs : List (ℕ × ℕ)) (cnf : Bool) (w : World) (pc : ℕ) (m : Option RunMark) (i : Option Insn) → IsFetchedBy cnf w pc m i → IsFetchedBy cnf (world_behind outputs w) pc m i

module _ (fetched : FetchedBehind) (o : List (ℕ × ℕ)) (image : ImageData) (s : State) where
  line_behind : (m : RunMark) (i : Option Insn) (text : List ℕ) → IsFetchedLine image s m i text → IsFetchedLine image (behind o s) m i text
  line_behind m None text h = h
  line_behind m (Some i) text h = h

  where_behind : (m : Option RunMark) (text : List ℕ) → IsWhereBy image s m text → IsWhereBy image (behind o s) m text
  where_behind None text h = h
  where_behind (Some m) text (i, found, line) = (i, fetched o s.registers.cnf s.world s.registers.pc (Some m) i found, line_behind m i text line)

  pub tells_behind : (entries : List ScheduleEntry) (steps : ℕ) (text : List ℕ) → TellsWhere image entries steps s text → TellsWhere image entries steps (behind o s) text
  tells_behind entries steps text (q, (first, rest, m, regs, (place, more, r, stands, none, joined_rest), joined)) =
      let there : Point = record { steps = steps; state = behind o s; breaks = [] } in
      let mark = mark_found s.registers.cnf s.world s.registers.pc in
      let at = subst (λ (p : Point). IsWhereBy image p.state (mark_found p.state.registers.cnf p.state.world p.state.registers.pc) place) regs.1 stands.0 in
      (there, (first, rest, there, (regs.0, refl), (place, more, there, (where_behind mark place at, refl), (none.0, refl), joined_rest), joined))

pub tells_end : (fetched : FetchedBehind) (outputs : List (ℕ × ℕ)) (image : ImageData) (entries : List ScheduleEntry) (n steps : ℕ) (s : State) (end : Ending) (text : List ℕ)
    → steps ≡ steps_of n end → last_state end ≡ behind outputs s → TellsWhere image entries steps s text → TellsWhere image entries (steps_of n end) (last_state end) text
tells_end fetched outputs image entries n steps s end text count last told =
    subst (λ (x : State). TellsWhere image entries (steps_of n end) x text) (sym last)
    (subst (λ (k : ℕ). TellsWhere image entries k (behind outputs s) text) count (tells_behind fetched outputs image s entries steps text told))

pub reports_end : (fetched : FetchedBehind) (regs : Bool) (image : ImageData) (entries : List ScheduleEntry) (steps : ℕ) (s : State) (o : Outcome) (e : report_ending.Ending) (text : List ℕ)
    → regs ≡ true → e ≡ report.ending_of o → TellsWhere image entries steps s text
    → (n : ℕ) (end : Ending) (outputs : List (ℕ × ℕ)) → o ≡ outcome_of end → steps ≡ steps_of n end → last_state end ≡ behind outputs s → TellsEnd regs image entries n end e text
reports_end fetched regs image entries steps s o e text asked is where_is n end outputs same count last =
    subst (λ (b : Bool). TellsEnd b image entries n end e text) (sym asked)
    (inl (is ∙ ap report.ending_of same, tells_end fetched outputs image entries n steps s end text count last where_is))

-- ---- the run of a program that is ready

-- a program that is ready runs as its sources say
abbrev pub RunsAsSaid : Type 0
RunsAsSaid = (g : Given) (ready : Ready) (n : ℕ) (end : Ending) → IsReady g ready → RunsReady ready n end ↔ (end ≡ statements_end g ready n)

module _ (said : RunsAsSaid) (joins : Joins) (put : PutFew) (once : EndOnce) (ready : Ready) (n : ℕ) (details : RunDetails) (e : report_ending.Ending) (note : List ℕ) (old new : Option (List ℕ)) (given : Given) (is : IsReady given ready) where
  abbrev pub image : ImageData
  image = ready.built.linked.image

  abbrev pub begin : State
  begin = first_state image ready.samples

  abbrev pub end : Ending
  end = statements_end given ready n

  -- the run has an end
  ends : RunsReady ready n end
  ends = (said given ready n end is).1 refl

  from_first : PrintsFrom details image ready.schedule n begin e note old new → PrintsRun ready n details e note old new
  from_first (inl (last, text, run, text_is, printed, told)) = inl (last, run, (text, text_is, inl (printed, told)))
  from_first (inr (inl (is_unprinted, none, front))) =
      let has = front_in_end joins put once (signals_of ready.schedule) n begin old new details.when end ends front in
      inl (end, ends, (has.0, has.1, inr (is_unprinted, none, has.2)))
  from_first (inr (inr short)) = inr short

  pub printed_run : PrintsFrom details image ready.schedule n
      (first_of_pages ready.built.linked.page0.words ready.built.linked.page1.words image.marks image.run_marks (samples_at ready.samples)) e note old new
      → PrintsRun ready n details e note old new
  printed_run h =
      let l = is.built.linked in
      from_first
      (subst (λ (w : finite.FinMap nat_cmp ℕ). PrintsFrom details image ready.schedule n (first_of_pages image.program w image.marks image.run_marks (samples_at ready.samples)) e note old new) l.words1
      (subst (λ (w : finite.FinMap nat_cmp ℕ). PrintsFrom details image ready.schedule n (first_of_pages w ready.built.linked.page1.words image.marks image.run_marks (samples_at ready.samples)) e note old new) l.words0 h))
