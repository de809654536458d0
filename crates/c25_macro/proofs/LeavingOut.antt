-- What a rewriting answers where a line that is refused is left out.
use Rattle.std.proofs.Common.{◌≡◌, ℕ, ◌-◌, ◌==◌, Bool, true, false, cond, List, [], ◌∷◌, if◌then◌else◌, Option, Some, None, Result, Ok, Err, IfSome, refl, ap, sym, ◌∙◌, subst}
use Rattle.c25_meaning_common.specs.declared.failure.Failure.{Failure}
use Rattle.c25_meaning_common.specs.declared.failure.Failure.TheVariants.{NoMemory, Fault}
use Rattle.c25_meaning_common.specs.declared.placed.FileLine.{FileLine}
use Rattle.c25_meaning_expansion.specs.Acts.{ExpansionAct}
use Rattle.c25_meaning_expansion.specs.Expansion.{LineOrEnd, Mode, Read, Config, Acting, InLoop, InMacro, Reading, Rewriting, Gives, Goes, Finishes, Faults, Misses}
use Rattle.c25_meaning_expansion.specs.LeftOut.{directive_by, ends_reading, left_out, next_left_out, without}
use Rattle.c25_meaning_expansion.specs.declared.expansion.Directive.{Directive}
use Rattle.c25_meaning_expansion.specs.ExpansionBounds.{IsBounded}
use Rattle.c25_meaning_expansion.specs.ExpansionBounds as expansion
use Rattle.c25_meaning_expansion.specs.ExpansionRules.{acts, directive_in, reads_by}
use Rattle.c25_meaning_expansion.specs.ExpansionRuns.{Leads, first, front, read_by, rewrite, rewrite_by}
use Rattle.c25_meaning_expansion.specs.Files.{Files}
use Rattle.c25_meaning_expansion.specs.Rows.{Row}
use Rattle.c25_meaning_language.specs.Line.{first_word}
use Rattle.c25_meaning_language.specs.declared.statement.FaultKind.TheVariants as fault
use Rattle.c25_meaning_expansion.specs.LeftOut.{stopped}
use Rattle.c25_meaning_expansion.proofs.ExpansionFalls.{Falls}
use Rattle.c25_meaning_expansion.proofs.ExpansionFirst.{comes_to_first}
use Rattle.c25_meaning_expansion.proofs.LeavingOut.{left_out_falls, stopped_at}
use Rattle.c25_meaning_language.specs.Value.{Table}
use Rattle.c25_macro.specs.Config.{Follows, Keeps, Refuses, refused_by}
use Rattle.c25_macro.specs.LeavingOut.{FirstLeavingOut, IsLast, IsLeftOut, LeavesOut, OrLeavesOut, StaysBounded, after_fault, ends_with}
use Rattle.c25_macro.specs.SourceFrames.{after}
use Rattle.c25_macro.specs.declared.frames.Source.{Source}
use Rattle.c25_macro.specs.declared.expander_fault.ExpanderFault.{ExpanderFault}
use Rattle.c25_macro.specs.declared.expander_fault.ExpanderFault.TheVariants.{Faulty, Missing}
use Rattle.c25_macro.specs.declared.leaving_out.Refusal.{Refusal}
use Rattle.c25_macro.specs.declared.state.LineResult.{LineResult}
use Rattle.c25_macro.specs.declared.state.LineResult.TheVariants as progress

-- a rewriting that refuses no line
followed : (r : Rewriting) (old new : Config) (x : LineResult) → Follows r (Ok x) new → LeavesOut r old (Ok x) new
followed r old new (progress.Given row) h = h
followed r old new progress.Consumed h = h
followed r old new progress.Finished h = h

-- nothing is gone on with where no line would be left out
none_after : (r : Rewriting) (c : Config) → next_left_out c.mode c.lines c ≡ None → left_out r c ≡ None
none_after (Faults place kind) c h = on (ends_reading kind)
  where
    on : (b : Bool) → cond b None (next_left_out c.mode c.lines c) ≡ None
    on true = refl
    on false = h
none_after (Misses place name) c h = h
none_after (Gives row d) c h = refl
none_after (Goes d) c h = refl
none_after (Finishes d) c h = refl

-- a rewriting after whose fault nothing is read
by_last : (r : Rewriting) (old new : Config) (done : Result LineResult (Failure ExpanderFault)) (result : Result LineResult (Failure Refusal))
    → Follows r done new → IsLast done result → left_out r old ≡ None → LeavesOut r old result new
by_last r old new (Ok x) (Ok y) h is none = subst (λ (z : LineResult). LeavesOut r old (Ok z) new) (sym is) (followed r old new x h)
by_last r old new (Ok x) (Err e) h is none = absurd is
by_last r old new (Err e) (Ok y) h is none = absurd is
by_last r old new (Err e) (Err (NoMemory n)) h is none = tt
by_last r old new (Err (NoMemory m)) (Err (Fault x)) h is none = absurd is
by_last r old new (Err (Fault f)) (Err (Fault x)) h is none =
    (h ∙ ap refused_by (sym is.0), subst (λ (b : Bool). IsLeftOut (left_out r old) new b) (sym is.1) none)

-- the same where no line would be left out
pub last_leaves : (r : Rewriting) (old new : Config) (done : Result LineResult (Failure ExpanderFault)) (result : Result LineResult (Failure Refusal))
    → Follows r done new → IsLast done result → next_left_out old.mode old.lines old ≡ None → LeavesOut r old result new
last_leaves r old new done result h is none = by_last r old new done result h is (none_after r old none)

-- the fault of a line that is refused
faulty : (f : ExpanderFault) (d : Option Directive) (old c mid : Config) → mid ≡ c → next_left_out old.mode old.lines old ≡ without d (record c { mode = Reading })
    → left_out (refused_by f) old ≡ after_fault f d mid
faulty (Faulty place kind) d old c mid same is = ap (λ (o : Option Config). if ends_reading kind then None else o) (is ∙ ap (λ (x : Config). without d (record x { mode = Reading })) (sym same))
faulty (Missing place name) d old c mid same is = is ∙ ap (λ (x : Config). without d (record x { mode = Reading })) (sym same)

-- a rewriting of a line that is left out where it is refused
pub line_leaves : (r : Rewriting) (old c mid new : Config) (d : Option Directive) (done : Result LineResult (Failure ExpanderFault)) (result : Result LineResult (Failure Refusal))
    → Follows r done mid → Keeps done c mid → OrLeavesOut d done mid result new → next_left_out old.mode old.lines old ≡ without d (record c { mode = Reading }) → LeavesOut r old result new
line_leaves r old c mid new d (Ok x) (Ok y) h kept left is =
    subst (λ (z : LineResult). LeavesOut r old (Ok z) new) (sym left.0) (followed r old new x (subst (λ (e : Config). Follows r (Ok x) e) (sym left.1) h))
line_leaves r old c mid new d (Ok x) (Err e) h kept left is = absurd left
line_leaves r old c mid new d (Err e) (Ok y) h kept left is = absurd left
line_leaves r old c mid new d (Err e) (Err (NoMemory n)) h kept left is = tt
line_leaves r old c mid new d (Err (NoMemory m)) (Err (Fault x)) h kept left is = absurd left
line_leaves r old c mid new d (Err (Fault f)) (Err (Fault x)) h kept left is =
    (h ∙ ap refused_by (sym left.0), subst (λ (o : Option Config). IsLeftOut o new x.goes_on) (sym (ap (λ (q : Rewriting). left_out q old) h ∙ faulty f d old c mid kept is)) left.1)

refused_last : (f : ExpanderFault) → expansion.IsLast (refused_by f)
refused_last (Faulty place kind) = tt
refused_last (Missing place name) = tt

-- the first line that is refused
pub first_refused : (files : Files) (s : Table) (n : ℕ) (old c new : Config) (e : Failure Refusal) → Leads files s n old c → LeavesOut (rewrite files s c) c (Err e) new
    → FirstLeavingOut (first files s old) (stopped files s old) (Err e) new
first_refused files s n old c new (NoMemory m) leads h = tt
first_refused files s n old c new (Fault x) leads h =
    let last = refused_last x.fault in
    let at : first files s old ≡ refused_by x.fault = comes_to_first files s old (refused_by x.fault) (n, c, leads, h.0) last in
    let here : stopped files s old ≡ c = stopped_at files s n old c leads (subst expansion.IsLast (sym h.0) last) in (
      at,
      subst (λ (d : Config). IsLeftOut (left_out (first files s old) d) new x.goes_on) (sym here)
          (subst (λ (r : Rewriting). IsLeftOut (left_out r c) new x.goes_on) (h.0 ∙ sym at) h.1),
    )

falls_to : (c new : Config) (o : Option Config) → IfSome o (Falls c) → IsLeftOut o new true → Falls c new
falls_to c new (Some d) h is = let same : d ≡ new = cc in subst (Falls c) same h
falls_to c new None h is = absurd (cc)

-- what was in bounds is, after a line that is refused
pub refused_bounded : (files : Files) (s : Table) (c new : Config) (e : Failure Refusal) → IsBounded c → LeavesOut (rewrite files s c) c (Err e) new → StaysBounded (Err e) new
refused_bounded files s c new (NoMemory m) bounds h = tt
refused_bounded files s c new (Fault x) bounds h =
    λ on. (falls_to c new (left_out (rewrite files s c) c) (left_out_falls files s c) (subst (λ (b : Bool). IsLeftOut (left_out (rewrite files s c) c) new b) on h.1)).bounded bounds

-- ---- one rewriting

module _ (files : Files) (s : Table) where
  -- a rewriting that reads a line
  pub reads : (old here : Config) (row : Row) (rest : List LineOrEnd) → old.mode ≡ Reading → old.lines ≡ Read row ∷ rest → (old.left == 0) ≡ false
      → here ≡ record old { lines = rest; mode = Reading; left = old.left - 1 } → rewrite files s old ≡ reads_by files s row (directive_in (first_word row.text)) here.frame.branches here
  unfolding rewrite
  reads old here row rest mode lines some is =
      let next : Config = record old { lines = rest; mode = Reading; left = old.left - 1 } in
      ap (λ m. rewrite_by files s m old) mode ∙ ap (λ items. front files s items old) lines
      ∙ ap (λ b. if b then Faults row.place fault.Lines else read_by files s row old.mode next) some
      ∙ ap (λ m. read_by files s row m next) mode
      ∙ ap (λ (x : Config). reads_by files s row (directive_in (first_word row.text)) x.frame.branches x) (sym is)

  -- one line too many
  reads_none : (old : Config) (row : Row) (rest : List LineOrEnd) → old.mode ≡ Reading → old.lines ≡ Read row ∷ rest → (old.left == 0) ≡ true → rewrite files s old ≡ Faults row.place fault.Lines
  unfolding rewrite
  reads_none old row rest mode lines none =
      ap (λ m. rewrite_by files s m old) mode ∙ ap (λ items. front files s items old) lines
      ∙ ap (λ b. if b then Faults row.place fault.Lines else read_by files s row old.mode (record old { lines = rest; mode = Reading; left = old.left - 1 })) none

  -- the front is rewritten
  pub rewrites : (old : Config) → old.mode ≡ Reading → rewrite files s old ≡ front files s old.lines old
  unfolding rewrite
  rewrites old mode = ap (λ m. rewrite_by files s m old) mode

-- what is gone on with after a line that was read is left out
pub read_left_out : (old here : Config) (row : Row) (rest : List LineOrEnd) (d : Option Directive) → old.mode ≡ Reading → old.lines ≡ Read row ∷ rest
    → here ≡ record old { lines = rest; mode = Reading; left = old.left - 1 } → d ≡ directive_in (first_word row.text) → next_left_out old.mode old.lines old ≡ without d (record here { mode = Reading })
read_left_out old here row rest d mode lines is same =
    ap (λ m. next_left_out m old.lines old) mode ∙ ap (λ items. next_left_out Reading items old) lines
    ∙ ap (λ (x : Config). without (directive_in (first_word row.text)) (record x { mode = Reading })) (sym is)
    ∙ ap (λ x. without x (record here { mode = Reading })) (sym same)

-- nothing is left out at an end
pub end_left_out : (old : Config) (sources : List Source) → old.mode ≡ Reading → old.lines ≡ after sources → next_left_out old.mode old.lines old ≡ None
end_left_out old [] mode lines = ap (λ m. next_left_out m old.lines old) mode ∙ ap (λ items. next_left_out Reading items old) lines
end_left_out old (x ∷ xs) mode lines = ap (λ m. next_left_out m old.lines old) mode ∙ ap (λ items. next_left_out Reading items old) lines

-- a line whose label was given is left out where it is refused
pub acted_leaves : (r : Rewriting) (c mid new : Config) (place : FileLine ℕ) (act : ExpansionAct) (d : Option Directive) (done : Result LineResult (Failure ExpanderFault)) (result : Result LineResult (Failure Refusal))
    → Follows r done mid → Keeps done c mid → OrLeavesOut d done mid result new → d ≡ directive_by act → LeavesOut r (record c { mode = Acting place act }) result new
acted_leaves r c mid new place act d done result h kept left is =
    line_leaves r (record c { mode = Acting place act }) c mid new d done result h kept left (ap (λ x. without x (record c { mode = Reading })) (sym is))

-- one line too many ends the reading
pub too_many : (files : Files) (s : Table) (old new : Config) (row : Row) (rest : List LineOrEnd) (failure : Failure ExpanderFault) (result : Result LineResult (Failure Refusal))
    → old.mode ≡ Reading → old.lines ≡ Read row ∷ rest → (old.left == 0) ≡ true → failure ≡ Fault (Faulty row.place fault.Lines) → IsLast (Err failure) result → LeavesOut (rewrite files s old) old result new
too_many files s old new row rest failure result mode lines none same is =
    let refuses = reads_none files s old row rest mode lines none in
    by_last (rewrite files s old) old new (Err failure) result (subst (λ (f : Failure ExpanderFault). Refuses (rewrite files s old) f) (sym same) refuses) is
    (ap (λ r. left_out r old) refuses)

-- ---- one rewriting by the mode

module _ (files : Files) (s : Table) (old new : Config) where
  pub step_acts : (place : FileLine ℕ) (act : ExpansionAct) (result : Result LineResult (Failure Refusal)) → old.mode ≡ Acting place act
      → LeavesOut (acts files s place act (record old { mode = Reading })) (record old { mode = Acting place act }) result new → LeavesOut (rewrite files s old) old result new
  unfolding rewrite
  step_acts place act result mode h =
      subst (λ (m : Mode). LeavesOut (rewrite_by files s old.mode old) (record old { mode = m }) result new) (sym mode)
      (subst (λ (m : Mode). LeavesOut (rewrite_by files s m old) (record old { mode = Acting place act }) result new) (sym mode) h)

  collects : (m : Mode) (done : Result LineResult (Failure ExpanderFault)) (result : Result LineResult (Failure Refusal)) → old.mode ≡ m
      → rewrite_by files s m old ≡ front files s old.lines old → next_left_out m old.lines old ≡ None → Follows (front files s old.lines (record old { mode = m })) done new → IsLast done result
      → LeavesOut (rewrite_by files s old.mode old) old result new
  collects m done result mode fronts none h is =
      let at : Follows (front files s old.lines old) done new = subst (λ (x : Mode). Follows (front files s old.lines (record old { mode = x })) done new) (sym mode) h in
      last_leaves (rewrite_by files s old.mode old) old new done result
      (subst (λ (r : Rewriting). Follows r done new) (sym (ap (λ (x : Mode). rewrite_by files s x old) mode ∙ fronts)) at) is (ap (λ (x : Mode). next_left_out x old.lines old) mode ∙ none)

  pub step_macro : (name : List ℕ) (parameters : List (List ℕ)) (body : List Row) (nested : ℕ) (done : Result LineResult (Failure ExpanderFault)) (result : Result LineResult (Failure Refusal))
      → old.mode ≡ InMacro name parameters body nested → Follows (front files s old.lines (record old { mode = InMacro name parameters body nested })) done new → IsLast done result
      → LeavesOut (rewrite files s old) old result new
  unfolding rewrite
  step_macro name parameters body nested done result mode h is = collects (InMacro name parameters body nested) done result mode refl refl h is

  pub step_loop : (turns : ℕ) (body : List Row) (nested : ℕ) (done : Result LineResult (Failure ExpanderFault)) (result : Result LineResult (Failure Refusal))
      → old.mode ≡ InLoop turns body nested → Follows (front files s old.lines (record old { mode = InLoop turns body nested })) done new → IsLast done result
      → LeavesOut (rewrite files s old) old result new
  unfolding rewrite
  step_loop turns body nested done result mode h is = collects (InLoop turns body nested) done result mode refl refl h is
