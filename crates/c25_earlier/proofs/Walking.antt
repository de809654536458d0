-- What one rewriting of a walk leads to.
use Rattle.std.specs.Option.{option_map}
use Rattle.std.proofs.Common.{◌≡◌, ℕ, false, true, List, Option, Some, None, Result, Ok, Err, IfOk, ap, sym, ◌∙◌, subst}
use Rattle.c25_asm.specs.Trails.{Reaches, begins, goes, passes, Gives, PassesAll}
use Rattle.c25_earlier.specs.FirstLines.{GetsValue, IsFirstLine, absent, refused, unexpanded, whole}
use Rattle.c25_earlier.specs.Walks.{Advances, EndsWalk, LeadsOn, Passes}
use Rattle.c25_earlier.specs.declared.walk.Turn.{Turn}
use Rattle.c25_earlier.specs.declared.walk.Turn.TheVariants as turn
use Rattle.c25_macro.specs.Expander.{shown}
use Rattle.c25_macro.specs.Tracers.{BeginsAt, Trace, Steps, fault_in}
use Rattle.c25_macro.specs.declared.answer.ExpLine.{ExpLine}
use Rattle.c25_macro.specs.declared.tracer.Step.TheVariants as step
use Rattle.c25_macro.specs.declared.tracer.StepFault.{StepFault}
use Rattle.c25_meaning_assembly.specs.ModuleOfSource.{read_and_pass}
use Rattle.c25_meaning_assembly.specs.Sections.{Progress, stands, start, table}
use Rattle.c25_meaning_common.specs.declared.failure.Failure.TheVariants as failure
use Rattle.c25_meaning_common.specs.declared.no_memory.NoMemory.{NoMemory}
use Rattle.c25_meaning_expansion.specs.ExpansionAnswers.{ExpandedLine, given_by, fault_by}
use Rattle.c25_meaning_expansion.specs.ExpansionRuns.{rewrite, start_of}
use Rattle.c25_meaning_expansion.specs.Files.{Files}
use Rattle.c25_meaning_language.specs.ExpansionFault.{ExpansionFault}
use Rattle.c25_meaning_language.specs.Value.{Table}
use Rattle.c25_phases.specs.View.{progress_of}

module _ (old new : Trace) (s : Table) (p : Progress) (here : s ≡ table p) (source : List ℕ) (reached : Reaches old.files source old.at p old.trail) where
  rewriting : rewrite old.files s old.at ≡ rewrite old.files (table p) old.at
  rewriting = λ i. rewrite old.files (here i) old.at

  went : Steps s old (Ok step.Consumed) new → Reaches old.files source new.at p new.trail
  went h = goes reached (sym rewriting ∙ h.0) h.1.trail

  given : (line : ExpLine) → Steps s old (Ok (step.Given line)) new → given_by old.files (rewrite old.files (table p) old.at) ≡ Some (shown line, new.at)
  given line h = sym (λ i. given_by old.files (rewriting i)) ∙ h.0

  gives : (line : ExpLine) → Steps s old (Ok (step.Given line)) new → Gives old.files source p (shown line) new.trail
  gives line h = record { at = old.at; before = old.trail; reaches = reached; next = new.at; given = given line h; behind = h.1.trail }

  gave : (line : ExpLine) (q : Progress) → Steps s old (Ok (step.Given line)) new → read_and_pass (shown line) p ≡ Ok q → Reaches old.files source new.at q new.trail
  gave line q h e = passes (shown line) reached (given line h) e h.1.trail

  finishes : Steps s old (Ok step.Finished) new → PassesAll old.files source p
  finishes h = record { at = old.at; trail = old.trail; reaches = reached; last = h.0; ends = sym rewriting ∙ h.1 }

  fails : (f : StepFault) → Steps s old (Err (failure.Fault f)) new → fault_by old.files (rewrite old.files (table p) old.at) ≡ Some (fault_in f)
  fails f h = sym (λ i. fault_by old.files (rewriting i)) ∙ h.0

  gets : (line : ExpLine) (q : Progress) (name : List ℕ) → Steps s old (Ok (step.Given line)) new → read_and_pass (shown line) p ≡ Ok q
      → stands p.names name ≡ false → stands q.names name ≡ true → GetsValue old.files source name (shown line)
  gets line q name h e before then = record {
    made = p;
    trail = new.trail;
    gives = gives line h;
    not_before = before;
    after = q;
    passes = e;
    by_then = then;
  }

module _ (old new : Trace) (s : Table) (p : Progress) (name : List ℕ) (here : s ≡ table p) (before : stands p.names name ≡ false) where
  -- the rewriting gives no line, and the walk goes on
  pub goes_on : (q : Progress) → q ≡ p → Steps s old (Ok step.Consumed) new → LeadsOn old p name new q
  goes_on q same h = subst (λ (x : Progress). LeadsOn old p name new x) (sym same) (record {
    moved = h.1;
    before = before;
    leads = λ source reached. went old new s p here source reached h;
  })

  by_turn : (line : ExpLine) (t : Turn) → Steps s old (Ok (step.Given line)) new → Passes (shown line) p name t → Advances old p name new t
  by_turn line (turn.On q) h passed = record {
    moved = h.1;
    before = passed.1;
    leads = λ source reached. gave old new s p here source reached line (progress_of q.value) h passed.0;
  }
  by_turn line (turn.Came given) h (same, q, passed, then) = λ source reached.
      subst (λ (l : ExpandedLine). GetsValue old.files source name l) (sym same) (gets old new s p here source reached line q name h passed before then)
  by_turn line turn.Ended h (fault, wrong) = λ source reached. refused (gives old new s p here source reached line h) wrong before

  -- a line is given
  pub gives_line : (q : Progress) → q ≡ p → (line : ExpLine) (result : Result Turn NoMemory) → Steps s old (Ok (step.Given line)) new
      → IfOk result (Passes (shown line) q name) → IfOk result (Advances old p name new)
  gives_line q same line (Ok t) h passed = by_turn line t h (subst (λ (x : Progress). Passes (shown line) x name t) same passed)
  gives_line q same line (Err e) h passed = tt

  -- the source ends
  pub ends : Steps s old (Ok step.Finished) new → EndsWalk old p name None
  ends h = λ source reached. whole (finishes old new s p here source reached h) before

  -- expansion refuses a line
  pub breaks_off : (f : StepFault) → Steps s old (Err (failure.Fault f)) new → EndsWalk old p name None
  breaks_off f h = λ source reached. unexpanded reached (fails old new s p here source reached f h) before

-- a walk that begins before the first line
pub from_start : (files : Files) (source name : List ℕ) (t : Trace) (p : Progress) (line : Option ExpandedLine) → BeginsAt files (start_of files source) t → p ≡ start
    → EndsWalk t p name line → IsFirstLine files source name line
from_start files source name t p line h none walked =
    subst (λ (f : Files). IsFirstLine f source name line) h.2 (walked source (begins (ap (λ (f : Files). start_of f source) h.2 ∙ h.0) none h.1))

pub begun : (files : Files) (source name : List ℕ) (t : Trace) (p : Progress) (result : Result (Option ExpLine) NoMemory) → BeginsAt files (start_of files source) t → p ≡ start
    → IfOk result (λ line. EndsWalk t p name (option_map shown line)) → IfOk result (λ line. IsFirstLine files source name (option_map shown line))
begun files source name t p (Ok line) h none walked = from_start files source name t p (option_map shown line) h none walked
begun files source name t p (Err e) h none walked = tt

-- a walk ends that has come from one trace to another
pub ended : (old at : Trace) (p q : Progress) (name : List ℕ) (line : Option ExpandedLine) → at.files ≡ old.files
    → ((source : List ℕ) → Reaches old.files source old.at p old.trail → Reaches old.files source at.at q at.trail) → EndsWalk at q name line → EndsWalk old p name line
ended old at p q name line same leads walked = λ source reached.
    subst (λ (f : Files). IsFirstLine f source name line) same (walked source (subst (λ (f : Files). Reaches f source at.at q at.trail) (sym same) (leads source reached)))
