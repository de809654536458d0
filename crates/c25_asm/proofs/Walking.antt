-- What one rewriting of a walk leads to.
use Rattle.std.proofs.Common.{◌≡◌, ℕ, true, false, List, Option, Some, None, Result, Ok, Err, IfOk, ap, arith, inr, sym, ◌∙◌, subst}
use Rattle.std.proofs.lemmas.Bool.Decides.{nat_tests}
use Rattle.std.specs.Cow.{cow_str_bytes}
use Rattle.std.specs.Option.{option_map}
use Rattle.c25_macro.specs.Expander.{shown}
use Rattle.c25_macro.specs.Tracers.{Trace, Steps, fault_in}
use Rattle.c25_macro.specs.declared.answer.ExpLine.{ExpLine}
use Rattle.c25_macro.specs.declared.tracer.Step.TheVariants as step
use Rattle.c25_meaning_assembly.specs.Sections.{Progress, table}
use Rattle.c25_meaning_common.specs.declared.no_memory.NoMemory.{NoMemory}
use Rattle.c25_meaning_expansion.specs.ExpansionAnswers.{given_by}
use Rattle.c25_meaning_expansion.specs.ExpansionRuns.{rewrite}
use Rattle.c25_meaning_language.specs.ExpansionFault.{ExpansionFault}
use Rattle.c25_meaning_language.specs.Value.{Table}
use Rattle.c25_meaning_assembly.specs.ModuleOfSource.{read_and_pass}
use Rattle.c25_phases.specs.View.{progress_of}
use Rattle.c25_asm.specs.Seen.{Seen, seen_by, seen_of}
use Rattle.c25_asm.specs.Trails.{Reaches, goes, passes, Gives, IsWrongLine}
use Rattle.c25_asm.specs.Walks.{Advances, ComesSought, HasFewNames, LeadsOn, Passes, has_come}
use Rattle.c25_asm.specs.declared.walk.End.TheVariants as end
use Rattle.c25_asm.specs.declared.walk.Turn.{Turn}
use Rattle.c25_asm.specs.declared.walk.Turn.TheVariants as turn

module _ (old new : Trace) (s : Table) (p : Progress) (here : s ≡ table p) (name : List ℕ) (reached : Reaches old.files name old.at p old.trail) where
  rewriting : rewrite old.files s old.at ≡ rewrite old.files (table p) old.at
  rewriting = λ i. rewrite old.files (here i) old.at

  went : Steps s old (Ok step.Consumed) new → Reaches old.files name new.at p new.trail
  went h = goes reached (sym rewriting ∙ h.0) h.1.trail

  given : (line : ExpLine) → Steps s old (Ok (step.Given line)) new → given_by old.files (rewrite old.files (table p) old.at) ≡ Some (shown line, new.at)
  given line h = sym (λ i. given_by old.files (rewriting i)) ∙ h.0

  gives : (line : ExpLine) → Steps s old (Ok (step.Given line)) new → Gives old.files name p (shown line) new.trail
  gives line h = record { at = old.at; before = old.trail; reaches = reached; next = new.at; given = given line h; behind = h.1.trail }

  gave : (line : ExpLine) (q : Progress) → Steps s old (Ok (step.Given line)) new → read_and_pass (shown line) p ≡ Ok q → Reaches old.files name new.at q new.trail
  gave line q h e = passes (shown line) reached (given line h) e h.1.trail

  wrong : (line : ExpLine) (f : ExpansionFault) (seen : Option Seen) → Steps s old (Ok (step.Given line)) new → read_and_pass (shown line) p ≡ Err f → seen ≡ seen_by f (shown line) p
      → IsWrongLine old.files name f new.trail seen
  wrong line f seen h e so_far = record { made = p; line = shown line; gives = gives line h; refused = e; so_far = so_far }

  came : (line : ExpLine) (text : List ℕ) (q : Progress) (sought : Option ℕ) → Steps s old (Ok (step.Given line)) new → read_and_pass (shown line) p ≡ Ok q
      → has_come sought p.items ≡ false → has_come sought q.items ≡ true → text ≡ (shown line).text → ComesSought old.files name sought new.trail text
  came line text q None h e before then written = absurd (cc)
  came line text q (Some number) h e before then written = record {
    made = p;
    line = shown line;
    written = written;
    gives = gives line h;
    after = q;
    passes = e;
    not_before = grind (arith, nat_tests, before);
    by_then = grind (arith, nat_tests, then);
  }

module _ (old new : Trace) (s : Table) (p : Progress) (sought : Option ℕ) (here : s ≡ table p) (few : HasFewNames p) (before : has_come sought p.items ≡ false) where
  -- the rewriting gives no line, and the walk goes on
  pub goes_on : (q : Progress) → q ≡ p → Steps s old (Ok step.Consumed) new → LeadsOn old p sought new q
  goes_on q same h = subst (λ (x : Progress). LeadsOn old p sought new x) (sym same) (record {
    moved = h.1;
    few = few;
    before = before;
    leads = λ name reached. went old new s p here name reached h;
  })

  by_turn : (line : ExpLine) (t : Turn) → Steps s old (Ok (step.Given line)) new → Passes line p sought t → Advances old p sought new t
  by_turn line (turn.On q) h passed = record {
    moved = h.1;
    few = passed.1;
    before = passed.2;
    leads = λ name reached. gave old new s p here name reached line (progress_of q.value) h passed.0;
  }
  by_turn line (turn.Ended (end.Passed q)) h passed = absurd passed
  by_turn line (turn.Ended (end.Reached text)) h (q, passed, then, same) = λ name reached.
      came old new s p here name reached line (cow_str_bytes text) q sought h passed before then (ap cow_str_bytes same)
  by_turn line (turn.Ended (end.Refused f seen)) h (refused, so_far) = λ name reached.
      inr (wrong old new s p here name reached line (fault_in f) (option_map seen_of seen) h refused so_far)

  -- a line is given
  pub gives_line : (q : Progress) → q ≡ p → (line : ExpLine) (result : Result Turn NoMemory) → Steps s old (Ok (step.Given line)) new
      → IfOk result (Passes line q sought) → IfOk result (Advances old p sought new)
  gives_line q same line (Ok t) h passed = by_turn line t h (subst (λ (x : Progress). Passes line x sought t) same passed)
  gives_line q same line (Err e) h passed = tt
