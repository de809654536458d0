-- What stands at an address of block B0, and of a program of which nothing runs there.
use Rattle.std.proofs.Common.{◌≡◌, ℕ, ◌+◌, ◌<◌, ◌≤◌, arith, Bool, true, false, if◌then◌else◌, Option, None, Some, List, [], refl, sym, ap, ◌∙◌, ◌↔◌, subst}
use Rattle.std.specs.Option.{option_and_then}
use Rattle.std.proofs.lemmas.Bool.Decides.{nat_tests}
use Rattle.c25_meaning_image.specs.declared.mark.RunMark.{RunMark}
use Rattle.c25_meaning_image.specs.Marks.{is_code, is_load, run_at, run_fit}
use Rattle.c25_meaning_image.proofs.RunMarks.{loads_are_free}
use Rattle.c25_meaning_instructions.specs.declared.insn.Insn.{Insn}
use Rattle.c25_meaning_instructions.specs.Table.{size_of, words}
use Rattle.c25_meaning_processor.specs.declared.lines.Lines.{Lines}
use Rattle.c25_meaning_processor.specs.State.{World, State, holds, loaded_marks, under}
use Rattle.c25_meaning_processor.specs.Step.{begun, clear_of_b0, stepped}
use Rattle.c25_meaning_processor.specs.WordStep.{IsFetched, IsFetchedBy, mark_found}
use Rattle.c25_meaning_processor.specs.Statements.{Statement, Statements, Copied, copied_at, held, outside_b0, plainly, standing, standing_by, statement_at, statement_step, IsImageOf}
use Rattle.c25_run_laws.proofs.Image.{code_copied, covered}
use Rattle.c25_run_laws.proofs.Sizes.{some_word}

module _ (ss : Statements) (w : World) (pc : ℕ) where
  by_copied : (cnf : Bool) (o : Option Copied) → copied_at ss.copied pc ≡ o → standing ss cnf w pc ≡ standing_by ss cnf w pc (option_and_then (under cnf) o)
  by_copied cnf o e = ap (λ (x : Option Copied). standing_by ss cnf w pc (option_and_then (under cnf) x)) e

  chosen : (b : Bool) (c : Copied) → holds w c.run (words c.insn) ≡ b → held w c ≡ (if b then Some c.insn else None)
  chosen b c e = ap (λ (x : Bool). if x then Some c.insn else None) e

  pub held_runs : (c : Copied) → copied_at ss.copied pc ≡ Some c → holds w c.run (words c.insn) ≡ true → standing ss true w pc ≡ Some c.insn
  held_runs c at there = by_copied true (Some c) at ∙ chosen true c there

  pub changed_stops : (c : Copied) → copied_at ss.copied pc ≡ Some c → holds w c.run (words c.insn) ≡ false → standing ss true w pc ≡ None
  changed_stops c at gone = by_copied true (Some c) at ∙ chosen false c gone

  in_b0 : (i : Insn) → 0xFF00 ≤ pc → clear_of_b0 true pc (size_of i) ≡ false
  in_b0 i high = let some = some_word i in grind (arith, nat_tests)

  outside : (o : Option Insn) → 0xFF00 ≤ pc → option_and_then (outside_b0 true pc) o ≡ None
  outside None high = refl
  outside (Some i) high = ap (λ (b : Bool). if b then Some i else None) (in_b0 i high)

  pub no_other_runs : 0xFF00 ≤ pc → copied_at ss.copied pc ≡ None → standing ss true w pc ≡ None
  no_other_runs high at = by_copied true None at ∙ outside (statement_at ss.plain pc) high

  anywhere : (o : Option Insn) → option_and_then (outside_b0 false pc) o ≡ o
  anywhere None = refl
  anywhere (Some i) = refl

  not_under : (o : Option Copied) → standing_by ss false w pc (option_and_then (under false) o) ≡ statement_at ss.plain pc
  not_under None = anywhere (statement_at ss.plain pc)
  not_under (Some c) = anywhere (statement_at ss.plain pc)

  pub plain_stands : standing ss false w pc ≡ statement_at ss.plain pc
  plain_stands = not_under (copied_at ss.copied pc)

  pub else_plain : (cnf : Bool) → copied_at ss.copied pc ≡ None → standing ss cnf w pc ≡ option_and_then (outside_b0 cnf pc) (statement_at ss.plain pc)
  else_plain cnf at = by_copied cnf None at

  pub loads_are_code : IsImageOf ss w → (x : ℕ) (c : Copied) → copied_at ss.copied pc ≡ Some c → c.load ≤ x → x < c.load + size_of c.insn → is_code (loaded_marks w) x ≡ true
  loads_are_code image x c at low high = image.code x ∙ code_copied ss.copied ss.plain pc x c at low high

-- no instruction that runs where it stands begins at a loaded word of one that runs in B0
pub loads_stop : (w : World) (pc : ℕ) (cnf : Bool) (i : Option Insn) → run_fit w.marks w.run_marks ≡ true → is_load w.run_marks pc ≡ true → IsFetchedBy cnf w pc None i → i ≡ None
loads_stop w pc cnf None fit load h = refl
loads_stop w pc cnf (Some i) fit load h =
    let some = some_word i in
    let code = covered w.marks pc pc (size_of i) h.marked (omega arith) (omega (arith, some)) in
    let free = loads_are_free w.marks 0xFF00 w.run_marks pc fit load in
    absurd (cc)

-- ---- nothing runs in B0

no_copy : (pc : ℕ) → copied_at [] pc ≡ None
unfolding copied_at
no_copy pc = refl

no_mark : (pc : ℕ) → run_at [] pc ≡ None
unfolding run_at
no_mark pc = refl

pub plainly_steps : (statements : List Statement) (lines : Lines) (bio : Bool) (s : State)
    → statement_step (plainly statements) lines bio s
    ≡ stepped bio (option_and_then (outside_b0 (begun lines s).cnf (begun lines s).pc) (statement_at statements (begun lines s).pc)) (begun lines s) s.world
unfolding copied_at
plainly_steps statements lines bio s = refl

found_none : (w : World) (cnf : Bool) (pc : ℕ) → w.run_marks ≡ [] → mark_found cnf w pc ≡ None
found_none w cnf pc none = ap (λ (ms : List RunMark). option_and_then (under cnf) (run_at ms pc)) none ∙ ap (λ (o : Option RunMark). option_and_then (under cnf) o) (no_mark pc)

pub fetched_plainly : (w : World) (cnf : Bool) (pc : ℕ) (i : Option Insn) → w.run_marks ≡ [] → IsFetched cnf w pc i ↔ IsFetchedBy cnf w pc None i
fetched_plainly w cnf pc i none = (
  λ h. subst (λ (m : Option RunMark). IsFetchedBy cnf w pc m i) (found_none w cnf pc none) h,
  λ h. subst (λ (m : Option RunMark). IsFetchedBy cnf w pc m i) (sym (found_none w cnf pc none)) h,
)
