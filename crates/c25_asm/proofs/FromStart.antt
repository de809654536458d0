-- A walk from the first line on, and the item that is wrong.
use Rattle.std.proofs.Common.{◌≡◌, ℕ, ◌<◌, ◌≤◌, false, nat_lt, List, Option, Some, None, arith, inl, inr, length, refl, ap, sym, ◌∙◌, subst}
use Rattle.std.specs.Option.{option_map}
use Rattle.std.specs.Prelude.{Box}
use Rattle.std.specs.declared.alloc.Global.{Global}
use Rattle.std.proofs.lemmas.Bool.Decides.{nat_tests}
use Rattle.c25_macro.specs.Tracers.{BeginsAt, Trace, fault_in}
use Rattle.c25_macro.specs.declared.tracer.StepFault.{StepFault}
use Rattle.c25_meaning_assembly.specs.Sections.{Progress, start}
use Rattle.c25_meaning_expansion.specs.ExpansionRuns.{start_of}
use Rattle.c25_meaning_expansion.specs.Files.{Files}
use Rattle.c25_meaning_common.specs.declared.placed.FileLine.{FileLine}
use Rattle.c25_meaning_language.specs.ExpansionFault.{Faulty}
use Rattle.c25_phases.specs.View.{progress_of}
use Rattle.c25_meaning_language.specs.Value.{Table}
use Rattle.c25_phases.specs.Wrong.{Wrong, first_wrong, table_of}
use Rattle.c25_phases.specs.declared.progress.Progress as code
use Rattle.c25_asm.specs.Seen.{seen_of}
use Rattle.c25_asm.specs.Traces.{HasWrongItem}
use Rattle.c25_asm.specs.Trails.{begins, ComesWith, IsTrail, IsWhole}
use Rattle.c25_asm.specs.Walks.{Ends, EndsWalk, HasFewNames, has_come}
use Rattle.c25_asm.specs.declared.seen_line.SeenLine.{SeenLine}
use Rattle.c25_asm.specs.declared.walk.End.{End}
use Rattle.c25_asm.specs.declared.walk.End.TheVariants as end
use Rattle.c25_asm.proofs.Refusals.{is_there, made_once, none_refused, wrong_within}

-- ---- before the first line

pub has_few : (p : Progress) → p ≡ start → HasFewNames p
has_few p none = subst (λ (x : Progress). HasFewNames x) (sym none) (omega arith)

pub none_come : (sought : Option ℕ) (p : Progress) → p ≡ start → has_come sought p.items ≡ false
none_come None p none = refl
none_come (Some number) p none = subst (λ (x : Progress). nat_lt number (length x.items) ≡ false) (sym none) (grind (arith, nat_tests))

-- a walk that begins there
pub from_start : (files : Files) (name : List ℕ) (t new : Trace) (p : Progress) (sought : Option ℕ) (e : End) → BeginsAt files (start_of files name) t → p ≡ start
    → EndsWalk t p sought new e → Ends files name sought new.trail e
from_start files name t new p sought e h none ends =
    subst (λ (f : Files). Ends f name sought new.trail e) h.2 (ends name (begins (ap (λ (f : Files). start_of f name) h.2 ∙ h.0) none h.1))

-- ---- the end of a walk

-- a line is refused
pub refused : (files : Files) (name : List ℕ) (sought : Option ℕ) (trail shown : List (FileLine ℕ)) (f : StepFault) (seen : Option SeenLine) → shown ≡ trail
    → Ends files name sought trail (end.Refused f seen) → IsTrail files name (fault_in f) shown (option_map seen_of seen)
refused files name sought trail shown f seen same (inl h) = subst (λ (t : List (FileLine ℕ)). IsTrail files name (fault_in f) t (option_map seen_of seen)) (sym same) (inl h)
refused files name sought trail shown f seen same (inr h) = subst (λ (t : List (FileLine ℕ)). IsTrail files name (fault_in f) t (option_map seen_of seen)) (sym same) (inr (inl h))

-- all lines pass, and no item is wrong
pub whole : (files : Files) (name : List ℕ) (sought : Option ℕ) (trail : List (FileLine ℕ)) (p : Box code.Progress Global) → Ends files name sought trail (end.Passed p)
    → None ≡ first_wrong (progress_of p.value) → IsWhole files name
whole files name sought trail p h none = (progress_of p.value, h.0, sym none)

-- all lines pass, and an item is wrong
pub wrong : (files : Files) (name : List ℕ) (sought : Option ℕ) (trail : List (FileLine ℕ)) (p : Box code.Progress Global) (w : Wrong) (table : Table) → Ends files name sought trail (end.Passed p)
    → Some w ≡ first_wrong (progress_of p.value) → table ≡ table_of (progress_of p.value) w → HasWrongItem files name w table
wrong files name sought trail p w table h is names = record { made = progress_of p.value; passes = h.0; refused = sym is; names = names }

-- ---- the lines once more, up to that item

module _ (files : Files) (name : List ℕ) (w : Wrong) (table : Table) (has : HasWrongItem files name w table) where
  pub item : (trail shown : List (FileLine ℕ)) (text : List ℕ) → shown ≡ trail → ComesWith files name w.number trail text
      → IsTrail files name (Faulty w.origin.file w.origin.line w.kind) shown (Some (record { text = text; table = table }))
  item trail shown text same came =
      subst (λ (t : List (FileLine ℕ)). IsTrail files name (Faulty w.origin.file w.origin.line w.kind) t (Some (record { text = text; table = table }))) (sym same)
      (inr (inr (record {
        made = has.made;
        passes = has.passes;
        wrong = w;
        refused = has.refused;
        told = refl;
        text = text;
        line = came;
        with_all = ap (λ (t : Table). Some (record { text = text; table = t })) has.names;
      })))

  pub absent : start_of files name ≡ None → ⊥
  absent nothing = is_there files name has.passes.at has.made has.passes.trail has.passes.reaches nothing

  pub not_refused : (trail : List (FileLine ℕ)) (f : StepFault) (seen : Option SeenLine) → Ends files name (Some w.number) trail (end.Refused f seen) → ⊥
  not_refused trail f seen h = none_refused files name has.made (fault_in f) trail (option_map seen_of seen) has.passes h

  pub not_passed : (trail : List (FileLine ℕ)) (p : Box code.Progress Global) → Ends files name (Some w.number) trail (end.Passed p) → ⊥
  not_passed trail p h =
      let number = wrong_within has.made w has.refused in
      let same : has.made ≡ progress_of p.value = made_once files name has.made (progress_of p.value) has.passes h.0 in
      let beyond : length (progress_of p.value).items ≤ w.number = grind (arith, nat_tests, h.2) in
      let within : w.number < length (progress_of p.value).items = subst (λ (x : Progress). w.number < length x.items) same number in
      absurd (omega (arith, beyond, within))
