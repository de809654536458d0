-- The lines of a source one after another, as an expander gives them.
use Rattle.std.proofs.Common.{◌≡◌, ◌<◌, ℕ, zero, suc, List, Option, Some, None, Result, Ok, Err, refl, sym, ap, ◌∙◌, arith, subst}
use Rattle.std.specs.Option.{option_map}
use Rattle.c25_macro.specs.Expander.{ExpandFault, Expansion, IsNext, Stage, Stands, Absent, Failed, begun_at, shown, IsNextAt, IsFailure, Tells, left_of}
use Rattle.c25_macro.specs.declared.answer.ExpLine.{ExpLine}
use Rattle.c25_meaning_assembly.specs.Sections.{Progress, table}
use Rattle.c25_meaning_common.specs.declared.failure.Failure.{Failure}
use Rattle.c25_meaning_common.specs.declared.failure.Failure.TheVariants.{NoMemory, Fault}
use Rattle.c25_meaning_expansion.specs.Expansion.{Config, Rewriting, Gives, Goes, Finishes, Faults, Misses}
use Rattle.c25_meaning_expansion.specs.ExpansionAnswers.{ExpandedLine, given_by, fault_by}
use Rattle.c25_meaning_expansion.specs.ExpansionRuns.{first, start, start_of}
use Rattle.c25_meaning_expansion.specs.Files.{Files, text_named}
use Rattle.c25_meaning_expansion.specs.Rows.{file_number}
use Rattle.c25_meaning_language.specs.ExpansionFault.{ExpansionFault}
use Rattle.c25_meaning_language.specs.Value.{Table}
use Rattle.c25_warnings.specs.Coming.{ComesTo, StillComes}
use Rattle.c25_warnings.specs.declared.lines.Faulty.{Faulty}
use Rattle.c25_line_warnings.specs.SourceLine.{SourceLine}
use Rattle.c25_warnings.specs.SourceLines.{SourceLines, lines_at, lines_by, lines_from, no_lines, source_lines, then_on, with_line}

-- ---- before the first line

by_start : (files : Files) (file : ℕ) (o : Option (List ℕ))
    → StillComes files (begun_at (option_map (start file) o)) no_lines (lines_at files (option_map (start file) o))
by_start files file None = refl
by_start files file (Some text) = (200001, omega arith, refl)

pub begins : (files : Files) (name : List ℕ) → StillComes files (begun_at (start_of files name)) no_lines (source_lines files name)
begins files name = by_start files (file_number files name) (text_named files name)

-- the same lines, whose progress is written otherwise
pub moved : (files : Files) (stage : Stage) (p q : Progress) (lines : List SourceLine) (meant : Option SourceLines) → q ≡ p
    → StillComes files stage (record { progress = p; lines = lines }) meant → StillComes files stage (record { progress = q; lines = lines }) meant
moved files stage p q lines meant same coming = subst (λ (x : Progress). StillComes files stage (record { progress = x; lines = lines }) meant) (sym same) coming

-- an answer of an expansion of these files and this name
pub at : (e : Expansion) (files : Files) (name : List ℕ) (s : Table) (r : Result (Option ExpLine) (Failure ExpandFault)) (new : Stage)
    → e.files ≡ files → e.name ≡ name → IsNext e s r new → IsNextAt files name e.stage s r new
at e files name s r new f n h =
    subst (λ (x : List ℕ). IsNextAt files x e.stage s r new) n (subst (λ (x : Files). IsNextAt x e.name e.stage s r new) f h)

-- ---- a line that comes

no_fault : (files : Files) (r : Rewriting) (l : ExpandedLine) (d : Config) → given_by files r ≡ Some (l, d) → fault_by files r ≡ None
no_fault files (Gives row c) l d h = refl
no_fault files (Goes c) l d h = absurd (cc)
no_fault files (Finishes c) l d h = absurd (cc)
no_fault files (Faults place kind) l d h = absurd (cc)
no_fault files (Misses place name) l d h = absurd (cc)

on_line : (files : Files) (c d : Config) (s : Table) (a : SourceLines) (l : ExpandedLine) (n : ℕ) → s ≡ table a.progress
    → given_by files (first files s c) ≡ Some (l, d) → lines_from files (suc n) c a ≡ then_on (with_line l a) (lines_from files n d)
unfolding lines_from
on_line files c d s a l n is h =
    let r = first files s c in
    sym (ap (λ t. lines_by (fault_by files (first files t c)) (given_by files (first files t c)) (lines_from files n) a) is)
    ∙ ap (λ o. lines_by o (given_by files r) (lines_from files n) a) (no_fault files r l d h) ∙ ap (λ o. lines_by None o (lines_from files n) a) h

pub goes_on : (files : Files) (name : List ℕ) (old new : Stage) (s : Table) (a b : SourceLines) (meant : Option SourceLines) (line : ExpLine)
    → s ≡ table a.progress → StillComes files old a meant → IsNextAt files name old s (Ok (Some line)) new → left_of new < left_of old
    → with_line (shown line) a ≡ Some b → StillComes files new b meant
goes_on files name (Stands c) (Stands d) s a b meant line is (zero, few, h) next less passes = absurd (omega (arith, few))
goes_on files name (Stands c) (Stands d) s a b meant line is (suc n, few, h) next less passes =
    (n, omega (arith, few, less), sym (ap (λ o. then_on o (lines_from files n d)) passes) ∙ sym (on_line files c d s a (shown line) n is next) ∙ h)
goes_on files name (Stands c) Absent s a b meant line is coming next less passes = absurd next
goes_on files name (Stands c) (Failed f) s a b meant line is coming next less passes = absurd next
goes_on files name Absent new s a b meant line is coming next less passes = absurd next
goes_on files name (Failed f) new s a b meant line is coming next less passes = absurd next

-- a line with a fault
pub refused : (files : Files) (name : List ℕ) (old new : Stage) (s : Table) (a : SourceLines) (meant : Option SourceLines) (line : ExpLine)
    → s ≡ table a.progress → StillComes files old a meant → IsNextAt files name old s (Ok (Some line)) new
    → with_line (shown line) a ≡ None → meant ≡ None
refused files name (Stands c) (Stands d) s a meant line is (zero, few, h) next fails = absurd (omega (arith, few))
refused files name (Stands c) (Stands d) s a meant line is (suc n, few, h) next fails =
    sym h ∙ on_line files c d s a (shown line) n is next ∙ ap (λ o. then_on o (lines_from files n d)) fails
refused files name (Stands c) Absent s a meant line is coming next fails = absurd next
refused files name (Stands c) (Failed f) s a meant line is coming next fails = absurd next
refused files name Absent new s a meant line is coming next fails = absurd next
refused files name (Failed f) new s a meant line is coming next fails = absurd next

-- ---- the end

on_end : (files : Files) (c d : Config) (s : Table) (a : SourceLines) (n : ℕ) → s ≡ table a.progress → first files s c ≡ Finishes d → lines_from files (suc n) c a ≡ Some a
unfolding lines_from
on_end files c d s a n is h =
    sym (ap (λ t. lines_by (fault_by files (first files t c)) (given_by files (first files t c)) (lines_from files n) a) is)
    ∙ ap (λ r. lines_by (fault_by files r) (given_by files r) (lines_from files n) a) h

pub ends : (files : Files) (name : List ℕ) (old new : Stage) (s : Table) (a : SourceLines) (meant : Option SourceLines)
    → s ≡ table a.progress → StillComes files old a meant → IsNextAt files name old s (Ok None) new → meant ≡ Some a
ends files name (Stands c) (Stands d) s a meant is (zero, few, h) next = absurd (omega (arith, few))
ends files name (Stands c) (Stands d) s a meant is (suc n, few, h) next = sym h ∙ on_end files c d s a n is next
ends files name (Stands c) Absent s a meant is coming next = absurd next
ends files name (Stands c) (Failed f) s a meant is coming next = absurd next
ends files name Absent new s a meant is coming next = absurd next
ends files name (Failed f) new s a meant is coming next = absurd next

-- ---- a fault of expansion

on_fault : (files : Files) (c : Config) (s : Table) (a : SourceLines) (n : ℕ) (f : ExpansionFault) → s ≡ table a.progress → fault_by files (first files s c) ≡ Some f → lines_from files (suc n) c a ≡ None
unfolding lines_from
on_fault files c s a n f is h =
    sym (ap (λ t. lines_by (fault_by files (first files t c)) (given_by files (first files t c)) (lines_from files n) a) is)
    ∙ ap (λ o. lines_by o (given_by files (first files s c)) (lines_from files n) a) h

none_by : (files : Files) (c : Config) (s : Table) (a : SourceLines) (n : ℕ) (meant : Option SourceLines) (e : ExpandFault) (failure : Failure ExpansionFault)
    → s ≡ table a.progress → lines_from files (suc n) c a ≡ meant → IsFailure files (first files s c) failure → Tells failure (Fault e) → meant ≡ None
none_by files c s a n meant e (NoMemory m) is h fails told = absurd told
none_by files c s a n meant e (Fault f) is h fails told = sym h ∙ on_fault files c s a n f is fails

pub expansion_fails : (files : Files) (name : List ℕ) (old new : Stage) (s : Table) (a : SourceLines) (meant : Option SourceLines) (e : ExpandFault)
    → s ≡ table a.progress → StillComes files old a meant → IsNextAt files name old s (Err (Fault e)) new → meant ≡ None
expansion_fails files name (Stands c) (Stands d) s a meant e is coming next = absurd next
expansion_fails files name (Stands c) Absent s a meant e is coming next = absurd next
expansion_fails files name (Stands c) (Failed failure) s a meant e is (zero, few, h) next = absurd (omega (arith, few))
expansion_fails files name (Stands c) (Failed failure) s a meant e is (suc n, few, h) next = none_by files c s a n meant e failure is h next.0 next.1
expansion_fails files name Absent new s a meant e is coming next = coming
expansion_fails files name (Failed failure) new s a meant e is coming next = absurd coming

-- ---- answers

-- where one answer means that there are no lines, so does another with the same failure
pub comes_to_none : {one all : Option SourceLines} → (one ≡ None → all ≡ None) → (failure : Failure Faulty) → ComesTo one (Err failure) → ComesTo all (Err failure)
comes_to_none go (NoMemory e) told = told
comes_to_none go (Fault f) told = go told
