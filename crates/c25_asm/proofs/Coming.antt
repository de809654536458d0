-- The lines of a module, one after another, as an expander gives them.
use denote.Ref.{Bor}
use Rattle.std.proofs.Common.{◌≡◌, ℕ, zero, suc, ◌<◌, Bool, List, Option, Some, None, Result, Ok, Err, refl, sym, ap, ◌∙◌, arith, subst}
use Rattle.std.specs.Option.{option_map}
use Rattle.c25_macro.specs.Expander.{ExpandFault, Expansion, IsNext, Stage, Stands, Absent, Failed, begun_at, shown, IsNextAt, IsFailure, Tells, TellsFault, missing_of, left_of}
use Rattle.c25_macro.specs.declared.answer.ExpLine.{ExpLine}
use Rattle.c25_meaning_expansion.specs.Expansion.{Config, Rewriting, Gives, Goes, Finishes, Faults, Misses}
use Rattle.c25_meaning_expansion.specs.ExpansionAnswers.{ExpandedLine, given_by, fault_by}
use Rattle.c25_meaning_language.specs.ExpansionFault.{ExpansionFault, Faulty, Missing}
use Rattle.c25_meaning_expansion.specs.ExpansionRuns.{first, start, start_of}
use Rattle.c25_meaning_expansion.specs.Files.{Files, text_named}
use Rattle.c25_meaning_assembly.specs.ModuleOfSource.{LinesSoFar, no_lines, pass_line, passed_by, passed, passed_from}
use Rattle.c25_meaning_common.specs.Results.{◌>>=◌, FailsBy}
use Rattle.c25_meaning_expansion.specs.Rows.{file_number}
use Rattle.c25_meaning_assembly.specs.Listing.{Entry}
use Rattle.c25_meaning_assembly.specs.Sections.{Progress, table}
use Rattle.c25_meaning_language.specs.Value.{Table}
use Rattle.c25_meaning_common.specs.declared.failure.Failure.{Failure}
use Rattle.c25_meaning_common.specs.declared.failure.Failure.TheVariants.{NoMemory, Fault}
use Rattle.c25_phases.specs.View.{fault_of}
use Rattle.c25_phases.specs.declared.fault.AsmFault.{AsmFault}
use Rattle.c25_phases.specs.declared.fault.AsmFault.TheVariants.{Line, NoFile}
use Rattle.c25_asm.specs.Coming.{Comes, StillComes}
use Rattle.c25_asm.specs.Listed.{AreAlike}
use Rattle.c25_asm.specs.Told.{IsTold, IsToldBy}
use Rattle.c25_asm.proofs.Alike.{alike_then, like_itself, passes_alike, refused_alike, same_made}

by_start : (files : Files) (name : List ℕ) (file : ℕ) (o : Option (List ℕ))
    → StillComes files name (begun_at (option_map (start file) o)) no_lines (passed_from files name (option_map (start file) o))
by_start files name file None = refl
by_start files name file (Some text) = (200001, omega arith, refl)

-- before the first line
pub begins : (listed : Bool) (files : Files) (name : List ℕ) → Comes listed files name (begun_at (start_of files name)) no_lines (passed_from files name (start_of files name))
begins listed files name = record { behind = no_lines; alike = like_itself listed no_lines; still = by_start files name (file_number files name) (text_named files name) }

-- what all lines make, after other lines with the same progress
pub moved : (listed : Bool) (files : Files) (name : List ℕ) (stage : Stage) (p q : Progress) (entries : List Entry) (meant : Result LinesSoFar ExpansionFault) → q ≡ p
    → Comes listed files name stage (record { progress = p; entries = entries }) meant → Comes listed files name stage (record { progress = q; entries = entries }) meant
moved listed files name stage p q entries meant same coming =
    subst (λ (x : Progress). Comes listed files name stage (record { progress = x; entries = entries }) meant) (sym same) coming

-- the names of lines that are alike
names_alike : (listed : Bool) (s : Table) (a b : LinesSoFar) → AreAlike listed a b → s ≡ table b.progress → s ≡ table a.progress
names_alike listed s a b alike is = is ∙ ap table (sym (same_made listed a b alike))

-- ---- what a rewriting gives

pub no_fault : (files : Files) (r : Rewriting) (l : ExpandedLine) (d : Config) → given_by files r ≡ Some (l, d) → fault_by files r ≡ None
no_fault files (Gives row c) l d h = refl
no_fault files (Goes c) l d h = absurd (cc)
no_fault files (Finishes c) l d h = absurd (cc)
no_fault files (Faults place kind) l d h = absurd (cc)
no_fault files (Misses place name) l d h = absurd (cc)

-- ---- a line

on_line : (files : Files) (c d : Config) (s : Table) (a : LinesSoFar) (l : ExpandedLine) (n : ℕ) → s ≡ table a.progress
    → given_by files (first files s c) ≡ Some (l, d) → passed files (suc n) c a ≡ (pass_line l a >>= λ b. passed files n d b)
unfolding passed
on_line files c d s a l n is h =
    let r = first files s c in
    sym (ap (λ t. passed_by (fault_by files (first files t c)) (given_by files (first files t c)) (passed files n) a) is)
    ∙ ap (λ o. passed_by o (given_by files r) (passed files n) a) (no_fault files r l d h) ∙ ap (λ o. passed_by None o (passed files n) a) h

-- an answer of an expansion of these files and this name
pub at : (e : Expansion) (files : Files) (name : List ℕ) (s : Table) (r : Result (Option ExpLine) (Failure ExpandFault)) (new : Stage)
    → e.files ≡ files → e.name ≡ name → IsNext e s r new → IsNextAt files name e.stage s r new
at e files name s r new f n h =
    subst (λ (x : List ℕ). IsNextAt files x e.stage s r new) n (subst (λ (x : Files). IsNextAt x e.name e.stage s r new) f h)

-- one line more was given
line_more : (files : Files) (name : List ℕ) (old new : Stage) (s : Table) (a b : LinesSoFar) (meant : Result LinesSoFar ExpansionFault) (line : ExpLine)
    → s ≡ table a.progress → StillComes files name old a meant → IsNextAt files name old s (Ok (Some line)) new → left_of new < left_of old
    → pass_line (shown line) a ≡ Ok b → StillComes files name new b meant
line_more files name (Stands c) (Stands d) s a b meant line is (zero, few, h) next less passes = absurd (omega (arith, few))
line_more files name (Stands c) (Stands d) s a b meant line is (suc n, few, h) next less passes =
    (n, omega (arith, few, less), sym (ap (λ r. r >>= λ x. passed files n d x) passes) ∙ sym (on_line files c d s a (shown line) n is next) ∙ h)
line_more files name (Stands c) Absent s a b meant line is coming next less passes = absurd next
line_more files name (Stands c) (Failed f) s a b meant line is coming next less passes = absurd next
line_more files name Absent new s a b meant line is coming next less passes = absurd next
line_more files name (Failed f) new s a b meant line is coming next less passes = absurd next

pub goes_on : (listed : Bool) (files : Files) (name : List ℕ) (old new : Stage) (s : Table) (a then : LinesSoFar) (meant : Result LinesSoFar ExpansionFault) (line : ExpLine)
    → s ≡ table a.progress → Comes listed files name old a meant → IsNextAt files name old s (Ok (Some line)) new → left_of new < left_of old
    → (b : LinesSoFar) × (pass_line (shown line) a ≡ Ok b) × AreAlike listed b then → Comes listed files name new then meant
goes_on listed files name old new s a then meant line is coming next less (b, passes, same) =
    let d = passes_alike listed coming.behind a b (shown line) coming.alike passes in
    record {
      behind = d.0;
      alike = alike_then listed d.0 b then d.2 same;
      still = line_more files name old new s coming.behind d.0 meant line (names_alike listed s coming.behind a coming.alike is) coming.still next less d.1;
    }

-- a line was given that is wrong
line_fails : (files : Files) (name : List ℕ) (old new : Stage) (s : Table) (a : LinesSoFar) (meant : Result LinesSoFar ExpansionFault) (line : ExpLine) (f : ExpansionFault)
    → s ≡ table a.progress → StillComes files name old a meant → IsNextAt files name old s (Ok (Some line)) new
    → pass_line (shown line) a ≡ Err f → meant ≡ Err f
line_fails files name (Stands c) (Stands d) s a meant line f is (zero, few, h) next fails = absurd (omega (arith, few))
line_fails files name (Stands c) (Stands d) s a meant line f is (suc n, few, h) next fails =
    sym h ∙ on_line files c d s a (shown line) n is next ∙ ap (λ r. r >>= λ x. passed files n d x) fails
line_fails files name (Stands c) Absent s a meant line f is coming next fails = absurd next
line_fails files name (Stands c) (Failed g) s a meant line f is coming next fails = absurd next
line_fails files name Absent new s a meant line f is coming next fails = absurd next
line_fails files name (Failed g) new s a meant line f is coming next fails = absurd next

refused_by : (files : Files) (name : List ℕ) (old new : Stage) (s : Table) (a : LinesSoFar) (meant : Result LinesSoFar ExpansionFault) (line : ExpLine) (e : Failure AsmFault)
    → s ≡ table a.progress → StillComes files name old a meant → IsNextAt files name old s (Ok (Some line)) new
    → FailsBy fault_of (pass_line (shown line) a) e → FailsBy fault_of meant e
refused_by files name old new s a meant line (NoMemory n) is coming next fails = tt
refused_by files name old new s a meant line (Fault f) is coming next fails = line_fails files name old new s a meant line (fault_of f) is coming next fails

-- a line was given that is refused
pub line_refused : (listed : Bool) (files : Files) (name : List ℕ) (old new : Stage) (s : Table) (a : LinesSoFar) (meant : Result LinesSoFar ExpansionFault) (line : ExpLine) (e : Failure AsmFault)
    → s ≡ table a.progress → Comes listed files name old a meant → IsNextAt files name old s (Ok (Some line)) new
    → FailsBy fault_of (pass_line (shown line) a) e → FailsBy fault_of meant e
line_refused listed files name old new s a meant line e is coming next fails =
    refused_by files name old new s coming.behind meant line e (names_alike listed s coming.behind a coming.alike is) coming.still next
    (refused_alike listed coming.behind a (shown line) e coming.alike fails)

-- ---- the end

on_end : (files : Files) (c d : Config) (s : Table) (a : LinesSoFar) (n : ℕ) → s ≡ table a.progress → first files s c ≡ Finishes d → passed files (suc n) c a ≡ Ok a
unfolding passed
on_end files c d s a n is h =
    sym (ap (λ t. passed_by (fault_by files (first files t c)) (given_by files (first files t c)) (passed files n) a) is)
    ∙ ap (λ r. passed_by (fault_by files r) (given_by files r) (passed files n) a) h

ends_at : (files : Files) (name : List ℕ) (old new : Stage) (s : Table) (a : LinesSoFar) (meant : Result LinesSoFar ExpansionFault)
    → s ≡ table a.progress → StillComes files name old a meant → IsNextAt files name old s (Ok None) new → meant ≡ Ok a
ends_at files name (Stands c) (Stands d) s a meant is (zero, few, h) next = absurd (omega (arith, few))
ends_at files name (Stands c) (Stands d) s a meant is (suc n, few, h) next = sym h ∙ on_end files c d s a n is next
ends_at files name (Stands c) Absent s a meant is coming next = absurd next
ends_at files name (Stands c) (Failed f) s a meant is coming next = absurd next
ends_at files name Absent new s a meant is coming next = absurd next
ends_at files name (Failed f) new s a meant is coming next = absurd next

-- no line more came
pub ends : (listed : Bool) (files : Files) (name : List ℕ) (old new : Stage) (s : Table) (a : LinesSoFar) (meant : Result LinesSoFar ExpansionFault)
    → s ≡ table a.progress → Comes listed files name old a meant → IsNextAt files name old s (Ok None) new → (b : LinesSoFar) × (meant ≡ Ok b) × AreAlike listed b a
ends listed files name old new s a meant is coming next =
    (coming.behind, ends_at files name old new s coming.behind meant (names_alike listed s coming.behind a coming.alike is) coming.still next, coming.alike)

-- ---- a fault

on_fault : (files : Files) (c : Config) (s : Table) (a : LinesSoFar) (n : ℕ) (f : ExpansionFault) → s ≡ table a.progress → fault_by files (first files s c) ≡ Some f → passed files (suc n) c a ≡ Err f
unfolding passed
on_fault files c s a n f is h =
    sym (ap (λ t. passed_by (fault_by files (first files t c)) (given_by files (first files t c)) (passed files n) a) is)
    ∙ ap (λ o. passed_by o (given_by files (first files s c)) (passed files n) a) h

told_fault : (A : Type 0) (f : ExpansionFault) (e : ExpandFault) (missing : Option (Bor (List ℕ))) (g : Failure AsmFault)
    → TellsFault f e → option_map (λ n. n.now) missing ≡ missing_of (Failed (Fault f)) → IsToldBy missing e g → FailsBy {A = A} fault_of (Err f) g
told_fault A (Faulty file line kind) e None (Fault (Line told)) t m is =
    ap Err (ap (λ x. Faulty x line kind) (sym t.0) ∙ ap (λ x. Faulty e.place.file.now x kind) (sym t.1) ∙ ap (λ x. Faulty e.place.file.now e.place.line x) (sym t.2)
    ∙ ap (λ (x : ExpandFault). Faulty x.place.file.now x.place.line x.fault) (sym is))
told_fault A (Faulty file line kind) e None (Fault (NoFile file' line' name')) t m is = absurd is
told_fault A (Faulty file line kind) e None (NoMemory n) t m is = absurd is
told_fault A (Faulty file line kind) e (Some name) g t m is = absurd (cc)
told_fault A (Missing file line name) e None g t m is = absurd (cc)
told_fault A (Missing file line name) e (Some n) (NoMemory x) t m is = tt
told_fault A (Missing file line name) e (Some n) (Fault (Line told)) t m is = absurd is
told_fault A (Missing file line name) e (Some n) (Fault (NoFile file' line' name')) t m is =
    let same : n.now ≡ name = cc in
    ap Err (ap (λ x. Missing x line name) (sym t.0 ∙ sym is.0) ∙ ap (λ x. Missing file'.now x name) (sym t.1 ∙ sym is.1) ∙ ap (λ x. Missing file'.now line' x) (sym same ∙ sym is.2))

pub told_failure : {A : Type 0} (failure : Failure ExpansionFault) (meant : Result A ExpansionFault) (e : Failure ExpandFault) (missing : Option (Bor (List ℕ))) (g : Failure AsmFault)
    → ((f : ExpansionFault) → failure ≡ Fault f → meant ≡ Err f) → Tells failure e → option_map (λ n. n.now) missing ≡ missing_of (Failed failure) → IsTold missing e g → FailsBy fault_of meant g
told_failure (NoMemory n) meant (NoMemory m) missing (NoMemory x) is t same told = tt
told_failure (NoMemory n) meant (NoMemory m) missing (Fault x) is t same told = absurd told
told_failure (NoMemory n) meant (Fault e) missing g is t same told = absurd t
told_failure (Fault f) meant (NoMemory m) missing g is t same told = absurd t
told_failure {A = A} (Fault f) meant (Fault e) missing g is t same told =
    subst (λ (r : Result A ExpansionFault). FailsBy fault_of r g) (sym (is f refl)) (told_fault A f e missing g t same told)

expansion_stops : (files : Files) (name : List ℕ) (old new : Stage) (s : Table) (a : LinesSoFar) (meant : Result LinesSoFar ExpansionFault) (e : Failure ExpandFault) (missing : Option (Bor (List ℕ))) (g : Failure AsmFault)
    → s ≡ table a.progress → StillComes files name old a meant → IsNextAt files name old s (Err e) new → option_map (λ n. n.now) missing ≡ missing_of new → IsTold missing e g → FailsBy fault_of meant g
expansion_stops files name (Stands c) (Stands d) s a meant e missing g is coming next same told = absurd next
expansion_stops files name (Stands c) Absent s a meant e missing g is coming next same told = absurd next
expansion_stops files name (Stands c) (Failed failure) s a meant e missing g is (zero, few, h) next same told = absurd (omega (arith, few))
expansion_stops files name (Stands c) (Failed failure) s a meant e missing g is (suc n, few, h) next same told =
    told_failure failure meant e missing g (failed failure next.0) next.1 same told
  where
    failed : (failure : Failure ExpansionFault) → IsFailure files (first files s c) failure → (f : ExpansionFault) → failure ≡ Fault f → meant ≡ Err f
    failed (NoMemory m) i f q = absurd (cc)
    failed (Fault x) i f q = let same : x ≡ f = cc in sym h ∙ on_fault files c s a n x is i ∙ ap Err same
expansion_stops files name Absent new s a meant e missing g is coming next same told =
    told_failure (Fault (Missing name 0 name)) meant e missing g (λ f q. let x : Missing name 0 name ≡ f = cc in coming ∙ ap Err x) next.1 (same ∙ ap missing_of next.0) told
expansion_stops files name (Failed failure) new s a meant e missing g is coming next same told = absurd coming

-- expansion fails
pub expansion_fails : (listed : Bool) (files : Files) (name : List ℕ) (old new : Stage) (s : Table) (a : LinesSoFar) (meant : Result LinesSoFar ExpansionFault) (e : Failure ExpandFault) (missing : Option (Bor (List ℕ))) (g : Failure AsmFault)
    → s ≡ table a.progress → Comes listed files name old a meant → IsNextAt files name old s (Err e) new → option_map (λ n. n.now) missing ≡ missing_of new → IsTold missing e g → FailsBy fault_of meant g
expansion_fails listed files name old new s a meant e missing g is coming next same told =
    expansion_stops files name old new s coming.behind meant e missing g (names_alike listed s coming.behind a coming.alike is) coming.still next same told
