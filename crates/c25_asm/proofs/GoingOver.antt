-- The lines of a module gone over one after another, as an expander gives them.
use denote.Ref.{Bor}
use Rattle.std.proofs.Common.{◌≡◌, ◌≤◌, ◌<◌, ℕ, zero, suc, Bool, true, false, cond, not, List, [], ◌∷◌, ◌++◌, length, map, take, Option, Some, None, Result, Ok, Err, refl, sym, ap, ◌∙◌, arith, subst}
use Rattle.std.specs.Option.{option_map}
use Rattle.std.specs.Prelude.{IfOk, OnOk, Vec}
use Rattle.std.specs.declared.alloc.Global.{Global}
use Rattle.c25_macro.specs.Expander.{ExpandFault, Expansion, Stage, Stands, Absent, Failed, begun, begun_at, shown, IsFailure, Tells, missing_of}
use Rattle.c25_macro.specs.NextLines.{IsLast, IsNext, IsNextAt, weight_of}
use Rattle.c25_macro.specs.Tracers.{fault_in}
use Rattle.c25_macro.specs.declared.answer.ExpLine.{ExpLine}
use Rattle.c25_macro.specs.declared.answer.NextLine.{NextLine}
use Rattle.c25_macro.specs.declared.answer.NextLine.TheVariants.{Given, LeftOut, Finished}
use Rattle.c25_macro.specs.declared.tracer.StepFault.{StepFault}
use Rattle.c25_meaning_assembly.specs.AllFaults.{LinesGoneOver, after_fault, after_line, all_faults, faults_by, faults_of, gone_over, gone_over_by, gone_over_from, is_last_kind, left_out, no_lines, with_fault, without_line}
use Rattle.c25_meaning_assembly.specs.Emission.{at_origin}
use Rattle.c25_meaning_assembly.specs.ModuleOfSource.{origin_of, read_and_pass}
use Rattle.c25_meaning_assembly.specs.Sections.{Progress, name_count, start as nothing, table}
use Rattle.c25_meaning_common.specs.declared.failure.Failure.{Failure}
use Rattle.c25_meaning_common.specs.declared.failure.Failure.TheVariants.{NoMemory, Fault}
use Rattle.c25_meaning_common.specs.declared.no_memory.NoMemory as no_memory
use Rattle.c25_meaning_expansion.specs.Expansion.{Config, Finishes}
use Rattle.c25_meaning_expansion.specs.ExpansionAnswers.{ExpandedLine, given_by, fault_by}
use Rattle.c25_meaning_expansion.specs.ExpansionRuns.{first, start, start_of, weight}
use Rattle.c25_meaning_expansion.specs.LeftOut.{first_left_out}
use Rattle.c25_meaning_expansion.specs.Files.{Files, text_named}
use Rattle.c25_meaning_expansion.specs.Rows.{file_number}
use Rattle.c25_meaning_language.specs.ExpansionFault.{ExpansionFault, Faulty, Missing}
use Rattle.c25_meaning_language.specs.Value.{Table}
use Rattle.c25_meaning_language.specs.declared.statement.FaultKind.{FaultKind}
use Rattle.c25_phases.specs.Steps.{text_passed}
use Rattle.c25_phases.specs.View.{fault_of}
use Rattle.c25_phases.specs.declared.fault.AsmFault.{AsmFault}
use Rattle.c25_asm.specs.GoneOver.{EndsWith, HasRoom, IsGoneOver, LeadsTo, StillComes}
use Rattle.c25_asm.specs.Told.{IsTold}
use Rattle.c25_asm.proofs.Coming.{no_fault, told_failure}

-- ---- before the first line

by_start : (files : Files) (name : List ℕ) (file : ℕ) (o : Option (List ℕ))
    → StillComes files name (begun_at (option_map (start file) o)) no_lines (gone_over_from files name (option_map (start file) o))
by_start files name file None = refl
by_start files name file (Some text) = (suc (weight (start file text)), omega arith, refl)

pub begins : (files : Files) (name : List ℕ) → StillComes files name (begun_at (start_of files name)) no_lines (gone_over_from files name (start_of files name))
begins files name = by_start files name (file_number files name) (text_named files name)

-- lines that were gone over from there on have all faults of the source
pub all_told : (files : Files) (name : List ℕ) (e : Expansion) (old new : LinesGoneOver) → e ≡ begun files name → old ≡ no_lines → IsGoneOver e old new
    → faults_of new ≡ all_faults files name
unfolding all_faults
all_told files name e old new first none over =
    let meant = gone_over_from files name (start_of files name) in
    let here = subst (λ (a : LinesGoneOver). StillComes files name (begun_at (start_of files name)) a meant) (sym none) (begins files name) in
    sym (over meant (subst (λ (x : Expansion). StillComes x.files x.name x.stage old meant) (sym first) here))

pub all_in : (result : Result (Vec AsmFault Global) no_memory.NoMemory) (fs gs : List ExpansionFault) → fs ≡ gs → IfOk result (λ v. map fault_of v.items ≡ fs)
    → IfOk result (λ v. map fault_of v.items ≡ gs)
all_in (Ok v) fs gs same h = h ∙ same
all_in (Err e) fs gs same h = tt

-- the first of them
pub first_of_all : (most : ℕ) (items : List AsmFault) (all : List ExpansionFault) → map fault_of items ≡ all → map fault_of (take most items) ≡ take most all
first_of_all most items all is = of most items ∙ ap (take most) is
  where
    of : (n : ℕ) (xs : List AsmFault) → map fault_of (take n xs) ≡ take n (map fault_of xs)
    of zero xs = refl
    of (suc n) [] = refl
    of (suc n) (x ∷ xs) = ap (λ l. fault_of x ∷ l) (of n xs)

pub room_first : (a : LinesGoneOver) → a ≡ no_lines → HasRoom a
room_first a is = subst (λ (x : LinesGoneOver). HasRoom x) (sym is) (λ none. omega arith)

-- ---- faults

some_fault : (fs : List ExpansionFault) (f : ExpansionFault) (p : Progress) → faults_by (fs ++ f ∷ []) p ≡ fs ++ f ∷ []
some_fault [] f p = refl
some_fault (g ∷ gs) f p = refl

not_none : (fs : List ExpansionFault) (f : ExpansionFault) → fs ++ f ∷ [] ≡ [] → ⊥
not_none [] f h = absurd (cc)
not_none (g ∷ gs) f h = absurd (cc)

-- a fault more, whatever the lines have made
pub room_then : (a : LinesGoneOver) (fs : List ExpansionFault) (f : ExpansionFault) → a.faults ≡ fs ++ f ∷ [] → HasRoom a
room_then a fs f is = λ none. absurd (not_none fs f (sym is ∙ none))

pub room_after_end : (g : Failure AsmFault) (a b : LinesGoneOver) → EndsWith g a b → HasRoom b
room_after_end (NoMemory n) a b h = absurd h
room_after_end (Fault x) a b h = room_then b a.faults (fault_of x) (ap (λ (y : LinesGoneOver). y.faults) h)

-- ---- one line

-- a line that passes
pub passes : (l : ExpandedLine) (a : LinesGoneOver) (p : Progress) → text_passed (origin_of l) l.text a.progress ≡ Ok p → LeadsTo l a (record { progress = p; faults = a.faults }) true
passes l a p h = λ go_on. ap (λ (r : Result Progress FaultKind). after_line l (at_origin (origin_of l) r) go_on a) h

-- a line that is left out
pub leaves_out : (l : ExpandedLine) (a b : LinesGoneOver) (kind : FaultKind) (last more : Bool) → text_passed (origin_of l) l.text a.progress ≡ Err kind → last ≡ is_last_kind kind
    → more ≡ not last → (is_last_kind kind ≡ false → b.progress ≡ left_out l.text a.progress) → b.faults ≡ a.faults ++ Faulty l.file l.line kind ∷ [] → LeadsTo l a b more
leaves_out l a b kind true more h is answer left found = subst (λ m. LeadsTo l a b m) (sym answer) ended
  where
    f : ExpansionFault
    f = Faulty l.file l.line kind

    ended : LeadsTo l a b false
    ended = λ go_on.
        ap (λ (r : Result Progress FaultKind). faults_of (after_line l (at_origin (origin_of l) r) go_on a)) h
        ∙ ap (λ c. faults_of (cond c (with_fault f a) (go_on (without_line l f a)))) (sym is)
        ∙ some_fault a.faults f a.progress
        ∙ sym (ap (λ fs. faults_by fs b.progress) found ∙ some_fault a.faults f b.progress)
leaves_out l a b kind false more h is answer left found = subst (λ m. LeadsTo l a b m) (sym answer) goes
  where
    f : ExpansionFault
    f = Faulty l.file l.line kind

    goes : LeadsTo l a b true
    goes = λ go_on.
        ap (λ (r : Result Progress FaultKind). after_line l (at_origin (origin_of l) r) go_on a) h
        ∙ ap (λ c. cond c (with_fault f a) (go_on (without_line l f a))) (sym is)
        ∙ ap go_on (sym (ap (λ p. record { progress = p; faults = b.faults }) (left (sym is)) ∙ ap (λ fs. record { progress = left_out l.text a.progress; faults = fs }) found))

-- ---- a line that comes

-- an answer of an expansion of these files and this name
pub next_at : (e : Expansion) (files : Files) (name : List ℕ) (s : Table) (r : Result NextLine (Failure ExpandFault)) (new : Stage)
    → e.files ≡ files → e.name ≡ name → IsNext e s r new → IsNextAt files name e.stage s r new
next_at e files name s r new f n h =
    subst (λ (x : List ℕ). IsNextAt files x e.stage s r new) n (subst (λ (x : Files). IsNextAt x e.name e.stage s r new) f h)

on_line : (files : Files) (c d : Config) (s : Table) (a : LinesGoneOver) (l : ExpandedLine) (n : ℕ) → s ≡ table a.progress
    → given_by files (first files s c) ≡ Some (l, d) → gone_over files (suc n) c a ≡ after_line l (read_and_pass l a.progress) (gone_over files n d) a
unfolding gone_over
on_line files c d s a l n is h =
    let r = first files s c in
    sym (ap (λ t. gone_over_by (fault_by files (first files t c)) (first_left_out files t c) (given_by files (first files t c)) (gone_over files n) a) is)
    ∙ ap (λ o. gone_over_by o (first_left_out files s c) (given_by files r) (gone_over files n) a) (no_fault files r l d h) ∙ ap (λ o. gone_over_by None (first_left_out files s c) o (gone_over files n) a) h

-- what comes next is gone over
pub goes_on : (files : Files) (name : List ℕ) (old new : Stage) (s : Table) (a b meant : LinesGoneOver) (line : ExpLine)
    → s ≡ table a.progress → StillComes files name old a meant → IsNextAt files name old s (Ok (Given line)) new → weight_of new < weight_of old
    → LeadsTo (shown line) a b true → StillComes files name new b meant
goes_on files name (Stands c) (Stands d) s a b meant line is (zero, few, h) next less leads = absurd (omega (arith, few))
goes_on files name (Stands c) (Stands d) s a b meant line is (suc n, few, h) next less leads =
    (n, omega (arith, few, less), sym (leads (gone_over files n d)) ∙ sym (on_line files c d s a (shown line) n is next) ∙ h)
goes_on files name (Stands c) Absent s a b meant line is coming next less leads = absurd next
goes_on files name (Stands c) (Failed f) s a b meant line is coming next less leads = absurd next
goes_on files name Absent new s a b meant line is coming next less leads = absurd next
goes_on files name (Failed f) new s a b meant line is coming next less leads = absurd next

-- nothing is read after the line's fault
pub stops : (files : Files) (name : List ℕ) (old new : Stage) (s : Table) (a b meant : LinesGoneOver) (line : ExpLine)
    → s ≡ table a.progress → StillComes files name old a meant → IsNextAt files name old s (Ok (Given line)) new
    → LeadsTo (shown line) a b false → faults_of meant ≡ faults_of b
stops files name (Stands c) (Stands d) s a b meant line is (zero, few, h) next leads = absurd (omega (arith, few))
stops files name (Stands c) (Stands d) s a b meant line is (suc n, few, h) next leads =
    sym (ap faults_of h) ∙ ap faults_of (on_line files c d s a (shown line) n is next) ∙ leads (gone_over files n d)
stops files name (Stands c) Absent s a b meant line is coming next leads = absurd next
stops files name (Stands c) (Failed f) s a b meant line is coming next leads = absurd next
stops files name Absent new s a b meant line is coming next leads = absurd next
stops files name (Failed f) new s a b meant line is coming next leads = absurd next

-- ---- the end

on_end : (files : Files) (c d : Config) (s : Table) (a : LinesGoneOver) (n : ℕ) → s ≡ table a.progress → first files s c ≡ Finishes d → gone_over files (suc n) c a ≡ a
unfolding gone_over
on_end files c d s a n is h =
    sym (ap (λ t. gone_over_by (fault_by files (first files t c)) (first_left_out files t c) (given_by files (first files t c)) (gone_over files n) a) is)
    ∙ ap (λ r. gone_over_by (fault_by files r) (first_left_out files s c) (given_by files r) (gone_over files n) a) h

-- no line more came
pub ends : (files : Files) (name : List ℕ) (old new : Stage) (s : Table) (a meant : LinesGoneOver)
    → s ≡ table a.progress → StillComes files name old a meant → IsNextAt files name old s (Ok Finished) new → faults_of meant ≡ faults_of a
ends files name (Stands c) (Stands d) s a meant is (zero, few, h) next = absurd (omega (arith, few))
ends files name (Stands c) (Stands d) s a meant is (suc n, few, h) next = sym (ap faults_of h) ∙ ap faults_of (on_end files c d s a n is next)
ends files name (Stands c) Absent s a meant is coming next = absurd next
ends files name (Stands c) (Failed f) s a meant is coming next = absurd next
ends files name Absent new s a meant is coming next = absurd next
ends files name (Failed f) new s a meant is coming next = absurd next

-- ---- a fault of expansion

on_fault : (files : Files) (c : Config) (s : Table) (a : LinesGoneOver) (n : ℕ) (f : ExpansionFault) (after : Option Config) → s ≡ table a.progress → fault_by files (first files s c) ≡ Some f
    → first_left_out files s c ≡ after → gone_over files (suc n) c a ≡ after_fault f after (gone_over files n) a
unfolding gone_over
on_fault files c s a n f after is h left =
    sym (ap (λ t. gone_over_by (fault_by files (first files t c)) (first_left_out files t c) (given_by files (first files t c)) (gone_over files n) a) is)
    ∙ ap (λ o. gone_over_by o (first_left_out files s c) (given_by files (first files s c)) (gone_over files n) a) h
    ∙ ap (λ o. after_fault f o (gone_over files n) a) left

-- a line that expansion refuses is left out
pub leaves : (files : Files) (name : List ℕ) (old new : Stage) (s : Table) (a b meant : LinesGoneOver) (f : StepFault)
    → s ≡ table a.progress → StillComes files name old a meant → IsNextAt files name old s (Ok (LeftOut f)) new → weight_of new < weight_of old
    → b ≡ with_fault (fault_in f) a → StillComes files name new b meant
leaves files name (Stands c) (Stands d) s a b meant f is (zero, few, h) next less same = absurd (omega (arith, few))
leaves files name (Stands c) (Stands d) s a b meant f is (suc n, few, h) next less same =
    (n, omega (arith, few, less), ap (gone_over files n d) same ∙ sym (on_fault files c s a n (fault_in f) (Some d) is next.0 next.1) ∙ h)
leaves files name (Stands c) Absent s a b meant f is coming next less same = absurd next
leaves files name (Stands c) (Failed e) s a b meant f is coming next less same = absurd next
leaves files name Absent new s a b meant f is coming next less same = absurd next
leaves files name (Failed e) new s a b meant f is coming next less same = absurd next

-- the fault that is told is the last one
told_last : (failure : Failure ExpansionFault) (a meant : LinesGoneOver) (e : Failure ExpandFault) (missing : Option (Bor (List ℕ))) (x : AsmFault)
    → ((f : ExpansionFault) → failure ≡ Fault f → with_fault f a ≡ meant) → Tells failure e → option_map (λ n. n.now) missing ≡ missing_of (Failed failure) → IsTold missing e (Fault x)
    → meant ≡ with_fault (fault_of x) a
told_last (NoMemory n) a meant (NoMemory m) missing x is t same told = absurd told
told_last (NoMemory n) a meant (Fault e) missing x is t same told = absurd t
told_last (Fault f) a meant e missing x is t same told =
    let known : ◌≡◌ {A = Result LinesGoneOver ExpansionFault} (Err f) (Err (fault_of x)) =
    told_failure {A = LinesGoneOver} (Fault f) (Err f) e missing (Fault x) (λ g q. let one : f ≡ g = cc in ap Err one) t same told in
    let fault : f ≡ fault_of x = cc in
    sym (is f refl) ∙ ap (λ g. with_fault g a) fault

stopped_by : (a b meant : LinesGoneOver) (g : Failure AsmFault) → ((x : AsmFault) → g ≡ Fault x → meant ≡ with_fault (fault_of x) a) → EndsWith g a b → faults_of meant ≡ faults_of b
stopped_by a b meant (NoMemory n) is h = absurd h
stopped_by a b meant (Fault x) is h = ap faults_of (is x refl ∙ sym h)

-- expansion fails
pub expansion_fails : (files : Files) (name : List ℕ) (old new : Stage) (s : Table) (a b meant : LinesGoneOver) (e : Failure ExpandFault) (missing : Option (Bor (List ℕ))) (g : Failure AsmFault)
    → s ≡ table a.progress → StillComes files name old a meant → IsNextAt files name old s (Err e) new → option_map (λ n. n.now) missing ≡ missing_of new → IsTold missing e g → EndsWith g a b
    → faults_of meant ≡ faults_of b
expansion_fails files name (Stands c) (Stands d) s a b meant e missing g is coming next same told end = absurd next
expansion_fails files name (Stands c) Absent s a b meant e missing g is coming next same told end = absurd next
expansion_fails files name (Stands c) (Failed failure) s a b meant e missing g is (zero, few, h) next same told end = absurd (omega (arith, few))
expansion_fails files name (Stands c) (Failed failure) s a b meant e missing g is (suc n, few, h) next same told end =
    stopped_by a b meant g (λ x q. told_last failure a meant e missing x (failed failure next.0 next.2) next.1 same (subst (λ (y : Failure AsmFault). IsTold missing e y) q told)) end
  where
    failed : (failure : Failure ExpansionFault) → IsFailure files (first files s c) failure → IsLast (first_left_out files s c) failure → (f : ExpansionFault) → failure ≡ Fault f → with_fault f a ≡ meant
    failed (NoMemory m) i last f q = absurd (cc)
    failed (Fault x) i last f q = let one : x ≡ f = cc in sym (ap (λ y. with_fault y a) one) ∙ sym (on_fault files c s a n x None is i last) ∙ h
expansion_fails files name Absent new s a b meant e missing g is coming next same told end =
    stopped_by a b meant g (λ x q. told_last (Fault (Missing name 0 name)) a meant e missing x (λ f p. let one : Missing name 0 name ≡ f = cc in sym (ap (λ y. with_fault y a) one) ∙ coming) next.1
    (same ∙ ap missing_of next.0) (subst (λ (y : Failure AsmFault). IsTold missing e y) q told)) end
expansion_fails files name (Failed failure) new s a b meant e missing g is coming next same told end = absurd coming

-- the same lines, whose progress is written otherwise
pub moved : (files : Files) (name : List ℕ) (stage : Stage) (p q : Progress) (faults : List ExpansionFault) (meant : LinesGoneOver) → q ≡ p
    → StillComes files name stage (record { progress = p; faults = faults }) meant → StillComes files name stage (record { progress = q; faults = faults }) meant
moved files name stage p q faults meant same coming = subst (λ (x : Progress). StillComes files name stage (record { progress = x; faults = faults }) meant) (sym same) coming

-- where the fault was added that expansion ends with
pub expansion_ended : (result : Result (Unit {0}) no_memory.NoMemory) (a b : LinesGoneOver) (g : Failure AsmFault) (Told : Type 0) → (EndsWith g a b → Told) → OnOk result (EndsWith g a b) → OnOk result Told
expansion_ended (Ok x) a b g Told told h = told h
expansion_ended (Err e) a b g Told told h = tt
