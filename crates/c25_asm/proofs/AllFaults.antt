-- The first of all faults of a source is the one with which it is refused.
use Rattle.std.proofs.Common.{◌≡◌, ◌<◌, ◌≤◌, ℕ, zero, suc, Bool, true, false, cond, List, [], ◌∷◌, ◌++◌, Option, Some, None, Result, Ok, Err, arith, option_map, refl, sym, ap, ◌∙◌, subst}
use Rattle.std.proofs.lemmas.List.{append_assoc, append-nil}
use Rattle.c25_meaning_assembly.specs.AllFaults.{LinesGoneOver, after_item, after_line, all_faults, faults_by, faults_of, gone_over, gone_over_by, gone_over_from, is_last, item_faults, operand_faults, with_fault, without_line}
use Rattle.c25_meaning_assembly.specs.Emission.{all_names, emit_all, emitted, finished, module_with}
use Rattle.c25_meaning_assembly.specs.ModuleOfSource.{Assembled, LinesSoFar, assembled, completed, entry_of, no_lines, pass_line, passed, passed_by, passed_from, read_and_pass}
use Rattle.c25_meaning_assembly.specs.Sections.{Definitions, PendingItem, Progress, Section, table}
use Rattle.c25_meaning_common.specs.Results.{◌>>=◌, fold_ok}
use Rattle.c25_meaning_expansion.proofs.ExpansionFirst.{first_giving}
use Rattle.c25_meaning_expansion.specs.Expansion.{Config, Rewriting, Gives, Goes, Finishes, Faults, Misses}
use Rattle.c25_meaning_expansion.specs.ExpansionAnswers.{ExpandedLine, given_by, fault_by}
use Rattle.c25_meaning_expansion.specs.ExpansionRuns.{first, start, start_of, weight}
use Rattle.c25_meaning_expansion.specs.Files.{Files, text_named}
use Rattle.c25_meaning_expansion.specs.LeftOut.{first_left_out}
use Rattle.c25_meaning_expansion.specs.Rows.{file_number}
use Rattle.c25_meaning_language.specs.Value.{Table}
use Rattle.c25_meaning_language.specs.ExpansionFault.{ExpansionFault}
use Rattle.c25_meaning_objects.specs.Module.{Contents}

-- the faults of a result: none, or its fault comes first
abbrev pub HasFaults : {A : Type 0} → Result A ExpansionFault → List ExpansionFault → Type 0
HasFaults (Ok x) fs = fs ≡ []
HasFaults (Err f) fs = (rest : List ExpansionFault) × (fs ≡ f ∷ rest)

-- ---- the first phase: the faults so far stay the first ones

-- lines gone over have these faults first
abbrev BeginsWith : List ExpansionFault → LinesGoneOver → Type 0
BeginsWith fs a = (rest : List ExpansionFault) × (a.faults ≡ fs ++ rest)

line_keeps : (l : ExpandedLine) (go_on : LinesGoneOver → LinesGoneOver) (a : LinesGoneOver) → ((b : LinesGoneOver) → BeginsWith b.faults (go_on b))
    → (r : Result Progress ExpansionFault) → BeginsWith a.faults (after_line l r go_on a)
line_keeps l go_on a keeps (Ok p) = keeps (record a { progress = p })
line_keeps l go_on a keeps (Err f) = on (is_last f)
  where
    on : (b : Bool) → BeginsWith a.faults (cond b (with_fault f a) (go_on (without_line l f a)))
    on true = (f ∷ [], refl)
    on false = let k = keeps (without_line l f a) in (f ∷ k.0, k.1 ∙ append_assoc a.faults (f ∷ []) k.0)

answer_keeps : (go_on : Config → LinesGoneOver → LinesGoneOver) (a : LinesGoneOver) → ((c : Config) (b : LinesGoneOver) → BeginsWith b.faults (go_on c b))
    → (o : Option ExpansionFault) (after : Option Config) (g : Option (ExpandedLine × Config)) → BeginsWith a.faults (gone_over_by o after g go_on a)
answer_keeps go_on a keeps (Some f) None g = (f ∷ [], refl)
answer_keeps go_on a keeps (Some f) (Some c) g = let k = keeps c (with_fault f a) in (f ∷ k.0, k.1 ∙ append_assoc a.faults (f ∷ []) k.0)
answer_keeps go_on a keeps None after None = ([], sym (append-nil a.faults))
answer_keeps go_on a keeps None after (Some (l, c)) = line_keeps l (go_on c) a (keeps c) (read_and_pass l a.progress)

lines_keep : (files : Files) (n : ℕ) (c : Config) (a : LinesGoneOver) → BeginsWith a.faults (gone_over files n c a)
unfolding gone_over
lines_keep files zero c a = ([], sym (append-nil a.faults))
lines_keep files (suc n) c a =
    answer_keeps (gone_over files n) a (lines_keep files n)
    (fault_by files (first files (table a.progress) c)) (first_left_out files (table a.progress) c) (given_by files (first files (table a.progress) c))

-- ---- the first phase: its first fault

-- lines that have passed, with no fault
abbrev clean : LinesSoFar → LinesGoneOver
clean a = record { progress = a.progress; faults = [] }

-- lines that pass have no fault when they are gone over, and make the same; those that do not have their fault
-- first
abbrev Agrees : Result LinesSoFar ExpansionFault → LinesGoneOver → Type 0
Agrees (Ok a) b = b ≡ clean a
Agrees (Err f) b = (rest : List ExpansionFault) × (b.faults ≡ f ∷ rest)

module _ (Comes : Config → Type 0) (pass_on : Config → LinesSoFar → Result LinesSoFar ExpansionFault) (go_on : Config → LinesGoneOver → LinesGoneOver)
    (agrees : (c : Config) (a : LinesSoFar) → Comes c → Agrees (pass_on c a) (go_on c (clean a))) (keeps : (c : Config) (b : LinesGoneOver) → BeginsWith b.faults (go_on c b)) (a : LinesSoFar) where
  line_agrees : (l : ExpandedLine) (c : Config) (r : Result Progress ExpansionFault) → Comes c
      → Agrees ((r >>= λ p. Ok (record { progress = p; entries = a.entries ++ entry_of l a.progress p ∷ [] })) >>= λ b. pass_on c b) (after_line l r (go_on c) (clean a))
  line_agrees l c (Ok p) comes = agrees c (record { progress = p; entries = a.entries ++ entry_of l a.progress p ∷ [] }) comes
  line_agrees l c (Err f) comes = on (is_last f)
    where
      on : (b : Bool) → (rest : List ExpansionFault) × ((cond b (with_fault f (clean a)) (go_on c (without_line l f (clean a)))).faults ≡ f ∷ rest)
      on true = ([], refl)
      on false = let k = keeps c (without_line l f (clean a)) in (k.0, k.1)

  answer_agrees : (o : Option ExpansionFault) (after : Option Config) (g : Option (ExpandedLine × Config)) → ((l : ExpandedLine) (c : Config) → g ≡ Some (l, c) → Comes c)
      → Agrees (passed_by o g pass_on a) (gone_over_by o after g go_on (clean a))
  unfolding pass_line
  answer_agrees (Some f) None g comes = ([], refl)
  answer_agrees (Some f) (Some c) g comes = let k = keeps c (with_fault f (clean a)) in (k.0, k.1)
  answer_agrees None after None comes = refl
  answer_agrees None after (Some (l, c)) comes = line_agrees l c (read_and_pass l a.progress) (comes l c refl)

same : {A : Type 0} (x y : A) → Some x ≡ Some y → x ≡ y
same x y e = cc

-- a line that is given was read
by_given : (files : Files) (s : Table) (c d : Config) (l : ExpandedLine) (r : Rewriting) → first files s c ≡ r → given_by files r ≡ Some (l, d) → d.left < c.left
by_given files s c d l (Gives row e) f g = subst (λ (x : Config). x.left < c.left) (ap (λ p. p.1) (same _ _ g)) (first_giving files s c e row f).1
by_given files s c d l (Goes e) f g = absurd (cc)
by_given files s c d l (Finishes e) f g = absurd (cc)
by_given files s c d l (Faults place kind) f g = absurd (cc)
by_given files s c d l (Misses place name) f g = absurd (cc)

lines_agree : (files : Files) (n m : ℕ) (c : Config) (a : LinesSoFar) → c.left < n → n ≤ m → Agrees (passed files n c a) (gone_over files m c (clean a))
unfolding passed gone_over
lines_agree files zero m c a few more = absurd (omega (arith, few))
lines_agree files (suc n) zero c a few more = absurd (omega (arith, more))
lines_agree files (suc n) (suc m) c a few more =
    let s = table a.progress in
    answer_agrees (λ d. d.left < n) (passed files n) (gone_over files m) (λ d b less. lines_agree files n m d b less (omega (arith, more))) (lines_keep files m) a
    (fault_by files (first files s c)) (first_left_out files s c) (given_by files (first files s c))
    (λ l d given. omega (arith, few, by_given files s c d l (first files s c) refl given))

by_text : (files : Files) (name : List ℕ) (file : ℕ) (text : Option (List ℕ))
    → Agrees (passed_from files name (option_map (start file) text)) (gone_over_from files name (option_map (start file) text))
by_text files name file None = ([], refl)
by_text files name file (Some text) = lines_agree files 200001 (suc (weight (start file text))) (start file text) no_lines (omega arith) (omega arith)

source_agrees : (files : Files) (name : List ℕ) → Agrees (passed_from files name (start_of files name)) (gone_over_from files name (start_of files name))
source_agrees files name = by_text files name (file_number files name) (text_named files name)

-- ---- the second phase

items_have : (names : Definitions) (sections : List Section) (items : List PendingItem) → HasFaults (fold_ok (emitted names) sections items) (item_faults names sections items)
items_have names sections [] = refl
items_have names sections (i ∷ is) = on (emitted names sections i) (λ next. items_have names next is)
  where
    on : (r : Result (List Section) ExpansionFault) → ((next : List Section) → HasFaults (fold_ok (emitted names) next is) (item_faults names next is))
        → HasFaults (r >>= λ next. fold_ok (emitted names) next is) (after_item r (λ next. item_faults names next is) sections)
    on (Ok next) rest = rest next
    on (Err f) rest = (item_faults names sections is, refl)

module_has : (a : LinesSoFar) → HasFaults (completed a) (operand_faults a.progress)
unfolding finished
module_has a = on (emit_all (all_names a.progress) a.progress.sections a.progress.items) (operand_faults a.progress) (items_have (all_names a.progress) a.progress.sections a.progress.items)
  where
    on : (r : Result (List Section) ExpansionFault) (fs : List ExpansionFault) → HasFaults r fs
        → HasFaults {A = Assembled} ((r >>= λ sections. Ok (module_with sections (all_names a.progress) a.progress.exported)) >>= λ m. Ok (record { contents = m; entries = a.entries })) fs
    on (Ok sections) fs h = h
    on (Err f) fs h = h

-- ---- both

lines_have : (r : Result LinesSoFar ExpansionFault) (b : LinesGoneOver) → Agrees r b → HasFaults (r >>= λ a. completed a) (faults_of b)
lines_have (Ok a) b same = subst (λ (x : LinesGoneOver). HasFaults (completed a) (faults_of x)) (sym same) (module_has a)
lines_have (Err f) b (rest, is) = (rest, ap (λ fs. faults_by fs b.progress) is)

-- all faults of a source are those of its module: none, or its fault comes first
pub source_has : (files : Files) (name : List ℕ) → HasFaults (assembled files name) (all_faults files name)
unfolding assembled all_faults
source_has files name = lines_have (passed_from files name (start_of files name)) (gone_over_from files name (start_of files name)) (source_agrees files name)

pub first_is : {A : Type 0} (r : Result A ExpansionFault) (fs : List ExpansionFault) (f : ExpansionFault) → HasFaults r fs → r ≡ Err f → (rest : List ExpansionFault) × (fs ≡ f ∷ rest)
first_is (Ok x) fs f h is = absurd (cc)
first_is (Err g) fs f (rest, h) is = let same : g ≡ f = cc in (rest, h ∙ ap (λ x. x ∷ rest) same)

pub none_then : {A : Type 0} (r : Result A ExpansionFault) (fs : List ExpansionFault) → HasFaults r fs → (x : A) × (r ≡ Ok x) → fs ≡ []
none_then (Ok y) fs h whole = h
none_then (Err f) fs h (x, is) = absurd (cc)

pub whole_then : {A : Type 0} (r : Result A ExpansionFault) (fs : List ExpansionFault) → HasFaults r fs → fs ≡ [] → (x : A) × (r ≡ Ok x)
whole_then (Ok y) fs h none = (y, refl)
whole_then (Err f) fs (rest, h) none = absurd (let both : f ∷ rest ≡ [] = sym h ∙ none in cc)
