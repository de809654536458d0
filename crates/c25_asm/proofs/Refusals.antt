-- A source with a trail has no module, and the trail's fault is reported.
use Rattle.std.proofs.Common.{◌≡◌, ℕ, zero, suc, ◌+◌, ◌<◌, List, [], ◌∷◌, ◌++◌, length, Option, Some, None, Result, Ok, Err, ◌⊎◌, inl, inr, option_map, refl, ap, sym, ◌∙◌, arith, subst}
use Rattle.c25_meaning_assembly.specs.Emission.{all_names, at_origin, emit, emit_all, finished, module_with}
use Rattle.c25_meaning_assembly.specs.Sections.{Definitions, PendingItem, Progress, Section, start, table}
use Rattle.c25_meaning_common.specs.Results.{◌>>=◌}
use Rattle.c25_meaning_expansion.specs.Expansion.{Config, Rewriting, Gives, Goes, Finishes, Faults, Misses}
use Rattle.c25_meaning_expansion.specs.ExpansionAnswers.{ExpandedLine, given_by, fault_by}
use Rattle.c25_meaning_expansion.specs.ExpansionBounds.{IsLast}
use Rattle.c25_meaning_expansion.specs.ExpansionRuns as runs
use Rattle.c25_meaning_expansion.specs.ExpansionRuns.{first, rewrite, start_of}
use Rattle.c25_meaning_expansion.specs.Files.{Files, text_named}
use Rattle.c25_meaning_expansion.specs.Rows.{file_number}
use Rattle.c25_meaning_common.specs.declared.placed.FileLine.{FileLine}
use Rattle.c25_meaning_expansion.proofs.ExpansionFalls.{falls_going, given_was_read}
use Rattle.c25_meaning_expansion.proofs.ExpansionFirst.{comes_to_first, first_going}
use Rattle.c25_meaning_language.specs.ExpansionFault.{ExpansionFault, Faulty}
use Rattle.c25_meaning_language.specs.Value.{Table}
use Rattle.c25_meaning_language.specs.declared.statement.FaultKind.{FaultKind}
use Rattle.c25_meaning_objects.specs.Module.{Contents}
use Rattle.c25_meaning_assembly.specs.ModuleOfSource.{LinesSoFar, assembled, completed, entry_of, no_lines, pass_line, passed, passed_by, passed_from, read_and_pass}
use Rattle.c25_phases.specs.Wrong.{Wrong, first_wrong, wrong_from}
use Rattle.c25_asm.specs.Seen.{Seen}
use Rattle.c25_asm.specs.Trails.{Reaches, begins, goes, passes, IsTrail, IsUnexpanded, IsWrongItem, IsWrongLine, PassesAll}

same : {A : Type 0} (x y : A) → Some x ≡ Some y → x ≡ y
same x y e = cc

-- ---- one rewriting

given_last : (files : Files) (r : Rewriting) (x : ExpandedLine × Config) → given_by files r ≡ Some x → IsLast r
given_last files (Gives row d) x e = tt
given_last files (Goes d) x e = absurd (cc)
given_last files (Finishes d) x e = tt
given_last files (Faults place kind) x e = tt
given_last files (Misses place name) x e = tt

fault_last : (files : Files) (r : Rewriting) (f : ExpansionFault) → fault_by files r ≡ Some f → IsLast r
fault_last files (Gives row d) f e = tt
fault_last files (Goes d) f e = absurd (cc)
fault_last files (Finishes d) f e = tt
fault_last files (Faults place kind) f e = tt
fault_last files (Misses place name) f e = tt

no_fault : (files : Files) (r : Rewriting) (x : ExpandedLine × Config) → given_by files r ≡ Some x → fault_by files r ≡ None
no_fault files (Gives row d) x e = refl
no_fault files (Goes d) x e = absurd (cc)
no_fault files (Finishes d) x e = absurd (cc)
no_fault files (Faults place kind) x e = absurd (cc)
no_fault files (Misses place name) x e = absurd (cc)

read_before : (files : Files) (s : Table) (c d : Config) (l : ExpandedLine) (r : Rewriting) → rewrite files s c ≡ r → given_by files r ≡ Some (l, d) → d.left < c.left
read_before files s c d l (Gives row e) is h = subst (λ (x : Config). x.left < c.left) (ap (λ p. p.1) (same _ _ h)) (given_was_read files s c e row is)
read_before files s c d l (Goes e) is h = absurd (cc)
read_before files s c d l (Finishes e) is h = absurd (cc)
read_before files s c d l (Faults place kind) is h = absurd (cc)
read_before files s c d l (Misses place name) is h = absurd (cc)

-- a rewriting that does not merely go on is the first of the rest
at_once : (files : Files) (s : Table) (c : Config) → IsLast (rewrite files s c) → first files s c ≡ rewrite files s c
at_once files s c last = comes_to_first files s c (rewrite files s c) (zero, c, refl, refl) last

-- ---- the lines from here on

abbrev made_so : LinesSoFar → ExpandedLine → Progress → LinesSoFar
made_so a l q = record { progress = q; entries = a.entries ++ entry_of l a.progress q ∷ [] }

line_passes : (a : LinesSoFar) (l : ExpandedLine) (r : Result Progress ExpansionFault) → read_and_pass l a.progress ≡ r → pass_line l a ≡ (r >>= λ q. Ok (made_so a l q))
unfolding pass_line
line_passes a l r e = ap (λ (x : Result Progress ExpansionFault). x >>= λ q. Ok (made_so a l q)) e

module _ (files : Files) (a : LinesSoFar) (n : ℕ) (c : Config) where
  over_going : (d : Config) → rewrite files (table a.progress) c ≡ Goes d → passed files (suc n) c a ≡ passed files (suc n) d a
  unfolding passed
  over_going d e = ap (λ (r : Rewriting). passed_by (fault_by files r) (given_by files r) (passed files n) a) (first_going files (table a.progress) c d e)

  over_line : (l : ExpandedLine) (d : Config) → given_by files (rewrite files (table a.progress) c) ≡ Some (l, d)
      → passed files (suc n) c a ≡ (pass_line l a >>= λ b. passed files n d b)
  unfolding passed
  over_line l d h =
      let r = rewrite files (table a.progress) c in
      ap (λ (x : Rewriting). passed_by (fault_by files x) (given_by files x) (passed files n) a) (at_once files (table a.progress) c (given_last files r (l, d) h))
      ∙ ap (λ (o : Option ExpansionFault). passed_by o (given_by files r) (passed files n) a) (no_fault files r (l, d) h)
      ∙ ap (λ (o : Option (ExpandedLine × Config)). passed_by None o (passed files n) a) h

  over_fault : (f : ExpansionFault) → fault_by files (rewrite files (table a.progress) c) ≡ Some f → passed files (suc n) c a ≡ Err f
  unfolding passed
  over_fault f h =
      let r = rewrite files (table a.progress) c in
      ap (λ (x : Rewriting). passed_by (fault_by files x) (given_by files x) (passed files n) a) (at_once files (table a.progress) c (fault_last files r f h))
      ∙ ap (λ (o : Option ExpansionFault). passed_by o (given_by files r) (passed files n) a) h

  over_end : (d : Config) → rewrite files (table a.progress) c ≡ Finishes d → passed files (suc n) c a ≡ Ok a
  unfolding passed
  over_end d h =
      ap (λ (x : Rewriting). passed_by (fault_by files x) (given_by files x) (passed files n) a)
      (at_once files (table a.progress) c (subst IsLast (sym h) tt) ∙ h)

-- all lines of the module of a name make what the lines from here on make after those before
pub record Rest (files : Files) (name : List ℕ) (c : Config) (p : Progress) : Type 0 where
  pub behind : LinesSoFar
  pub made : behind.progress ≡ p
  pub count : ℕ
  pub few : c.left < suc count
  pub rest : passed_from files name (start_of files name) ≡ passed files (suc count) c behind

few_at_start : (file : ℕ) (o : Option (List ℕ)) (c : Config) → option_map (runs.start file) o ≡ Some c → c.left < 200001
few_at_start file None c e = absurd (cc)
few_at_start file (Some text) c e = subst (λ (x : Config). x.left < 200001) (same _ _ e) (omega arith)

at_start : (files : Files) (name : List ℕ) (c : Config) (p : Progress) → start_of files name ≡ Some c → p ≡ start → Rest files name c p
at_start files name c p e none = record {
  behind = no_lines;
  made = sym none;
  count = 200000;
  few = few_at_start (file_number files name) (text_named files name) c e;
  rest = ap (passed_from files name) e;
}

over : (files : Files) (name : List ℕ) (c d : Config) (p : Progress) → Rest files name c p → rewrite files (table p) c ≡ Goes d → Rest files name d p
over files name c d p r e =
    let here : rewrite files (table r.behind.progress) c ≡ Goes d = subst (λ (x : Progress). rewrite files (table x) c ≡ Goes d) (sym r.made) e in
    record {
      behind = r.behind;
      made = r.made;
      count = r.count;
      few = omega (arith, r.few, (falls_going files (table r.behind.progress) c d here).left);
      rest = r.rest ∙ over_going files r.behind r.count c d here;
    }

-- a line that is given here, and what the lines after it make
pub record Line (files : Files) (name : List ℕ) (p : Progress) (l : ExpandedLine) (d : Config) : Type 0 where
  pub behind : LinesSoFar
  pub made : behind.progress ≡ p
  pub count : ℕ
  pub few : d.left < count
  pub rest : passed_from files name (start_of files name) ≡ (pass_line l behind >>= λ b. passed files count d b)

line_at : (files : Files) (name : List ℕ) (c d : Config) (p : Progress) (l : ExpandedLine) → Rest files name c p
    → given_by files (rewrite files (table p) c) ≡ Some (l, d) → Line files name p l d
line_at files name c d p l r g =
    let here : given_by files (rewrite files (table r.behind.progress) c) ≡ Some (l, d) =
    subst (λ (x : Progress). given_by files (rewrite files (table x) c) ≡ Some (l, d)) (sym r.made) g in
    let less : d.left < c.left = read_before files (table r.behind.progress) c d l _ refl here in
    record { behind = r.behind; made = r.made; count = r.count; few = omega (arith, r.few, less); rest = r.rest ∙ over_line files r.behind r.count c l d here }

behind_line : (files : Files) (name : List ℕ) (d : Config) (p q : Progress) (l : ExpandedLine) (count : ℕ) (behind : LinesSoFar) → behind.progress ≡ p → d.left < count
    → passed_from files name (start_of files name) ≡ (pass_line l behind >>= λ b. passed files count d b) → read_and_pass l p ≡ Ok q → Rest files name d q
behind_line files name d p q l zero behind made few rest e = absurd (omega (arith, few))
behind_line files name d p q l (suc n) behind made few rest e =
    let here : read_and_pass l behind.progress ≡ Ok q = subst (λ (x : Progress). read_and_pass l x ≡ Ok q) (sym made) e in
    record {
      behind = made_so behind l q;
      made = refl;
      count = n;
      few = few;
      rest = rest ∙ ap (λ (x : Result LinesSoFar ExpansionFault). x >>= λ b. passed files (suc n) d b) (line_passes behind l (Ok q) here);
    }

-- the lines from here on make the rest, wherever rewritings and lines lead
pub rest_of : (files : Files) (name : List ℕ) (c : Config) (p : Progress) (trail : List (FileLine ℕ)) → Reaches files name c p trail → Rest files name c p
rest_of files name c p trail (begins e none empty) = at_start files name c p e none
rest_of files name c p trail (goes reached e after) = over files name _ c p (rest_of files name _ p _ reached) e
rest_of files name c p trail (passes l reached g e after) =
    let at = line_at files name _ c _ l (rest_of files name _ _ _ reached) g in
    behind_line files name c _ p l at.count at.behind at.made at.few at.rest e

-- ---- items

wrong_by : (n : ℕ) (names : Definitions) (sections : List Section) (item : PendingItem) (items : List PendingItem) (w : Wrong) (r : Result (List Section) FaultKind)
    → emit names item.section item.offset sections item.content ≡ r
    → ((next : List Section) → wrong_from (n + 1) names next items ≡ Some w → emit_all names next items ≡ Err (Faulty w.origin.file w.origin.line w.kind))
    → wrong_from n names sections (item ∷ items) ≡ Some w → emit_all names sections (item ∷ items) ≡ Err (Faulty w.origin.file w.origin.line w.kind)
wrong_by n names sections item items w (Ok next) h more e =
    ap (λ (r : Result (List Section) FaultKind). at_origin item.origin r >>= λ x. emit_all names x items) h ∙ more next (rw (h, wrong_from) at e)
wrong_by n names sections item items w (Err kind) h more e =
    let told : Some (record { number = n; origin = item.origin; kind = kind; section = item.section; offset = item.offset }) ≡ Some w = rw (h, wrong_from) at e in
    ap (λ (r : Result (List Section) FaultKind). at_origin item.origin r >>= λ x. emit_all names x items) h
    ∙ ap (λ (x : Wrong). Err (Faulty x.origin.file x.origin.line x.kind)) (same _ _ told)

wrong_item : (n : ℕ) (names : Definitions) (sections : List Section) (items : List PendingItem) (w : Wrong)
    → wrong_from n names sections items ≡ Some w → emit_all names sections items ≡ Err (Faulty w.origin.file w.origin.line w.kind)
wrong_item n names sections [] w e = absurd (cc)
wrong_item n names sections (item ∷ items) w e =
    wrong_by n names sections item items w _ refl (λ next h. wrong_item (n + 1) names next items w h) e

not_finished : (p : Progress) (w : Wrong) → first_wrong p ≡ Some w → finished p ≡ Err (Faulty w.origin.file w.origin.line w.kind)
unfolding finished
not_finished p w e =
    ap (λ (r : Result (List Section) ExpansionFault). r >>= λ sections. Ok (module_with sections (all_names p) p.exported))
    (wrong_item 0 (all_names p) p.sections p.items w e)

-- ---- the source

refused_in : (files : Files) (name : List ℕ) (f : ExpansionFault) → passed_from files name (start_of files name) ≡ Err f → assembled files name ≡ Err f
unfolding assembled
refused_in files name f e = ap (λ (r : Result LinesSoFar ExpansionFault). r >>= λ a. completed a) e

unexpanded : (files : Files) (name : List ℕ) (f : ExpansionFault) (trail : List (FileLine ℕ)) (seen : Option Seen) → IsUnexpanded files name f trail seen
    → passed_from files name (start_of files name) ≡ Err f
unexpanded files name f trail seen h =
    let r = rest_of files name h.at h.made _ h.reaches in
    let here : fault_by files (rewrite files (table r.behind.progress) h.at) ≡ Some f =
    subst (λ (x : Progress). fault_by files (rewrite files (table x) h.at) ≡ Some f) (sym r.made) h.refused in
    r.rest ∙ over_fault files r.behind r.count h.at f here

wrong_line : (files : Files) (name : List ℕ) (f : ExpansionFault) (trail : List (FileLine ℕ)) (seen : Option Seen) → IsWrongLine files name f trail seen
    → passed_from files name (start_of files name) ≡ Err f
wrong_line files name f trail seen h =
    let at = line_at files name h.gives.at h.gives.next h.made h.line (rest_of files name h.gives.at h.made _ h.gives.reaches) h.gives.given in
    let here : read_and_pass h.line at.behind.progress ≡ Err f = subst (λ (x : Progress). read_and_pass h.line x ≡ Err f) (sym at.made) h.refused in
    at.rest ∙ ap (λ (x : Result LinesSoFar ExpansionFault). x >>= λ b. passed files at.count h.gives.next b) (line_passes at.behind h.line (Err f) here)

-- what all lines make, where they pass
pub record Made (files : Files) (name : List ℕ) (p : Progress) : Type 0 where
  pub all : LinesSoFar
  pub progress : all.progress ≡ p
  pub passes : passed_from files name (start_of files name) ≡ Ok all

pub made_of : (files : Files) (name : List ℕ) (p : Progress) → PassesAll files name p → Made files name p
made_of files name p h =
    let r = rest_of files name h.at p h.trail h.reaches in
    let here : rewrite files (table r.behind.progress) h.at ≡ Finishes h.last =
    subst (λ (x : Progress). rewrite files (table x) h.at ≡ Finishes h.last) (sym r.made) h.ends in
    record { all = r.behind; progress = r.made; passes = r.rest ∙ over_end files r.behind r.count h.at h.last here }

incomplete : (a : LinesSoFar) (f : ExpansionFault) → finished a.progress ≡ Err f → completed a ≡ Err f
incomplete a f e = ap (λ (r : Result Contents ExpansionFault). r >>= λ m. Ok (record { contents = m; entries = a.entries })) e

wrong_item_told : (files : Files) (name : List ℕ) (f : ExpansionFault) (trail : List (FileLine ℕ)) (seen : Option Seen) → IsWrongItem files name f trail seen → assembled files name ≡ Err f
unfolding assembled
wrong_item_told files name f trail seen h =
    let made = made_of files name h.made h.passes in
    let fails : finished made.all.progress ≡ Err f =
    subst (λ (x : Progress). finished x ≡ Err f) (sym made.progress) (not_finished h.made h.wrong h.refused ∙ ap Err (sym h.told)) in
    ap (λ (r : Result LinesSoFar ExpansionFault). r >>= λ a. completed a) made.passes ∙ incomplete made.all f fails

-- The source is refused with the fault of its trail.
pub refused : (files : Files) (name : List ℕ) (f : ExpansionFault) (trail : List (FileLine ℕ)) (seen : Option Seen) → IsTrail files name f trail seen → assembled files name ≡ Err f
refused files name f trail seen (inl h) = refused_in files name f (unexpanded files name f trail seen h)
refused files name f trail seen (inr (inl h)) = refused_in files name f (wrong_line files name f trail seen h)
refused files name f trail seen (inr (inr h)) = wrong_item_told files name f trail seen h

-- ---- what comes again when the lines are passed once more

-- where all lines pass, none is refused
pub none_refused : (files : Files) (name : List ℕ) (p : Progress) (f : ExpansionFault) (trail : List (FileLine ℕ)) (seen : Option Seen) → PassesAll files name p
    → IsUnexpanded files name f trail seen ⊎ IsWrongLine files name f trail seen → ⊥
none_refused files name p f trail seen h (inl u) =
    let made = made_of files name p h in
    let both : ◌≡◌ {A = Result LinesSoFar ExpansionFault} (Ok made.all) (Err f) = sym made.passes ∙ unexpanded files name f trail seen u in
    absurd (cc)
none_refused files name p f trail seen h (inr w) =
    let made = made_of files name p h in
    let both : ◌≡◌ {A = Result LinesSoFar ExpansionFault} (Ok made.all) (Err f) = sym made.passes ∙ wrong_line files name f trail seen w in
    absurd (cc)

same_ok : (a b : LinesSoFar) → ◌≡◌ {A = Result LinesSoFar ExpansionFault} (Ok a) (Ok b) → a ≡ b
same_ok a b e = cc

-- all lines make the same thing each time
pub made_once : (files : Files) (name : List ℕ) (p q : Progress) → PassesAll files name p → PassesAll files name q → p ≡ q
made_once files name p q h k =
    let one = made_of files name p h in
    let other = made_of files name q k in
    sym one.progress ∙ ap (λ (a : LinesSoFar). a.progress) (same_ok one.all other.all (sym one.passes ∙ other.passes)) ∙ other.progress

-- an item that is wrong is one of them
within_by : (n : ℕ) (names : Definitions) (sections : List Section) (item : PendingItem) (items : List PendingItem) (w : Wrong) (r : Result (List Section) FaultKind)
    → emit names item.section item.offset sections item.content ≡ r
    → ((next : List Section) → wrong_from (n + 1) names next items ≡ Some w → w.number < n + 1 + length items)
    → wrong_from n names sections (item ∷ items) ≡ Some w → w.number < n + length (item ∷ items)
within_by n names sections item items w (Ok next) h more e = omega (arith, more next (rw (h, wrong_from) at e))
within_by n names sections item items w (Err kind) h more e =
    let told : Some (record { number = n; origin = item.origin; kind = kind; section = item.section; offset = item.offset }) ≡ Some w = rw (h, wrong_from) at e in
    let first : n ≡ w.number = ap (λ (x : Wrong). x.number) (same _ _ told) in
    omega (arith, first)

within : (n : ℕ) (names : Definitions) (sections : List Section) (items : List PendingItem) (w : Wrong)
    → wrong_from n names sections items ≡ Some w → w.number < n + length items
within n names sections [] w e = absurd (cc)
within n names sections (item ∷ items) w e =
    within_by n names sections item items w _ refl (λ next h. within (n + 1) names next items w h) e

pub wrong_within : (p : Progress) (w : Wrong) → first_wrong p ≡ Some w → w.number < length p.items
wrong_within p w e = omega (arith, within 0 (all_names p) p.sections p.items w e)

-- where something is reached there is a source
pub is_there : (files : Files) (name : List ℕ) (c : Config) (p : Progress) (trail : List (FileLine ℕ)) → Reaches files name c p trail → start_of files name ≡ None → ⊥
is_there files name c p trail (begins e none empty) nothing = absurd (cc)
is_there files name c p trail (goes reached e after) nothing = is_there files name _ p _ reached nothing
is_there files name c p trail (passes l reached g e after) nothing = is_there files name _ _ _ reached nothing
