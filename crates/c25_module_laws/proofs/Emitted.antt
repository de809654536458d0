-- What the items of a module give its sections: words and relocations, one item after the other.
use Rattle.std.proofs.Common.{◌≡◌, ℕ, zero, suc, ◌+◌, ◌<◌, cond, eqb, List, [], ◌∷◌, ◌++◌, set, replicate, Option, Some, None, Result, Ok, Err, refl, sym, ap, ◌∙◌, arith}
use Rattle.std.specs.List.{slice_get, list_all}
use Rattle.std.proofs.lemmas.List.{append-nil, append_assoc}
use Rattle.std.proofs.lemmas.Bool.{eq-eqb, ne_eqb}
use Rattle.c25_meaning_assembly.specs.Addresses.{OperandValues, operand_values, words_of, relocations_of}
use Rattle.c25_meaning_assembly.specs.Emission.{extended, emit, emitted, emit_all, at_origin, is_here, table_at, with_operand_values}
use Rattle.c25_meaning_common.specs.Results.{◌>>=◌, fold_ok}
use Rattle.c25_meaning_assembly.specs.Sections.{Definitions, Section, Content, Operands, Words, Zeros, Exported, PendingItem, changed, changed_by}
use Rattle.c25_meaning_objects.specs.declared.object.Relocation.{Relocation}
use Rattle.c25_meaning_language.specs.declared.statement.FaultKind.{FaultKind}
use Rattle.c25_meaning_language.specs.declared.statement.FaultKind.TheVariants as fault
use Rattle.c25_module_laws.proofs.Kept.{changed_later}
use Rattle.c25_module_laws.proofs.ResultSteps.{bound, permitted}
use Rattle.c25_meaning_common.specs.declared.placed.FileLine.{FileLine}

-- words and relocations, and where they begin
pub record Made : Type 0 where
  pub section : ℕ
  pub offset : ℕ
  pub words : List ℕ
  pub relocations : List Relocation

-- what an item gives its section
abbrev pub made_by : Definitions → PendingItem → Content → Result Made FaultKind
made_by names i (Operands t trees) =
    operand_values t (table_at names i.section i.offset) trees >>= λ s.
    Ok (record { section = i.section; offset = i.offset; words = words_of t s.numbers; relocations = relocations_of t i.section i.offset s.addresses })
made_by names i (Words words) = Ok (record { section = i.section; offset = i.offset; words = words; relocations = [] })
made_by names i (Zeros count) = Ok (record { section = i.section; offset = i.offset; words = replicate count 0; relocations = [] })
made_by names i (Exported exported) =
    cond (list_all (is_here names) exported) (Ok (record { section = i.section; offset = i.offset; words = []; relocations = [] })) (Err fault.Undefined)

-- items give these
abbrev pub Give : Definitions → List PendingItem → List Made → Type 0
Give names [] [] = Unit {0}
Give names [] (m ∷ ms) = ⊥
Give names (i ∷ is) [] = ⊥
Give names (i ∷ is) (m ∷ ms) = (made_by names i i.content ≡ Ok m) × Give names is ms

-- the words of a section
abbrev pub words_part : ℕ → Made → List ℕ
words_part k m = cond (eqb m.section k) m.words []

abbrev pub words_at : ℕ → List Made → List ℕ
words_at k [] = []
words_at k (m ∷ ms) = words_part k m ++ words_at k ms

-- the relocations that an item gives a section
abbrev pub relocations_part : ℕ → Made → List Relocation
relocations_part k m = cond (eqb m.section k) m.relocations []

abbrev pub relocations_at : ℕ → List Made → List Relocation
relocations_at k [] = []
relocations_at k (m ∷ ms) = relocations_part k m ++ relocations_at k ms

-- sections from a number on, with what is theirs
abbrev pub filled_from : ℕ → List Section → List Made → List Section
filled_from k [] ms = []
filled_from k (s ∷ ss) ms = extended (words_at k ms) (relocations_at k ms) s ∷ filled_from (suc k) ss ms

-- ---- one after the other

extended_none : (s : Section) → extended [] [] s ≡ s
extended_none s = λ i. record s { words = append-nil s.words i; relocations = append-nil s.relocations i }

set_same : {X : Type 0} (xs : List X) (i : ℕ) (x : X) → slice_get xs i ≡ Some x → set xs i x ≡ xs
set_same [] i x h = absurd (cc)
set_same (y ∷ ys) zero x h = let q : y ≡ x = cc in ap (λ z. z ∷ ys) (sym q)
set_same (y ∷ ys) (suc i) x h = ap (λ zs. y ∷ zs) (set_same ys i x h)

changed_none : (sections : List Section) (i : ℕ) → changed (extended [] []) sections i ≡ sections
changed_none sections i = on (slice_get sections i) refl
  where
    on : (o : Option Section) → slice_get sections i ≡ o → changed_by (extended [] []) sections i o ≡ sections
    on None is = refl
    on (Some s) is = ap (set sections i) (extended_none s) ∙ set_same sections i s is

pub filled_none : (k : ℕ) (ss : List Section) → filled_from k ss [] ≡ ss
filled_none k [] = refl
filled_none k (s ∷ ss) = λ i. extended_none s i ∷ filled_none (suc k) ss i

extended_twice : (a b : List ℕ) (r q : List Relocation) (s : Section) → extended b q (extended a r s) ≡ extended (a ++ b) (r ++ q) s
extended_twice a b r q s = λ i. record s { words = append_assoc s.words a b i; relocations = append_assoc s.relocations r q i }

pub words_here : (k : ℕ) (m : Made) (ms : List Made) → m.section ≡ k → words_at k (m ∷ ms) ≡ m.words ++ words_at k ms
words_here k m ms e = ap (λ b. cond b m.words [] ++ words_at k ms) (eq-eqb m.section k e)

pub words_there : (k : ℕ) (m : Made) (ms : List Made) → (m.section ≡ k → ⊥) → words_at k (m ∷ ms) ≡ words_at k ms
words_there k m ms e = ap (λ b. cond b m.words [] ++ words_at k ms) (ne_eqb m.section k e)

pub relocations_here : (k : ℕ) (m : Made) (ms : List Made) → m.section ≡ k → relocations_at k (m ∷ ms) ≡ m.relocations ++ relocations_at k ms
relocations_here k m ms e = ap (λ b. cond b m.relocations [] ++ relocations_at k ms) (eq-eqb m.section k e)

pub relocations_there : (k : ℕ) (m : Made) (ms : List Made) → (m.section ≡ k → ⊥) → relocations_at k (m ∷ ms) ≡ relocations_at k ms
relocations_there k m ms e = ap (λ b. cond b m.relocations [] ++ relocations_at k ms) (ne_eqb m.section k e)

-- sections after that of an item do not change
filled_past : (k : ℕ) (ss : List Section) (m : Made) (ms : List Made) → m.section < k → filled_from k ss (m ∷ ms) ≡ filled_from k ss ms
filled_past k [] m ms l = refl
filled_past k (s ∷ ss) m ms l =
    let away : m.section ≡ k → ⊥ = λ e. omega (arith, e, l) in
    λ i. extended (words_there k m ms away i) (relocations_there k m ms away i) s ∷ filled_past (suc k) ss m ms (omega (arith, l)) i

filled_more : (k i : ℕ) (ss : List Section) (m : Made) (ms : List Made) → m.section ≡ k + i
    → filled_from k (changed (extended m.words m.relocations) ss i) ms ≡ filled_from k ss (m ∷ ms)
filled_more k i [] m ms e = refl
filled_more k zero (s ∷ ss) m ms e =
    let here : m.section ≡ k = omega (arith, e) in
    let past = sym (filled_past (suc k) ss m ms (omega (arith, here))) in
    let a = extended_twice m.words (words_at k ms) m.relocations (relocations_at k ms) s in
    let b : extended (m.words ++ words_at k ms) (m.relocations ++ relocations_at k ms) s ≡ extended (words_at k (m ∷ ms)) (relocations_at k (m ∷ ms)) s =
    λ i. extended (sym (words_here k m ms here) i) (sym (relocations_here k m ms here) i) s in
    λ i. (a ∙ b) i ∷ past i
filled_more k (suc i) (s ∷ ss) m ms e =
    let away : m.section ≡ k → ⊥ = λ h. omega (arith, e, h) in
    ap (λ xs. filled_from k xs ms) (changed_later (extended m.words m.relocations) s ss i)
    ∙ (λ j. extended (sym (words_there k m ms away) j) (sym (relocations_there k m ms away) j) s ∷ filled_more (suc k) i ss m ms (omega (arith, e)) j)

-- ---- all items

told_ok : {A : Type 0} (origin : FileLine (List ℕ)) (r : Result A FaultKind) (x : A) → at_origin origin r ≡ Ok x → r ≡ Ok x
told_ok origin (Ok y) x e = let q : y ≡ x = cc in ap Ok q
told_ok origin (Err f) x e = absurd (cc)

emit_made : (names : Definitions) (i : PendingItem) (c : Content) (sections out : List Section) → emit names i.section i.offset sections c ≡ Ok out
    → (m : Made) × (made_by names i c ≡ Ok m) × (m.section ≡ i.section) × (changed (extended m.words m.relocations) sections i.section ≡ out)
emit_made names i (Operands t trees) sections out e =
    let s = bound (operand_values t (table_at names i.section i.offset) trees) (λ s. Ok (with_operand_values t i.section i.offset sections s)) out e in
    let m : Made = record { section = i.section; offset = i.offset; words = words_of t (s.0).numbers; relocations = relocations_of t i.section i.offset (s.0).addresses } in
    let same : with_operand_values t i.section i.offset sections s.0 ≡ out = let last = s.2 in cc in
    (m, ap (λ (r : Result OperandValues FaultKind). r >>= λ (s : OperandValues). Ok (record { section = i.section; offset = i.offset; words = words_of t s.numbers; relocations = relocations_of t i.section i.offset s.addresses })) s.1, refl, same)
emit_made names i (Words words) sections out e = (record { section = i.section; offset = i.offset; words = words; relocations = [] }, refl, refl, let q : changed (extended words []) sections i.section ≡ out = cc in q)
emit_made names i (Zeros count) sections out e = (record { section = i.section; offset = i.offset; words = replicate count 0; relocations = [] }, refl, refl, let q : changed (extended (replicate count 0) []) sections i.section ≡ out = cc in q)
emit_made names i (Exported exported) sections out e =
    let p = permitted (list_all (is_here names) exported) sections fault.Undefined out e in
    let m : Made = record { section = i.section; offset = i.offset; words = []; relocations = [] } in
    (m, ap (λ b. cond b (Ok m) (Err fault.Undefined)) p.0, refl, changed_none sections i.section ∙ p.1)

-- where all is emitted, the items give words and relocations, and these are in their sections
pub all_emitted : (names : Definitions) (sections : List Section) (is : List PendingItem) (out : List Section) → emit_all names sections is ≡ Ok out
    → (ms : List Made) × Give names is ms × (out ≡ filled_from 0 sections ms)
all_emitted names sections [] out e = let q : sections ≡ out = cc in ([], tt, sym q ∙ sym (filled_none 0 sections))
all_emitted names sections (i ∷ is) out e =
    let b = bound (emitted names sections i) (λ next. fold_ok (emitted names) next is) out e in
    let m = emit_made names i i.content sections b.0 (told_ok i.origin (emit names i.section i.offset sections i.content) b.0 b.1) in
    let rest = all_emitted names b.0 is out b.2 in
    let same : filled_from 0 b.0 rest.0 ≡ filled_from 0 sections (m.0 ∷ rest.0) =
    ap (λ xs. filled_from 0 xs rest.0) (sym m.3) ∙ filled_more 0 i.section sections m.0 rest.0 (omega (arith, m.2)) in
    (m.0 ∷ rest.0, (m.1, rest.1), rest.2 ∙ same)
