-- What always holds of what the lines so far have made.
use Rattle.std.proofs.Common.{◌≡◌, ℕ, zero, suc, ◌+◌, ◌≤◌, ◌<◌, Bool, true, false, cond, not, ◌&&◌, eqb, ltb, List, [], ◌∷◌, ◌++◌, length, map, set, Option, Some, None, ◌⊎◌, inl, inr, refl, sym, ap, ◌∙◌, subst, arith}
use Rattle.std.specs.List.{AllByRecursion, list_any, slice_get}
use Rattle.std.specs.Str.{bytes_eq}
use Rattle.std.proofs.lemmas.List.{append-nil, append_assoc}
use Rattle.std.proofs.lemmas.Bool.{and_from, and_parts, eq-eqb, ne_eqb}
use Rattle.c25_meaning_objects.specs.Module.{each_fits, is_section_name}
use Rattle.c25_meaning_assembly.specs.Sections.{Definitions, Section, Content, Operands, Words, Zeros, Exported, PendingItem, Progress, changed, changed_by, is_file_name, is_in, is_line_number, are_distinct}
use Rattle.c25_meaning_language.specs.Statement.{form_row}
use Rattle.c25_meaning_instructions.specs.Table.{size}
use Rattle.c25_meaning_assembly.specs.declared.assembly.Target.TheVariants as target
use Rattle.c25_meaning_objects.specs.declared.object.Block.{Block}
use Rattle.c25_meaning_objects.specs.declared.object.ModuleMark.{ModuleMark}
use Rattle.c25_meaning_language.specs.declared.value.Base.{Base}
use Rattle.c25_meaning_language.specs.declared.value.Base.TheVariants.{Absolute, Section as InSection, Loaded, External}
pub use Rattle.c25_meaning_assembly.specs.ItemPlaces.{part, total, words_in}
use Rattle.c25_module_laws.proofs.Counted.{IsCount}
use Rattle.c25_module_laws.proofs.Spoken.{IsSymbol, AreWords}
use Rattle.c25_module_laws.proofs.Valued.{IsGoodValue}
use Rattle.c25_meaning_common.specs.declared.placed.FileLine.{FileLine}

-- ---- the names and kinds of sections

-- a section's name, and whether it is initialised
abbrev pub Head : Type 0
Head = List ℕ × Bool

abbrev pub head_of : Section → Head
head_of s = (s.name, s.initialised)

abbrev pub heads : List Section → List Head
heads sections = map head_of sections

abbrev pub begins : List Head → Head → Bool
begins [] h = bytes_eq h.0 (46 ∷ 116 ∷ 101 ∷ 120 ∷ 116 ∷ []) && h.1
begins (first ∷ others) h = true

abbrev pub has_head : List Head → List ℕ → Bool
has_head before name = list_any (λ h. bytes_eq h.0 name) before

-- a section of this name and kind may follow these
abbrev pub head_fits : List Head → Head → Bool
head_fits before h = is_section_name h.0 && begins before h && not (has_head before h.0) && ltb (length before) 255

abbrev pub code_by : Option Head → Bool
code_by None = false
code_by (Some h) = h.1

-- whether a section is there and initialised
abbrev pub is_code : List Head → ℕ → Bool
is_code hs k = code_by (slice_get hs k)

-- ---- items

-- operands are no more than there may be, and words are words
abbrev pub IsGoodContent : Content → Type 0
IsGoodContent (Operands t trees) = IsCount t (length trees)
IsGoodContent (Words words) = AreWords words
IsGoodContent (Zeros count) = Unit {0}
IsGoodContent (Exported names) = Unit {0}

-- each item begins where those before it end, so many words being there
abbrev pub AreLaid : (ℕ → ℕ) → List PendingItem → Type 0
AreLaid used [] = Unit {0}
AreLaid used (i ∷ is) = (i.offset ≡ used i.section) × AreLaid (λ k. used k + part k i) is

-- ---- marks

-- the mark of an item that is an instruction
abbrev pub mark_by : PendingItem → Content → List ModuleMark
mark_by i (Operands (target.Instruction f) trees) = record { section = i.section; offset = i.offset; size = size (form_row f) } ∷ []
mark_by i _ = []

-- the mark that an item has in a section
abbrev pub marks_part : ℕ → PendingItem → List ModuleMark
marks_part k i = cond (eqb i.section k) (mark_by i i.content) []

-- the marks that items have in a section
abbrev pub marks_in : ℕ → List PendingItem → List ModuleMark
marks_in k [] = []
marks_in k (i ∷ is) = marks_part k i ++ marks_in k is

-- ---- all of it

-- a section, by its number, with these items, of which these are marked
pub record IsKept (items marked : List PendingItem) (k : ℕ) (s : Section) : Type 0 where
  pub small : s.size ≤ 65536
  pub laid : s.initialised ≡ true → s.size ≡ total k items
  pub marks : s.marks ≡ marks_in k marked
  pub words : s.words ≡ []
  pub relocations : s.relocations ≡ []

-- each section, by its number
abbrev pub Each : (ℕ → Section → Type 0) → List Section → Type 0
Each P sections = (k : ℕ) (s : Section) → slice_get sections k ≡ Some s → P k s

-- a value counts from nothing or from one of so many sections, where it runs or where it is loaded
abbrev pub IsInside : ℕ → Base → Type 0
IsInside n Absolute = Unit {0}
IsInside n (InSection k) = k < n
IsInside n (Loaded k) = k < n
IsInside n (External k) = ⊥

abbrev pub first_names : Definitions → List (List ℕ)
first_names names = map (λ e. e.0) names

-- the sections, where lines go on in this one
pub record AreSections (sections : List Section) (current : ℕ) : Type 0 where
  pub fit : each_fits head_fits [] (heads sections) ≡ true
  pub code : is_code (heads sections) current ≡ true

-- the names that are defined, among so many sections
pub record AreNames (n : ℕ) (names : Definitions) : Type 0 where
  pub symbols : AllByRecursion (λ e. IsSymbol e.0 × IsGoodValue (IsInside n) e.1) names
  pub distinct : are_distinct (first_names names) ≡ true

-- the names that are declared
pub record AreDeclared (declared exported : List (List ℕ)) : Type 0 where
  pub symbols : AllByRecursion IsSymbol declared
  pub distinct : are_distinct declared ≡ true
  pub seen : AllByRecursion (λ d. is_in exported d ≡ true) declared

-- the items, the sections' sizes, and their marks of these items
pub record AreItems (sections : List Section) (items marked : List PendingItem) : Type 0 where
  pub each : Each (IsKept items marked) sections
  pub laid : AreLaid (λ k. 0) items
  pub codes : AllByRecursion (λ i. is_code (heads sections) i.section ≡ true) items
  pub good : AllByRecursion (λ i. IsGoodContent i.content) items

-- the line of an instruction: a record has room for its number, and its file is one of these
pub record IsOrigin (files : List (List ℕ)) (o : FileLine (List ℕ)) : Type 0 where
  pub numbered : is_line_number o.line ≡ true
  pub known : is_in files o.file ≡ true

-- blocks of 1 to 128 words ascend from a place of a section on and end by another
abbrev pub AreBlocks : ℕ → ℕ → ℕ → List Block → Type 0
AreBlocks k low high [] = low ≤ high
AreBlocks k low high (b ∷ bs) = (b.section ≡ k) × (1 ≤ b.size) × (b.size ≤ 128) × (low ≤ b.offset) × AreBlocks k (b.offset + b.size) high bs

-- a section, by its number: each mark has a line in these files, and its blocks lie in it
pub record IsTold (files : List (List ℕ)) (k : ℕ) (s : Section) : Type 0 where
  pub count : length s.origins ≡ length s.marks
  pub origins : AllByRecursion (IsOrigin files) s.origins
  pub blocks : AreBlocks k 0 s.size s.blocks
  pub loaded : s.initialised ≡ true → s.blocks ≡ []

-- the files that hold instructions
pub record AreFiles (files : List (List ℕ)) : Type 0 where
  pub named : AllByRecursion (λ f. is_file_name f ≡ true) files
  pub distinct : are_distinct files ≡ true
  pub few : length files ≤ 65535

-- the files, and the lines and blocks of the sections
pub record AreTold (files : List (List ℕ)) (sections : List Section) : Type 0 where
  pub used : AreFiles files
  pub each : Each (IsTold files) sections

-- all that the lines so far have made, where these items are marked
pub record AllBut (marked : List PendingItem) (p : Progress) : Type 0 where
  pub sections : AreSections p.sections p.current
  pub names : AreNames (length p.sections) p.names
  pub declared : AreDeclared p.declared p.exported
  pub items : AreItems p.sections p.items marked
  pub told : AreTold p.files p.sections

abbrev pub AllKept : Progress → Type 0
AllKept p = AllBut p.items p

-- ---- lists

pub get_set : {X : Type 0} (xs : List X) (i k : ℕ) (y x : X) → slice_get (set xs i y) k ≡ Some x → ((k ≡ i) × (y ≡ x)) ⊎ ((k ≡ i → ⊥) × (slice_get xs k ≡ Some x))
get_set [] i k y x h = absurd (cc)
get_set (z ∷ zs) zero zero y x h = inl (refl, cc)
get_set (z ∷ zs) zero (suc k) y x h = inr (λ e. absurd (omega (arith, e)), h)
get_set (z ∷ zs) (suc i) zero y x h = inr (λ e. absurd (omega (arith, e)), h)
get_set (z ∷ zs) (suc i) (suc k) y x h =
    elim (get_set zs i k y x h) [
      | inl e ↦ inl (ap suc e.0, e.1)
      | inr e ↦ inr (λ q. e.0 (omega (arith, q)), e.1)
    ]

pub get_push : {X : Type 0} (xs : List X) (k : ℕ) (y x : X) → slice_get (xs ++ y ∷ []) k ≡ Some x → ((k ≡ length xs) × (y ≡ x)) ⊎ (slice_get xs k ≡ Some x)
get_push [] zero y x h = inl (refl, cc)
get_push [] (suc k) y x h = absurd (cc)
get_push (z ∷ zs) zero y x h = inr h
get_push (z ∷ zs) (suc k) y x h =
    elim (get_push zs k y x h) [
      | inl e ↦ inl (ap suc e.0, e.1)
      | inr e ↦ inr e
    ]

pub get_before : {X : Type 0} (xs ys : List X) (k : ℕ) (x : X) → slice_get xs k ≡ Some x → slice_get (xs ++ ys) k ≡ Some x
get_before [] ys k x h = absurd (cc)
get_before (z ∷ zs) ys zero x h = h
get_before (z ∷ zs) ys (suc k) x h = get_before zs ys k x h

pub get_last : {X : Type 0} (xs : List X) (y : X) → slice_get (xs ++ y ∷ []) (length xs) ≡ Some y
get_last [] y = refl
get_last (z ∷ zs) y = get_last zs y

pub pushed : {X : Type 0} (P : X → Type 0) (xs : List X) (x : X) → AllByRecursion P xs → P x → AllByRecursion P (xs ++ x ∷ [])
pushed P [] x h p = (p, tt)
pushed P (y ∷ ys) x h p = (h.0, pushed P ys x h.1 p)

pub weaker : {X : Type 0} (P Q : X → Type 0) → ((x : X) → P x → Q x) → (xs : List X) → AllByRecursion P xs → AllByRecursion Q xs
weaker P Q f [] h = tt
weaker P Q f (x ∷ xs) h = (f x h.0, weaker P Q f xs h.1)

-- one item more that fits
pub grown : {A : Type 0} (fits : List A → A → Bool) (before xs : List A) (x : A) → each_fits fits before xs ≡ true → fits (before ++ xs) x ≡ true → each_fits fits before (xs ++ x ∷ []) ≡ true
grown fits before [] x e h = and_from (fits before x) true (ap (λ b. fits b x) (sym (append-nil before)) ∙ h) refl
grown fits before (y ∷ ys) x e h =
    let g = and_parts (fits before y) (each_fits fits (before ++ y ∷ []) ys) e in
    and_from (fits before y) (each_fits fits (before ++ y ∷ []) (ys ++ x ∷ [])) g.0 (grown fits (before ++ y ∷ []) ys x g.1 (ap (λ b. fits b x) (append_assoc before (y ∷ []) ys) ∙ h))

-- ---- sections that change

pub each_changed : (P Q : ℕ → Section → Type 0) (f : Section → Section) (sections : List Section) (i : ℕ) → Each P sections
    → ((s : Section) → slice_get sections i ≡ Some s → P i s → Q i (f s)) → ((k : ℕ) (s : Section) → (k ≡ i → ⊥) → P k s → Q k s) → Each Q (changed f sections i)
each_changed P Q f sections i each here there = on (slice_get sections i) refl
  where
    on : (o : Option Section) → slice_get sections i ≡ o → Each Q (changed_by f sections i o)
    on None is k s at = there k s (λ e. absurd (let q = rw e at at in cc)) (each k s at)
    on (Some t) is k s at =
        elim (get_set sections i k (f t) s at) [
          | inl e ↦ subst (λ (x : Section). Q k x) e.1 (subst (λ (n : ℕ). Q n (f t)) (sym e.0) (here t is (each i t is)))
          | inr e ↦ there k s e.0 (each k s e.1)
        ]

heads_set : (sections : List Section) (i : ℕ) (t y : Section) → slice_get sections i ≡ Some t → head_of y ≡ head_of t → heads (set sections i y) ≡ heads sections
heads_set [] i t y is h = absurd (cc)
heads_set (s ∷ ss) zero t y is h = let q : s ≡ t = cc in ap (λ (x : Head). x ∷ heads ss) (h ∙ sym (ap head_of q))
heads_set (s ∷ ss) (suc i) t y is h = ap (λ (x : List Head). head_of s ∷ x) (heads_set ss i t y is h)

pub heads_changed : (f : Section → Section) (sections : List Section) (i : ℕ) → ((s : Section) → head_of (f s) ≡ head_of s) → heads (changed f sections i) ≡ heads sections
heads_changed f sections i h = on (slice_get sections i) refl
  where
    on : (o : Option Section) → slice_get sections i ≡ o → heads (changed_by f sections i o) ≡ heads sections
    on None is = refl
    on (Some t) is = heads_set sections i t (f t) is (h t)

length_set : (sections : List Section) (i : ℕ) (y : Section) → length (set sections i y) ≡ length sections
length_set [] i y = refl
length_set (s ∷ ss) zero y = refl
length_set (s ∷ ss) (suc i) y = ap suc (length_set ss i y)

pub length_changed : (f : Section → Section) (sections : List Section) (i : ℕ) → length (changed f sections i) ≡ length sections
length_changed f sections i = on (slice_get sections i)
  where
    on : (o : Option Section) → length (changed_by f sections i o) ≡ length sections
    on None = refl
    on (Some t) = length_set sections i (f t)

pub changed_later : (f : Section → Section) (s : Section) (ss : List Section) (i : ℕ) → changed f (s ∷ ss) (suc i) ≡ s ∷ changed f ss i
changed_later f s ss i = on (slice_get ss i)
  where
    on : (o : Option Section) → changed_by f (s ∷ ss) (suc i) o ≡ s ∷ changed_by f ss i o
    on None = refl
    on (Some t) = refl

-- two changes of a section are one
pub changed_twice : (f g : Section → Section) (sections : List Section) (i : ℕ) → changed g (changed f sections i) i ≡ changed (λ s. g (f s)) sections i
changed_twice f g [] i = refl
changed_twice f g (s ∷ ss) zero = refl
changed_twice f g (s ∷ ss) (suc i) =
    ap (λ (xs : List Section). changed g xs (suc i)) (changed_later f s ss i) ∙ changed_later g s (changed f ss i) i
    ∙ ap (λ (xs : List Section). s ∷ xs) (changed_twice f g ss i) ∙ sym (changed_later (λ t. g (f t)) s ss i)

-- ---- items that come

pub total_push : (k : ℕ) (is : List PendingItem) (i : PendingItem) → total k (is ++ i ∷ []) ≡ total k is + part k i
total_push k [] i = omega arith
total_push k (j ∷ js) i = let h = total_push k js i in omega (arith, h)

pub laid_push : (used : ℕ → ℕ) (is : List PendingItem) (i : PendingItem) → AreLaid used is → i.offset ≡ used i.section + total i.section is → AreLaid used (is ++ i ∷ [])
laid_push used [] i h at = (omega (arith, at), tt)
laid_push used (j ∷ js) i h at = (h.0, laid_push (λ k. used k + part k j) js i h.1 (omega (arith, at)))

pub part_here : (k : ℕ) (i : PendingItem) → i.section ≡ k → part k i ≡ words_in i.content
part_here k i e = ap (λ b. cond b (words_in i.content) 0) (eq-eqb i.section k e)

pub part_there : (k : ℕ) (i : PendingItem) → (k ≡ i.section → ⊥) → part k i ≡ 0
part_there k i e = ap (λ b. cond b (words_in i.content) 0) (ne_eqb i.section k (λ q. e (sym q)))

-- ---- marks that come

pub marks_push : (k : ℕ) (is : List PendingItem) (i : PendingItem) → marks_in k (is ++ i ∷ []) ≡ marks_in k is ++ marks_part k i
marks_push k [] i = append-nil (marks_part k i)
marks_push k (j ∷ js) i = ap (λ ms. marks_part k j ++ ms) (marks_push k js i) ∙ sym (append_assoc (marks_part k j) (marks_in k js) (marks_part k i))

pub mark_here : (k : ℕ) (i : PendingItem) → i.section ≡ k → marks_part k i ≡ mark_by i i.content
mark_here k i e = ap (λ b. cond b (mark_by i i.content) []) (eq-eqb i.section k e)

pub mark_there : (k : ℕ) (i : PendingItem) → (k ≡ i.section → ⊥) → marks_part k i ≡ []
mark_there k i e = ap (λ b. cond b (mark_by i i.content) []) (ne_eqb i.section k (λ q. e (sym q)))

no_mark_by : (b : Bool) (i : PendingItem) → mark_by i i.content ≡ [] → cond b (mark_by i i.content) [] ≡ []
no_mark_by true i h = h
no_mark_by false i h = refl

-- an item without a mark
pub marks_same : (k : ℕ) (is : List PendingItem) (i : PendingItem) → mark_by i i.content ≡ [] → marks_in k (is ++ i ∷ []) ≡ marks_in k is
marks_same k is i h = marks_push k is i ∙ ap (λ ms. marks_in k is ++ ms) (no_mark_by (eqb i.section k) i h) ∙ append-nil (marks_in k is)
