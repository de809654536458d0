-- What lines of a layout make: sections, names and items, as they are counted on the side.
use Rattle.std.proofs.Common.{◌≡◌, ℕ, zero, suc, ◌+◌, ◌<◌, Bool, true, false, cond, not, ◌||◌, leb, ltb, List, [], ◌∷◌, ◌++◌, length, map, Option, Some, None, Ok, Err, pos, refl, sym, ap, ◌∙◌, subst, arith}
use Rattle.std.specs.List.{list_any, position, prefix_len, slice_get}
use Rattle.std.specs.Str.{bytes_eq}
use Rattle.std.proofs.lemmas.Bool.{ltb-true, false≢true}
use Rattle.std.proofs.lemmas.List.{map-append}
use Rattle.c25_meaning_assembly.specs.AssemblyLine as line
use Rattle.c25_meaning_assembly.specs.AssemblyLine.{Statement}
use Rattle.c25_meaning_assembly.specs.OperandFields.{target_size}
use Rattle.c25_meaning_assembly.specs.Sections as meaning
use Rattle.c25_meaning_assembly.specs.Sections.{Content, Definitions, Operands, PendingItem, Progress, Section, act, allowed, changed, define, empty_section, few, grow, here, is_called, label, lay, loaded_here, longer, pass, place, section_opened, size_at, size_by, stands, use_file, use_line, with_mark}
use Rattle.c25_meaning_assembly.specs.declared.assembly.Target.{Target}
use Rattle.c25_meaning_assembly.specs.declared.assembly.Target.TheVariants as target
use Rattle.c25_meaning_common.specs.Results.{◌>>=◌}
use Rattle.c25_meaning_common.specs.declared.placed.FileLine.{FileLine}
use Rattle.c25_meaning_language.specs.Tree.{Tree}
use Rattle.c25_meaning_language.specs.declared.statement.FaultKind.TheVariants as fault
use Rattle.c25_meaning_language.specs.declared.value.Base.TheVariants.{Loaded}
use Rattle.c25_meaning_language.specs.declared.value.Value.{Value}
use Rattle.c25_meaning_objects.specs.declared.object.ModuleMark.{ModuleMark}
use Rattle.c25_module_laws.proofs.Kept.{changed_later, get_last}
use Rattle.c25_module_laws.proofs.ResultSteps.{bound, refused}

-- an item without the line that it comes from
pub record Laid : Type 0 where
  pub section : ℕ
  pub offset : ℕ
  pub content : Content

abbrev pub laid_of : PendingItem → Laid
laid_of i = record { section = i.section; offset = i.offset; content = i.content }

-- what lines have made: the names of sections, the current one with its size, the names with their values, and the items
pub record Done : Type 0 where
  pub sections : List (List ℕ)
  pub current : ℕ
  pub size : ℕ
  pub names : Definitions
  pub items : List Laid

-- it is what the progress says
pub record Tracks (p : Progress) (d : Done) : Type 0 where
  pub sections : map (λ (s : Section). s.name) p.sections ≡ d.sections
  pub current : p.current ≡ d.current
  pub section : Section
  pub there : slice_get p.sections p.current ≡ Some section
  pub size : section.size ≡ d.size
  pub names : p.names ≡ d.names
  pub items : map laid_of p.items ≡ d.items

abbrev pub entered : List ℕ → Done → Done
entered name d = record d { sections = d.sections ++ name ∷ []; current = length d.sections; size = 0 }

abbrev pub loaded : List ℕ → Done → Done
loaded name d = record d { names = d.names ++ (name, record { base = Loaded d.current; offset = pos d.size }) ∷ [] }

abbrev pub labelled : Option (List ℕ) → Done → Done
labelled None d = d
labelled (Some name) d = record d { names = d.names ++ (name, place d.current d.size) ∷ [] }

abbrev pub with_put : Target → List Tree → Done → Done
with_put t es d = record d { items = d.items ++ record { section = d.current; offset = d.size; content = Operands t es } ∷ []; size = d.size + target_size t (length es) }

size_is : (p : Progress) (d : Done) → Tracks p d → size_at p.sections p.current ≡ d.size
size_is p d h = ap size_by h.there ∙ h.size

-- ---- sections changed

names_changed : (f : Section → Section) (ss : List Section) (i : ℕ) → ((s : Section) → (f s).name ≡ s.name) → map (λ (s : Section). s.name) (changed f ss i) ≡ map (λ (s : Section). s.name) ss
names_changed f [] i same = refl
names_changed f (s ∷ ss) zero same = ap (λ (n : List ℕ). n ∷ map (λ (s : Section). s.name) ss) (same s)
names_changed f (s ∷ ss) (suc i) same = ap (map (λ (s : Section). s.name)) (changed_later f s ss i) ∙ ap (λ (ns : List (List ℕ)). s.name ∷ ns) (names_changed f ss i same)

get_changed : (f : Section → Section) (ss : List Section) (i : ℕ) (s : Section) → slice_get ss i ≡ Some s → slice_get (changed f ss i) i ≡ Some (f s)
get_changed f [] i s e = absurd (cc)
get_changed f (t ∷ ss) zero s e = let same : t ≡ s = cc in ap (λ (x : Section). Some (f x)) same
get_changed f (t ∷ ss) (suc i) s e = ap (λ (xs : List Section). slice_get xs (suc i)) (changed_later f t ss i) ∙ get_changed f ss i s e

-- ---- a section that is not there yet

found_at : {X : Type 0} (p : X → Bool) (xs : List X) → prefix_len (λ x. not (p x)) xs < length xs → (x : X) × (slice_get xs (prefix_len (λ x. not (p x)) xs) ≡ Some x) × (p x ≡ true)
found_at p [] h = absurd (omega (arith, h))
found_at {X = X} p (x ∷ xs) h = on (p x) refl (found_at p xs) h
  where
    on : (b : Bool) → p x ≡ b → (prefix_len (λ x. not (p x)) xs < length xs → (y : X) × (slice_get xs (prefix_len (λ x. not (p x)) xs) ≡ Some y) × (p y ≡ true))
        → cond (not b) (1 + prefix_len (λ x. not (p x)) xs) 0 < length (x ∷ xs)
        → (y : X) × (slice_get (x ∷ xs) (cond (not b) (1 + prefix_len (λ x. not (p x)) xs) 0) ≡ Some y) × (p y ≡ true)
    on true is go h = (x, refl, is)
    on false is go h =
        let a = go (omega (arith, h)) in
        let n : 1 + prefix_len (λ x. not (p x)) xs ≡ suc (prefix_len (λ x. not (p x)) xs) = omega arith in
        (a.0, rw n a.1, a.2)

position_found : {X : Type 0} (p : X → Bool) (xs : List X) (i : ℕ) → position p xs ≡ Some i → (x : X) × (slice_get xs i ≡ Some x) × (p x ≡ true)
position_found {X = X} p xs i h = on (ltb (prefix_len (λ x. not (p x)) xs) (length xs)) refl h
  where
    on : (b : Bool) → ltb (prefix_len (λ x. not (p x)) xs) (length xs) ≡ b → cond b (Some (prefix_len (λ x. not (p x)) xs)) None ≡ Some i → (x : X) × (slice_get xs i ≡ Some x) × (p x ≡ true)
    on true is h =
        let q : prefix_len (λ x. not (p x)) xs ≡ i = cc in
        subst (λ (k : ℕ). (x : X) × (slice_get xs k ≡ Some x) × (p x ≡ true)) q (found_at p xs (ltb-true (prefix_len (λ x. not (p x)) xs) (length xs) is))
    on false is h = absurd (cc)

among : (name : List ℕ) (ss : List Section) (i : ℕ) (s : Section) → slice_get ss i ≡ Some s → is_called name s ≡ true → list_any (bytes_eq name) (map (λ (s : Section). s.name) ss) ≡ true
among name [] i s e is = absurd (cc)
among name (t ∷ ss) zero s e is =
    let same : t ≡ s = cc in
    ap (λ (b : Bool). b || list_any (bytes_eq name) (map (λ (s : Section). s.name) ss)) (ap (is_called name) same ∙ is)
among name (t ∷ ss) (suc i) s e is = or_later (bytes_eq name t.name) _ (among name ss i s e is)
  where
    or_later : (b c : Bool) → c ≡ true → (b || c) ≡ true
    or_later true c e = refl
    or_later false c e = e

pub names_length : (ss : List Section) → length (map (λ (s : Section). s.name) ss) ≡ length ss
names_length [] = refl
names_length (s ∷ ss) = let rest = names_length ss in omega (arith, rest)

opened_new : (name : List ℕ) (p : Progress) (o : ℕ × Progress) → list_any (bytes_eq name) (map (λ (s : Section). s.name) p.sections) ≡ false → section_opened name true p ≡ Ok o
    → (length p.sections, record p { sections = p.sections ++ empty_section name true ∷ [] }) ≡ o
unfolding section_opened
opened_new name p o fresh e = on (position (is_called name) p.sections) refl e
  where
    on : (i : Option ℕ) → position (is_called name) p.sections ≡ i → meaning.section_opened_by i name true p ≡ Ok o → (length p.sections, record p { sections = p.sections ++ empty_section name true ∷ [] }) ≡ o
    on (Some i) is e = let f = position_found (is_called name) p.sections i is in absurd (false≢true (sym fresh ∙ among name p.sections i f.0 f.1 f.2))
    on None is e = (refused (leb 255 (length p.sections)) fault.TooLarge (length p.sections, record p { sections = p.sections ++ empty_section name true ∷ [] }) o e).1

-- ---- lines

parts_of : (origin : FileLine (List ℕ)) (s : Statement) (p q : Progress) → pass origin s p ≡ Ok q → (m : Progress) × (label s.label p ≡ Ok m) × (act origin s.act m ≡ Ok q)
unfolding pass
parts_of origin s p q e =
    let a = bound (allowed s.act p) (λ _. label s.label p >>= λ m. act origin s.act m >>= λ r. few r >>= λ _. Ok r) q e in
    let b = bound (label s.label p) (λ m. act origin s.act m >>= λ r. few r >>= λ _. Ok r) q a.2 in
    let c = bound (act origin s.act b.0) (λ r. few r >>= λ _. Ok r) q b.2 in
    let d = bound (few c.0) (λ _. Ok c.0) q c.2 in
    let same : c.0 ≡ q = let last = d.2 in cc in
    (b.0, b.1, c.1 ∙ ap Ok same)

pub enter_tracked : (origin : FileLine (List ℕ)) (name : List ℕ) (p q : Progress) (d : Done) → Tracks p d → list_any (bytes_eq name) d.sections ≡ false → pass origin (record { label = None; act = line.Enter name }) p ≡ Ok q → Tracks q (entered name d)
enter_tracked origin name p q d h fresh e =
    let parts = parts_of origin (record { label = None; act = line.Enter name }) p q e in
    let m : p ≡ parts.0 = let one = parts.1 in cc in
    let opened = bound (section_opened name true parts.0) (λ o. Ok (record o.1 { current = o.0 })) q parts.2 in
    let first : section_opened name true p ≡ Ok opened.0 = ap (section_opened name true) m ∙ opened.1 in
    let new = opened_new name p opened.0 (ap (list_any (bytes_eq name)) h.sections ∙ fresh) first in
    let last : record (opened.0).1 { current = (opened.0).0 } ≡ q = let end = opened.2 in cc in
    let made : record p { sections = p.sections ++ empty_section name true ∷ []; current = length p.sections } ≡ q = ap (λ (o : ℕ × Progress). record o.1 { current = o.0 }) new ∙ last in
    let count = sym (names_length p.sections) ∙ ap length h.sections in
    subst (λ (x : Progress). Tracks x (entered name d)) made (record {
      sections = map-append (λ (s : Section). s.name) p.sections (empty_section name true ∷ []) ∙ ap (λ (ns : List (List ℕ)). ns ++ name ∷ []) h.sections;
      current = count;
      section = empty_section name true;
      there = get_last p.sections (empty_section name true);
      size = refl;
      names = h.names;
      items = h.items;
    })

defined_tracked : (name : List ℕ) (v : Value) (p q : Progress) (d : Done) → Tracks p d → define name v p ≡ Ok q → Tracks q (record d { names = d.names ++ (name, v) ∷ [] })
unfolding define
defined_tracked name v p q d h e =
    let made : Progress = record p { names = p.names ++ (name, v) ∷ [] } in
    let a = refused (stands p.names name) fault.Defined made q e in
    subst (λ (x : Progress). Tracks x (record d { names = d.names ++ (name, v) ∷ [] })) a.1 (record {
      sections = h.sections;
      current = h.current;
      section = h.section;
      there = h.there;
      size = h.size;
      names = ap (λ (ns : Definitions). ns ++ (name, v) ∷ []) h.names;
      items = h.items;
    })

pub load_tracked : (origin : FileLine (List ℕ)) (name : List ℕ) (p q : Progress) (d : Done) → Tracks p d → pass origin (record { label = None; act = line.Label name }) p ≡ Ok q → Tracks q (loaded name d)
load_tracked origin name p q d h e =
    let parts = parts_of origin (record { label = None; act = line.Label name }) p q e in
    let m : p ≡ parts.0 = let one = parts.1 in cc in
    let first : define name (loaded_here p) p ≡ Ok q = ap (λ (x : Progress). define name (loaded_here x) x) m ∙ parts.2 in
    let here : loaded_here p ≡ record { base = Loaded d.current; offset = pos d.size } = (λ i. record { base = Loaded (h.current i); offset = pos (size_is p d h i) }) in
    subst (λ (v : Value). Tracks q (record d { names = d.names ++ (name, v) ∷ [] })) here (defined_tracked name (loaded_here p) p q d h first)

pub label_tracked : (l : Option (List ℕ)) (p q : Progress) (d : Done) → Tracks p d → label l p ≡ Ok q → Tracks q (labelled l d)
label_tracked None p q d h e = let same : p ≡ q = cc in subst (λ (x : Progress). Tracks x d) same h
label_tracked (Some name) p q d h e =
    let there : here p ≡ place d.current d.size = (λ i. place (h.current i) (size_is p d h i)) in
    subst (λ (v : Value). Tracks q (record d { names = d.names ++ (name, v) ∷ [] })) there (defined_tracked name (here p) p q d h e)

use_file_tracked : (name : List ℕ) (p q : Progress) (d : Done) → Tracks p d → use_file name p ≡ Ok q → Tracks q d
use_file_tracked name p q d h e = on (meaning.is_in p.files name) (leb 65535 (length p.files) || not (meaning.is_file_name name)) e
  where
    on : (a b : Bool) → cond a (Ok p) (cond b (Err fault.TooLarge) (Ok (record p { files = p.files ++ name ∷ [] }))) ≡ Ok q → Tracks q d
    on true b e = let same : p ≡ q = cc in subst (λ (x : Progress). Tracks x d) same h
    on false true e = absurd (cc)
    on false false e =
        let made : Progress = record p { files = p.files ++ name ∷ [] } in
        let same : made ≡ q = cc in
        subst (λ (x : Progress). Tracks x d) same (record { sections = h.sections; current = h.current; section = h.section; there = h.there; size = h.size; names = h.names; items = h.items })

use_line_tracked : (origin : FileLine (List ℕ)) (p q : Progress) (d : Done) → Tracks p d → use_line origin p ≡ Ok q → Tracks q d
unfolding use_line
use_line_tracked origin p q d h e = on (meaning.is_line_number origin.line) e
  where
    on : (b : Bool) → cond b (use_file origin.file p) (Err fault.TooLarge) ≡ Ok q → Tracks q d
    on true e = use_file_tracked origin.file p q d h e
    on false e = absurd (cc)

mark_tracked : (origin : FileLine (List ℕ)) (t : Target) (section offset n : ℕ) (p q : Progress) (d : Done) → Tracks p d → p.current ≡ section → meaning.mark origin t section offset n p ≡ Ok q → Tracks q d
mark_tracked origin (target.Data w) section offset n p q d h at e = let same : p ≡ q = cc in subst (λ (x : Progress). Tracks x d) same h
mark_tracked origin (target.Instruction f) section offset n p q d h at e =
    let m : ModuleMark = record { section = section; offset = offset; size = n } in
    let u = bound (use_line origin p) (λ r. Ok (record r { sections = changed (with_mark origin m) r.sections section })) q e in
    let r = u.0 in
    let t = use_line_tracked origin p r d h u.1 in
    let same : record r { sections = changed (with_mark origin m) r.sections section } ≡ q = let last = u.2 in cc in
    let here : r.current ≡ section = t.current ∙ sym h.current ∙ at in
    subst (λ (x : Progress). Tracks x d) same (record {
      sections = names_changed (with_mark origin m) r.sections section (λ s. refl) ∙ t.sections;
      current = t.current;
      section = with_mark origin m t.section;
      there = subst (λ (k : ℕ). slice_get (changed (with_mark origin m) r.sections k) r.current ≡ Some (with_mark origin m t.section)) here (get_changed (with_mark origin m) r.sections r.current t.section t.there);
      size = t.size;
      names = t.names;
      items = t.items;
    })

lay_tracked : (origin : FileLine (List ℕ)) (t : Target) (es : List Tree) (p q : Progress) (d : Done) → Tracks p d → lay origin (Operands t es) (target_size t (length es)) p ≡ Ok q → Tracks q (with_put t es d) × (q.current ≡ p.current)
unfolding lay grow
lay_tracked origin t es p q d h e =
    let c = p.current in
    let n = target_size t (length es) in
    let item : PendingItem = record { origin = origin; section = c; offset = size_at p.sections c; content = Operands t es } in
    let made : Progress = record p { sections = changed (longer n) p.sections c; items = p.items ++ item ∷ [] } in
    let a = refused (ltb 65536 (size_at p.sections c + n)) fault.TooLarge made q e in
    let is : laid_of item ≡ record { section = d.current; offset = d.size; content = Operands t es } = (λ i. record { section = h.current i; offset = size_is p d h i; content = Operands t es }) in
    subst (λ (x : Progress). Tracks x (with_put t es d) × (x.current ≡ p.current)) a.1 (
      record {
        sections = names_changed (longer n) p.sections c (λ s. refl) ∙ h.sections;
        current = h.current;
        section = longer n h.section;
        there = get_changed (longer n) p.sections c h.section h.there;
        size = ap (λ (k : ℕ). k + n) h.size;
        names = h.names;
        items = map-append laid_of p.items (item ∷ []) ∙ ap (λ (xs : List Laid). xs ++ laid_of item ∷ []) h.items ∙ ap (λ (x : Laid). d.items ++ x ∷ []) is;
      },
      refl,
    )

pub put_tracked : (origin : FileLine (List ℕ)) (l : Option (List ℕ)) (t : Target) (es : List Tree) (p q : Progress) (d : Done) → Tracks p d → pass origin (record { label = l; act = line.Put t es }) p ≡ Ok q → Tracks q (with_put t es (labelled l d))
put_tracked origin l t es p q d h e =
    let parts = parts_of origin (record { label = l; act = line.Put t es }) p q e in
    let m = parts.0 in
    let named = label_tracked l p m d h parts.1 in
    let n = target_size t (length es) in
    let put = bound (lay origin (Operands t es) n m) (λ r. meaning.mark origin t m.current (size_at m.sections m.current) n r) q parts.2 in
    let laid = lay_tracked origin t es m put.0 (labelled l d) named put.1 in
    mark_tracked origin t m.current (size_at m.sections m.current) n put.0 q (with_put t es (labelled l d)) laid.0 laid.1 put.2
