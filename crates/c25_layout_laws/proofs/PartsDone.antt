-- What the lines of parts make: a section each, with the names and the items of its rows.
use Rattle.std.proofs.Common.{◌≡◌, ◌⊎◌, ℕ, ◌+◌, ◌<◌, ◌≤◌, Bool, true, false, List, [], ◌∷◌, ◌++◌, length, codes, Option, Some, None, pos, refl, sym, ap, ◌∙◌, subst, arith, inl, inr, append_assoc, append-nil}
use Rattle.std.specs.Prelude.{string_bytes, String}
use Rattle.std.specs.List.{list_any}
use Rattle.std.specs.Str.{bytes_eq}
use Rattle.std.specs.declared.alloc.Global.{Global}
use Rattle.std.proofs.lemmas.List.{length-append}
use Rattle.std.proofs.lemmas.Slice.Eq.{bytes_eq-Decides}
use Rattle.c25_layout.specs.Layout.{Follow, item_words, rows_words}
use Rattle.c25_layout.specs.declared.layout.Part.{Part}
use Rattle.c25_layout.specs.declared.layout.Row.{Row}
use Rattle.c25_meaning_assembly.specs.OperandFields.{target_size}
use Rattle.c25_meaning_assembly.specs.Sections.{Definitions, Operands, Progress, empty_section, place, start}
use Rattle.c25_meaning_common.specs.Digits.{four_digits}
use Rattle.c25_meaning_language.specs.Constant.{constant_value}
use Rattle.c25_meaning_language.specs.declared.value.Base.TheVariants.{Loaded}
use Rattle.c25_print_laws.proofs.Numerals.{word_constant}
use Rattle.c25_layout_laws.proofs.PartLines.{PartsRead, ReadsRow, RowsRead, label_of, load_statements, main_statement, part_statements, parts_statements, row_statements, rows_statements}
use Rattle.c25_layout_laws.specs.Listed.{section_of}
use Rattle.c25_layout_laws.proofs.PlainSources.{Passes, passes_both}
use Rattle.c25_layout_laws.proofs.Tracked.{Done, Laid, Tracks, enter_tracked, entered, labelled, load_tracked, loaded, put_tracked, with_put}

-- ---- rows

abbrev pub load_done : Option (String Global) → Done → Done
load_done None d = d
load_done (Some text) d = loaded (string_bytes text) d

abbrev pub row_done : (r : Row) → ReadsRow r → Done → Done
row_done r x d = with_put x.item.put x.item.trees (labelled (label_of r.label) (load_done r.load_label d))

abbrev pub rows_done : (rows : List Row) → RowsRead rows → Done → Done
rows_done [] x d = d
rows_done (r ∷ rows) x d = rows_done rows x.1 (row_done r x.0 d)

load_passes : (l : Option (String Global)) (p q : Progress) (d : Done) → Tracks p d → Passes (load_statements l) p q → Tracks q (load_done l d)
load_passes None p q d h same = subst (λ (x : Progress). Tracks x d) same h
load_passes (Some text) p q d h (origin, r, passed, same) = subst (λ (x : Progress). Tracks x (loaded (string_bytes text) d)) same (load_tracked origin (string_bytes text) p r d h passed)

row_passes : (r : Row) (x : ReadsRow r) (p q : Progress) (d : Done) → Tracks p d → Passes (row_statements r x) p q → Tracks q (row_done r x d)
row_passes r x p q d h passes =
    let both = passes_both (load_statements r.load_label) (main_statement r x ∷ []) p q passes in
    let m = both.0 in
    let first = load_passes r.load_label p m d h both.1 in
    go m first both.2
  where
    go : (m : Progress) → Tracks m (load_done r.load_label d) → Passes (main_statement r x ∷ []) m q → Tracks q (row_done r x d)
    go m first (origin, n, passed, same) = subst (λ (y : Progress). Tracks y (row_done r x d)) same (put_tracked origin (label_of r.label) x.item.put x.item.trees m n (load_done r.load_label d) first passed)

rows_pass : (rows : List Row) (x : RowsRead rows) (p q : Progress) (d : Done) → Tracks p d → Passes (rows_statements rows x) p q → Tracks q (rows_done rows x d)
rows_pass [] x p q d h same = subst (λ (y : Progress). Tracks y d) same h
rows_pass (r ∷ rows) x p q d h passes =
    let both = passes_both (row_statements r x.0) (rows_statements rows x.1) p q passes in
    rows_pass rows x.1 both.0 q (row_done r x.0 d) (row_passes r x.0 p both.0 d h both.1) both.2

-- ---- parts

abbrev pub part_done : (p : Part) → RowsRead p.rows.items → Done → Done
part_done p x d = rows_done p.rows.items x (entered (section_of p.address) d)

abbrev pub parts_done : (parts : List Part) → PartsRead parts → Done → Done
parts_done [] x d = d
parts_done (p ∷ parts) x d = parts_done parts x.1 (part_done p x.0 d)

load_sections : (l : Option (String Global)) (d : Done) → (load_done l d).sections ≡ d.sections
load_sections None d = refl
load_sections (Some text) d = refl

label_sections : (l : Option (List ℕ)) (d : Done) → (labelled l d).sections ≡ d.sections
label_sections None d = refl
label_sections (Some text) d = refl

pub rows_sections : (rows : List Row) (x : RowsRead rows) (d : Done) → (rows_done rows x d).sections ≡ d.sections
rows_sections [] x d = refl
rows_sections (r ∷ rows) x d = rows_sections rows x.1 (row_done r x.0 d) ∙ label_sections (label_of r.label) (load_done r.load_label d) ∙ load_sections r.load_label d

-- the names of sections so far are those of parts before an address, and `.text`
abbrev pub AreBelow : ℕ → List (List ℕ) → Type 0
AreBelow from [] = Unit {0}
AreBelow from (s ∷ ss) = ((s ≡ codes ".text") ⊎ ((a : ℕ) × (a < from) × (a < 65536) × (s ≡ section_of a))) × AreBelow from ss

pub below_more : (from next : ℕ) (ss : List (List ℕ)) → from ≤ next → AreBelow from ss → AreBelow next ss
below_more from next [] le h = tt
below_more from next (s ∷ ss) le h = (go h.0, below_more from next ss le h.1)
  where
    go : (s ≡ codes ".text") ⊎ ((a : ℕ) × (a < from) × (a < 65536) × (s ≡ section_of a)) → (s ≡ codes ".text") ⊎ ((a : ℕ) × (a < next) × (a < 65536) × (s ≡ section_of a))
    go (inl e) = inl e
    go (inr (a, less, small, e)) = inr (a, omega (arith, less, le), small, e)

pub below_push : (from a : ℕ) (ss : List (List ℕ)) → a < from → a < 65536 → AreBelow from ss → AreBelow from (ss ++ section_of a ∷ [])
below_push from a [] less small h = (inr (a, less, small, refl), tt)
below_push from a (s ∷ ss) less small h = (h.0, below_push from a ss less small h.1)

-- an address is known by its digits
pub one_address : (a b : ℕ) → a < 65536 → b < 65536 → section_of a ≡ section_of b → a ≡ b
one_address a b low high e =
    let digits : four_digits a ≡ four_digits b = cc in
    sym (word_constant a low).value ∙ ap (λ (ds : List ℕ). constant_value (codes "0" ++ ds ++ codes "h")) digits ∙ (word_constant b high).value

pub no_text : (a : ℕ) → section_of a ≡ codes ".text" → ⊥
no_text a e = cc

pub differ : (xs ys : List ℕ) → (xs ≡ ys → ⊥) → bytes_eq xs ys ≡ false
differ xs ys apart = on (bytes_eq xs ys) refl
  where
    on : (b : Bool) → bytes_eq xs ys ≡ b → b ≡ false
    on true e = absurd (apart ((bytes_eq-Decides xs ys).0 e))
    on false e = refl

pub fresh : (a from : ℕ) (ss : List (List ℕ)) → from ≤ a → a < 65536 → AreBelow from ss → list_any (bytes_eq (section_of a)) ss ≡ false
fresh a from [] le small h = refl
fresh a from (s ∷ ss) le small h = rw (go h.0) (fresh a from ss le small h.1)
  where
    go : (s ≡ codes ".text") ⊎ ((b : ℕ) × (b < from) × (b < 65536) × (s ≡ section_of b)) → bytes_eq (section_of a) s ≡ false
    go (inl e) = differ (section_of a) s (λ same. no_text a (same ∙ e))
    go (inr (b, less, low, e)) = differ (section_of a) s (λ same. let q = one_address a b small low (same ∙ e) in omega (arith, q, less, le))

parts_pass : (parts : List Part) (x : PartsRead parts) (from : ℕ) (p q : Progress) (d : Done) → Follow from parts → AreBelow from d.sections → Tracks p d → Passes (parts_statements parts x) p q → Tracks q (parts_done parts x d)
parts_pass [] x from p q d follow below h same = subst (λ (y : Progress). Tracks y d) same h
parts_pass (t ∷ parts) x from p q d (low, some, ends, follow) below h passes =
    let both = passes_both (part_statements t x.0) (parts_statements parts x.1) p q passes in
    let m = both.0 in
    let small : t.address < 65536 = omega (arith, some, ends) in
    let part : Tracks m (part_done t x.0 d) = go m small both.1 in
    let next = t.address + length (rows_words t.rows.items) in
    let sections : (part_done t x.0 d).sections ≡ d.sections ++ section_of t.address ∷ [] = rows_sections t.rows.items x.0 (entered (section_of t.address) d) in
    let below_next : AreBelow next (part_done t x.0 d).sections =
    subst (AreBelow next) (sym sections) (below_push next t.address d.sections (omega (arith, some)) small (below_more from next d.sections (omega (arith, low)) below)) in
    parts_pass parts x.1 next m q (part_done t x.0 d) follow below_next part both.2
  where
    go : (m : Progress) → t.address < 65536 → Passes (part_statements t x.0) p m → Tracks m (part_done t x.0 d)
    go m small (origin, n, passed, rest) =
        rows_pass t.rows.items x.0 n m (entered (section_of t.address) d) (enter_tracked origin (section_of t.address) p n d h (fresh t.address from d.sections low small below) passed) rest

abbrev pub begun : Done
begun = record { sections = codes ".text" ∷ []; current = 0; size = 0; names = []; items = [] }

pub all_pass : (parts : List Part) (x : PartsRead parts) (q : Progress) → Follow 0 parts → Passes (parts_statements parts x) start q → Tracks q (parts_done parts x begun)
all_pass parts x q follow passes =
    parts_pass parts x 0 start q begun follow (inl refl, tt) (record { sections = refl; current = refl; section = empty_section (codes ".text") true; there = refl; size = refl; names = refl; items = refl }) passes

-- ---- items

abbrev pub rows_items : ℕ → ℕ → (rows : List Row) → RowsRead rows → List Laid
rows_items section offset [] x = []
rows_items section offset (r ∷ rows) x =
    record { section = section; offset = offset; content = Operands x.0.item.put x.0.item.trees } ∷ rows_items section (offset + length (item_words r.item)) rows x.1

abbrev pub parts_items : ℕ → (parts : List Part) → PartsRead parts → List Laid
parts_items section [] x = []
parts_items section (p ∷ parts) x = rows_items section 0 p.rows.items x.0 ++ parts_items (section + 1) parts x.1

-- ---- names

abbrev pub load_definition : ℕ → ℕ → Option (String Global) → Definitions
load_definition section offset None = []
load_definition section offset (Some text) = (string_bytes text, record { base = Loaded section; offset = pos offset }) ∷ []

abbrev pub label_definition : ℕ → ℕ → Option (String Global) → Definitions
label_definition section offset None = []
label_definition section offset (Some text) = (string_bytes text, place section offset) ∷ []

abbrev pub rows_names : ℕ → ℕ → List Row → Definitions
rows_names section offset [] = []
rows_names section offset (r ∷ rows) = load_definition section offset r.load_label ++ (label_definition section offset r.label ++ rows_names section (offset + length (item_words r.item)) rows)

abbrev pub parts_names : ℕ → List Part → Definitions
parts_names section [] = []
parts_names section (p ∷ parts) = rows_names section 0 p.rows.items ++ parts_names (section + 1) parts

-- what a list of rows has added
record Adds (d e : Done) (items : List Laid) (names : Definitions) : Type 0 where
  items_are : e.items ≡ d.items ++ items
  names_are : e.names ≡ d.names ++ names

load_adds : (l : Option (String Global)) (d : Done) → (load_done l d).names ≡ d.names ++ load_definition d.current d.size l
load_adds None d = sym (append-nil d.names)
load_adds (Some text) d = refl

label_adds : (l : Option (String Global)) (d : Done) → (labelled (label_of l) d).names ≡ d.names ++ label_definition d.current d.size l
label_adds None d = sym (append-nil d.names)
label_adds (Some text) d = refl

-- where a row leaves the section, and what it had before
pub record IsSame (d e : Done) : Type 0 where
  pub current : e.current ≡ d.current
  pub size : e.size ≡ d.size
  pub items : e.items ≡ d.items

pub load_same : (l : Option (String Global)) (d : Done) → IsSame d (load_done l d)
load_same None d = record { current = refl; size = refl; items = refl }
load_same (Some text) d = record { current = refl; size = refl; items = refl }

pub label_same : (l : Option (String Global)) (d : Done) → IsSame d (labelled (label_of l) d)
label_same None d = record { current = refl; size = refl; items = refl }
label_same (Some text) d = record { current = refl; size = refl; items = refl }

rows_add : (rows : List Row) (x : RowsRead rows) (d : Done) (section offset : ℕ) → d.current ≡ section → d.size ≡ offset → Adds d (rows_done rows x d) (rows_items section offset rows x) (rows_names section offset rows)
rows_add [] x d section offset at size = record { items_are = sym (append-nil d.items); names_are = sym (append-nil d.names) }
rows_add (r ∷ rows) x d section offset at size =
    let i = x.0.item in
    let l = load_done r.load_label d in
    let m = labelled (label_of r.label) l in
    let load = load_same r.load_label d in
    let label = label_same r.label l in
    let current : m.current ≡ section = label.current ∙ load.current ∙ at in
    let here : m.size ≡ offset = label.size ∙ load.size ∙ size in
    let next : m.size + target_size i.put (length i.trees) ≡ offset + length (item_words r.item) = (λ j. here j + i.sized j) in
    let rest = rows_add rows x.1 (row_done r x.0 d) section (offset + length (item_words r.item)) current next in
    let item : Laid = record { section = section; offset = offset; content = Operands i.put i.trees } in
    let others = rows_items section (offset + length (item_words r.item)) rows x.1 in
    let names = rows_names section (offset + length (item_words r.item)) rows in
    let load_names = load_definition section offset r.load_label in
    let label_names = label_definition section offset r.label in
    record {
      items_are = rest.items_are
          ∙ (λ j. (label.items j) ++ record { section = current j; offset = here j; content = Operands i.put i.trees } ∷ [] ++ others)
          ∙ (λ j. (load.items j) ++ item ∷ [] ++ others)
          ∙ append_assoc d.items (item ∷ []) others;
      names_are = rest.names_are
          ∙ ap (λ (ns : Definitions). ns ++ names) (label_adds r.label l)
          ∙ (λ j. (load_adds r.load_label d j ++ label_definition ((load.current ∙ at) j) ((load.size ∙ size) j) r.label) ++ names)
          ∙ (λ j. ((d.names ++ load_definition (at j) (size j) r.load_label) ++ label_names) ++ names)
          ∙ append_assoc (d.names ++ load_names) label_names names
          ∙ append_assoc d.names load_names (label_names ++ names);
    }

parts_add : (parts : List Part) (x : PartsRead parts) (d : Done) (section : ℕ) → length d.sections ≡ section → Adds d (parts_done parts x d) (parts_items section parts x) (parts_names section parts)
parts_add [] x d section count = record { items_are = sym (append-nil d.items); names_are = sym (append-nil d.names) }
parts_add (p ∷ parts) x d section count =
    let e = entered (section_of p.address) d in
    let one = rows_add p.rows.items x.0 e section 0 count refl in
    let sections = ap length (rows_sections p.rows.items x.0 e) in
    let more = length-append d.sections (section_of p.address ∷ []) in
    let rest = parts_add parts x.1 (part_done p x.0 d) (section + 1) (omega (arith, sections, more, count)) in
    record {
      items_are = rest.items_are ∙ ap (λ (is : List Laid). is ++ parts_items (section + 1) parts x.1) one.items_are ∙ append_assoc d.items (rows_items section 0 p.rows.items x.0) (parts_items (section + 1) parts x.1);
      names_are = rest.names_are ∙ ap (λ (ns : Definitions). ns ++ parts_names (section + 1) parts) one.names_are ∙ append_assoc d.names (rows_names section 0 p.rows.items) (parts_names (section + 1) parts);
    }

abbrev pub sections_of : List Part → List (List ℕ)
sections_of [] = []
sections_of (p ∷ parts) = section_of p.address ∷ sections_of parts

parts_sections : (parts : List Part) (x : PartsRead parts) (d : Done) → (parts_done parts x d).sections ≡ d.sections ++ sections_of parts
parts_sections [] x d = sym (append-nil d.sections)
parts_sections (p ∷ parts) x d =
    parts_sections parts x.1 (part_done p x.0 d)
    ∙ ap (λ (ss : List (List ℕ)). ss ++ sections_of parts) (rows_sections p.rows.items x.0 (entered (section_of p.address) d))
    ∙ append_assoc d.sections (section_of p.address ∷ []) (sections_of parts)

-- all that the lines of parts make
pub all_items : (parts : List Part) (x : PartsRead parts) → (parts_done parts x begun).items ≡ parts_items 1 parts x
all_items parts x = (parts_add parts x begun 1 refl).items_are

pub all_names : (parts : List Part) (x : PartsRead parts) → (parts_done parts x begun).names ≡ parts_names 1 parts
all_names parts x = (parts_add parts x begun 1 refl).names_are

pub all_sections : (parts : List Part) (x : PartsRead parts) → (parts_done parts x begun).sections ≡ codes ".text" ∷ sections_of parts
all_sections parts x = parts_sections parts x begun
