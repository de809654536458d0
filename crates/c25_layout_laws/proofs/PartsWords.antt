-- A program of the texts of parts has their words.
use Rattle.std.proofs.Common.{◌≡◌, ℕ, zero, suc, ◌+◌, ◌<◌, ◌≤◌, Bool, true, false, cond, List, [], ◌∷◌, ◌++◌, length, map, Option, Some, None, ℤ, pos, ◌+ℤ◌, refl, sym, ap, ◌∙◌, subst, arith, inl, inr}
use Rattle.std.specs.Prelude.{string_bytes, String}
use Rattle.std.specs.FinMap as finite
use Rattle.std.specs.Ordering.{nat_cmp}
use Rattle.std.specs.List.{All, AllByRecursion, Contains, slice_get}
use Rattle.std.specs.Map.{lookup}
use Rattle.std.specs.Str.{bytes_eq}
use Rattle.std.specs.declared.alloc.Global.{Global}
use Rattle.std.proofs.lemmas.Int.{ints}
use Rattle.std.proofs.lemmas.List.{length-append}
use Rattle.std.proofs.lemmas.List.Elements.{All-from_recursion, Contains-append_cases, Contains-append_left, Contains-append_right}
use Rattle.c25_layout.specs.Layout.{IsIn, IsInOne, StandAt, item_words, rows_words}
use Rattle.c25_layout.specs.declared.layout.Item.{Item}
use Rattle.c25_layout.specs.declared.layout.Item.TheVariants as item
use Rattle.c25_layout.specs.declared.layout.Part.{Part}
use Rattle.c25_layout.specs.declared.layout.Row.{Row}
use Rattle.c25_layout.specs.declared.layout.Target as layout
use Rattle.c25_linking_laws.proofs.Members.{behind_in, first_in, from_map, in_front, in_map, nothing_in}
use Rattle.c25_meaning_assembly.specs.Addresses.{words_of}
use Rattle.c25_meaning_assembly.specs.Sections.{Content, Definitions, Exported, Operands, PendingItem, Words, Zeros}
use Rattle.c25_meaning_assembly.specs.declared.assembly.Target.{Target}
use Rattle.c25_meaning_assembly.specs.declared.assembly.Target.TheVariants as target
use Rattle.c25_meaning_expansion.specs.Files.{Files}
use Rattle.c25_meaning_language.specs.Tree.{Tree}
use Rattle.c25_meaning_language.specs.Value.{defined, named_by, predefined}
use Rattle.c25_meaning_language.specs.declared.value.Value.{Value}
use Rattle.c25_meaning_linking.specs.Place.{Place}
use Rattle.c25_meaning_linking.specs.Words.{section_base, section_page, section_run}
use Rattle.c25_meaning_objects.specs.Module.{Contents}
use Rattle.c25_laws.specs.ProgramStatements.{lines_in, numbers_under}
use Rattle.c25_laws.specs.SourceValues.{name_by, name_under, placed}
use Rattle.c25_laws.specs.SourceWords as sources
use Rattle.c25_laws.specs.SourceWords.{HasSourceWord, HasSourceWords}
use Rattle.c25_layout_laws.proofs.PartLines.{PartsRead, ReadsRow, RowsRead, row_read}
use Rattle.c25_layout_laws.proofs.PartsDone.{label_definition, load_definition, parts_items, parts_names, rows_items, rows_names}
use Rattle.c25_layout_laws.proofs.PartsPlaced.{StandsAt}
use Rattle.c25_layout_laws.proofs.RowItems.{IsGiven}
use Rattle.c25_layout_laws.proofs.Tracked.{Laid, laid_of}
use Rattle.c25_layout.specs.Layouts.{IsRow, address_of, named, names_from, names_of, run_address}
use Rattle.c25_layout_laws.specs.Layouts.{HasWordsOf}
use Rattle.c25_layout.specs.Names.{IsMet, IsRowItem}

-- ---- rows that are read

abbrev pub EachRow : (List ℕ → Option ℕ) → List Row → Type 0
EachRow value [] = Unit {0}
EachRow value (r ∷ rows) = IsRow value r × EachRow value rows

abbrev pub EachPart : (List ℕ → Option ℕ) → List Part → Type 0
EachPart value [] = Unit {0}
EachPart value (p ∷ parts) = EachRow value p.rows.items × EachPart value parts

each_row : (value : List ℕ → Option ℕ) (rows : List Row) → All (IsRow value) rows → EachRow value rows
each_row value [] h = tt
each_row value (r ∷ rows) h = (h 0 r (omega arith), each_row value rows (λ k d lt. h (suc k) d (omega (arith, lt))))

pub each_part : (value : List ℕ → Option ℕ) (parts : List Part) → All (λ p. All (IsRow value) p.rows.items) parts → EachPart value parts
each_part value [] h = tt
each_part value (p ∷ parts) h = (each_row value p.rows.items (h 0 p (omega arith)), each_part value parts (λ k d lt. h (suc k) d (omega (arith, lt))))

abbrev pub rows_read : (value : List ℕ → Option ℕ) (rows : List Row) → EachRow value rows → RowsRead rows
rows_read value [] h = tt
rows_read value (r ∷ rows) h = (row_read value r h.0, rows_read value rows h.1)

abbrev pub parts_read : (value : List ℕ → Option ℕ) (parts : List Part) → EachPart value parts → PartsRead parts
parts_read value [] h = tt
parts_read value (p ∷ parts) h = (rows_read value p.rows.items h.0, parts_read value parts h.1)

-- ---- words that stand

stand_each : (image : finite.FinMap nat_cmp ℕ) (ws : List ℕ) (a : ℕ) → ((j word : ℕ) → slice_get ws j ≡ Some word → finite.get image (a + j) ≡ Some word) → StandAt image a ws
stand_each image [] a each = tt
stand_each image (w ∷ ws) a each = (
  ap (finite.get image) (omega arith) ∙ each 0 w refl,
  stand_each image ws (a + 1) (λ j word e. ap (finite.get image) (omega arith) ∙ each (suc j) word e),
)

pub stand_both : (image : finite.FinMap nat_cmp ℕ) (ws vs : List ℕ) (a : ℕ) → StandAt image a ws → StandAt image (a + length ws) vs → StandAt image a (ws ++ vs)
stand_both image [] vs a h k = subst (λ (b : ℕ). StandAt image b vs) (omega arith) k
stand_both image (w ∷ ws) vs a h k = (h.0, stand_both image ws vs (a + 1) h.1 (subst (λ (b : ℕ). StandAt image b vs) (omega arith) k))

within_length : (ws : List ℕ) (j word : ℕ) → slice_get ws j ≡ Some word → j < length ws
within_length [] j word e = absurd (cc)
within_length (w ∷ ws) zero word e = omega arith
within_length (w ∷ ws) (suc j) word e = let rest = within_length ws j word e in omega (arith, rest)

module _ (places : List Place) (m : Contents) where
  abbrev alone : List Contents
  alone = m ∷ []

  -- each part stands in its section
  abbrev pub EachStands : ℕ → List Part → Type 0
  EachStands k [] = Unit {0}
  EachStands k (p ∷ parts) = StandsAt alone places m k p × EachStands (k + 1) parts

  -- ---- names

  -- definitions stand for these addresses
  abbrev pub AreSame : Definitions → List (List ℕ × ℕ) → Type 0
  AreSame [] [] = Unit {0}
  AreSame (d ∷ ds) (n ∷ ns) = (d.0 ≡ n.0) × (placed alone places 0 m (d.1).base (d.1).offset ≡ pos n.1) × AreSame ds ns
  AreSame _ _ = ⊥

  same_both : (ds es : Definitions) (ns os : List (List ℕ × ℕ)) → AreSame ds ns → AreSame es os → AreSame (ds ++ es) (ns ++ os)
  same_both [] es [] os h k = k
  same_both [] es (n ∷ ns) os h k = absurd h
  same_both (d ∷ ds) es [] os h k = absurd h
  same_both (d ∷ ds) es (n ∷ ns) os h k = (h.0, h.1, same_both ds es ns os h.2 k)

  sum_is : (a b c : ℕ) → a ≡ c → pos a +ℤ pos b ≡ pos (c + b)
  sum_is a b c e = omega (arith, ints, e)

  rows_same : (rows : List Row) (k o load run : ℕ) → section_base alone places 0 m k ≡ load → section_run alone places 0 m k ≡ run → AreSame (rows_names k o rows) (names_from (load + o) (run + o) rows)
  rows_same [] k o load run base runs = tt
  rows_same (r ∷ rows) k o load run base runs =
      let n = length (item_words r.item) in
      let rest = rows_same rows k (o + n) load run base runs in
      let here : AreSame (rows_names k (o + n) rows) (names_from (load + o + n) (run + o + n) rows) = subst (λ (b : ℕ). AreSame (rows_names k (o + n) rows) (names_from b (run + o + n) rows)) (omega arith) (subst (λ (b : ℕ). AreSame (rows_names k (o + n) rows) (names_from (load + (o + n)) b rows)) (omega arith) rest) in
      loads r.load_label _ _ (labels r.label _ _ here)
    where
      loads : (l : Option (String Global)) (ds : Definitions) (ns : List (List ℕ × ℕ)) → AreSame ds ns → AreSame (load_definition k o l ++ ds) (named l (load + o) ++ ns)
      loads None ds ns h = h
      loads (Some text) ds ns h = (refl, sum_is (section_base alone places 0 m k) o load base, h)

      labels : (l : Option (String Global)) (ds : Definitions) (ns : List (List ℕ × ℕ)) → AreSame ds ns → AreSame (label_definition k o l ++ ds) (named l (run + o) ++ ns)
      labels None ds ns h = h
      labels (Some text) ds ns h = (refl, sum_is (section_run alone places 0 m k) o run runs, h)

  pub parts_same : (parts : List Part) (k : ℕ) → EachStands k parts → AreSame (parts_names k parts) (names_of parts)
  parts_same [] k h = tt
  parts_same (p ∷ parts) k h =
      let rows = rows_same p.rows.items k 0 p.address (run_address p) (h.0).base (h.0).run in
      let here : AreSame (rows_names k 0 p.rows.items) (names_from p.address (run_address p) p.rows.items) =
      subst (λ (b : ℕ). AreSame (rows_names k 0 p.rows.items) (names_from b (run_address p) p.rows.items)) (omega arith) (subst (λ (b : ℕ). AreSame (rows_names k 0 p.rows.items) (names_from (p.address + 0) b p.rows.items)) (omega arith) rows) in
      same_both (rows_names k 0 p.rows.items) (parts_names (k + 1) parts) (names_from p.address (run_address p) p.rows.items) (names_of parts) here (parts_same parts (k + 1) h.1)

  pub found_same : (ds : Definitions) (ns : List (List ℕ × ℕ)) (t : List ℕ) (a : ℕ) → AreSame ds ns → lookup (bytes_eq t) ns ≡ Some a → (v : Value) × (defined ds t ≡ Some v) × (placed alone places 0 m v.base v.offset ≡ pos a)
  found_same [] [] t a h e = absurd (cc)
  found_same [] (n ∷ ns) t a h e = absurd h
  found_same (d ∷ ds) [] t a h e = absurd h
  found_same (d ∷ ds) (n ∷ ns) t a h e = go (bytes_eq t n.0) (ap (bytes_eq t) h.0) e (found_same ds ns t a h.2)
    where
      go : (b : Bool) → bytes_eq t d.0 ≡ b → cond b (Some n.1) (lookup (bytes_eq t) ns) ≡ Some a
          → (lookup (bytes_eq t) ns ≡ Some a → (v : Value) × (defined ds t ≡ Some v) × (placed alone places 0 m v.base v.offset ≡ pos a))
          → (v : Value) × (defined (d ∷ ds) t ≡ Some v) × (placed alone places 0 m v.base v.offset ≡ pos a)
      go true is e rest = let same : n.1 ≡ a = cc in (d.1, ap (λ (b : Bool). cond b (Some d.1) (defined ds t)) is, h.1 ∙ ap (λ (k : ℕ). pos k) same)
      go false is e rest = let v = rest e in (v.0, ap (λ (b : Bool). cond b (Some d.1) (defined ds t)) is ∙ v.1, v.2)

  module _ (parts : List Part) (names : Definitions) (names_are : names ≡ parts_names 1 parts) (stands : EachStands 1 parts) where
    address_under : (t : List ℕ) (a : ℕ) → predefined t ≡ None → address_of parts t ≡ Some a → name_under alone places 0 m names t ≡ pos a
    address_under t a own e =
        let v = found_same (parts_names 1 parts) (names_of parts) t a (parts_same parts 1 stands) e in
        ap (λ (ds : Definitions). name_by alone places 0 m t (named_by (predefined t) (defined ds t))) names_are
        ∙ ap (λ (o : Option ℕ). name_by alone places 0 m t (named_by o (defined (parts_names 1 parts) t))) own
        ∙ ap (name_by alone places 0 m t) v.1
        ∙ v.2

    met_given : (number : ℕ) (t : layout.Target) → IsMet (address_of parts) number t → name_under alone places 0 m names (string_bytes t.name) +ℤ pos t.after ≡ pos number
    met_given number t h =
        let at = address_under (string_bytes t.name) h.at h.own h.stands in
        ap (λ (z : ℤ). z +ℤ pos t.after) at ∙ sum_is h.at t.after h.at refl ∙ ap (λ (k : ℕ). pos k) (sym h.number_is)

    given : (i : Item) → IsRowItem (address_of parts) i → IsGiven (name_under alone places 0 m names) i
    given (item.Plain i) h = tt
    given (item.Named i t) h = (h.number, h.word, met_given h.number t h.met)
    given (item.Words ws) h = tt
    given (item.Address number t) h = met_given number t h.1

    -- ---- the words of items

    abbrev item_of : Laid → PendingItem
    item_of l = record { origin = record { file = []; line = 0 }; section = l.section; offset = l.offset; content = l.content }

    abbrev words_at : Laid → List ℕ
    words_at l = sources.item_words alone places 0 m names (item_of l) l.content

    laid_words : (i : PendingItem) → sources.item_words alone places 0 m names i i.content ≡ words_at (laid_of i)
    laid_words i = go i.content
      where
        go : (c : Content) → sources.item_words alone places 0 m names i c ≡ sources.item_words alone places 0 m names (record { origin = record { file = []; line = 0 }; section = i.section; offset = i.offset; content = i.content }) c
        go (Operands (target.Instruction f) trees) = refl
        go (Operands (target.Data w) trees) = refl
        go (Words ws) = refl
        go (Zeros n) = refl
        go (Exported ns) = refl

    put_words : (k o : ℕ) (put : Target) (trees : List Tree) → words_at (record { section = k; offset = o; content = Operands put trees }) ≡ words_of put (numbers_under alone places 0 m names k o put trees)
    put_words k o (target.Instruction f) trees = refl
    put_words k o (target.Data w) trees = refl

    row_words : (k o : ℕ) (r : Row) (h : IsRow (address_of parts) r) (x : ReadsRow r) → words_at (record { section = k; offset = o; content = Operands x.item.put x.item.trees }) ≡ item_words r.item
    row_words k o r h x = put_words k o x.item.put x.item.trees ∙ x.item.means alone places 0 m names k o (given r.item h.item)

-- ---- the words of a program

only : {X : Type 0} (x y : X) (n : ℕ) → slice_get (x ∷ []) n ≡ Some y → (n ≡ 0) × (x ≡ y)
only x y zero e = (refl, cc)
only x y (suc n) e = absurd (cc)

in_one : (parts : List Part) (p : Part) (address : ℕ) → Contains parts p → IsIn p address → IsInOne parts address
in_one [] p address c h = absurd (nothing_in p c)
in_one (q ∷ parts) p address c h = elim (in_front q p parts c) [
  | inl same ↦ inl (subst (λ (x : Part). IsIn x address) (sym same) h)
  | inr later ↦ inr (in_one parts p address later h)
]

module _ (places : List Place) (m : Contents) (files : Files) (name : List ℕ) (parts : List Part) (e : EachPart (address_of parts) parts)
    (names_are : (lines_in files name).names ≡ parts_names 1 parts) (items_are : map laid_of (lines_in files name).items ≡ parts_items 1 parts (parts_read (address_of parts) parts e)) (stands : EachStands places m 1 parts)
    (image : finite.FinMap nat_cmp ℕ) (has : HasSourceWords files (name ∷ []) (m ∷ []) places 0 image) where
  abbrev value : List ℕ → Option ℕ
  value = address_of parts

  abbrev own_names : Definitions
  own_names = (lines_in files name).names

  abbrev all_items : List Laid
  all_items = parts_items 1 parts (parts_read value parts e)

  abbrev words_of_laid : Laid → List ℕ
  words_of_laid l = words_at places m parts own_names names_are stands l

  -- ---- the words of parts are there

  row_stands : (p : Part) (k o : ℕ) (r : Row) (h : IsRow value r) → StandsAt (m ∷ []) places m k p → Contains all_items (record { section = k; offset = o; content = Operands (row_read value r h).item.put (row_read value r h).item.trees }) → StandAt image (p.address + o) (item_words r.item)
  row_stands p k o r h at c =
      let x = row_read value r h in
      let l : Laid = record { section = k; offset = o; content = Operands x.item.put x.item.trees } in
      let i = from_map laid_of (lines_in files name).items l (subst (λ (ls : List Laid). Contains ls l) (sym items_are) c) in
      let words = laid_words places m parts own_names names_are stands i.0 ∙ ap words_of_laid i.2 ∙ row_words places m parts own_names names_are stands k o r h x in
      let section : (i.0).section ≡ k = ap (λ (l : Laid). l.section) i.2 in
      let offset : (i.0).offset ≡ o = ap (λ (l : Laid). l.offset) i.2 in
      let base = ap (section_base (m ∷ []) places 0 m) section ∙ at.base in
      stand_each image (item_words r.item) (p.address + o)
      (λ j word there.
      (has (p.address + o + j) word).1 (record {
        number = 0;
        name = name;
        owner = m;
        item = i.0;
        within = j;
        name_is = refl;
        owner_is = refl;
        item_is = i.1;
        word_is = ap (λ (ws : List ℕ). slice_get ws j) words ∙ there;
        page_is = sym (ap (section_page places m) section ∙ at.page);
        address_is = omega (arith, base, offset);
      }))

  rows_stand : (p : Part) (k o : ℕ) (rows : List Row) (h : EachRow value rows) → StandsAt (m ∷ []) places m k p → ((l : Laid) → Contains (rows_items k o rows (rows_read value rows h)) l → Contains all_items l) → StandAt image (p.address + o) (rows_words rows)
  rows_stand p k o [] h at within = tt
  rows_stand p k o (r ∷ rows) h at within =
      let l : Laid = record { section = k; offset = o; content = Operands (row_read value r h.0).item.put (row_read value r h.0).item.trees } in
      let others = rows_items k (o + length (item_words r.item)) rows (rows_read value rows h.1) in
      let rest = rows_stand p k (o + length (item_words r.item)) rows h.1 at (λ x c. within x (behind_in l x others c)) in
      stand_both image (item_words r.item) (rows_words rows) (p.address + o) (row_stands p k o r h.0 at (within l (first_in l others)))
      (subst (λ (b : ℕ). StandAt image b (rows_words rows)) (omega arith) rest)

  parts_stand : (k : ℕ) (ps : List Part) (h : EachPart value ps) → EachStands places m k ps → ((l : Laid) → Contains (parts_items k ps (parts_read value ps h)) l → Contains all_items l)
      → AllByRecursion (λ (p : Part). StandAt image p.address (rows_words p.rows.items)) ps
  parts_stand k [] h at within = tt
  parts_stand k (p ∷ ps) h at within =
      let own = rows_items k 0 p.rows.items (rows_read value p.rows.items h.0) in
      let others = parts_items (k + 1) ps (parts_read value ps h.1) in (
        subst (λ (b : ℕ). StandAt image b (rows_words p.rows.items)) (omega arith) (rows_stand p k 0 p.rows.items h.0 at.0 (λ l c. within l (Contains-append_left own others l c))),
        parts_stand (k + 1) ps h.1 at.1 (λ l c. within l (Contains-append_right own others l c)),
      )

  -- ---- there are no others

  rows_found : (k o : ℕ) (rows : List Row) (h : EachRow value rows) (l : Laid) → Contains (rows_items k o rows (rows_read value rows h)) l → (l.section ≡ k) × (l.offset + length (words_of_laid l) ≤ o + length (rows_words rows))
  rows_found k o [] h l c = absurd (nothing_in l c)
  rows_found k o (r ∷ rows) h l c =
      let first : Laid = record { section = k; offset = o; content = Operands (row_read value r h.0).item.put (row_read value r h.0).item.trees } in
      let others = rows_items k (o + length (item_words r.item)) rows (rows_read value rows h.1) in
      let all = length-append (item_words r.item) (rows_words rows) in
      elim (in_front first l others c) [
        | inl same ↦
            let section = ap (λ (x : Laid). x.section) same in
            let offset = ap (λ (x : Laid). x.offset) same in
            let size = ap (λ (x : Laid). length (words_of_laid x)) same in
            let own = ap length (row_words places m parts own_names names_are stands k o r h.0 (row_read value r h.0)) in
            (sym section, omega (arith, offset, size, own, all))
        | inr later ↦ let rest = rows_found k (o + length (item_words r.item)) rows h.1 l later in let few = rest.1 in (rest.0, omega (arith, few, all))
      ]

  -- the part of an item
  record IsOf (ps : List Part) (l : Laid) : Type 0 where
    part : Part
    among : Contains ps part
    base : section_base (m ∷ []) places 0 m l.section ≡ part.address
    page : section_page places m l.section ≡ 0
    inside : l.offset + length (words_of_laid l) ≤ length (rows_words part.rows.items)

  parts_found : (k : ℕ) (ps : List Part) (h : EachPart value ps) → EachStands places m k ps → (l : Laid) → Contains (parts_items k ps (parts_read value ps h)) l → IsOf ps l
  parts_found k [] h at l c = absurd (nothing_in l c)
  parts_found k (p ∷ ps) h at l c =
      elim (Contains-append_cases (rows_items k 0 p.rows.items (rows_read value p.rows.items h.0)) (parts_items (k + 1) ps (parts_read value ps h.1)) l c) [
        | inl own ↦
            let found = rows_found k 0 p.rows.items h.0 l own in
            let few = found.1 in
            record { part = p; among = first_in p ps; base = ap (section_base (m ∷ []) places 0 m) found.0 ∙ (at.0).base; page = ap (section_page places m) found.0 ∙ (at.0).page; inside = omega (arith, few) }
        | inr later ↦ let rest = parts_found (k + 1) ps h.1 at.1 l later in record { part = rest.part; among = behind_in p rest.part ps rest.among; base = rest.base; page = rest.page; inside = rest.inside }
      ]

  none_else : (address word : ℕ) → finite.get image address ≡ Some word → IsInOne parts address
  none_else address word there =
      let s = (has address word).0 there in
      let n = only name s.name s.number s.name_is in
      let o = only m s.owner s.number s.owner_is in
      let i = s.item in
      let item : Contains (lines_in files name).items i = subst (λ (x : List ℕ). Contains (lines_in files x).items i) (sym n.1) s.item_is in
      let named : slice_get (sources.item_words (m ∷ []) places s.number s.owner own_names i i.content) s.within ≡ Some word =
      subst (λ (x : List ℕ). slice_get (sources.item_words (m ∷ []) places s.number s.owner (lines_in files x).names i i.content) s.within ≡ Some word) (sym n.1) s.word_is in
      let owned : slice_get (sources.item_words (m ∷ []) places s.number m own_names i i.content) s.within ≡ Some word =
      subst (λ (x : Contents). slice_get (sources.item_words (m ∷ []) places s.number x own_names i i.content) s.within ≡ Some word) (sym o.1) named in
      let words : slice_get (sources.item_words (m ∷ []) places 0 m own_names i i.content) s.within ≡ Some word =
      subst (λ (x : ℕ). slice_get (sources.item_words (m ∷ []) places x m own_names i i.content) s.within ≡ Some word) n.0 owned in
      let within = within_length (words_of_laid (laid_of i)) s.within word (sym (ap (λ (ws : List ℕ). slice_get ws s.within) (laid_words places m parts own_names names_are stands i)) ∙ words) in
      let f = parts_found 1 parts e stands (laid_of i) (subst (λ (ls : List Laid). Contains ls (laid_of i)) items_are (in_map laid_of (lines_in files name).items i item)) in
      let base : section_base (m ∷ []) places s.number s.owner i.section ≡ (f.part).address =
      ap (λ (x : Contents). section_base (m ∷ []) places s.number x i.section) (sym o.1) ∙ ap (λ (k : ℕ). section_base (m ∷ []) places k m i.section) n.0 ∙ f.base in
      let at = s.address_is in
      let inside = f.inside in
      in_one parts f.part address f.among (omega (arith, at, base), omega (arith, at, base, within, inside))

  pub words_are : HasWordsOf parts image
  words_are = record { stand = All-from_recursion (λ (p : Part). StandAt image p.address (rows_words p.rows.items)) parts (parts_stand 1 parts e stands (λ l c. c)); none_else = none_else }

  -- data memory has none
  pub no_store : (store : finite.FinMap nat_cmp ℕ) → HasSourceWords files (name ∷ []) (m ∷ []) places 1 store → (address word : ℕ) → finite.get store address ≡ Some word → ⊥
  no_store store stored address word there =
      let s = (stored address word).0 there in
      let n = only name s.name s.number s.name_is in
      let o = only m s.owner s.number s.owner_is in
      let i = s.item in
      let item : Contains (lines_in files name).items i = subst (λ (x : List ℕ). Contains (lines_in files x).items i) (sym n.1) s.item_is in
      let f = parts_found 1 parts e stands (laid_of i) (subst (λ (ls : List Laid). Contains ls (laid_of i)) items_are (in_map laid_of (lines_in files name).items i item)) in
      let page : section_page places s.owner i.section ≡ 0 = ap (λ (x : Contents). section_page places x i.section) (sym o.1) ∙ f.page in
      let other = s.page_is in
      omega (arith, page, other)
