-- The source of a buildable layout is assembled.
use Rattle.std.proofs.Common.{◌≡◌, ℕ, ◌+◌, ◌≤◌, Bool, true, false, cond, List, [], ◌∷◌, ◌++◌, length, map, Option, Some, None, Result, Ok, refl, sym, ap, ◌∙◌, subst, arith, append-nil}
use Rattle.std.specs.Prelude.{string_bytes, String}
use Rattle.std.specs.Map.{lookup}
use Rattle.std.specs.Str.{bytes_eq}
use Rattle.std.specs.declared.alloc.Global.{Global}
use Rattle.std.proofs.lemmas.List.{length-append}
use Rattle.c25_layout.specs.Layout.{Follow, item_words, rows_words}
use Rattle.c25_layout.specs.SourceText.{source_text}
use Rattle.c25_layout.specs.declared.layout.Item.{Item}
use Rattle.c25_layout.specs.declared.layout.Item.TheVariants as item
use Rattle.c25_layout.specs.declared.layout.Part.{Part}
use Rattle.c25_layout.specs.declared.layout.Row.{Row}
use Rattle.c25_layout.specs.declared.layout.Target as layout
use Rattle.c25_meaning_assembly.specs.Addresses.{OperandValues}
use Rattle.c25_meaning_assembly.specs.Emission as emission
use Rattle.c25_meaning_assembly.specs.Emission.{at_origin, emit, emit_all, finished, module_with, names_with, table_at, with_operand_values}
use Rattle.c25_meaning_assembly.specs.ModuleOfSource.{Assembled, LinesSoFar, assembled, completed, passed_from}
use Rattle.c25_meaning_expansion.specs.ExpansionRuns.{start_of}
use Rattle.c25_meaning_assembly.specs.Sections.{Definitions, Operands, PendingItem, Progress, Section, is_file_name}
use Rattle.c25_meaning_common.specs.Results.{◌>>=◌}
use Rattle.c25_meaning_expansion.specs.Files.{Files, text_named}
use Rattle.c25_meaning_language.specs.ExpansionFault.{ExpansionFault}
use Rattle.c25_meaning_language.specs.Value.{defined, named_by}
use Rattle.c25_meaning_language.specs.declared.statement.FaultKind.{FaultKind}
use Rattle.c25_meaning_language.specs.declared.value.Value.{Value}
use Rattle.c25_meaning_objects.specs.Module.{Contents}
use Rattle.c25_laws.specs.ProgramStatements.{lines_of}
use Rattle.c25_layout_laws.proofs.LayoutWords.{parts_few}
use Rattle.c25_layout_laws.proofs.PartLines.{ReadsRow, parts_are_read, parts_lines, parts_statements, row_read, source_text_is}
use Rattle.c25_layout_laws.proofs.PartsDone.{all_items, all_names, all_pass, begun, label_definition, load_definition, parts_done, parts_items, parts_names, rows_items, rows_names}
use Rattle.c25_layout_laws.proofs.PartsPassable.{layout_passable}
use Rattle.c25_layout_laws.proofs.PartsWords.{EachPart, EachRow, each_part, parts_read, rows_read}
use Rattle.c25_layout_laws.proofs.Passable.{IsGood}
use Rattle.c25_layout_laws.proofs.PlainSources.{source_is_passed, source_passes}
use Rattle.c25_layout_laws.proofs.Taken.{ArePlaced, IsSmallPlace, StandsFor}
use Rattle.c25_layout_laws.proofs.Tracked.{Laid, Tracks, laid_of}
use Rattle.c25_layout.specs.Buildable.{IsAssemblable}
use Rattle.c25_layout.specs.Layouts.{IsRow, address_of, named, names_from, names_of, run_address}
use Rattle.c25_layout.specs.Names.{IsMet, IsRowItem}

-- ---- names stand for places

abbrev ArePlaces : Definitions → List (List ℕ × ℕ) → Type 0
ArePlaces [] [] = Unit {0}
ArePlaces (d ∷ ds) (n ∷ ns) = (d.0 ≡ n.0) × IsSmallPlace d.1 × ArePlaces ds ns
ArePlaces _ _ = ⊥

places_both : (ds es : Definitions) (ns os : List (List ℕ × ℕ)) → ArePlaces ds ns → ArePlaces es os → ArePlaces (ds ++ es) (ns ++ os)
places_both [] es [] os h k = k
places_both [] es (n ∷ ns) os h k = absurd h
places_both (d ∷ ds) es [] os h k = absurd h
places_both (d ∷ ds) es (n ∷ ns) os h k = (h.0, h.1, places_both ds es ns os h.2 k)

rows_places : (rows : List Row) (k o load run : ℕ) → o + length (rows_words rows) ≤ 65536 → ArePlaces (rows_names k o rows) (names_from load run rows)
rows_places [] k o load run inside = tt
rows_places (r ∷ rows) k o load run inside =
    let n = length (item_words r.item) in
    let words = length-append (item_words r.item) (rows_words rows) in
    let small : o ≤ 65536 = omega (arith, inside) in
    loads r.load_label small _ _ (labels r.label small _ _ (rows_places rows k (o + n) (load + n) (run + n) (omega (arith, inside, words))))
  where
    loads : (l : Option (String Global)) → o ≤ 65536 → (ds : Definitions) (ns : List (List ℕ × ℕ)) → ArePlaces ds ns → ArePlaces (load_definition k o l ++ ds) (named l load ++ ns)
    loads None small ds ns h = h
    loads (Some text) small ds ns h = (refl, record { offset = o; offset_is = refl; base = tt; small = small }, h)

    labels : (l : Option (String Global)) → o ≤ 65536 → (ds : Definitions) (ns : List (List ℕ × ℕ)) → ArePlaces ds ns → ArePlaces (label_definition k o l ++ ds) (named l run ++ ns)
    labels None small ds ns h = h
    labels (Some text) small ds ns h = (refl, record { offset = o; offset_is = refl; base = tt; small = small }, h)

parts_places : (parts : List Part) (k from : ℕ) → Follow from parts → ArePlaces (parts_names k parts) (names_of parts)
parts_places [] k from follow = tt
parts_places (p ∷ parts) k from (least, some, inside, follow) =
    places_both (rows_names k 0 p.rows.items) (parts_names (k + 1) parts) (names_from p.address (run_address p) p.rows.items) (names_of parts)
    (rows_places p.rows.items k 0 p.address (run_address p) (omega (arith, inside)))
    (parts_places parts (k + 1) (p.address + length (rows_words p.rows.items)) follow)

found_place : (ds : Definitions) (ns : List (List ℕ × ℕ)) (t : List ℕ) (a : ℕ) → ArePlaces ds ns → lookup (bytes_eq t) ns ≡ Some a → (v : Value) × (defined ds t ≡ Some v) × IsSmallPlace v
found_place [] [] t a h e = absurd (cc)
found_place [] (n ∷ ns) t a h e = absurd h
found_place (d ∷ ds) [] t a h e = absurd h
found_place (d ∷ ds) (n ∷ ns) t a h e = go (bytes_eq t n.0) (ap (bytes_eq t) h.0) e (found_place ds ns t a h.2)
  where
    go : (b : Bool) → bytes_eq t d.0 ≡ b → cond b (Some n.1) (lookup (bytes_eq t) ns) ≡ Some a
        → (lookup (bytes_eq t) ns ≡ Some a → (v : Value) × (defined ds t ≡ Some v) × IsSmallPlace v)
        → (v : Value) × (defined (d ∷ ds) t ≡ Some v) × IsSmallPlace v
    go true is e rest = (d.1, ap (λ (b : Bool). cond b (Some d.1) (defined ds t)) is, h.1)
    go false is e rest = let v = rest e in (v.0, ap (λ (b : Bool). cond b (Some d.1) (defined ds t)) is ∙ v.1, v.2)

-- ---- each item adds its words

abbrev Emits : Definitions → Laid → Type 0
Emits names l = (sections : List Section) → (r : List Section) × (emit names l.section l.offset sections l.content ≡ Ok r)

abbrev EachEmits : Definitions → List Laid → Type 0
EachEmits names [] = Unit {0}
EachEmits names (l ∷ ls) = Emits names l × EachEmits names ls

each_both : (names : Definitions) (ls ms : List Laid) → EachEmits names ls → EachEmits names ms → EachEmits names (ls ++ ms)
each_both names [] ms h k = k
each_both names (l ∷ ls) ms h k = (h.0, each_both names ls ms h.1 k)

all_emitted : (names : Definitions) (items : List PendingItem) (sections : List Section) → EachEmits names (map laid_of items) → (r : List Section) × (emit_all names sections items ≡ Ok r)
all_emitted names [] sections h = (sections, refl)
all_emitted names (i ∷ items) sections h =
    let one = h.0 sections in
    let rest = all_emitted names items one.0 h.1 in
    (rest.0, ap (λ (r : Result (List Section) FaultKind). at_origin i.origin r >>= λ next. emit_all names next items) one.1 ∙ rest.1)

pub names_alone : (p : Progress) → p.declared ≡ [] → emission.all_names p ≡ p.names
names_alone p e = ap (λ (ds : List (List ℕ)). names_with p.names ds) e ∙ append-nil p.names

finishes : (p : Progress) (names : Definitions) → emission.all_names p ≡ names → EachEmits names (map laid_of p.items) → (c : Contents) × (finished p ≡ Ok c)
unfolding finished
finishes p names is h =
    let all = all_emitted names p.items p.sections h in
    let made : List Section → Contents = λ sections. module_with sections (emission.all_names p) p.exported in (
      made all.0,
      ap (λ (ns : Definitions). emit_all ns p.sections p.items >>= λ sections. Ok (made sections)) is
          ∙ ap (λ (r : Result (List Section) ExpansionFault). r >>= λ sections. Ok (made sections)) all.1,
    )

-- ---- the items of a layout

module _ (parts : List Part) (follow : Follow 0 parts) where
  abbrev own_names : Definitions
  own_names = parts_names 1 parts

  pub met_placed : (k o number : ℕ) (t : layout.Target) → IsMet (address_of parts) number t → StandsFor (table_at own_names k o) (string_bytes t.name)
  met_placed k o number t h =
      let v = found_place own_names (names_of parts) (string_bytes t.name) h.at (parts_places parts 1 0 follow) h.stands in
      (v.0, ap (λ (n : Option ℕ). named_by n (defined own_names (string_bytes t.name))) h.own ∙ v.1, v.2)

  pub item_placed : (k o : ℕ) (i : Item) → IsRowItem (address_of parts) i → ArePlaced (table_at own_names k o) i
  item_placed k o (item.Plain i) h = tt
  item_placed k o (item.Named i t) h = met_placed k o h.number t h.met
  item_placed k o (item.Words ws) h = tt
  item_placed k o (item.Address number t) h = met_placed k o number t h.1

  pub row_emits : (k o : ℕ) (r : Row) (h : IsRow (address_of parts) r) (x : ReadsRow r) → Emits own_names (record { section = k; offset = o; content = Operands x.item.put x.item.trees })
  row_emits k o r h x = λ sections.
      let s = x.item.takes (table_at own_names k o) (item_placed k o r.item h.item) in
      (with_operand_values x.item.put k o sections s.0, ap (λ (v : Result OperandValues FaultKind). v >>= λ s. Ok (with_operand_values x.item.put k o sections s)) s.1)

  rows_emit : (k o : ℕ) (rows : List Row) (h : EachRow (address_of parts) rows) → EachEmits own_names (rows_items k o rows (rows_read (address_of parts) rows h))
  rows_emit k o [] h = tt
  rows_emit k o (r ∷ rows) h = (row_emits k o r h.0 (row_read (address_of parts) r h.0), rows_emit k (o + length (item_words r.item)) rows h.1)

  parts_emit : (k : ℕ) (ps : List Part) (h : EachPart (address_of parts) ps) → EachEmits own_names (parts_items k ps (parts_read (address_of parts) ps h))
  parts_emit k [] h = tt
  parts_emit k (p ∷ ps) h =
      each_both own_names (rows_items k 0 p.rows.items (rows_read (address_of parts) p.rows.items h.0)) (parts_items (k + 1) ps (parts_read (address_of parts) ps h.1)) (rows_emit k 0 p.rows.items h.0) (parts_emit (k + 1) ps h.1)

-- ---- the module

-- what the lines of the source of a layout make
pub record PartsPassed (files : Files) (name : List ℕ) (parts : List Part) (e : EachPart (address_of parts) parts) : Type 0 where
  pub lines : LinesSoFar
  pub passed : passed_from files name (start_of files name) ≡ Ok lines
  pub good : IsGood name lines.progress
  pub tracks : Tracks lines.progress (parts_done parts (parts_read (address_of parts) parts e) begun)

pub parts_passed : (files : Files) (name : List ℕ) (parts : List Part) → text_named files name ≡ Some (source_text parts) → is_file_name name ≡ true → IsAssemblable parts → (e : EachPart (address_of parts) parts) → PartsPassed files name parts e
parts_passed files name parts there room h e =
    let x = parts_read (address_of parts) parts e in
    let few = parts_few (address_of parts) 0 parts e h.layout.follow (omega arith) in
    let text = there ∙ ap Some (sym (source_text_is parts)) in
    let are = parts_are_read parts x in
    let b = source_is_passed files name (parts_lines parts) (parts_statements parts x) text are (omega (arith, few)) (layout_passable name room parts x h) in
    let lines : lines_of files name ≡ Ok (b.0).progress = ap (λ (r : Result LinesSoFar ExpansionFault). r >>= λ a. Ok a.progress) b.1 in
    record {
      lines = b.0;
      passed = b.1;
      good = b.2;
      tracks = all_pass parts x (b.0).progress h.layout.follow (source_passes files name (parts_lines parts) (parts_statements parts x) (b.0).progress text are (omega (arith, few)) lines);
    }

pub layout_assembled : (files : Files) (name : List ℕ) (parts : List Part) → text_named files name ≡ Some (source_text parts) → is_file_name name ≡ true → IsAssemblable parts → (a : Assembled) × (assembled files name ≡ Ok a)
unfolding assembled
layout_assembled files name parts there room h =
    let e = each_part (address_of parts) parts h.layout.rows in
    let x = parts_read (address_of parts) parts e in
    let b = parts_passed files name parts there room h e in
    let p = b.lines.progress in
    let names : emission.all_names p ≡ parts_names 1 parts = names_alone p b.good.declared ∙ b.tracks.names ∙ all_names parts x in
    let items : map laid_of p.items ≡ parts_items 1 parts x = b.tracks.items ∙ all_items parts x in
    let c = finishes p (parts_names 1 parts) names (subst (EachEmits (parts_names 1 parts)) (sym items) (parts_emit parts h.layout.follow 1 parts e)) in
    let made : Contents → Assembled = λ m. record { contents = m; entries = b.lines.entries } in (
      made c.0,
      ap (λ (r : Result LinesSoFar ExpansionFault). r >>= λ a. completed a) b.passed
          ∙ ap (λ (r : Result Contents ExpansionFault). r >>= λ m. Ok (made m)) c.1,
    )
