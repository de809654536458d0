-- What the module of a layout has: a section a part, names of its own, and relocations that count from these.
use Rattle.std.proofs.Common.{◌≡◌, ℕ, zero, suc, ◌+◌, ◌<◌, Bool, true, false, cond, eqb, if◌then◌else◌, List, [], ◌∷◌, ◌++◌, length, map, codes, Option, Some, Result, Ok, pos, refl, sym, ap, ◌∙◌, subst, arith, reverse}
use Rattle.std.specs.Prelude.{string_bytes}
use Rattle.std.specs.List.{AllByRecursion, flat_map, slice_get}
use Rattle.std.proofs.lemmas.Bool.{eq-eqb, ne_eqb}
use Rattle.std.proofs.lemmas.List.{length-append}
use Rattle.c25_layout.specs.Flow.{long_word}
use Rattle.c25_layout.specs.Layout.{Follow, item_words, rows_words}
use Rattle.c25_layout.specs.SourceText.{source_text}
use Rattle.c25_layout.specs.declared.layout.Item.{Item}
use Rattle.c25_layout.specs.declared.layout.Item.TheVariants as item
use Rattle.c25_layout.specs.declared.layout.Part.{Part}
use Rattle.c25_layout.specs.declared.layout.Row.{Row}
use Rattle.c25_layout.specs.declared.layout.Target as layout
use Rattle.c25_meaning_assembly.specs.Addresses.{OperandValues, ends_first, in_order, relocation_at, relocations_of, words_of}
use Rattle.c25_meaning_assembly.specs.Emission as emission
use Rattle.c25_meaning_assembly.specs.Emission.{body_of, extended, section_of, symbol_of, table_at}
use Rattle.c25_meaning_assembly.specs.ModuleOfSource.{LinesSoFar}
use Rattle.c25_meaning_assembly.specs.ItemPlaces.{total, words_in}
use Rattle.c25_meaning_assembly.specs.Sections.{Definitions, Operands, PendingItem, Progress, Section, is_file_name}
use Rattle.c25_meaning_assembly.specs.declared.assembly.Address.{Address}
use Rattle.c25_meaning_assembly.specs.declared.assembly.Target.{Target}
use Rattle.c25_meaning_common.specs.Results.{◌>>=◌}
use Rattle.c25_meaning_common.specs.declared.relocation.RelocationKind.TheVariants as relocation
use Rattle.c25_meaning_expansion.specs.Files.{Files, text_named}
use Rattle.c25_meaning_instructions.specs.Table.{InRange}
use Rattle.c25_meaning_instructions.specs.declared.insn.Insn.{Insn}
use Rattle.c25_meaning_instructions.specs.declared.insn.Insn.TheVariants as insn
use Rattle.c25_meaning_instructions.specs.declared.mnemonic.LongName.TheVariants as long
use Rattle.c25_meaning_language.specs.ExpansionFault.{ExpansionFault}
use Rattle.c25_meaning_language.specs.Value.{defined, named_by}
use Rattle.c25_meaning_language.specs.declared.statement.FaultKind.{FaultKind}
use Rattle.c25_meaning_language.specs.declared.value.Value.{Value}
use Rattle.c25_meaning_objects.specs.Module.{Contents, Initialised, SectionData, Uninitialised, body_size, has_words}
use Rattle.c25_meaning_objects.specs.declared.object.Relocation.{Relocation}
use Rattle.c25_module_laws.proofs.Emitted.{Give, Made, filled_from, made_by, relocations_at, words_at}
use Rattle.c25_module_laws.proofs.ModulesOfSources as modules
use Rattle.c25_module_laws.proofs.ModulesOfSources.{base_in}
use Rattle.c25_module_laws.proofs.SectionsFilled.{section_size}
use Rattle.c25_laws.proofs.StatementsUnder.{ComesFrom}
use Rattle.c25_laws.specs.ProgramStatements.{without_fault}
use Rattle.c25_layout_laws.proofs.PartLines.{PartsRead, ReadsRow, RowsRead, row_read}
use Rattle.c25_layout_laws.proofs.PartsAssembled.{item_placed, names_alone, parts_passed}
use Rattle.c25_layout_laws.proofs.PartsDone.{all_items, all_names, all_sections, begun, parts_done, parts_items, parts_names, rows_items, sections_of}
use Rattle.c25_layout_laws.proofs.PartsWords.{EachPart, EachRow, each_part, parts_read, rows_read}
use Rattle.c25_layout_laws.proofs.Passable.{IsGood, IsPlain}
use Rattle.c25_layout_laws.proofs.Taken.{AreAddresses, IsAddressOf, IsBaseOf, IsSmallPlace}
use Rattle.c25_layout_laws.proofs.Tracked.{Laid, Tracks, laid_of}
use Rattle.c25_layout.specs.Buildable.{IsAssemblable}
use Rattle.c25_layout.specs.Layouts.{IsRow, address_of}
use Rattle.c25_layout_laws.specs.Listed as listed
use Rattle.c25_layout.specs.Names.{IsMet, IsRowItem}

all_both : {A : Type 0} (P : A → Type 0) (xs ys : List A) → AllByRecursion P xs → AllByRecursion P ys → AllByRecursion P (xs ++ ys)
all_both P [] ys h k = k
all_both P (x ∷ xs) ys h k = (h.0, all_both P xs ys h.1 k)

-- ---- relocations

-- a relocation counts from a name of a layout, and comes to a number of 16 bits
pub record IsOfName (parts : List Part) (r : Relocation) : Type 0 where
  pub text : List ℕ
  pub after : ℕ
  pub at : ℕ
  pub value : Value
  pub named : defined (parts_names 1 parts) text ≡ Some value
  pub place : IsSmallPlace value
  pub base : IsBaseOf value.base r.base
  pub kind : r.kind ≡ relocation.Word16
  pub addend : r.addend ≡ pos (place.offset + after)
  pub stands : address_of parts text ≡ Some at
  pub fits : at + after < 65536

long_small : (i : Insn) (n : ℕ) → InRange i → long_word i ≡ Some n → n < 65536
long_small (insn.Long long.Lrlk word high) n h e = let small = h.0 in let same : word ≡ n = cc in omega (arith, small, same)
long_small (insn.Long m word high) n h e = let small = h.0 in let same : word ≡ n = cc in omega (arith, small, same)
long_small (insn.LongMem m word a) n h e = let small = h.0 in let same : word ≡ n = cc in omega (arith, small, same)
long_small (insn.Jump m word c o) n h e = let small = h.0 in let same : word ≡ n = cc in omega (arith, small, same)
long_small i n h e = absurd (cc)

ordered_none : (put : Target) → in_order put [] ≡ []
ordered_none put = go (ends_first put)
  where
    go : (b : Bool) → ◌≡◌ {A = List Address} (if b then reverse [] else []) []
    go true = refl
    go false = refl

ordered_one : (put : Target) (a : Address) → in_order put (a ∷ []) ≡ a ∷ []
ordered_one put a = go (ends_first put)
  where
    go : (b : Bool) → (if b then reverse (a ∷ []) else a ∷ []) ≡ a ∷ []
    go true = refl
    go false = refl

module _ (parts : List Part) (follow : Follow 0 parts) where
  abbrev own_names : Definitions
  own_names = parts_names 1 parts

  abbrev AreOfNames : List Relocation → Type 0
  AreOfNames rs = AllByRecursion (IsOfName parts) rs

  of_name : (k o number : ℕ) (t : layout.Target) (put : Target) (a : Address) → IsMet (address_of parts) number t → number < 65536 → IsAddressOf (table_at own_names k o) (string_bytes t.name) t.after a → IsOfName parts (relocation_at put k o a)
  of_name k o number t put a h small is =
      let number_is = h.number_is in
      record {
        text = string_bytes t.name;
        after = t.after;
        at = h.at;
        value = is.value;
        named = sym (ap (λ (n : Option ℕ). named_by n (defined own_names (string_bytes t.name))) h.own) ∙ is.named;
        place = is.place;
        base = is.base;
        kind = is.kind;
        addend = is.addend;
        stands = h.stands;
        fits = omega (arith, small, number_is);
      }

  one_of : (k o number : ℕ) (t : layout.Target) (put : Target) (list : List Address) → IsMet (address_of parts) number t → number < 65536 → ((a : Address) × (list ≡ a ∷ []) × IsAddressOf (table_at own_names k o) (string_bytes t.name) t.after a)
      → AreOfNames (relocations_of put k o list)
  one_of k o number t put list h small (a, is, found) =
      subst AreOfNames (sym (ap (λ (xs : List Address). relocations_of put k o xs) is ∙ ap (map (relocation_at put k o)) (ordered_one put a))) (of_name k o number t put a h small found, tt)

  none_of : (k o : ℕ) (put : Target) (list : List Address) → list ≡ [] → AreOfNames (relocations_of put k o list)
  none_of k o put list is = subst AreOfNames (sym (ap (λ (xs : List Address). relocations_of put k o xs) is ∙ ap (map (relocation_at put k o)) (ordered_none put))) tt

  item_relocations : (k o : ℕ) (i : Item) (put : Target) (list : List Address) → IsRowItem (address_of parts) i → AreAddresses (table_at own_names k o) i list → AreOfNames (relocations_of put k o list)
  item_relocations k o (item.Plain i) put list h is = none_of k o put list is
  item_relocations k o (item.Words ws) put list h is = none_of k o put list is
  item_relocations k o (item.Named i t) put list h is = one_of k o h.number t put list h.met (long_small i h.number h.in_range h.word) is
  item_relocations k o (item.Address number t) put list h is = one_of k o number t put list h.1 h.0 is

  -- what an item makes has such relocations
  abbrev IsGoodItem : Laid → Type 0
  IsGoodItem l = (i : PendingItem) → laid_of i ≡ l → (m : Made) → made_by own_names i i.content ≡ Ok m → AreOfNames m.relocations

  row_good : (k o : ℕ) (r : Row) (h : IsRow (address_of parts) r) (x : ReadsRow r) → IsGoodItem (record { section = k; offset = o; content = Operands x.item.put x.item.trees })
  row_good k o r h x = λ i is m e.
      let put = x.item.put in
      let t = x.item.takes (table_at own_names i.section i.offset) (item_placed parts follow i.section i.offset r.item h.item) in
      let made : OperandValues → Made = λ s. record { section = i.section; offset = i.offset; words = words_of put s.numbers; relocations = relocations_of put i.section i.offset s.addresses } in
      let operands : made_by own_names i (Operands put x.item.trees) ≡ Ok m = sym (ap (λ (l : Laid). made_by own_names i l.content) is) ∙ e in
      let all : Ok (made t.0) ≡ Ok m = sym (ap (λ (v : Result OperandValues FaultKind). v >>= λ s. Ok (made s)) t.1) ∙ operands in
      let same : made t.0 ≡ m = cc in
      subst (λ (m : Made). AreOfNames m.relocations) same (item_relocations i.section i.offset r.item put (t.0).addresses h.item t.2)

  rows_good : (k o : ℕ) (rows : List Row) (h : EachRow (address_of parts) rows) → AllByRecursion IsGoodItem (rows_items k o rows (rows_read (address_of parts) rows h))
  rows_good k o [] h = tt
  rows_good k o (r ∷ rows) h = (row_good k o r h.0 (row_read (address_of parts) r h.0), rows_good k (o + length (item_words r.item)) rows h.1)

  parts_good : (k : ℕ) (ps : List Part) (h : EachPart (address_of parts) ps) → AllByRecursion IsGoodItem (parts_items k ps (parts_read (address_of parts) ps h))
  parts_good k [] h = tt
  parts_good k (p ∷ ps) h =
      all_both IsGoodItem (rows_items k 0 p.rows.items (rows_read (address_of parts) p.rows.items h.0)) (parts_items (k + 1) ps (parts_read (address_of parts) ps h.1)) (rows_good k 0 p.rows.items h.0) (parts_good (k + 1) ps h.1)

  made_good : (items : List PendingItem) (ms : List Made) → Give own_names items ms → AllByRecursion IsGoodItem (map laid_of items) → AllByRecursion (λ (m : Made). AreOfNames m.relocations) ms
  made_good [] [] give h = tt
  made_good [] (m ∷ ms) give h = absurd give
  made_good (i ∷ items) [] give h = absurd give
  made_good (i ∷ items) (m ∷ ms) give h = (h.0 i refl m give.0, made_good items ms give.1 h.1)

  good_at : (k : ℕ) (ms : List Made) → AllByRecursion (λ (m : Made). AreOfNames m.relocations) ms → AreOfNames (relocations_at k ms)
  good_at k [] h = tt
  good_at k (m ∷ ms) h = all_both (IsOfName parts) (cond (eqb m.section k) m.relocations []) (relocations_at k ms) (go (eqb m.section k)) (good_at k ms h.1)
    where
      go : (b : Bool) → AreOfNames (cond b m.relocations [])
      go true = h.0
      go false = tt

  good_in : (k : ℕ) (ss : List Section) (ms : List Made) → AllByRecursion IsPlain ss → AllByRecursion (λ (m : Made). AreOfNames m.relocations) ms → AreOfNames (flat_map (λ (s : Section). s.relocations) (filled_from k ss ms))
  good_in k [] ms plain h = tt
  good_in k (s ∷ ss) ms plain h =
      all_both (IsOfName parts) (s.relocations ++ relocations_at k ms) (flat_map (λ (s : Section). s.relocations) (filled_from (suc k) ss ms))
      (subst (λ (rs : List Relocation). AreOfNames (rs ++ relocations_at k ms)) (sym (plain.0).relocations) (good_at k ms h))
      (good_in (suc k) ss ms plain.1 h)

-- ---- sections

no_blocks : (k : ℕ) (ss : List Section) (ms : List Made) → AllByRecursion IsPlain ss → flat_map (λ (s : Section). s.blocks) (filled_from k ss ms) ≡ []
no_blocks k [] ms h = refl
no_blocks k (s ∷ ss) ms h = (λ i. (h.0).blocks i ++ no_blocks (suc k) ss ms h.1 i)

-- how many words an item has in a section
abbrev part_of : ℕ → Laid → ℕ
part_of k l = cond (eqb l.section k) (words_in l.content) 0

abbrev total_of : ℕ → List Laid → ℕ
total_of k [] = 0
total_of k (l ∷ ls) = part_of k l + total_of k ls

total_is : (k : ℕ) (items : List PendingItem) → total k items ≡ total_of k (map laid_of items)
total_is k [] = refl
total_is k (i ∷ items) = ap (λ (n : ℕ). cond (eqb i.section k) (words_in i.content) 0 + n) (total_is k items)

total_both : (k : ℕ) (ls ms : List Laid) → total_of k (ls ++ ms) ≡ total_of k ls + total_of k ms
total_both k [] ms = omega arith
total_both k (l ∷ ls) ms = let rest = total_both k ls ms in omega (arith, rest)

rows_total : (k o : ℕ) (rows : List Row) (x : RowsRead rows) → total_of k (rows_items k o rows x) ≡ length (rows_words rows)
rows_total k o [] x = refl
rows_total k o (r ∷ rows) x =
    let here = ap (λ (b : Bool). cond b (words_in (Operands x.0.item.put x.0.item.trees)) 0) (eq-eqb k k refl) in
    let sized = x.0.item.sized in
    let rest = rows_total k (o + length (item_words r.item)) rows x.1 in
    let words = length-append (item_words r.item) (rows_words rows) in
    omega (arith, here, sized, rest, words)

rows_elsewhere : (j k o : ℕ) (rows : List Row) (x : RowsRead rows) → (k ≡ j → ⊥) → total_of j (rows_items k o rows x) ≡ 0
rows_elsewhere j k o [] x apart = refl
rows_elsewhere j k o (r ∷ rows) x apart =
    let here = ap (λ (b : Bool). cond b (words_in (Operands x.0.item.put x.0.item.trees)) 0) (ne_eqb k j apart) in
    let rest = rows_elsewhere j k (o + length (item_words r.item)) rows x.1 apart in
    omega (arith, here, rest)

parts_later : (i k : ℕ) (ps : List Part) (x : PartsRead ps) → i < k → total_of i (parts_items k ps x) ≡ 0
parts_later i k [] x less = refl
parts_later i k (p ∷ ps) x less =
    let both = total_both i (rows_items k 0 p.rows.items x.0) (parts_items (k + 1) ps x.1) in
    let here = rows_elsewhere i k 0 p.rows.items x.0 (λ e. omega (arith, e, less)) in
    let rest = parts_later i (k + 1) ps x.1 (omega (arith, less)) in
    omega (arith, both, here, rest)

parts_total : (i k j : ℕ) (ps : List Part) (x : PartsRead ps) (p : Part) → slice_get ps j ≡ Some p → i ≡ k + j → total_of i (parts_items k ps x) ≡ length (rows_words p.rows.items)
parts_total i k j [] x p e at = absurd (cc)
parts_total i k zero (q ∷ ps) x p e at =
    let same : q ≡ p = cc in
    let here : i ≡ k = omega (arith, at) in
    let both = total_both i (rows_items k 0 q.rows.items x.0) (parts_items (k + 1) ps x.1) in
    let own = ap (λ (n : ℕ). total_of n (rows_items k 0 q.rows.items x.0)) here ∙ rows_total k 0 q.rows.items x.0 ∙ ap (λ (y : Part). length (rows_words y.rows.items)) same in
    let rest = parts_later i (k + 1) ps x.1 (omega (arith, here)) in
    omega (arith, both, own, rest)
parts_total i k (suc j) (q ∷ ps) x p e at =
    let both = total_both i (rows_items k 0 q.rows.items x.0) (parts_items (k + 1) ps x.1) in
    let here = rows_elsewhere i k 0 q.rows.items x.0 (λ e. omega (arith, e, at)) in
    let rest = parts_total i (k + 1) j ps x.1 p e (omega (arith, at)) in
    omega (arith, both, here, rest)

-- sections have these names and so many words
abbrev pub AreSized : List SectionData → List (List ℕ × ℕ) → Type 0
AreSized [] [] = Unit {0}
AreSized (s ∷ ss) (n ∷ ns) = (s.name ≡ n.0) × (has_words s.body ≡ true) × (body_size s.body ≡ n.1) × AreSized ss ns
AreSized _ _ = ⊥

-- the section of a part, and how many words it has
abbrev pub sized_of : Part → List ℕ × ℕ
sized_of p = (listed.section_of p.address, length (rows_words p.rows.items))

filled_sized : (k : ℕ) (ss : List Section) (ns : List (List ℕ × ℕ)) (ms : List Made) → map (λ (s : Section). s.name) ss ≡ map (λ n. n.0) ns → AllByRecursion IsPlain ss
    → ((j : ℕ) (n : List ℕ × ℕ) → slice_get ns j ≡ Some n → length (words_at (k + j) ms) ≡ n.1) → AreSized (map section_of (filled_from k ss ms)) ns
filled_sized k [] [] ms names plain sizes = tt
filled_sized k [] (n ∷ ns) ms names plain sizes = absurd (cc)
filled_sized k (s ∷ ss) [] ms names plain sizes = absurd (cc)
filled_sized k (s ∷ ss) (n ∷ ns) ms names plain sizes =
    let first : s.name ≡ n.0 = cc in
    let others : map (λ (s : Section). s.name) ss ≡ map (λ n. n.0) ns = cc in
    let body : body_of (extended (words_at k ms) (relocations_at k ms) s) ≡ Initialised (s.words ++ words_at k ms) =
    ap (λ (b : Bool). if b then Initialised (s.words ++ words_at k ms) else Uninitialised s.size) (plain.0).initialised in
    let size = ap (λ (ws : List ℕ). length (ws ++ words_at k ms)) (plain.0).words in
    let here : k + 0 ≡ k = omega arith in
    let own = sizes 0 n refl in (
      first,
      ap has_words body,
      ap body_size body ∙ size ∙ ap (λ (j : ℕ). length (words_at j ms)) (sym here) ∙ own,
      filled_sized (suc k) ss ns ms others plain.1 (λ j d e. let more : suc k + j ≡ k + suc j = omega arith in ap (λ (i : ℕ). length (words_at i ms)) more ∙ sizes (suc j) d e),
    )

-- ---- the module

pub record IsModuleOf (parts : List Part) (m : Contents) : Type 0 where
  pub sections : AreSized m.sections ((codes ".text", 0) ∷ map sized_of parts)
  pub blocks : m.blocks ≡ []
  pub symbols : m.symbols ≡ map (symbol_of []) (parts_names 1 parts)
  pub relocations : AllByRecursion (IsOfName parts) m.relocations

sized_names : (parts : List Part) → map (λ (n : List ℕ × ℕ). n.0) (map sized_of parts) ≡ sections_of parts
sized_names [] = refl
sized_names (p ∷ parts) = ap (λ (ns : List (List ℕ)). listed.section_of p.address ∷ ns) (sized_names parts)

sized_at : (parts : List Part) (j : ℕ) (n : List ℕ × ℕ) → slice_get (map sized_of parts) j ≡ Some n → (p : Part) × (slice_get parts j ≡ Some p) × (length (rows_words p.rows.items) ≡ n.1)
sized_at [] j n e = absurd (cc)
sized_at (p ∷ parts) zero n e = let same : sized_of p ≡ n = cc in (p, refl, ap (λ (x : List ℕ × ℕ). x.1) same)
sized_at (p ∷ parts) (suc j) n e = sized_at parts j n e

pub module_of_parts : (files : Files) (name : List ℕ) (parts : List Part) (m : Contents) → text_named files name ≡ Some (source_text parts) → is_file_name name ≡ true → IsAssemblable parts → ComesFrom files name m → IsModuleOf parts m
module_of_parts files name parts m there room h from =
    let e = each_part (address_of parts) parts h.layout.rows in
    let x = parts_read (address_of parts) parts e in
    let b = parts_passed files name parts there room h e in
    let p = from.progress in
    let same : b.lines.progress ≡ p = sym (ap (λ (r : Result LinesSoFar ExpansionFault). without_fault (r >>= λ a. Ok a.progress)) b.passed) ∙ from.lines_are in
    let good : IsGood name p = subst (IsGood name) same b.good in
    let tracks : Tracks p (parts_done parts x begun) = subst (λ (q : Progress). Tracks q (parts_done parts x begun)) same b.tracks in
    let names : emission.all_names p ≡ parts_names 1 parts = names_alone p good.declared ∙ tracks.names ∙ all_names parts x in
    let items : map laid_of p.items ≡ parts_items 1 parts x = tracks.items ∙ all_items parts x in
    let give = subst (λ (ns : Definitions). Give ns p.items from.made) names from.give in
    let made = made_good parts h.layout.follow p.items from.made give (subst (AllByRecursion (IsGoodItem parts h.layout.follow)) (sym items) (parts_good parts h.layout.follow 1 parts e)) in
    let counted = modules.made_good p from.made from.kept.kept from.give in
    let size : (k : ℕ) → length (words_at k from.made) ≡ total_of k (parts_items 1 parts x) =
    λ k. section_size (base_in p) k p.items from.made counted ∙ total_is k p.items ∙ ap (total_of k) items in
    let sizes : (j : ℕ) (n : List ℕ × ℕ) → slice_get ((codes ".text", 0) ∷ map sized_of parts) j ≡ Some n → length (words_at (0 + j) from.made) ≡ n.1 = go x from.made size in
    let module_is = from.module_is in
    record {
      sections = subst (λ (c : Contents). AreSized c.sections ((codes ".text", 0) ∷ map sized_of parts)) (sym module_is)
          (filled_sized 0 p.sections ((codes ".text", 0) ∷ map sized_of parts) from.made (tracks.sections ∙ all_sections parts x ∙ ap (λ (ns : List (List ℕ)). codes ".text" ∷ ns) (sym (sized_names parts))) good.sections sizes);
      blocks = ap (λ (c : Contents). c.blocks) module_is ∙ no_blocks 0 p.sections from.made good.sections;
      symbols = ap (λ (c : Contents). c.symbols) module_is ∙ ap (λ (ns : List (List ℕ)). map (symbol_of ns) (emission.all_names p)) good.exported ∙ ap (map (symbol_of [])) names;
      relocations = subst (λ (c : Contents). AllByRecursion (IsOfName parts) c.relocations) (sym module_is) (good_in parts h.layout.follow 0 p.sections from.made good.sections made);
    }
  where
    go : (x : PartsRead parts) (ms : List Made) → ((k : ℕ) → length (words_at k ms) ≡ total_of k (parts_items 1 parts x)) → (j : ℕ) (n : List ℕ × ℕ) → slice_get ((codes ".text", 0) ∷ map sized_of parts) j ≡ Some n → length (words_at (0 + j) ms) ≡ n.1
    go x ms size zero n e =
        let same : ◌≡◌ {A = List ℕ × ℕ} (codes ".text", 0) n = cc in
        size 0 ∙ parts_later 0 1 parts x (omega arith) ∙ ap (λ (y : List ℕ × ℕ). y.1) same
    go x ms size (suc j) n e =
        let p = sized_at parts j n e in
        size (0 + suc j) ∙ parts_total (0 + suc j) 1 j parts x p.0 p.1 (omega arith) ∙ p.2
