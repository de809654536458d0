-- The words of a listing are those of the program, but for their fields.
use Rattle.std.proofs.Common.{◌≡◌, ℕ, suc, zero, ◌+◌, ◌%◌, ◌<◌, Bool, true, false, cond, ◌&&◌, ◌||◌, eqb, List, [], ◌∷◌, length, map, filter, slice_index, Option, Some, None, Result, Ok, refl, sym, ap, ◌∙◌, subst, arith}
use Rattle.std.specs.Prelude.{find}
use Rattle.std.specs.FinMap as finite
use Rattle.std.specs.List.{Contains, list_any, slice_get}
use Rattle.std.specs.Ordering.{nat_cmp}
use Rattle.std.proofs.lemmas.Bool.{eqb-true, false≢true, lt-ltb}
use Rattle.std.proofs.lemmas.Option.{slice_get-get_or}
use Rattle.c25_meaning_assembly.specs.Emission.{all_names, module_with}
use Rattle.c25_meaning_assembly.specs.ItemPlaces.{words_in}
use Rattle.c25_meaning_assembly.specs.Listing.{Entry, is_at}
use Rattle.c25_meaning_assembly.specs.ModuleOfSource.{Assembled, LinesSoFar, assembled, completed, passed_from}
use Rattle.c25_meaning_assembly.specs.Emission.{finished}
use Rattle.c25_meaning_assembly.specs.Sections.{PendingItem, Progress}
use Rattle.c25_meaning_common.specs.Fields.{field_number, field_values}
use Rattle.c25_meaning_common.specs.Results.{◌>>=◌}
use Rattle.c25_meaning_expansion.specs.ExpansionRuns.{start_of}
use Rattle.c25_meaning_expansion.specs.Files.{Files}
use Rattle.c25_meaning_instructions.proofs.RelocatedFields.{number_below}
use Rattle.c25_meaning_language.specs.ExpansionFault.{ExpansionFault}
use Rattle.c25_meaning_linking.specs.Linking.{HasWords}
use Rattle.c25_meaning_linking.specs.Place.{Place}
use Rattle.c25_meaning_linking.specs.Words.{linked_word, relocated, relocated_value, section_base, section_page}
use Rattle.c25_meaning_objects.specs.Module as modules
use Rattle.c25_meaning_objects.specs.Module.{Contents}
use Rattle.c25_meaning_objects.specs.declared.object.Relocation.{Relocation}
use Rattle.c25_linking_laws.proofs.Members.{found_in, from_filter, from_map, in_filter, in_map}
use Rattle.c25_module_laws.proofs.Emitted.{Give, Made, filled_from, relocations_at, words_at}
use Rattle.c25_module_laws.proofs.KeptLines.{IsMade}
use Rattle.c25_module_laws.proofs.LineWords.{IsFilled}
use Rattle.c25_module_laws.proofs.ModulesOfSources.{base_in}
use Rattle.c25_module_laws.proofs.Kept.{heads, is_code, total}
use Rattle.c25_module_laws.proofs.ResultSteps.{bound}
use Rattle.c25_module_laws.proofs.SectionsFilled.{section_filled}
use Rattle.c25_laws.proofs.ItemsLinked.{code, item_count, item_linked, stands}
use Rattle.c25_laws.proofs.StatementWords.{chain_has}
use Rattle.c25_laws.proofs.StatementsOfSources.{good, of_section, words_same}
use Rattle.c25_laws.proofs.StatementsUnder.{ComesFrom, comes_from}
use Rattle.c25_laws.proofs.WordsOfSources.{page_agrees}
use Rattle.c25_laws.specs.ModuleStatements.{word_at}
use Rattle.c25_laws.specs.ProgramStatements.{AreModulesOf, lines_in, without_fault}
use Rattle.c25_laws.specs.SourceWords.{item_words}
use Rattle.c25_statement_laws.specs.ListedWords.{Agrees, Extent, IsListed, entry_extent, has_words, is_open, item_extent, listed_address, shown}
use Rattle.c25_statement_laws.proofs.LinesListed.{AreListed, source_listed}

-- ---- the lines of a source

-- what the lines of a source have made, with the entries of its listing
pub record IsRead (files : Files) (name : List ℕ) (a : Assembled) : Type 0 where
  pub lines : LinesSoFar
  pub listed : AreListed lines
  pub lines_are : lines_in files name ≡ lines.progress
  pub entries_are : a.entries ≡ lines.entries

pub is_read : (files : Files) (name : List ℕ) (a : Assembled) → assembled files name ≡ Ok a → IsRead files name a
unfolding assembled
is_read files name a e =
    let b = bound (passed_from files name (start_of files name)) (λ b. completed b) a e in
    let c = bound (finished (b.0).progress) (λ m. Ok (record { contents = m; entries = (b.0).entries })) a b.2 in
    let out : Assembled = record { contents = c.0; entries = (b.0).entries } in
    let same : out ≡ a = let last = c.2 in cc in
    record {
      lines = b.0;
      listed = source_listed files name (start_of files name) b.0 b.1;
      lines_are = ap (λ (r : Result LinesSoFar ExpansionFault). without_fault (r >>= λ (x : LinesSoFar). Ok x.progress)) b.1;
      entries_are = ap (λ (x : Assembled). x.entries) (sym same);
    }

-- the entries that show words are the items that have some
pub entries_are_items : (files : Files) (name : List ℕ) (a : Assembled) → assembled files name ≡ Ok a
    → filter has_words (map entry_extent a.entries) ≡ filter has_words (map item_extent (lines_in files name).items)
entries_are_items files name a e =
    let r = is_read files name a e in
    ap (λ es. filter has_words (map entry_extent es)) r.entries_are ∙ (r.listed).entries ∙ sym (ap (λ (p : Progress). filter has_words (map item_extent p.items)) r.lines_are)

-- an entry with words is an item
pub record IsItem (items : List PendingItem) (e : Entry) : Type 0 where
  pub item : PendingItem
  pub among : Contains items item
  pub extent_is : item_extent item ≡ entry_extent e

entry_item : (entries : List Entry) (items : List PendingItem) (e : Entry) → filter has_words (map entry_extent entries) ≡ filter has_words (map item_extent items) → Contains entries e → 0 < e.count → IsItem items e
entry_item entries items e same c some =
    let there = in_filter has_words (map entry_extent entries) (entry_extent e) (in_map entry_extent entries e c) (lt-ltb 0 e.count some) in
    let moved = subst (λ (xs : List Extent). Contains xs (entry_extent e)) same there in
    let f = from_filter has_words (map item_extent items) (entry_extent e) moved in
    let m = from_map item_extent items (entry_extent e) f.0 in
    record { item = m.0; among = m.1; extent_is = m.2 }

-- ---- a word and what the listing shows

none_any : {X : Type 0} (p : X → Bool) (xs : List X) → find p xs ≡ None → list_any p xs ≡ false
none_any p [] h = refl
none_any p (x ∷ xs) h = by (p x) (none_any p xs) h
  where
    by : (b : Bool) → (find p xs ≡ None → list_any p xs ≡ false) → cond b (Some x) (find p xs) ≡ None → (b || list_any p xs) ≡ false
    by true go h = absurd (cc)
    by false go h = go h

some_any : {X : Type 0} (p : X → Bool) (xs : List X) (x : X) → find p xs ≡ Some x → list_any p xs ≡ true
some_any p [] x h = absurd (cc)
some_any p (y ∷ ys) x h = by (p y) (some_any p ys x) h
  where
    by : (b : Bool) → (find p ys ≡ Some x → list_any p ys ≡ true) → cond b (Some y) (find p ys) ≡ Some x → (b || list_any p ys) ≡ true
    by true go h = refl
    by false go h = go h

both : (a b : Bool) → (a && b) ≡ true → (a ≡ true) × (b ≡ true)
both true b h = (refl, h)
both false b h = absurd cc

-- the words of the items of a module agree with its listing
abbrev Own : List Contents → List Place → ℕ → Contents → Progress → Type 0
Own all places number owner lines =
    (e : Entry) (i : PendingItem) → Contains lines.items i → (j : ℕ) → item_extent i ≡ entry_extent e → j < e.count
    → Agrees owner e j (slice_index (item_words all places number owner lines.names i i.content) j)

module _ (all : List Contents) (places : List Place) (number : ℕ) (p : Progress) (ms : List Made) (kept : IsMade p) (give : Give (all_names p) p.items ms) where
  abbrev m : Contents
  m = module_with (filled_from 0 p.sections ms) (all_names p) p.exported

  -- a word of an item lies within its section
  item_room : (i : PendingItem) (c : Contains p.items i) (j : ℕ) → j < words_in i.content → i.offset + j < length (modules.words_at m.sections i.section)
  item_room i c j l =
      let st = stands all places number p ms kept give i c in
      let room = st.room in
      let count = (st.good).count in
      let same = ap (λ (ws : List ℕ). length ws) (words_same p ms kept give i.section (code all places number p ms kept give i c)) in
      omega (arith, room, count, same, l)

  -- the field of a relocation is 0 in the words of the module
  clear_there : (r : Relocation) → Contains m.relocations r → is_code (heads p.sections) r.section ≡ true → word_at m r.section r.offset % field_values r.kind ≡ 0
  clear_there r c there =
      let f = of_section p ms kept give r c in
      let g = chain_has (λ (x : Relocation). x.offset) (IsFilled (base_in p) r.section 0 (words_at r.section ms)) 0 (0 + total r.section p.items) (relocations_at r.section ms) r
      (section_filled (base_in p) r.section (λ k. 0) [] p.items ms refl (kept.kept).items.laid (good p ms kept give)) f in
      let h = g.2 in
      let o = h.offset_is in
      let at : h.word ≡ r.offset = omega (arith, o) in
      ap (λ (ws : List ℕ). slice_index ws r.offset % field_values r.kind) (sym (words_same p ms kept give r.section there))
      ∙ ap (λ n. slice_index (words_at r.section ms) n % field_values r.kind) (sym at) ∙ h.clear

  -- a word of an item, as the program has it, agrees with what the listing shows
  agrees : (e : Entry) (i : PendingItem) (c : Contains p.items i) (j : ℕ) → item_extent i ≡ entry_extent e → j < e.count → Agrees m e j (linked_word all places number m e.section (e.offset + j) (shown m e j))
  agrees e i c j same l = by (find (is_at e.section (e.offset + j)) m.relocations) refl
    where
      section_is : i.section ≡ e.section
      section_is = ap (λ (x : Extent). x.section) same

      room : e.offset + j < length (modules.words_at m.sections e.section)
      room =
          let n = ap (λ (x : Extent). x.count) same in
          let o = ap (λ (x : Extent). x.offset) same in
          let r = item_room i c j (omega (arith, n, l)) in
          let s = ap (λ k. length (modules.words_at m.sections k)) section_is in
          omega (arith, r, o, s)

      code_there : is_code (heads p.sections) e.section ≡ true
      code_there = ap (is_code (heads p.sections)) (sym section_is) ∙ code all places number p ms kept give i c

      tested : is_open m e j ≡ list_any (is_at e.section (e.offset + j)) m.relocations
      tested = ap (λ b. b && list_any (is_at e.section (e.offset + j)) m.relocations) (lt-ltb (e.offset + j) (length (modules.words_at m.sections e.section)) room)

      by : (o : Option Relocation) → find (is_at e.section (e.offset + j)) m.relocations ≡ o → Agrees m e j (relocated all places number m o (shown m e j))
      by None f = record {
        plain = λ _. refl;
        but_field = λ marked. absurd (false≢true (sym (none_any (is_at e.section (e.offset + j)) m.relocations f) ∙ sym tested ∙ marked));
      }
      by (Some r) f =
          let any = some_any (is_at e.section (e.offset + j)) m.relocations r f in
          let found = found_in (is_at e.section (e.offset + j)) m.relocations r f in
          let t = both (eqb r.section e.section) (eqb r.offset (e.offset + j)) found.1 in
          let section_at : r.section ≡ e.section = eqb-true r.section e.section t.0 in
          let offset_at : r.offset ≡ e.offset + j = eqb-true r.offset (e.offset + j) t.1 in
          let value = relocated_value all places number m r in
          record {
            plain = λ bare. absurd (false≢true (sym bare ∙ tested ∙ any));
            but_field = λ marked. (
              r,
              found.0,
              found.1,
              (
                field_number r.kind value,
                number_below r.kind value,
                refl,
                (λ t. word_at m (sym section_at t) (sym offset_at t) % field_values r.kind) ∙ clear_there r found.0 (ap (is_code (heads p.sections)) section_at ∙ code_there),
              ),
            );
          }

  -- an item's own words do
  own_agrees : Own all places number m p
  own_agrees e i c j same l =
      let n = ap (λ (x : Extent). x.count) same in
      let section_is : i.section ≡ e.section = ap (λ (x : Extent). x.section) same in
      let offset_is : i.offset ≡ e.offset = ap (λ (x : Extent). x.offset) same in
      let at : i.offset + j ≡ e.offset + j = ap (λ k. k + j) offset_is in
      let moved : linked_word all places number m i.section (i.offset + j) (word_at m i.section (i.offset + j)) ≡ linked_word all places number m e.section (e.offset + j) (shown m e j) =
      (λ t. linked_word all places number m (section_is t) (at t) (word_at m (section_is t) (at t))) in
      subst (Agrees m e j) (sym moved ∙ item_linked all places number p ms kept give i c j (omega (arith, n, l))) (agrees e i c j same l)

-- ---- all modules

own_from : (files : Files) (name : List ℕ) (all : List Contents) (places : List Place) (owner : Contents) (number : ℕ) → ComesFrom files name owner → Own all places number owner (lines_in files name)
own_from files name all places owner number h =
    let p = h.progress in
    let m : Contents = module_with (filled_from 0 p.sections h.made) (all_names p) p.exported in
    subst (λ (x : Contents). Own all places number x (lines_in files name)) (sym h.module_is)
    (subst (λ (lines : Progress). Own all places number (module_with (filled_from 0 p.sections h.made) (all_names p) p.exported) lines) (sym h.lines_are)
    (own_agrees all places number p h.made h.kept h.give))

at_number : (files : Files) (names : List (List ℕ)) (all : List Contents) (number : ℕ) (name : List ℕ) (a : Assembled) → AreModulesOf files names all → slice_get names number ≡ Some name → assembled files name ≡ Ok a
    → slice_get all number ≡ Some a.contents
at_number files [] [] number name a h e f = absurd (cc)
at_number files [] (x ∷ all) number name a h e f = absurd h
at_number files (n ∷ names) [] number name a h e f = absurd h
at_number files (n ∷ names) (x ∷ all) zero name a h e f =
    let b = h.0 in
    let q : n ≡ name = cc in
    let both : ◌≡◌ {A = Result Assembled ExpansionFault} (Ok b.0) (Ok a) = sym b.1 ∙ ap (assembled files) q ∙ f in
    let same : b.0 ≡ a = cc in
    ap Some (sym b.2 ∙ ap (λ (x : Assembled). x.contents) same)
at_number files (n ∷ names) (x ∷ all) (suc number) name a h e f = at_number files names all number name a h.1 e f

module _ (files : Files) (names : List (List ℕ)) (all : List Contents) (of : AreModulesOf files names all) (places : List Place) where
  -- a word of a listing is shown by the program's words of its page
  pub shown_there : (page : ℕ) (words : finite.FinMap nat_cmp ℕ) → HasWords all places page words
      → (number : ℕ) (e : Entry) (within : ℕ) (l : IsListed files names number e within) → section_page places l.made.contents e.section ≡ page
      → (word : ℕ) × (finite.get words (listed_address all places number l.made.contents e within) ≡ Some word) × Agrees l.made.contents e within word
  shown_there page words has number e within l on =
      let a = l.made in
      let name = l.name in
      let read = is_read files name a l.made_is in
      let from = comes_from files name a l.made_is in
      let small = l.small in
      let it = entry_item a.entries (lines_in files name).items e (entries_are_items files name a l.made_is) l.entry_is (omega (arith, small)) in
      let i = it.item in
      let same = it.extent_is in
      let n = ap (λ (x : Extent). x.count) same in
      let section_is : i.section ≡ e.section = ap (λ (x : Extent). x.section) same in
      let offset_is : i.offset ≡ e.offset = ap (λ (x : Extent). x.offset) same in
      let j : within < words_in i.content = omega (arith, n, small) in
      let lines = lines_in files name in
      let own = item_words all places number a.contents lines.names i i.content in
      let count = item_count all places number a.contents lines.names i i.content in
      let word = slice_index own within in
      let base = ap (λ k. section_base all places number a.contents k) section_is in
      let got = (page_agrees files names all of places page words has (listed_address all places number a.contents e within) word).1 (record {
        number = number;
        name = name;
        owner = a.contents;
        item = i;
        within = within;
        name_is = l.name_is;
        owner_is = at_number files names all number name a of l.name_is l.made_is;
        item_is = it.among;
        word_is = slice_get-get_or own within 0 (omega (arith, count, j));
        page_is = sym on ∙ ap (section_page places a.contents) (sym section_is);
        address_is = omega (arith, base, offset_is);
      }) in
      (word, got, own_from files name all places a.contents number from e i it.among within same small)
