-- The words of a program, by the sections of its modules and their relocations, are those of its sources' items.
use Rattle.std.proofs.Common.{◌≡◌, ℕ, zero, suc, ◌+◌, ◌<◌, List, [], ◌∷◌, ◌++◌, length, slice_index, Option, Some, None, Ok, refl, sym, ap, ◌∙◌, subst, arith}
use Rattle.std.specs.Prelude.{◌↔◌}
use Rattle.std.specs.FinMap as finite
use Rattle.std.specs.List.{Contains, slice_get}
use Rattle.std.specs.Option.{option_map_or}
use Rattle.std.specs.Ordering.{nat_cmp}
use Rattle.std.proofs.lemmas.Option.{get_or_from_slice_get, slice_get-get_or, slice_get_within}
use Rattle.c25_meaning_assembly.specs.Emission.{all_names, module_with}
use Rattle.c25_meaning_expansion.specs.Files.{Files}
use Rattle.c25_meaning_linking.specs.Linking.{HasWords}
use Rattle.c25_meaning_objects.specs.Module as modules
use Rattle.c25_meaning_objects.specs.Module.{Contents, SectionData, body_words}
use Rattle.c25_meaning_assembly.specs.ModuleOfSource.{Assembled, assembled}
use Rattle.c25_meaning_linking.specs.Place.{Place, page_of, part_base}
use Rattle.c25_meaning_assembly.specs.Sections.{PendingItem, Progress}
use Rattle.c25_meaning_linking.specs.Words.{HasWord, linked_word, section_base, section_page}
use Rattle.c25_module_laws.proofs.Emitted.{Give, Made, filled_from, words_at}
use Rattle.c25_laws.proofs.ItemsLinked.{code, item_count, item_linked, stands}
use Rattle.c25_laws.proofs.ItemsStand.{laid_behind, section_stands, section_there, word_of}
use Rattle.c25_module_laws.proofs.Kept.{AreLaid, total, words_in}
use Rattle.c25_module_laws.proofs.KeptActs.{code_section}
use Rattle.c25_module_laws.proofs.KeptLines.{IsMade}
use Rattle.c25_module_laws.proofs.ModulesOfSources.{base_in, words_in_module}
use Rattle.c25_module_laws.proofs.SectionsFilled.{section_size}
use Rattle.c25_laws.proofs.StatementsOfSources.{good, words_same}
use Rattle.c25_laws.proofs.StatementsUnder.{ComesFrom, comes_from}
use Rattle.c25_laws.specs.ModuleStatements.{word_at}
use Rattle.c25_laws.specs.ProgramStatements.{AreModulesOf, lines_in}
use Rattle.c25_laws.specs.SourceWords.{HasSourceWord, HasSourceWords, item_words}

-- the words of a section, if there is one
abbrev words_by : Option SectionData → List ℕ
words_by o = elim o [ None ↦ [] | Some s ↦ body_words s.body ]

-- the address and the page of a section that is there
base_there : (all : List Contents) (places : List Place) (number k : ℕ) (m : Contents) (d : SectionData) → slice_get m.sections k ≡ Some d → section_base all places number m k ≡ part_base all places number d.name
base_there all places number k m d e = ap (λ (o : Option SectionData). option_map_or (λ x. part_base all places number x.name) o 0) e

page_there : (places : List Place) (k : ℕ) (m : Contents) (d : SectionData) → slice_get m.sections k ≡ Some d → section_page places m k ≡ page_of d.name places
page_there places k m d e = ap (λ (o : Option SectionData). option_map_or (λ x. page_of x.name places) o 0) e

-- the k-th word, if it is this one
own_word : (ws : List ℕ) (k same word : ℕ) → k < length ws → same ≡ slice_index ws k → same ≡ word → slice_get ws k ≡ Some word
own_word ws k same word l e f = slice_get-get_or ws k 0 l ∙ ap Some (sym e ∙ f)

-- ---- one module

-- a word of an item is one of the program
abbrev Forth : List Contents → List Place → ℕ → ℕ → ℕ → ℕ → Contents → Progress → Type 0
Forth all places number page address word owner lines =
    (i : PendingItem) (within : ℕ) → slice_get all number ≡ Some owner → Contains lines.items i → slice_get (item_words all places number owner lines.names i i.content) within ≡ Some word
    → page ≡ section_page places owner i.section → address ≡ section_base all places number owner i.section + i.offset + within → HasWord all places page address word

-- a word of a section is one of an item
record FromItem (all : List Contents) (places : List Place) (number : ℕ) (owner : Contents) (lines : Progress) (index offset before : ℕ) : Type 0 where
  item : PendingItem
  among : Contains lines.items item
  section_is : item.section ≡ index
  within : ℕ
  offset_is : offset ≡ item.offset + within
  word_is : slice_get (item_words all places number owner lines.names item item.content) within ≡ Some (linked_word all places number owner index offset before)

abbrev Back : List Contents → List Place → ℕ → Contents → Progress → Type 0
Back all places number owner lines =
    (index offset before : ℕ) (d : SectionData) → slice_get owner.sections index ≡ Some d → slice_get (body_words d.body) offset ≡ Some before → FromItem all places number owner lines index offset before

module _ (all : List Contents) (places : List Place) (number : ℕ) (p : Progress) (ms : List Made) (kept : IsMade p) (give : Give (all_names p) p.items ms) where
  abbrev m : Contents
  m = module_with (filled_from 0 p.sections ms) (all_names p) p.exported

  forth : (page address word : ℕ) → Forth all places number page address word m p
  forth page address word i j owner c w page_is address_is =
      let own = item_words all places number m p.names i i.content in
      let count = item_count all places number m p.names i i.content in
      let few = slice_get_within own j word w in
      let small : j < words_in i.content = omega (arith, count, few) in
      let there = code all places number p ms kept give i c in
      let s = code_section p.sections i.section there in
      let d = section_stands i.section 0 p.sections ms s.0 s.1 in
      let ws : modules.words_at m.sections i.section ≡ body_words (d.0).body = ap words_by d.1 in
      let st = stands all places number p ms kept give i c in
      let same = words_same p ms kept give i.section there in
      let a = st.room in
      let b = (st.good).count in
      let e : length (words_at i.section ms) ≡ length (body_words (d.0).body) = ap (λ (xs : List ℕ). length xs) (same ∙ ws) in
      let room : i.offset + j < length (body_words (d.0).body) = omega (arith, a, b, e, small) in
      let base = base_there all places number i.section m d.0 d.1 in
      record {
        number = number;
        index = i.section;
        owner = m;
        section = d.0;
        offset = i.offset + j;
        before = word_at m i.section (i.offset + j);
        part = record { owner_is = owner; section_is = d.1 };
        word_is = slice_get-get_or (body_words (d.0).body) (i.offset + j) 0 room ∙ ap (λ (xs : List ℕ). Some (slice_index xs (i.offset + j))) (sym ws);
        page_is = page_is ∙ page_there places i.section m d.0 d.1;
        address_is = omega (arith, address_is, base);
        linked = sym (get_or_from_slice_get own j word 0 w) ∙ sym (item_linked all places number p ms kept give i c j small);
      }

  read_there : (index o before : ℕ) (d : SectionData) → slice_get m.sections index ≡ Some d → slice_get (body_words d.body) o ≡ Some before → word_at m index o ≡ before
  read_there index o before d at w =
      let ws : modules.words_at m.sections index ≡ body_words d.body = ap words_by at in
      ap (λ (xs : List ℕ). slice_index xs o) ws ∙ get_or_from_slice_get (body_words d.body) o before 0 w

  same_word : (i : PendingItem) (j index o before : ℕ) → i.section ≡ index → o ≡ i.offset + j → word_at m index o ≡ before
      → linked_word all places number m i.section (i.offset + j) (word_at m i.section (i.offset + j)) ≡ linked_word all places number m index o before
  same_word i j index o before s e b =
      let there : linked_word all places number m i.section (i.offset + j) (word_at m i.section (i.offset + j)) ≡ linked_word all places number m index o (word_at m index o) =
      (λ t. linked_word all places number m (s t) (sym e t) (word_at m (s t) (sym e t))) in
      there ∙ ap (linked_word all places number m index o) b

  back : Back all places number m p
  back index o before d at w =
      let s = section_there index 0 p.sections ms d at in
      let ws : modules.words_at m.sections index ≡ body_words d.body = ap words_by at in
      let same : modules.words_at m.sections index ≡ words_at index ms = words_in_module p ms index s.0 kept.kept (good p ms kept give) s.1 in
      let e : length (words_at index ms) ≡ length (body_words d.body) = ap (λ (xs : List ℕ). length xs) (sym same ∙ ws) in
      let size = section_size (base_in p) index p.items ms (good p ms kept give) in
      let few = slice_get_within (body_words d.body) o before w in
      let x = word_of index o (λ k. 0) p.items (kept.kept).items.laid (omega arith) (omega (arith, e, size, few)) in
      let i = x.item in
      let j = x.within in
      let own = item_words all places number m p.names i i.content in
      let count = item_count all places number m p.names i i.content in
      let small = x.small in
      record {
        item = i;
        among = x.among;
        section_is = x.section_is;
        within = j;
        offset_is = x.offset_is;
        word_is = own_word own j (linked_word all places number m i.section (i.offset + j) (word_at m i.section (i.offset + j))) (linked_word all places number m index o before) (omega (arith, count, small))
            (item_linked all places number p ms kept give i x.among j small) (same_word i j index o before x.section_is x.offset_is (read_there index o before d at w));
      }

-- ---- all modules

at_number : (files : Files) (names : List (List ℕ)) (all : List Contents) (number : ℕ) (name : List ℕ) (m : Contents) → AreModulesOf files names all → slice_get names number ≡ Some name → slice_get all number ≡ Some m → ComesFrom files name m
at_number files [] [] number name m h e f = absurd (cc)
at_number files [] (x ∷ all) number name m h e f = absurd h
at_number files (n ∷ names) [] number name m h e f = absurd h
at_number files (n ∷ names) (x ∷ all) zero name m h e f =
    let a = h.0 in
    let q : n ≡ name = cc in
    let r : x ≡ m = cc in
    subst (λ (k : List ℕ). ComesFrom files k m) q (subst (ComesFrom files n) (a.2 ∙ r) (comes_from files n a.0 a.1))
at_number files (n ∷ names) (x ∷ all) (suc number) name m h e f = at_number files names all number name m h.1 e f

named : (files : Files) (names : List (List ℕ)) (all : List Contents) (number : ℕ) (m : Contents) → AreModulesOf files names all → slice_get all number ≡ Some m → (name : List ℕ) × (slice_get names number ≡ Some name)
named files [] [] number m h f = absurd (cc)
named files [] (x ∷ all) number m h f = absurd h
named files (n ∷ names) [] number m h f = absurd h
named files (n ∷ names) (x ∷ all) zero m h f = (n, refl)
named files (n ∷ names) (x ∷ all) (suc number) m h f = named files names all number m h.1 f

module _ (files : Files) (names : List (List ℕ)) (all : List Contents) (of : AreModulesOf files names all) (places : List Place) where
  forth_from : (name : List ℕ) (owner : Contents) (number page address word : ℕ) → ComesFrom files name owner → Forth all places number page address word owner (lines_in files name)
  forth_from name owner number page address word h =
      let p = h.progress in
      let m : Contents = module_with (filled_from 0 p.sections h.made) (all_names p) p.exported in
      subst (λ (x : Contents). Forth all places number page address word x (lines_in files name)) (sym h.module_is)
      (subst (λ (lines : Progress). Forth all places number page address word (module_with (filled_from 0 p.sections h.made) (all_names p) p.exported) lines) (sym h.lines_are)
      (forth all places number p h.made h.kept h.give page address word))

  back_from : (name : List ℕ) (owner : Contents) (number : ℕ) → ComesFrom files name owner → Back all places number owner (lines_in files name)
  back_from name owner number h =
      let p = h.progress in
      subst (λ (x : Contents). Back all places number x (lines_in files name)) (sym h.module_is)
      (subst (λ (lines : Progress). Back all places number (module_with (filled_from 0 p.sections h.made) (all_names p) p.exported) lines) (sym h.lines_are)
      (back all places number p h.made h.kept h.give))

  -- a word of the sources is one of the program
  source_word : (page address word : ℕ) → HasSourceWord files names all places page address word → HasWord all places page address word
  source_word page address word h =
      forth_from h.name h.owner h.number page address word (at_number files names all h.number h.name h.owner of h.name_is h.owner_is) h.item h.within h.owner_is h.item_is h.word_is h.page_is h.address_is

  -- a word of the program is one of the sources
  program_word : (page address word : ℕ) → HasWord all places page address word → HasSourceWord files names all places page address word
  program_word page address word h =
      let part = h.part in
      let n = named files names all h.number h.owner of part.owner_is in
      let from = at_number files names all h.number n.0 h.owner of n.1 part.owner_is in
      let f = back_from n.0 h.owner h.number from h.index h.offset h.before h.section part.section_is h.word_is in
      let base = ap (section_base all places h.number h.owner) f.section_is ∙ base_there all places h.number h.index h.owner h.section part.section_is in
      let page_same = ap (section_page places h.owner) f.section_is ∙ page_there places h.index h.owner h.section part.section_is in
      let at = h.address_is in
      let offset = f.offset_is in
      record {
        number = h.number;
        name = n.0;
        owner = h.owner;
        item = f.item;
        within = f.within;
        name_is = n.1;
        owner_is = part.owner_is;
        item_is = f.among;
        word_is = f.word_is ∙ ap Some (sym h.linked);
        page_is = h.page_is ∙ sym page_same;
        address_is = omega (arith, at, offset, base);
      }

  pub words_agree : (page address word : ℕ) → HasSourceWord files names all places page address word ↔ HasWord all places page address word
  words_agree page address word = (source_word page address word, program_word page address word)

  -- a page that has the program's words has the sources'
  pub page_agrees : (page : ℕ) (words : finite.FinMap nat_cmp ℕ) → HasWords all places page words → HasSourceWords files names all places page words
  page_agrees page words has address word = (λ e. program_word page address word ((has address word).0 e), λ h. (has address word).1 (source_word page address word h))

-- each item begins where those before it in its section end
pub items_laid : (files : Files) (name : List ℕ) (a : Assembled) → assembled files name ≡ Ok a → (before after : List PendingItem) (i : PendingItem) → (lines_in files name).items ≡ before ++ i ∷ after → i.offset ≡ total i.section before
items_laid files name a e before after i is =
    let h = comes_from files name a e in
    let same : (h.progress).items ≡ before ++ i ∷ after = sym (ap (λ (p : Progress). p.items) h.lines_are) ∙ is in
    let laid = subst (AreLaid (λ k. 0)) same ((h.kept).kept).items.laid in
    let at = laid_behind (λ k. 0) before i after laid in
    omega (arith, at)
