-- The instructions of modules at good places that run elsewhere than they are loaded: no two of them run at one word, and none
-- is loaded at a word of another instruction.
use Rattle.std.proofs.Common.{◌≡◌, ℕ, ◌+◌, ◌-◌, ◌≤◌, Bool, true, false, not, eqb-true, List, filter, take, Option, Some, None, All, refl, sym, ap, subst, ◌∙◌, arith, ⊎_elim}
use Rattle.std.specs.Prelude.{is_some, unwrap_or}
use Rattle.std.specs.List.{Contains, slice_get}
use Rattle.std.specs.Option.{option_map_or}
use Rattle.std.specs.Str.{bytes_eq}
use Rattle.std.proofs.lemmas.Bool.{and_parts}
use Rattle.c25_meaning_linking.specs.Command.{CommandData, Pairwise}
use Rattle.c25_meaning_image.specs.declared.mark.Mark.{Mark}
use Rattle.c25_meaning_image.specs.declared.mark.RunMark.{RunMark}
use Rattle.c25_meaning_linking.specs.Words.{is_copied, is_on_program, is_run_in_place, module_marks, module_run_marks, placed_mark, placed_run_mark, program_marks, program_run_marks, section_base, section_page, section_run, section_runs_elsewhere}
use Rattle.c25_meaning_objects.specs.Module.{SectionData, Contents, IsModule}
use Rattle.c25_meaning_objects.specs.declared.object.ModuleMark.{ModuleMark}
use Rattle.c25_meaning_linking.specs.GoodMap.{IsGoodMap, placings_for, ranges_for}
use Rattle.c25_meaning_linking.specs.Place.{Covers, IsPart, LiesIn, Place, page_of, part_base, part_run, place_named, run_base, runs_elsewhere, size_of_parts}
use Rattle.c25_meaning_linking.proofs.Parts.{OnePart, one_part, part_in_place}
use Rattle.c25_meaning_linking.proofs.PlaceNames.{is_same, same_name}
use Rattle.c25_linking_laws.proofs.Members.{from_filter, from_map}
use Rattle.c25_linking_laws.proofs.Named.{module_at}
use Rattle.c25_linking_laws.proofs.Pairs.{chosen_pairs, from_modules, module_pairs}
use Rattle.c25_linking_laws.proofs.Rising.{Before, InSection, in_section, mark_pairs}
use Rattle.c25_linking_laws.proofs.RunPlaces.{is_run_word, named_run_apart, places_run_apart}

-- ---- where the words of a mark are loaded

-- a mark of a module on page 0, in the part of its section
pub record OnPage (modules : List Contents) (places : List Place) (number : ℕ) (m : Contents) (x : ModuleMark) : Type 0 where
  pub there : InSection m x
  pub part : IsPart modules number x.section m there.section
  pub page : page_of there.section.name places ≡ 0
  pub base : section_base modules places number m x.section ≡ part_base modules places number there.section.name

on_page : (modules : List Contents) (places : List Place) (number : ℕ) (m : Contents) (x : ModuleMark) → slice_get modules number ≡ Some m → InSection m x → is_on_program places m x ≡ true → OnPage modules places number m x
on_page modules places number m x is there on =
    let page : section_page places m x.section ≡ page_of there.section.name places = ap (λ (o : Option SectionData). option_map_or (λ s. page_of s.name places) o 0) there.section_is in
    record {
      there = there;
      part = record { owner_is = is; section_is = there.section_is };
      page = sym page ∙ eqb-true (section_page places m x.section) 0 on;
      base = ap (λ (o : Option SectionData). option_map_or (λ s. part_base modules places number s.name) o 0) there.section_is;
    }

load_word : (modules : List Contents) (places : List Place) (number : ℕ) (m : Contents) (x : ModuleMark) (p : OnPage modules places number m x) (word : ℕ)
    → Covers (section_base modules places number m x.section + x.offset) x.size word → LiesIn modules places number p.there.section 0 word
load_word modules places number m x p word c =
    record { page_is = sym p.page; covers = record { from = omega (arith, p.base, c.from); upto = omega (arith, p.base, p.there.within, c.upto) } }

-- ---- where the words of a mark run

-- a mark on page 0 whose section runs elsewhere
pub record OnRun (modules : List Contents) (places : List Place) (number : ℕ) (m : Contents) (x : ModuleMark) : Type 0 where
  pub loaded : OnPage modules places number m x
  pub place : Place
  pub found : place_named loaded.there.section.name places ≡ Some place
  pub run : ℕ
  pub run_is : place.run ≡ Some run
  pub before : ℕ
  pub load_base : section_base modules places number m x.section ≡ place.base + before
  pub run_base : section_run modules places number m x.section ≡ run + before
  pub room : before + x.offset + x.size ≤ place.size

some_run : (o : Option ℕ) → is_some o ≡ true → (run : ℕ) × (o ≡ Some run)
some_run None h = absurd cc
some_run (Some run) h = (run, refl)

on_run : (modules : List Contents) (command : CommandData) (places : List Place) (number : ℕ) (m : Contents) (x : ModuleMark) → IsGoodMap modules command places → slice_get modules number ≡ Some m → InSection m x → is_copied places m x ≡ true → OnRun modules places number m x
unfolding on_page
on_run modules command places number m x good is there copied =
    let both = and_parts (is_on_program places m x) (section_runs_elsewhere places m x.section) copied in
    let p = on_page modules places number m x is there both.0 in
    let name = there.section.name in
    let i = part_in_place (ranges_for command) modules (placings_for command) places number x.section m there.section good p.part in
    let before = size_of_parts name (take number modules) in
    let elsewhere : section_runs_elsewhere places m x.section ≡ is_some i.place.run =
    ap (λ (o : Option SectionData). option_map_or (λ s. runs_elsewhere s.name places) o false) there.section_is ∙ ap (λ (o : Option Place). option_map_or (λ q. is_some q.run) o false) i.found in
    let run = some_run i.place.run (sym elsewhere ∙ both.1) in
    record {
      loaded = p;
      place = i.place;
      found = i.found;
      run = run.0;
      run_is = run.1;
      before = before;
      load_base = p.base ∙ i.base_is;
      run_base = ap (λ (o : Option SectionData). option_map_or (λ s. part_run modules places number s.name) o 0) there.section_is
          ∙ ap (λ n. n + before) (ap (λ (o : Option Place). option_map_or run_base o 0) i.found ∙ ap (λ (o : Option ℕ). unwrap_or o i.place.base) run.1);
      room = omega (arith, i.base_is, i.within, there.within);
    }

-- ---- marks of a program

-- no word is one that both run at
abbrev pub RunsApart : RunMark → RunMark → Type 0
RunsApart a b = (word : ℕ) → Covers a.run a.size word → Covers b.run b.size word → ⊥

-- the run mark is that of a mark of the module
pub record IsCopyFrom (modules : List Contents) (places : List Place) (number : ℕ) (m : Contents) (a : RunMark) : Type 0 where
  pub mark : ModuleMark
  pub on : OnRun modules places number m mark
  pub chosen : is_copied places m mark ≡ true
  pub same : placed_run_mark modules places number m mark ≡ a

-- the run mark is that of a mark of some module
pub record IsCopy (modules : List Contents) (places : List Place) (a : RunMark) : Type 0 where
  pub number : ℕ
  pub owner : Contents
  pub owner_is : slice_get modules number ≡ Some owner
  pub copy : IsCopyFrom modules places number owner a

-- the mark is that of a mark of a module that runs where it is loaded
pub record Stays (modules : List Contents) (places : List Place) (b : Mark) : Type 0 where
  pub number : ℕ
  pub owner : Contents
  pub owner_is : slice_get modules number ≡ Some owner
  pub mark : ModuleMark
  pub on : OnPage modules places number owner mark
  pub chosen : is_run_in_place places owner mark ≡ true
  pub same : placed_mark modules places number owner mark ≡ b

-- the owner of two marks
one_owner : (modules : List Contents) (number other : ℕ) (m n : Contents) → number ≡ other → slice_get modules number ≡ Some m → slice_get modules other ≡ Some n → m ≡ n
one_owner modules number other m n numbers is also = let e : slice_get modules number ≡ slice_get modules other = ap (slice_get modules) numbers in cc

module _ (modules : List Contents) (command : CommandData) (places : List Place) (are : All IsModule modules) (good : IsGoodMap modules command places) where
  -- ---- a word of two marks

  load_once : (number other : ℕ) (m n : Contents) (x y : ModuleMark) → OnPage modules places number m x → OnPage modules places other n y → (word : ℕ)
      → Covers (section_base modules places number m x.section + x.offset) x.size word → Covers (section_base modules places other n y.section + y.offset) y.size word → OnePart number other x.section y.section
  load_once number other m n x y p q word c d =
      one_part (ranges_for command) modules (placings_for command) places (λ o k e. (module_at modules k o are e).lists) good number other x.section y.section 0 word m n p.there.section q.there.section p.part q.part
      (load_word modules places number m x p word c) (load_word modules places other n y q word d)

  -- the words of one place that runs elsewhere are loaded as far apart as they run
  run_once : (number other : ℕ) (m n : Contents) (x y : ModuleMark) → OnRun modules places number m x → OnRun modules places other n y → (word : ℕ)
      → Covers (section_run modules places number m x.section + x.offset) x.size word → Covers (section_run modules places other n y.section + y.offset) y.size word → OnePart number other x.section y.section
  run_once number other m n x y p q word c d = by_name (bytes_eq p.loaded.there.section.name q.loaded.there.section.name) refl where
    by_name : (t : Bool) → bytes_eq p.loaded.there.section.name q.loaded.there.section.name ≡ t → OnePart number other x.section y.section
    by_name true e =
        let names = same_name p.loaded.there.section.name q.loaded.there.section.name e in
        let found : place_named p.loaded.there.section.name places ≡ Some q.place = ap (λ name. place_named name places) names ∙ q.found in
        let one : p.place ≡ q.place = let here = p.found in cc in
        let runs : p.run ≡ q.run = let here = p.run_is in let there = q.run_is in cc in
        let bases : p.place.base ≡ q.place.base = ap (λ (r : Place). r.base) one in
        load_once number other m n x y p.loaded q.loaded (word - p.run + p.place.base)
        (record { from = omega (arith, p.load_base, p.run_base, c.from); upto = omega (arith, p.load_base, p.run_base, c.from, c.upto) })
        (record { from = omega (arith, q.load_base, q.run_base, d.from, runs, bases); upto = omega (arith, q.load_base, q.run_base, d.from, d.upto, runs, bases) })
    by_name false e =
        let differ : p.loaded.there.section.name ≡ q.loaded.there.section.name → ⊥ =
        λ same. let t : bytes_eq p.loaded.there.section.name q.loaded.there.section.name ≡ true = ap (bytes_eq p.loaded.there.section.name) (sym same) ∙ is_same p.loaded.there.section.name in absurd cc in
        absurd (named_run_apart p.loaded.there.section.name q.loaded.there.section.name p.place q.place places differ (places_run_apart modules command places good) p.found q.found word
        (is_run_word word p.run p.place p.run_is (omega (arith, p.run_base, c.from)) (omega (arith, p.run_base, p.room, c.upto)))
        (is_run_word word q.run q.place q.run_is (omega (arith, q.run_base, d.from)) (omega (arith, q.run_base, q.room, d.upto))))

  -- ---- no two run at one word

  copy_from : (number : ℕ) (m : Contents) (a : RunMark) → slice_get modules number ≡ Some m → Contains (module_run_marks modules places number m) a → IsCopyFrom modules places number m a
  copy_from number m a is c =
      let image = from_map (placed_run_mark modules places number m) (filter (is_copied places m) m.marks) a c in
      let chosen = from_filter (is_copied places m) m.marks image.0 image.1 in
      record {
        mark = image.0;
        on = on_run modules command places number m image.0 good is (in_section m (module_at modules number m are is) image.0 chosen.0) chosen.1;
        chosen = chosen.1;
        same = image.2;
      }

  module_apart : (number : ℕ) (m : Contents) → slice_get modules number ≡ Some m → Pairwise RunsApart (module_run_marks modules places number m)
  module_apart number m is =
      let fits = module_at modules number m are is in
      chosen_pairs Before RunsApart (is_copied places m) (placed_run_mark modules places number m) m.marks (mark_pairs m fits) (λ x y c d e f before word here there.
      let p = on_run modules command places number m x good is (in_section m fits x c) e in
      let q = on_run modules command places number m y good is (in_section m fits y d) f in
      let once = run_once number number m m x y p q word here there in
      ⊎_elim (λ lt. omega (arith, lt, once.indexes))
      (λ same.
      let base : section_run modules places number m x.section ≡ section_run modules places number m y.section = ap (section_run modules places number m) same.0 in
      omega (arith, base, same.1, here.upto, there.from)) before)

  pub all_apart : Pairwise RunsApart (program_run_marks modules places)
  all_apart =
      module_pairs RunsApart (module_run_marks modules places) 0 modules
      (λ i m is. let at : i ≡ 0 + i = omega arith in subst (λ k. Pairwise RunsApart (module_run_marks modules places k m)) at (module_apart i m is))
      (λ i j m n lt is also a b c d word here there.
      let at : 0 + i ≡ i = omega arith in
      let later : 0 + j ≡ j = omega arith in
      let p = copy_from i m a is (subst (λ k. Contains (module_run_marks modules places k m) a) at c) in
      let q = copy_from j n b also (subst (λ k. Contains (module_run_marks modules places k n) b) later d) in
      let once = run_once i j m n p.mark q.mark p.on q.on word (subst (λ (r : RunMark). Covers r.run r.size word) (sym p.same) here) (subst (λ (r : RunMark). Covers r.run r.size word) (sym q.same) there) in
      omega (arith, once.numbers, lt))

  -- ---- none is loaded at a word of another

  pub copy_of : (a : RunMark) → Contains (program_run_marks modules places) a → IsCopy modules places a
  copy_of a c =
      let g = from_modules (module_run_marks modules places) 0 modules a c in
      let at : 0 + g.index ≡ g.index = omega arith in
      record {
        number = g.index;
        owner = g.owner;
        owner_is = g.owner_is;
        copy = copy_from g.index g.owner a g.owner_is (subst (λ k. Contains (module_run_marks modules places k g.owner) a) at g.among);
      }

  stays : (b : Mark) → Contains (program_marks modules places) b → Stays modules places b
  stays b c =
      let g = from_modules (module_marks modules places) 0 modules b c in
      let at : 0 + g.index ≡ g.index = omega arith in
      let image = from_map (placed_mark modules places g.index g.owner) (filter (is_run_in_place places g.owner) g.owner.marks) b (subst (λ k. Contains (module_marks modules places k g.owner) b) at g.among) in
      let chosen = from_filter (is_run_in_place places g.owner) g.owner.marks image.0 image.1 in
      let on = and_parts (is_on_program places g.owner image.0) (not (section_runs_elsewhere places g.owner image.0.section)) chosen.1 in
      record {
        number = g.index;
        owner = g.owner;
        owner_is = g.owner_is;
        mark = image.0;
        on = on_page modules places g.index g.owner image.0 g.owner_is (in_section g.owner (module_at modules g.index g.owner are g.owner_is) image.0 chosen.0) on.0;
        chosen = chosen.1;
        same = image.2;
      }

  -- a later instruction is loaded after an earlier one where they share a section
  pub loads_apart : (a b : RunMark) → Contains (program_run_marks modules places) a → Contains (program_run_marks modules places) b → a.run + a.size ≤ b.run → (word : ℕ) → Covers a.load a.size word → Covers b.load b.size word → ⊥
  loads_apart a b c d before word here there =
      let p = copy_of a c in
      let q = copy_of b d in
      let x = p.copy.mark in
      let y = q.copy.mark in
      let once = load_once p.number q.number p.owner q.owner x y p.copy.on.loaded q.copy.on.loaded word
      (subst (λ (r : RunMark). Covers r.load r.size word) (sym p.copy.same) here) (subst (λ (r : RunMark). Covers r.load r.size word) (sym q.copy.same) there) in
      let owners = one_owner modules p.number q.number p.owner q.owner once.numbers p.owner_is q.owner_is in
      let loads : section_base modules places p.number p.owner x.section ≡ section_base modules places q.number q.owner y.section = λ i. section_base modules places (once.numbers i) (owners i) (once.indexes i) in
      let runs : section_run modules places p.number p.owner x.section ≡ section_run modules places q.number q.owner y.section = λ i. section_run modules places (once.numbers i) (owners i) (once.indexes i) in
      let a_load : section_base modules places p.number p.owner x.section + x.offset ≡ a.load = ap (λ (r : RunMark). r.load) p.copy.same in
      let a_run : section_run modules places p.number p.owner x.section + x.offset ≡ a.run = ap (λ (r : RunMark). r.run) p.copy.same in
      let b_load : section_base modules places q.number q.owner y.section + y.offset ≡ b.load = ap (λ (r : RunMark). r.load) q.copy.same in
      let b_run : section_run modules places q.number q.owner y.section + y.offset ≡ b.run = ap (λ (r : RunMark). r.run) q.copy.same in
      omega (arith, loads, runs, a_load, a_run, b_load, b_run, before, here.upto, there.from)

  pub loads_free : (a : RunMark) (b : Mark) → Contains (program_run_marks modules places) a → Contains (program_marks modules places) b → (word : ℕ) → Covers a.load a.size word → Covers b.address b.size word → ⊥
  loads_free a b c d word here there =
      let p = copy_of a c in
      let q = stays b d in
      let x = p.copy.mark in
      let y = q.mark in
      let once = load_once p.number q.number p.owner q.owner x y p.copy.on.loaded q.on word
      (subst (λ (r : RunMark). Covers r.load r.size word) (sym p.copy.same) here) (subst (λ (r : Mark). Covers r.address r.size word) (sym q.same) there) in
      let owners = one_owner modules p.number q.number p.owner q.owner once.numbers p.owner_is q.owner_is in
      let same : section_runs_elsewhere places p.owner x.section ≡ section_runs_elsewhere places q.owner y.section = λ i. section_runs_elsewhere places (owners i) (once.indexes i) in
      let elsewhere = (and_parts (is_on_program places p.owner x) (section_runs_elsewhere places p.owner x.section) p.copy.chosen).1 in
      let here_too = (and_parts (is_on_program places q.owner y) (not (section_runs_elsewhere places q.owner y.section)) q.chosen).1 in
      let never : not true ≡ true = ap not (sym elsewhere ∙ same) ∙ here_too in
      absurd cc
