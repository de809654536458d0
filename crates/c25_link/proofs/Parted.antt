-- The parts of modules, list by list.
use Rattle.std.proofs.Common.{◌≡◌, ℕ, zero, suc, ◌+◌, ◌<◌, ◌≤◌, Bool, true, false, List, [], ◌∷◌, ◌++◌, length, get_or, take, Option, Some, None, refl, sym, ap, subst, ◌∙◌, arith, append_assoc, inl, inr}
use Rattle.std.specs.Borrow.{Bor}
use Rattle.std.specs.List.{slice_get}
use Rattle.std.specs.Prelude.{is_some, unwrap_or}
use Rattle.std.specs.Option.{option_map, option_map_or}
use Rattle.std.specs.Slice.{IsItemAt}
use Rattle.std.specs.Str.{bytes_eq}
use Rattle.std.specs.declared.alloc.Global.{Global}
use Rattle.std.specs.declared.vec.Vec.{Vec}
use Rattle.std.proofs.lemmas.Bool.{cases_lt}
use Rattle.std.proofs.lemmas.List.{take_more, take_all, get_or-take, length-append, length-take-le, flat_map_more, take-map}
use Rattle.std.proofs.lemmas.Option.{slice_get-get_or, slice_get_within, slice_get_past, get_or_from_slice_get, slice_get_read, slice_get-map}
use Rattle.c25_meaning_objects.specs.Module.{SectionData, Contents, IsModule, body_size, each_fits, section_fits}
use Rattle.c25_meaning_linking.specs.Place.{Place, all_sections, part_base, part_run, page_of, place_named, run_base, runs_elsewhere, size_of_parts}
use Rattle.c25_meaning_linking.specs.Words.{section_base, section_page, section_run, section_runs_elsewhere}
use Rattle.c25_meaning_linking.proofs.Parts.{same_index, sections_of_module}
use Rattle.c25_meaning_linking.proofs.PlaceNames.{same_name}
use Rattle.c25_module.specs.View.{contents, body_data, section_data, sections_data}
use Rattle.c25_module.specs.declared.parts.Parts.{Parts}
use Rattle.c25_module.specs.declared.parts.Section.{Section}
use Rattle.c25_place.specs.Outputs.{size_of_sections}
use Rattle.c25_place.proofs.Listed.{small_sections}
use Rattle.c25_link.specs.Bases.{part_of, parts_of, part_in, next_part, HasRoom, HasPlaceFor}
use Rattle.c25_link.specs.declared.bases.PartBase.{PartBase}
use Rattle.c25_link.proofs.Based.{nothing_before, place_for, part_is}
use Rattle.c25_link.proofs.Search.{mapped_more}

-- ---- what is found at a number

pub base_found : (modules : List Contents) (places : List Place) (number index : ℕ) (m : Contents) (p : Option PartBase) → p ≡ parts_of modules places number m index
    → option_map_or (λ b. b.base) p 0 ≡ section_base modules places number m index
base_found modules places number index m p e = ap (λ (q : Option PartBase). option_map_or (λ b. b.base) q 0) e ∙ by_option (slice_get m.sections index) where
  by_option : (o : Option SectionData) → option_map_or (λ b. b.base) (option_map (part_of modules places number) o) 0 ≡ option_map_or (λ s. part_base modules places number s.name) o 0
  by_option None = refl
  by_option (Some s) = refl

pub page_found : (modules : List Contents) (places : List Place) (number index : ℕ) (m : Contents) (p : Option PartBase) → p ≡ parts_of modules places number m index
    → option_map_or (λ b. b.page) p 0 ≡ section_page places m index
page_found modules places number index m p e = ap (λ (q : Option PartBase). option_map_or (λ b. b.page) q 0) e ∙ by_option (slice_get m.sections index) where
  by_option : (o : Option SectionData) → option_map_or (λ b. b.page) (option_map (part_of modules places number) o) 0 ≡ option_map_or (λ s. page_of s.name places) o 0
  by_option None = refl
  by_option (Some s) = refl

-- where a part runs
abbrev pub run_base_in : PartBase → ℕ
run_base_in b = unwrap_or b.run b.base

pub run_found : (modules : List Contents) (places : List Place) (number index : ℕ) (m : Contents) (p : Option PartBase) → p ≡ parts_of modules places number m index
    → option_map_or run_base_in p 0 ≡ section_run modules places number m index
run_found modules places number index m p e = ap (λ (q : Option PartBase). option_map_or run_base_in q 0) e ∙ by_option (slice_get m.sections index) where
  by_run : (k base : ℕ) (o : Option ℕ) → unwrap_or (option_map (λ run. run + k) o) (base + k) ≡ unwrap_or o base + k
  by_run k base None = refl
  by_run k base (Some run) = refl

  by_place : (k : ℕ) (o : Option Place) → unwrap_or (option_map (λ run. run + k) (elim o [ None ↦ None | Some q ↦ q.run ])) (option_map_or (λ q. q.base) o 0 + k) ≡ option_map_or run_base o 0 + k
  by_place k None = refl
  by_place k (Some q) = by_run k q.base q.run

  by_option : (o : Option SectionData) → option_map_or run_base_in (option_map (part_of modules places number) o) 0 ≡ option_map_or (λ s. part_run modules places number s.name) o 0
  by_option None = refl
  by_option (Some s) = by_place (size_of_parts s.name (take number modules)) (place_named s.name places)

pub elsewhere_found : (modules : List Contents) (places : List Place) (number index : ℕ) (m : Contents) (p : Option PartBase) → p ≡ parts_of modules places number m index
    → option_map_or (λ b. is_some b.run) p false ≡ section_runs_elsewhere places m index
elsewhere_found modules places number index m p e = ap (λ (q : Option PartBase). option_map_or (λ b. is_some b.run) q false) e ∙ by_option (slice_get m.sections index) where
  by_run : (k : ℕ) (o : Option ℕ) → is_some (option_map (λ run. run + k) o) ≡ is_some o
  by_run k None = refl
  by_run k (Some run) = refl

  by_place : (k : ℕ) (o : Option Place) → is_some (option_map (λ run. run + k) (elim o [ None ↦ None | Some q ↦ q.run ])) ≡ option_map_or (λ q. is_some q.run) o false
  by_place k None = refl
  by_place k (Some q) = by_run k q.run

  by_option : (o : Option SectionData) → option_map_or (λ b. is_some b.run) (option_map (part_of modules places number) o) false ≡ option_map_or (λ s. runs_elsewhere s.name places) o false
  by_option None = refl
  by_option (Some s) = by_place (size_of_parts s.name (take number modules)) (place_named s.name places)

-- the list of a number, and no list
pub in_list : (lists : List (Vec PartBase Global)) (number index : ℕ) (parts : Vec PartBase Global) → slice_get lists number ≡ Some parts → slice_get parts.items index ≡ part_in lists number index
in_list lists number index parts is = ap (λ (o : Option (Vec PartBase Global)). elim o [ None ↦ None | Some v ↦ slice_get v.items index ]) (sym is)

pub in_none : (lists : List (Vec PartBase Global)) (number index : ℕ) → slice_get lists number ≡ None → None ≡ part_in lists number index
in_none lists number index is = ap (λ (o : Option (Vec PartBase Global)). elim o [ None ↦ None | Some v ↦ slice_get v.items index ]) (sym is)

-- ---- lists that grow at their end

pub slice_get-front : {A : Type 0} (xs ys : List A) (k : ℕ) → k < length xs → slice_get (xs ++ ys) k ≡ slice_get xs k
slice_get-front [] ys k lt = absurd (omega arith)
slice_get-front (x ∷ xs) ys zero lt = refl
slice_get-front (x ∷ xs) ys (suc k) lt = slice_get-front xs ys k (omega arith)

pub slice_get-end : {A : Type 0} (xs : List A) (x : A) (k : ℕ) → k ≡ length xs → slice_get (xs ++ x ∷ []) k ≡ Some x
slice_get-end [] x zero is = refl
slice_get-end [] x (suc k) is = absurd (omega arith)
slice_get-end (y ∷ xs) x zero is = absurd (omega arith)
slice_get-end (y ∷ xs) x (suc k) is = slice_get-end xs x k (omega arith)

-- an item more
pub items_more : {A : Type 0} (old new : List A) (x : A) (i : ℕ) (f : ℕ → Option A) → new ≡ old ++ x ∷ [] → length old ≡ i → ((k : ℕ) → k < i → slice_get old k ≡ f k) → Some x ≡ f i
    → (k : ℕ) → k < i + 1 → slice_get new k ≡ f k
items_more old new x i f e size before here k lt = elim (cases_lt k i) [
  | inl less ↦ ap (λ xs. slice_get xs k) e ∙ slice_get-front old (x ∷ []) k (omega arith) ∙ before k less
  | inr le ↦ let at : k ≡ i = omega arith in ap (λ xs. slice_get xs k) e ∙ slice_get-end old x k (omega arith) ∙ here ∙ ap f (sym at)
]

pub one_longer : {A : Type 0} (old new : List A) (x : A) (i : ℕ) → new ≡ old ++ x ∷ [] → length old ≡ i → length new ≡ i + 1
one_longer old new x i e size = let more : length new ≡ length old + 1 = ap length e ∙ length-append old (x ∷ []) in omega arith

-- all items, and nothing after them
pub items_all : {A B : Type 0} (g : B → A) (xs : List A) (ys : List B) (i : ℕ) → length ys ≤ i → length xs ≡ i → i ≤ length ys → ((k : ℕ) → k < i → slice_get xs k ≡ option_map g (slice_get ys k))
    → (k : ℕ) → slice_get xs k ≡ option_map g (slice_get ys k)
items_all g xs ys i whole size few each k = elim (cases_lt k i) [
  | inl less ↦ each k less
  | inr le ↦ slice_get_past xs k (omega arith) ∙ ap (option_map g) (sym (slice_get_past ys k (omega arith)))
]

-- ---- the sections of one module

differs : (sections : List SectionData) (i j : ℕ) (s t : SectionData) → each_fits section_fits [] sections ≡ true → slice_get sections i ≡ Some s → slice_get sections j ≡ Some t → j < i → bytes_eq s.name t.name ≡ false
differs sections i j s t e is there lt = by_test (bytes_eq s.name t.name) refl where
  by_test : (b : Bool) → bytes_eq s.name t.name ≡ b → b ≡ false
  by_test true h = let same : i ≡ j = same_index sections i j s t e is there (same_name s.name t.name h) in absurd (omega arith)
  by_test false h = refl

taken_from : {A : Type 0} (xs : List A) (i j : ℕ) (x : A) → i ≤ length xs → slice_get (take i xs) j ≡ Some x → (j < i) × (slice_get xs j ≡ Some x)
taken_from xs i j x le h =
    let within : j < length (take i xs) = slice_get_within (take i xs) j x h in
    let size : length (take i xs) ≡ i = length-take-le i xs le in
    let below : j < i = omega arith in
    (below, slice_get-get_or xs j x (omega arith) ∙ ap Some (sym (get_or-take i xs j x below) ∙ get_or_from_slice_get (take i xs) j x x h))

none_before : (sections : List SectionData) (i : ℕ) (s : SectionData) → each_fits section_fits [] sections ≡ true → slice_get sections i ≡ Some s → size_of_sections s.name (take i sections) ≡ 0
none_before sections i s e is =
    let within : i < length sections = slice_get_within sections i s is in
    nothing_before s.name (take i sections) (λ j t h. let from = taken_from sections i j t (omega arith) h in differs sections i j s t e is from.1 from.0)

pub small_section : (owner : Parts) (i : ℕ) (s : Section) → IsModule (contents owner) → i < length owner.sections.items → s ≡ get_or owner.sections.items i s → body_size (body_data s.body) ≤ 65536
small_section owner i s module_is lt at =
    subst (λ (x : Section). body_size (body_data x.body) ≤ 65536) (sym at) (small_sections (contents owner) owner.sections.items module_is refl i s lt)

-- the part of a section, after those before it
pub record PartIs (modules : List Contents) (places : List Place) (number : ℕ) (owner : Parts) (i : ℕ) (s : Section) : Type 0 where
  pub place : Place
  pub has : HasPlaceFor places (all_sections (take number modules) ++ sections_data (take i owner.sections.items)) (section_data s) place
  pub part : next_part (all_sections (take number modules) ++ sections_data (take i owner.sections.items)) place ≡ part_of modules places number (section_data s)
  pub here : Some (part_of modules places number (section_data s)) ≡ parts_of modules places number (contents owner) i

pub part_there : (modules : List Contents) (places : List Place) (number : ℕ) (owner : Parts) (i : ℕ) (s : Section) → IsModule (contents owner) → HasRoom modules places → slice_get modules number ≡ Some (contents owner)
    → i < length owner.sections.items → s ≡ get_or owner.sections.items i s → PartIs modules places number owner i s
part_there modules places number owner i s module_is room is lt at =
    let ss : List Section = owner.sections.items in
    let own : List SectionData = sections_data (take i ss) in
    let there : slice_get (sections_data ss) i ≡ Some (section_data s) = slice_get-map section_data ss i ∙ ap (option_map section_data) (slice_get_read ss (length ss) i s refl lt at) in
    let r = room number i (contents owner) (section_data s) (record { owner_is = is; section_is = there }) in
    let none : size_of_sections (section_data s).name own ≡ 0 =
    ap (size_of_sections (section_data s).name) (sym (take-map section_data i ss)) ∙ none_before (sections_data ss) i (section_data s) (sections_of_module (contents owner) module_is.lists) there in
    record {
      place = r.place;
      has = place_for modules places number own (section_data s) r none;
      part = part_is modules places number own (section_data s) r none;
      here = ap (option_map (part_of modules places number)) (sym there);
    }

-- so a part that begins after them is the module's
pub part_kept : (modules : List Contents) (places : List Place) (number : ℕ) (owner : Parts) (i : ℕ) (s : Section) (part : PartBase) (k : PartIs modules places number owner i s)
    → part ≡ next_part (all_sections (take number modules) ++ sections_data (take i owner.sections.items)) k.place → Some part ≡ parts_of modules places number (contents owner) i
part_kept modules places number owner i s part k same = ap Some (same ∙ k.part) ∙ k.here

-- one section more
pub sections_next : (before : List SectionData) (ss : List Section) (i : ℕ) (s : Section) → i < length ss → s ≡ get_or ss i s
    → (before ++ sections_data (take i ss)) ++ section_data s ∷ [] ≡ before ++ sections_data (take (i + 1) ss)
sections_next before ss i s lt at = append_assoc before (sections_data (take i ss)) (section_data s ∷ []) ∙ ap (λ zs. before ++ zs) (sym (mapped_more section_data ss i s lt at))

-- one module more
pub module_next : (modules : List Contents) (number : ℕ) (m : Contents) → slice_get modules number ≡ Some m → all_sections (take number modules) ++ m.sections ≡ all_sections (take (number + 1) modules)
module_next modules number m is =
    let at : get_or modules number m ≡ m = get_or_from_slice_get modules number m m is in
    flat_map_more (λ (c : Contents). c.sections) [] (take number modules) m
    ∙ ap (λ (c : Contents). all_sections (take number modules ++ c ∷ [])) (sym at)
    ∙ ap all_sections (sym (take_more modules number m (slice_get_within modules number m is)))

pub module_whole : (modules : List Contents) (number : ℕ) (owner : Parts) (i : ℕ) → slice_get modules number ≡ Some (contents owner) → length owner.sections.items ≤ i
    → all_sections (take number modules) ++ sections_data (take i owner.sections.items) ≡ all_sections (take (number + 1) modules)
module_whole modules number owner i is le = ap (λ ss. all_sections (take number modules) ++ sections_data ss) (take_all i owner.sections.items le) ∙ module_next modules number (contents owner) is

-- ---- the parts of all modules

-- a module more
pub module_parts : (modules : List Contents) (places : List Place) (old new : List (Vec PartBase Global)) (v : Vec PartBase Global) (i : ℕ) (here : Contents) → new ≡ old ++ v ∷ [] → length old ≡ i → slice_get modules i ≡ Some here
    → ((number index : ℕ) (m : Contents) → number < i → slice_get modules number ≡ Some m → part_in old number index ≡ parts_of modules places number m index)
    → ((index : ℕ) → slice_get v.items index ≡ parts_of modules places i here index)
    → (number index : ℕ) (m : Contents) → number < i + 1 → slice_get modules number ≡ Some m → part_in new number index ≡ parts_of modules places number m index
module_parts modules places old new v i here e size at before this number index m lt is = elim (cases_lt number i) [
  | inl less ↦
      ap (λ (o : Option (Vec PartBase Global)). elim o [ None ↦ None | Some w ↦ slice_get w.items index ]) (ap (λ xs. slice_get xs number) e ∙ slice_get-front old (v ∷ []) number (omega arith))
      ∙ before number index m less is
  | inr le ↦
      let one : number ≡ i = omega arith in
      let same : here ≡ m = let k : slice_get modules number ≡ slice_get modules i = ap (slice_get modules) one in cc in
      sym (in_list new number index v (ap (λ xs. slice_get xs number) e ∙ slice_get-end old v number (omega arith)))
      ∙ this index ∙ ap (λ c. parts_of modules places i c index) same ∙ ap (λ n. parts_of modules places n m index) (sym one)
]

-- ---- the part of two numbers

pub found_part : (lists xs : List (Vec PartBase Global)) (ys : List PartBase) (number index : ℕ) (parts : Bor (Vec PartBase Global)) (part : Bor PartBase) → xs ≡ lists → ys ≡ parts.now.items
    → IsItemAt xs number (Some parts) → IsItemAt ys index (Some part) → Some part.now ≡ part_in lists number index
found_part lists xs ys number index parts part a b outer inner =
    let this : slice_get xs number ≡ Some parts.now = slice_get_read xs (length xs) number parts.now refl outer.3.0 outer.1 in
    let that : slice_get ys index ≡ Some part.now = slice_get_read ys (length ys) index part.now refl inner.3.0 inner.1 in
    sym that ∙ ap (λ zs. slice_get zs index) b ∙ in_list lists number index parts.now (ap (λ zs. slice_get zs number) (sym a) ∙ this)

pub no_part : (lists xs : List (Vec PartBase Global)) (ys : List PartBase) (number index : ℕ) (parts : Bor (Vec PartBase Global)) → xs ≡ lists → ys ≡ parts.now.items
    → IsItemAt xs number (Some parts) → IsItemAt {X = PartBase} ys index None → None ≡ part_in lists number index
no_part lists xs ys number index parts a b outer inner =
    let this : slice_get xs number ≡ Some parts.now = slice_get_read xs (length xs) number parts.now refl outer.3.0 outer.1 in
    sym (slice_get_past ys index inner.3) ∙ ap (λ zs. slice_get zs index) b ∙ in_list lists number index parts.now (ap (λ zs. slice_get zs number) (sym a) ∙ this)

pub no_list : (lists xs : List (Vec PartBase Global)) (number index : ℕ) → xs ≡ lists → IsItemAt {X = Vec PartBase Global} xs number None → None ≡ part_in lists number index
no_list lists xs number index a outer = in_none lists number index (ap (λ zs. slice_get zs number) (sym a) ∙ slice_get_past xs number outer.3)
