-- The blocks and the words of modules, one by one.
use Rattle.std.proofs.Common.{◌≡◌, ℕ, ◌+◌, ◌<◌, Bool, true, false, cond, List, [], ◌∷◌, ◌++◌, length, get_or, take, map, filter, Option, Some, None, unwrap_or, refl, sym, ap, subst, ◌∙◌, arith, append_assoc}
use Rattle.std.specs.List.{slice_get, sum_by}
use Rattle.std.specs.Borrow.{Bor}
use Rattle.std.specs.Option.{option_map, option_map_or}
use Rattle.std.specs.Slice.{IsItemAt}
use Rattle.std.specs.Str.{bytes_eq}
use Rattle.std.proofs.lemmas.List.{map-append, take_more, append-nil}
use Rattle.std.proofs.lemmas.List.Elements.{filter-append}
use Rattle.std.proofs.lemmas.List.Sums.{sum_by_push}
use Rattle.std.proofs.lemmas.Option.{slice_get-get_or, slice_get-map, slice_get_past, slice_get_read}
use Rattle.c25_meaning_objects.specs.Module.{Contents, SectionData, body_size}
use Rattle.c25_meaning_objects.specs.declared.object.Block.{Block}
use Rattle.c25_meaning_linking.specs.Place.{BlockData, block_behind, blocks_behind, by_modules, is_block_named, is_section_named, part_blocks, size_for, size_of_parts}
use Rattle.c25_meaning_linking.proofs.ByModules.{by_modules_more}
use Rattle.c25_meaning_linking.proofs.Parts.{sizes_more}
use Rattle.c25_meaning_linking.proofs.PlaceNames.{same_name}
use Rattle.c25_module.specs.View.{section_data, sections_data}
use Rattle.c25_module.specs.declared.parts.Section.{Section}
use Rattle.c25_place.specs.Blocks.{KnowsPaging, anywhere}
use Rattle.c25_place.specs.declared.blocks.Paging.{Paging}
use Rattle.c25_place.proofs.Listed.{mapped_more}
use Rattle.c25_place.proofs.Sized.{turned}

-- ---- a block more

one : (f : Block → BlockData) (b : Block) (t : Bool) → map f (cond t (b ∷ []) []) ≡ cond t (f b ∷ []) []
one f b true = refl
one f b false = refl

kept_more : (test : Block → Bool) (f : Block → BlockData) (bs : List Block) (i : ℕ) (b d : Block) (t : Bool) → i < length bs → b ≡ get_or bs i d → test b ≡ t
    → map f (filter test (take (i + 1) bs)) ≡ map f (filter test (take i bs)) ++ cond t (f b ∷ []) []
kept_more test f bs i b d t lt is e =
    ap (λ xs. map f (filter test xs)) (take_more bs i d lt ∙ ap (λ x. take i bs ++ x ∷ []) (sym is))
    ∙ ap (map f) (filter-append test (take i bs) (b ∷ []))
    ∙ map-append f (filter test (take i bs)) (cond (test b) (b ∷ []) [])
    ∙ ap (λ zs. map f (filter test (take i bs)) ++ zs) (one f b (test b) ∙ ap (λ u. cond u (f b ∷ []) []) e)

-- the blocks of a name so far, after those before
abbrev pub so_far : Contents → List Block → ℕ → (List ℕ → ℕ) → (List ℕ → List BlockData) → List ℕ → List BlockData
so_far owner bs i words blocks name = blocks name ++ map (block_behind (words name)) (filter (is_block_named name owner) (take i bs))

more : (owner : Contents) (bs : List Block) (i : ℕ) (b d : Block) (words : List ℕ → ℕ) (blocks : List ℕ → List BlockData) (name : List ℕ) (t : Bool) → i < length bs → b ≡ get_or bs i d → is_block_named name owner b ≡ t
    → so_far owner bs (i + 1) words blocks name ≡ so_far owner bs i words blocks name ++ cond t (block_behind (words name) b ∷ []) []
more owner bs i b d words blocks name t lt is e =
    let test = is_block_named name owner in
    let f = block_behind (words name) in
    ap (λ zs. blocks name ++ zs) (kept_more test f bs i b d t lt is e) ∙ sym (append_assoc (blocks name) (map f (filter test (take i bs))) (cond t (f b ∷ []) []))

pub block_next : (owner : Contents) (bs : List Block) (i : ℕ) (b d : Block) (section : SectionData) (key : List ℕ) (found after : List ℕ → Option Paging) (p q : Paging) (words : List ℕ → ℕ) (blocks : List ℕ → List BlockData)
    → i < length bs → b ≡ get_or bs i d → slice_get owner.sections b.section ≡ Some section → key ≡ section.name → p ≡ unwrap_or (found key) anywhere
    → ((w : ℕ) (xs : List BlockData) → KnowsPaging p w xs → KnowsPaging q w (xs ++ block_behind w b ∷ [])) → ((name : List ℕ) → after name ≡ cond (bytes_eq key name) (Some q) (found name))
    → ((name : List ℕ) → KnowsPaging (unwrap_or (found name) anywhere) (words name) (so_far owner bs i words blocks name))
    → (name : List ℕ) → KnowsPaging (unwrap_or (after name) anywhere) (words name) (so_far owner bs (i + 1) words blocks name)
block_next owner bs i b d section key found after p q words blocks lt is section_is key_is p_is next after_is known name = by_test (bytes_eq key name) refl where
  named_is : is_block_named name owner b ≡ bytes_eq key name
  named_is = ap (λ (o : Option SectionData). option_map_or (is_section_named name) o false) section_is ∙ ap (bytes_eq name) (sym key_is) ∙ turned name key

  by_test : (t : Bool) → bytes_eq key name ≡ t → KnowsPaging (unwrap_or (after name) anywhere) (words name) (so_far owner bs (i + 1) words blocks name)
  by_test true e =
      let same : key ≡ name = same_name key name e in
      let q_is : q ≡ unwrap_or (after name) anywhere = sym (ap (λ o. unwrap_or o anywhere) (after_is name ∙ ap (λ t. cond t (Some q) (found name)) e)) in
      let at : unwrap_or (found name) anywhere ≡ p = ap (λ n. unwrap_or (found n) anywhere) (sym same) ∙ sym p_is in
      let here : KnowsPaging q (words name) (so_far owner bs i words blocks name ++ block_behind (words name) b ∷ []) =
      next (words name) (so_far owner bs i words blocks name) (subst (λ x. KnowsPaging x (words name) (so_far owner bs i words blocks name)) at (known name)) in
      subst (λ x. KnowsPaging x (words name) (so_far owner bs (i + 1) words blocks name)) q_is
      (subst (λ xs. KnowsPaging q (words name) xs) (sym (more owner bs i b d words blocks name true lt is (named_is ∙ e))) here)
  by_test false e =
      let kept : unwrap_or (found name) anywhere ≡ unwrap_or (after name) anywhere = sym (ap (λ o. unwrap_or o anywhere) (after_is name ∙ ap (λ t. cond t (Some q) (found name)) e)) in
      subst (λ x. KnowsPaging x (words name) (so_far owner bs (i + 1) words blocks name)) kept
      (subst (λ xs. KnowsPaging (unwrap_or (found name) anywhere) (words name) xs) (sym (more owner bs i b d words blocks name false lt is (named_is ∙ e) ∙ append-nil (so_far owner bs i words blocks name))) (known name))

-- a block of no section is of no name
pub block_skipped : (owner : Contents) (bs : List Block) (i : ℕ) (b d : Block) (words : List ℕ → ℕ) (blocks : List ℕ → List BlockData) (p : Paging) (name : List ℕ)
    → i < length bs → b ≡ get_or bs i d → slice_get owner.sections b.section ≡ None → KnowsPaging p (words name) (so_far owner bs i words blocks name) → KnowsPaging p (words name) (so_far owner bs (i + 1) words blocks name)
block_skipped owner bs i b d words blocks p name lt is none known =
    let off : is_block_named name owner b ≡ false = ap (λ (o : Option SectionData). option_map_or (is_section_named name) o false) none in
    subst (λ xs. KnowsPaging p (words name) xs) (sym (more owner bs i b d words blocks name false lt is off ∙ append-nil (so_far owner bs i words blocks name))) known

-- ---- a section more

-- the words of a name so far, after those before
abbrev pub words_so_far : List Section → ℕ → (List ℕ → ℕ) → List ℕ → ℕ
words_so_far sections i words name = words name + sum_by (size_for name) (sections_data (take i sections))

more_words : (sections : List Section) (i : ℕ) (s : Section) (words : List ℕ → ℕ) (name : List ℕ) (t : Bool) → i < length sections → s ≡ get_or sections i s → bytes_eq name (section_data s).name ≡ t
    → words_so_far sections (i + 1) words name ≡ words_so_far sections i words name + cond t (body_size (section_data s).body) 0
more_words sections i s words name t lt is e =
    let before = sum_by (size_for name) (sections_data (take i sections)) in
    let pushed : sum_by (size_for name) (sections_data (take (i + 1) sections)) ≡ before + cond t (body_size (section_data s).body) 0 =
    ap (sum_by (size_for name)) (mapped_more section_data sections i s lt ∙ ap (λ x. sections_data (take i sections) ++ section_data x ∷ []) (sym is))
    ∙ sum_by_push (size_for name) (sections_data (take i sections)) (section_data s) ∙ ap (λ b. before + cond b (body_size (section_data s).body) 0) e in
    omega (arith, pushed)

pub words_next : (sections : List Section) (i : ℕ) (s : Section) (key : List ℕ) (size : ℕ) (found after : List ℕ → Option Paging) (p q : Paging) (words : List ℕ → ℕ) (blocks : List ℕ → List BlockData)
    → i < length sections → s ≡ get_or sections i s → key ≡ (section_data s).name → size ≡ body_size (section_data s).body → p ≡ unwrap_or (found key) anywhere
    → ((w : ℕ) (xs : List BlockData) → KnowsPaging p w xs → KnowsPaging q (w + size) xs) → ((name : List ℕ) → after name ≡ cond (bytes_eq key name) (Some q) (found name))
    → ((name : List ℕ) → KnowsPaging (unwrap_or (found name) anywhere) (words_so_far sections i words name) (blocks name))
    → (name : List ℕ) → KnowsPaging (unwrap_or (after name) anywhere) (words_so_far sections (i + 1) words name) (blocks name)
words_next sections i s key size found after p q words blocks lt is key_is size_is p_is next after_is known name = by_test (bytes_eq key name) refl where
  named_is : bytes_eq name (section_data s).name ≡ bytes_eq key name
  named_is = ap (bytes_eq name) (sym key_is) ∙ turned name key

  by_test : (t : Bool) → bytes_eq key name ≡ t → KnowsPaging (unwrap_or (after name) anywhere) (words_so_far sections (i + 1) words name) (blocks name)
  by_test true e =
      let same : key ≡ name = same_name key name e in
      let q_is : q ≡ unwrap_or (after name) anywhere = sym (ap (λ o. unwrap_or o anywhere) (after_is name ∙ ap (λ t. cond t (Some q) (found name)) e)) in
      let at : unwrap_or (found name) anywhere ≡ p = ap (λ n. unwrap_or (found n) anywhere) (sym same) ∙ sym p_is in
      let here : KnowsPaging q (words_so_far sections i words name + size) (blocks name) =
      next (words_so_far sections i words name) (blocks name) (subst (λ x. KnowsPaging x (words_so_far sections i words name) (blocks name)) at (known name)) in
      subst (λ x. KnowsPaging x (words_so_far sections (i + 1) words name) (blocks name)) q_is
      (subst (λ n. KnowsPaging q n (blocks name)) (ap (λ n. words_so_far sections i words name + n) size_is ∙ sym (more_words sections i s words name true lt is (named_is ∙ e))) here)
  by_test false e =
      let kept : unwrap_or (found name) anywhere ≡ unwrap_or (after name) anywhere = sym (ap (λ o. unwrap_or o anywhere) (after_is name ∙ ap (λ t. cond t (Some q) (found name)) e)) in
      let zero_more : words_so_far sections i words name ≡ words_so_far sections (i + 1) words name =
      let added = more_words sections i s words name false lt is (named_is ∙ e) in omega (arith, added) in
      subst (λ x. KnowsPaging x (words_so_far sections (i + 1) words name) (blocks name)) kept
      (subst (λ n. KnowsPaging (unwrap_or (found name) anywhere) n (blocks name)) zero_more (known name))

-- ---- the sections of a module by their numbers

pub section_at : (items xs : List Section) (number : ℕ) (s : Bor Section) → xs ≡ items → IsItemAt xs number (Some s) → slice_get (sections_data items) number ≡ Some (section_data s.now)
section_at items xs number s same item =
    let this : slice_get xs number ≡ Some s.now = slice_get_read xs (length xs) number s.now refl item.3.0 item.1 in
    slice_get-map section_data items number ∙ ap (option_map section_data) (ap (λ zs. slice_get zs number) (sym same) ∙ this)

pub no_section : (items xs : List Section) (number : ℕ) → xs ≡ items → IsItemAt {X = Section} xs number None → slice_get (sections_data items) number ≡ None
no_section items xs number same item = slice_get-map section_data items number ∙ ap (option_map section_data) (ap (λ zs. slice_get zs number) (sym same) ∙ slice_get_past xs number item.3)

-- ---- a module more

pub module_next : (modules : List Contents) (i : ℕ) (m x : Contents) (sections : List SectionData) (name : List ℕ) (p : Paging) → i < length modules → m ≡ get_or modules i m → x ≡ m → sections ≡ m.sections
    → KnowsPaging p (size_of_parts name (take i modules) + sum_by (size_for name) sections) (by_modules (part_blocks modules name) 0 (take i modules) ++ blocks_behind name (size_of_parts name (take i modules)) x)
    → KnowsPaging p (size_of_parts name (take (i + 1) modules)) (by_modules (part_blocks modules name) 0 (take (i + 1) modules))
module_next modules i m x sections name p lt is same are known =
    let there : slice_get modules i ≡ Some m = slice_get-get_or modules i m lt ∙ ap Some (sym is) in
    let sizes : size_of_parts name (take i modules) + sum_by (size_for name) sections ≡ size_of_parts name (take (i + 1) modules) =
    ap (λ ss. size_of_parts name (take i modules) + sum_by (size_for name) ss) are ∙ sym (sizes_more name modules i m there) in
    let before : List BlockData = by_modules (part_blocks modules name) 0 (take i modules) in
    let more_blocks : before ++ blocks_behind name (size_of_parts name (take i modules)) x ≡ by_modules (part_blocks modules name) 0 (take (i + 1) modules) =
    ap (λ c. before ++ blocks_behind name (size_of_parts name (take i modules)) c) same ∙ sym (by_modules_more (part_blocks modules name) modules i m lt is) in
    subst (λ n. KnowsPaging p n (by_modules (part_blocks modules name) 0 (take (i + 1) modules))) sizes
    (subst (λ bs. KnowsPaging p (size_of_parts name (take i modules) + sum_by (size_for name) sections) bs) more_blocks known)
