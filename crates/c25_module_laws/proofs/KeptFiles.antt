-- Each line keeps what always holds of the files that hold instructions, and of the lines and blocks of sections.
use Rattle.std.proofs.Common.{◌≡◌, ℕ, ◌+◌, ◌≤◌, ◌<◌, Bool, true, false, cond, not, ◌||◌, ◌&&◌, leb, List, [], ◌∷◌, ◌++◌, length, Some, inl, inr, Ok, Err, refl, sym, ap, ◌∙◌, subst, arith}
use Rattle.std.specs.List.{slice_get}
use Rattle.std.specs.Str.{bytes_eq}
use Rattle.std.proofs.lemmas.Bool.{false≢true, leb-false, leb-true, or_left, or_right}
use Rattle.std.proofs.lemmas.List.{length-append}
use Rattle.std.proofs.lemmas.Slice.Eq.{bytes_eq-Decides}
use Rattle.c25_meaning_assembly.specs.Sections.{Section, Progress, block_allowed, changed, empty_section, is_file_name, is_in, is_line_number, longer, size_at, size_by, use_file, use_line, with_block, with_mark}
use Rattle.c25_meaning_objects.specs.declared.object.Block.{Block}
use Rattle.c25_meaning_objects.specs.declared.object.ModuleMark.{ModuleMark}
use Rattle.c25_meaning_language.specs.declared.statement.FaultKind.TheVariants as fault
use Rattle.c25_meaning_assembly.proofs.Distinct.{distinct_push, neither}
use Rattle.c25_module_laws.proofs.Kept.{AreBlocks, AreFiles, AreTold, IsOrigin, IsTold, changed_twice, each_changed, get_push, pushed, weaker}
use Rattle.c25_meaning_common.specs.declared.placed.FileLine.{FileLine}

-- ---- names after others

pub in_push : (names : List (List ℕ)) (n d : List ℕ) → is_in names d ≡ true → is_in (names ++ n ∷ []) d ≡ true
in_push [] n d h = absurd (cc)
in_push (x ∷ xs) n d h = on (bytes_eq d x) (in_push xs n d) h
  where
    on : (b : Bool) → (is_in xs d ≡ true → is_in (xs ++ n ∷ []) d ≡ true) → (b || is_in xs d) ≡ true → (b || is_in (xs ++ n ∷ []) d) ≡ true
    on true go h = refl
    on false go h = go h

pub in_last : (names : List (List ℕ)) (n : List ℕ) → is_in (names ++ n ∷ []) n ≡ true
in_last [] n = or_left (bytes_eq n n) false ((bytes_eq-Decides n n).1 refl)
in_last (x ∷ xs) n = or_right (bytes_eq n x) (is_in (xs ++ n ∷ []) n) (in_last xs n)

-- ---- sections that grow, and new ones

blocks_higher : (k low high more : ℕ) (bs : List Block) → high ≤ more → AreBlocks k low high bs → AreBlocks k low more bs
blocks_higher k low high more [] l h = omega (arith, l, h)
blocks_higher k low high more (b ∷ bs) l h = (h.0, h.1, h.2, h.3, blocks_higher k (b.offset + b.size) high more bs l h.4)

blocks_push : (k low high : ℕ) (bs : List Block) (b : Block) → b.section ≡ k → 1 ≤ b.size → b.size ≤ 128 → high ≤ b.offset → AreBlocks k low high bs → AreBlocks k low (b.offset + b.size) (bs ++ b ∷ [])
blocks_push k low high [] b is some few at h = (is, some, few, omega (arith, at, h), omega arith)
blocks_push k low high (x ∷ xs) b is some few at h = (h.0, h.1, h.2, h.3, blocks_push k (x.offset + x.size) high xs b is some few at h.4)

pub told_longer : (files : List (List ℕ)) (sections : List Section) (i n : ℕ) → AreTold files sections → AreTold files (changed (longer n) sections i)
told_longer files sections i n h = record {
  used = h.used;
  each = each_changed (IsTold files) (IsTold files) (longer n) sections i h.each
      (λ (s : Section) at (k : IsTold files i s). record {
        count = k.count;
        origins = k.origins;
        blocks = blocks_higher i 0 s.size (s.size + n) s.blocks (omega arith) k.blocks;
        loaded = k.loaded;
      })
      (λ k s other h. h);
}

pub told_push : (name : List ℕ) (initialised : Bool) (files : List (List ℕ)) (sections : List Section) → AreTold files sections → AreTold files (sections ++ empty_section name initialised ∷ [])
told_push name initialised files sections h = record {
  used = h.used;
  each = λ k t at. elim (get_push sections k (empty_section name initialised) t at) [
    | inl e ↦ subst (λ (x : Section). IsTold files k x) e.1 (record { count = refl; origins = tt; blocks = omega arith; loaded = λ _. refl })
    | inr e ↦ h.each k t e
  ];
}

-- ---- blocks

-- an uninitialised section grows by a block
pub told_block : (files : List (List ℕ)) (sections : List Section) (i n : ℕ) → ((s : Section) → slice_get sections i ≡ Some s → s.initialised ≡ false) → 1 ≤ n → n ≤ 128 → AreTold files sections
    → AreTold files (changed (with_block (record { section = i; offset = size_at sections i; size = n })) (changed (longer n) sections i) i)
told_block files sections i n bare some few h =
    let b : Block = record { section = i; offset = size_at sections i; size = n } in
    subst (AreTold files) (sym (changed_twice (longer n) (with_block b) sections i)) (record {
      used = h.used;
      each = each_changed (IsTold files) (IsTold files) (λ s. with_block b (longer n s)) sections i h.each
          (λ (s : Section) at (k : IsTold files i s).
          let size : size_at sections i ≡ s.size = ap size_by at in
          record {
            count = k.count;
            origins = k.origins;
            blocks = subst (λ (o : ℕ). AreBlocks i 0 (o + n) (s.blocks ++ b ∷ [])) size (blocks_push i 0 s.size s.blocks b refl some few (omega (arith, size)) k.blocks);
            loaded = λ initialised. absurd (false≢true (sym (bare s at) ∙ initialised));
          })
          (λ k s other h. h);
    })

-- what a block may have
pub block_size : (n : ℕ) (u : Unit {0}) → block_allowed true n ≡ Ok u → (1 ≤ n) × (n ≤ 128)
block_size n u e = on (leb 1 n) refl (leb n 128) refl e
  where
    on : (a : Bool) → leb 1 n ≡ a → (b : Bool) → leb n 128 ≡ b → cond (not (a && b)) (Err fault.BadBlock) (Ok tt) ≡ Ok u → (1 ≤ n) × (n ≤ 128)
    on true some true few e = (leb-true 1 n some, leb-true n 128 few)
    on true some false few e = absurd (cc)
    on false some b few e = absurd (cc)

-- ---- lines of instructions

-- the line of an instruction, whose file is among these now
pub record IsUsed (origin : FileLine (List ℕ)) (p q : Progress) : Type 0 where
  pub same : q ≡ record p { files = q.files }
  pub told : AreTold q.files p.sections
  pub known : IsOrigin q.files origin

files_push : (files : List (List ℕ)) (name : List ℕ) → is_in files name ≡ false → length files < 65535 → is_file_name name ≡ true → AreFiles files → AreFiles (files ++ name ∷ [])
files_push files name new room is h = record {
  named = pushed (λ (f : List ℕ). is_file_name f ≡ true) files name h.named is;
  distinct = distinct_push files name h.distinct new;
  few = let size = length-append files (name ∷ []) in omega (arith, size, room);
}

origin_push : (files : List (List ℕ)) (name : List ℕ) (o : FileLine (List ℕ)) → IsOrigin files o → IsOrigin (files ++ name ∷ []) o
origin_push files name o h = record { numbered = h.numbered; known = in_push files name o.file h.known }

-- a file more
told_file : (files : List (List ℕ)) (name : List ℕ) (sections : List Section) → AreFiles (files ++ name ∷ []) → AreTold files sections → AreTold (files ++ name ∷ []) sections
told_file files name sections more h = record {
  used = more;
  each = λ k s at.
      let t = h.each k s at in
      record { count = t.count; origins = weaker (IsOrigin files) (IsOrigin (files ++ name ∷ [])) (origin_push files name) s.origins t.origins; blocks = t.blocks; loaded = t.loaded };
}

file_used : (origin : FileLine (List ℕ)) (p q : Progress) → is_line_number origin.line ≡ true → AreTold p.files p.sections → use_file origin.file p ≡ Ok q → IsUsed origin p q
file_used origin p q numbered told e = on (is_in p.files origin.file) refl e
  where
    made : Progress
    made = record p { files = p.files ++ origin.file ∷ [] }

    new : (b : Bool) → (leb 65535 (length p.files) || not (is_file_name origin.file)) ≡ b → is_in p.files origin.file ≡ false → cond b (Err fault.TooLarge) (Ok made) ≡ Ok q → IsUsed origin p q
    new true is away e = absurd (cc)
    new false is away e =
        let n = neither (leb 65535 (length p.files)) (not (is_file_name origin.file)) is in
        let same : made ≡ q = cc in
        subst (IsUsed origin p) same (record {
          same = refl;
          told = told_file p.files origin.file p.sections (files_push p.files origin.file away (leb-false 65535 (length p.files) n.0) (named (is_file_name origin.file) n.1) told.used) told;
          known = record { numbered = numbered; known = in_last p.files origin.file };
        })
      where
        named : (b : Bool) → not b ≡ false → b ≡ true
        named true h = refl
        named false h = absurd (cc)

    on : (b : Bool) → is_in p.files origin.file ≡ b
        → cond b (Ok p) (cond (leb 65535 (length p.files) || not (is_file_name origin.file)) (Err fault.TooLarge) (Ok made)) ≡ Ok q → IsUsed origin p q
    on true is e =
        let same : p ≡ q = cc in
        subst (IsUsed origin p) same (record { same = refl; told = told; known = record { numbered = numbered; known = is } })
    on false is e = new (leb 65535 (length p.files) || not (is_file_name origin.file)) refl is e

pub line_used : (origin : FileLine (List ℕ)) (p q : Progress) → AreTold p.files p.sections → use_line origin p ≡ Ok q → IsUsed origin p q
unfolding use_line
line_used origin p q told e = on (is_line_number origin.line) refl e
  where
    on : (b : Bool) → is_line_number origin.line ≡ b → cond b (use_file origin.file p) (Err fault.TooLarge) ≡ Ok q → IsUsed origin p q
    on true is e = file_used origin p q is told e
    on false is e = absurd (cc)

-- a mark more, with its line
pub told_mark : (files : List (List ℕ)) (origin : FileLine (List ℕ)) (m : ModuleMark) (sections : List Section) (i : ℕ) → IsOrigin files origin → AreTold files sections → AreTold files (changed (with_mark origin m) sections i)
told_mark files origin m sections i is h = record {
  used = h.used;
  each = each_changed (IsTold files) (IsTold files) (with_mark origin m) sections i h.each
      (λ (s : Section) at (k : IsTold files i s).
      let a = length-append s.origins (origin ∷ []) in
      let b = length-append s.marks (m ∷ []) in
      let c = k.count in
      record {
        count = omega (arith, a, b, c);
        origins = pushed (IsOrigin files) s.origins origin k.origins is;
        blocks = k.blocks;
        loaded = k.loaded;
      })
      (λ k s other h. h);
}
