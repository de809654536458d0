-- The blocks that lines have made are those of a module, and each mark of its sections has a line.
use Rattle.std.proofs.Common.{◌≡◌, ℕ, zero, suc, ◌+◌, ◌≤◌, Bool, true, false, cond, leb, List, [], ◌∷◌, ◌++◌, length, map, Option, Some, None, refl, sym, ap, ◌∙◌, subst, arith, inl, inr}
use Rattle.std.specs.List.{AllByRecursion, flat_map, slice_get}
use Rattle.std.proofs.lemmas.Bool.{and_from, le-leb}
use Rattle.std.proofs.lemmas.List.{length-append}
use Rattle.c25_meaning_assembly.specs.Emission.{lines_in, section_of}
use Rattle.c25_meaning_assembly.specs.Sections.{Section}
use Rattle.c25_meaning_objects.specs.Module.{SectionData, Initialised, Uninitialised, block_after, block_fits, each_fits, last_of, reserved, reserved_at}
use Rattle.c25_meaning_objects.specs.declared.object.Block.{Block}
use Rattle.c25_module_laws.proofs.Emitted.{Made, filled_from, words_at}
use Rattle.c25_module_laws.proofs.Kept.{AreBlocks, AreTold, IsOrigin, IsTold}
use Rattle.c25_module_laws.proofs.LinesTold.{AreLinesOf, lines_told}
use Rattle.c25_module_laws.proofs.ModuleFits.{AllFrom, IsBefore, all_sections, before_next, data_of, is_behind, last_push}
use Rattle.c25_module_laws.proofs.Symbols.{both_hold}

-- ---- blocks

abbrev block_section : Block → ℕ
block_section b = b.section

abbrev block_end : Block → ℕ
block_end b = b.offset + b.size

blocks_bound : (k low high : ℕ) (bs : List Block) → AreBlocks k low high bs → low ≤ high
blocks_bound k low high [] h = h
blocks_bound k low high (b ∷ bs) h = let l = blocks_bound k (b.offset + b.size) high bs h.4 in let a = h.3 in omega (arith, a, l)

module _ (D : List SectionData) where
  block_comes : (o : Option Block) (b : Block) → IsBefore block_section block_end b.section b.offset o → block_after o b ≡ true
  block_comes None b h = refl
  block_comes (Some y) b h = is_behind y.section (y.offset + y.size) b.section b.offset h

  one_block : (before : List Block) (b : Block) → 1 ≤ b.size → b.size ≤ 128 → b.offset + b.size ≤ reserved_at D b.section → IsBefore block_section block_end b.section b.offset (last_of before) → block_fits D before b ≡ true
  one_block before b some few room h =
      and_from _ (block_after (last_of before) b)
      (and_from _ (leb (b.offset + b.size) (reserved_at D b.section)) (and_from (leb 1 b.size) (leb b.size 128) (le-leb 1 b.size some) (le-leb b.size 128 few)) (le-leb (b.offset + b.size) (reserved_at D b.section) room))
      (block_comes (last_of before) b h)

  some_blocks : (k low : ℕ) (bs rest before : List Block) → AreBlocks k low (reserved_at D k) bs → IsBefore block_section block_end k low (last_of before)
      → ((b : List Block) → IsBefore block_section block_end (suc k) 0 (last_of b) → each_fits (block_fits D) b rest ≡ true) → each_fits (block_fits D) before (bs ++ rest) ≡ true
  some_blocks k low [] rest before h last go = go before (before_next block_section block_end k low (last_of before) last)
  some_blocks k low (b ∷ bs) rest before h last go =
      let is = h.0 in
      let room : b.offset + b.size ≤ reserved_at D b.section = subst (λ (n : ℕ). b.offset + b.size ≤ reserved_at D n) (sym is) (blocks_bound k (b.offset + b.size) (reserved_at D k) bs h.4) in
      let at : IsBefore block_section block_end b.section b.offset (last_of before) = subst (λ (n : ℕ). IsBefore block_section block_end n b.offset (last_of before)) (sym is) (later (last_of before) last h.3) in
      and_from (block_fits D before b) (each_fits (block_fits D) (before ++ b ∷ []) (bs ++ rest)) (one_block before b h.1 h.2 room at)
      (some_blocks k (b.offset + b.size) bs rest (before ++ b ∷ []) h.4 (subst (IsBefore block_section block_end k (b.offset + b.size)) (sym (last_push before b)) (inr (is, omega arith))) go)
    where
      later : (o : Option Block) → IsBefore block_section block_end k low o → low ≤ b.offset → IsBefore block_section block_end k b.offset o
      later None h l = tt
      later (Some y) (inl h) l = inl h
      later (Some y) (inr h) l = let e = h.1 in inr (h.0, omega (arith, e, l))

  pub blocks_fit : (ms : List Made) (k : ℕ) (ss : List Section) (before : List Block) → AllFrom (λ n s. AreBlocks n 0 (reserved_at D n) s.blocks) k ss
      → IsBefore block_section block_end k 0 (last_of before) → each_fits (block_fits D) before (flat_map (λ s. s.blocks) (filled_from k ss ms)) ≡ true
  blocks_fit ms k [] before h last = refl
  blocks_fit ms k (s ∷ ss) before h last = some_blocks k 0 s.blocks (flat_map (λ s. s.blocks) (filled_from (suc k) ss ms)) before h.0 last (λ b next. blocks_fit ms (suc k) ss b h.1 next)

-- the words that a section reserves
abbrev reserved_of : Section → ℕ
reserved_of s = cond s.initialised 0 s.size

reserved_is : (ms : List Made) (k : ℕ) (s : Section) → reserved (data_of ms k s).body ≡ reserved_of s
reserved_is ms k s = on s.initialised
  where
    on : (b : Bool) → reserved (cond b (Initialised (s.words ++ words_at k ms)) (Uninitialised s.size)) ≡ cond b 0 s.size
    on true = refl
    on false = refl

room_at : (ms : List Made) (k i : ℕ) (ss : List Section) (s : Section) → slice_get ss i ≡ Some s → reserved_at (map section_of (filled_from k ss ms)) i ≡ reserved_of s
room_at ms k i [] s at = absurd (cc)
room_at ms k zero (t ∷ ts) s at = let q : t ≡ s = cc in reserved_is ms k t ∙ ap reserved_of q
room_at ms k (suc i) (t ∷ ts) s at = room_at ms (suc k) i ts s at

-- the blocks of a section lie in the words that it reserves
pub blocks_in : (files : List (List ℕ)) (ms : List Made) (ss : List Section) → AreTold files ss → AllFrom (λ n s. AreBlocks n 0 (reserved_at (map section_of (filled_from 0 ss ms)) n) s.blocks) 0 ss
blocks_in files ms ss told =
    all_sections (λ n s. AreBlocks n 0 (reserved_at (map section_of (filled_from 0 ss ms)) n) s.blocks) ss
    (λ k s at. subst (λ (n : ℕ). AreBlocks k 0 n s.blocks) (sym (room_at ms 0 k ss s at)) (on k s (told.each k s at) s.initialised refl))
  where
    on : (k : ℕ) (s : Section) → IsTold files k s → (b : Bool) → s.initialised ≡ b → AreBlocks k 0 (cond b 0 s.size) s.blocks
    on k s h true is = subst (AreBlocks k 0 0) (sym (h.loaded is)) (omega arith)
    on k s h false is = h.blocks

-- ---- lines

all_origins : (files : List (List ℕ)) (ms : List Made) (k : ℕ) (ss : List Section) → AllFrom (IsTold files) k ss → AllByRecursion (IsOrigin files) (flat_map (λ s. s.origins) (filled_from k ss ms))
all_origins files ms k [] h = tt
all_origins files ms k (s ∷ ss) h = both_hold (IsOrigin files) s.origins (flat_map (λ s. s.origins) (filled_from (suc k) ss ms)) (h.0).origins (all_origins files ms (suc k) ss h.1)

all_counted : (files : List (List ℕ)) (ms : List Made) (k : ℕ) (ss : List Section) → AllFrom (IsTold files) k ss
    → length (flat_map (λ s. s.origins) (filled_from k ss ms)) ≡ length (flat_map (λ s. s.marks) (filled_from k ss ms))
all_counted files ms k [] h = refl
all_counted files ms k (s ∷ ss) h =
    let a = length-append s.origins (flat_map (λ s. s.origins) (filled_from (suc k) ss ms)) in
    let b = length-append s.marks (flat_map (λ s. s.marks) (filled_from (suc k) ss ms)) in
    let c = (h.0).count in
    let rest = all_counted files ms (suc k) ss h.1 in
    omega (arith, a, b, c, rest)

-- the files and lines of sections are those of their marks
pub lines_are : (files : List (List ℕ)) (ms : List Made) (ss : List Section) → AreTold files ss → AreLinesOf (flat_map (λ s. s.marks) (filled_from 0 ss ms)) (lines_in (filled_from 0 ss ms))
lines_are files ms ss told =
    let each = all_sections (IsTold files) ss told.each in
    lines_told files (flat_map (λ s. s.marks) (filled_from 0 ss ms)) (flat_map (λ s. s.origins) (filled_from 0 ss ms)) told.used (all_origins files ms 0 ss each) (all_counted files ms 0 ss each)
