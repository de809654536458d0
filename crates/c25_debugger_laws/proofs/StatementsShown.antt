-- What a debugger reads of an image for `where` and `list` is what the statements of the sources say.
use Rattle.std.proofs.Common.{◌≡◌, ℕ, suc, zero, ◌+◌, ◌%◌, ◌^◌, ◌≤◌, ◌<◌, Bool, true, false, cond, ◌&&◌, eqb, leb, not, List, [], ◌∷◌, ◌++◌, length, map, filter, set, take, get_or, unwrap_or, Option, Some, None, refl, sym, ap, ◌∙◌, subst, arith, inl, inr}
use Rattle.std.specs.Prelude.{find}
use Rattle.std.specs.FinMap as finite
use Rattle.std.specs.List.{All, Contains, flat_map, swap}
use Rattle.std.specs.List.Sorted.{IsPermutation, SwapsInRange, apply_swaps}
use Rattle.std.specs.Option.{option_and_then, option_map}
use Rattle.std.specs.Ordering.{nat_cmp}
use Rattle.std.proofs.lemmas.Bool.{and_parts, eqb-true, false≢true, leb-true, lt-ltb}
use Rattle.std.proofs.lemmas.List.Elements.{All-contains, Contains-append_right}
use Rattle.std.proofs.lemmas.List.Sorted.{Contains-permutation, IsPermutation-sym, length_permutation}
use Rattle.std.proofs.lemmas.List.{get_or-map, length-map, map-set}
use Rattle.std.proofs.lemmas.Simd.{map-map}
use Rattle.c25_meaning_debugger.specs.Debugger.{IsFetchedLine, IsMarkAt, IsWhereBy, source_line_at}
use Rattle.c25_meaning_debugger.specs.Texts.{AreLinesOf, IsLineOf, IsWhere, ReadsAt, insn_line, marks_from}
use Rattle.c25_meaning_image.specs.Marks.{fit_from, fits_behind, size_at}
use Rattle.c25_meaning_image.specs.declared.mark.Mark.{Mark}
use Rattle.c25_meaning_image.specs.declared.mark.RunMark.{RunMark}
use Rattle.c25_meaning_instructions.proofs.Readings.{one_reading}
use Rattle.c25_meaning_instructions.specs.Table.{Reads, size_of, words}
use Rattle.c25_meaning_instructions.specs.declared.insn.Insn.{Insn}
use Rattle.c25_meaning_instructions.specs.declared.insn.Insn.TheVariants as insn
use Rattle.c25_meaning_linking.specs.Linking.{ImageData, line_at}
use Rattle.c25_meaning_processor.specs.FirstState.{memory_of_map}
use Rattle.c25_meaning_processor.specs.State.{State, holds, under}
use Rattle.c25_meaning_processor.specs.Statements.{Copied, IsImageOf, Statements, copied_at, loaded_statement, loaded_statements, mark_of, marks_of, run_mark_of}
use Rattle.c25_meaning_processor.specs.WordStep.{IsFetchedBy, loaded_words, mark_found}
use Rattle.c25_linking_laws.proofs.Members.{behind_in, first_in, found_in, from_filter, in_filter, in_front, in_map, nothing_in}
use Rattle.c25_laws.proofs.ByKeys.{filter_mapped}
use Rattle.c25_laws.proofs.ProgramRuns.{reads_same}
use Rattle.c25_laws.specs.ProgramStatements.{AreMarksOf, PlacedStatement, ReadsAs, as_copied, as_loaded, runs_in_b0, runs_in_place, split_by_run, stands_on}
use Rattle.c25_statement_laws.specs.StatementLines.{TracedStatement, is_on_page_0}
use Rattle.c25_debugger_laws.specs.StatementAnswers.{IsListText, copy_there, line_by, loaded_mark, statement_line, statement_there, where_text}

-- ---- statements that are looked for

-- what is looked for among what statements give is looked for among the statements
found_mapped : {Y : Type 0} (p : PlacedStatement → Bool) (g : PlacedStatement → Y) (at : Y → ℕ) (a : ℕ) (all : List TracedStatement)
    → find (λ y. eqb (at y) a) (map g (filter p (map (λ t. t.statement) all))) ≡ option_map (λ t. g t.statement) (find (λ t. p t.statement && eqb (at (g t.statement)) a) all)
found_mapped p g at a [] = refl
found_mapped {Y = Y} p g at a (t ∷ ts) = by (p t.statement) (eqb (at (g t.statement)) a) refl (found_mapped p g at a ts)
  where
    by : (b c : Bool) → eqb (at (g t.statement)) a ≡ c
        → find (λ y. eqb (at y) a) (map g (filter p (map (λ t. t.statement) ts))) ≡ option_map (λ t. g t.statement) (find (λ t. p t.statement && eqb (at (g t.statement)) a) ts)
        → find (λ y. eqb (at y) a) (map g (cond b (t.statement ∷ filter p (map (λ t. t.statement) ts)) (filter p (map (λ t. t.statement) ts))))
        ≡ option_map (λ t. g t.statement) (cond (b && eqb (at (g t.statement)) a) (Some t) (find (λ t. p t.statement && eqb (at (g t.statement)) a) ts))
    by false c e go = go
    by true true e go =
        ap (λ d. cond d (Some (g t.statement)) (find (λ y. eqb (at y) a) (map g (filter p (map (λ t. t.statement) ts))))) e
        ∙ sym (ap (λ d. option_map (λ t. g t.statement) (cond d (Some t) (find (λ t. p t.statement && eqb (at (g t.statement)) a) ts))) e)
    by true false e go =
        ap (λ d. cond d (Some (g t.statement)) (find (λ y. eqb (at y) a) (map g (filter p (map (λ t. t.statement) ts))))) e
        ∙ go
        ∙ sym (ap (λ d. option_map (λ t. g t.statement) (cond d (Some t) (find (λ t. p t.statement && eqb (at (g t.statement)) a) ts))) e)

-- ---- words

word_at : (page : finite.FinMap nat_cmp ℕ) (address word : ℕ) → address < 65536 → finite.get page address ≡ Some word → memory_of_map page address ≡ word
word_at page address word l e = ap (λ b. cond b (unwrap_or (finite.get page address) 0) 0) (lt-ltb address 65536 l) ∙ ap (λ (o : Option ℕ). unwrap_or o 0) e

-- a mark that is there has words, all below 65,536
has_room : (low : ℕ) (ms : List Mark) (x : Mark) → fit_from low ms ≡ true → Contains ms x → (1 ≤ x.size) × (x.address + x.size ≤ 65536)
has_room low [] x h c = absurd (nothing_in x c)
has_room low (m ∷ ms) x h c =
    let f = and_parts (fits_behind low m) (fit_from (m.address + m.size) ms) h in
    elim (in_front m x ms c) [
      | inl e ↦ subst (λ (y : Mark). (1 ≤ y.size) × (y.address + y.size ≤ 65536)) e (own low m f.0)
      | inr later ↦ has_room (m.address + m.size) ms x f.1 later
    ]
  where
    own : (low : ℕ) (m : Mark) → fits_behind low m ≡ true → (1 ≤ m.size) × (m.address + m.size ≤ 65536)
    own low m h =
        let a = and_parts (leb low m.address && leb 1 m.size && leb m.size 2) (leb (m.address + m.size) 65536) h in
        let b = and_parts (leb low m.address && leb 1 m.size) (leb m.size 2) a.0 in
        (leb-true 1 m.size (and_parts (leb low m.address) (leb 1 m.size) b.0).1, leb-true (m.address + m.size) 65536 a.1)

words_read : (i : Insn) (x y : ℕ) → Reads x y i → words i ≡ take (size_of i) (x ∷ y ∷ [])
words_read (insn.Long name number high) x y h = λ j. h.first_is j ∷ h.second_is j ∷ []
words_read (insn.LongMem name word a) x y h = λ j. h.first_is j ∷ h.second_is j ∷ []
words_read (insn.Jump name word change next) x y h = λ j. h.first_is j ∷ h.second_is j ∷ []
words_read i x y h = ap (λ (a : ℕ). a ∷ []) h.first_is

-- ---- lists in another order

swap_mapped : {X Y : Type 0} (f : X → Y) (xs : List X) (i j : ℕ) → i < length xs → j < length xs → map f (swap xs i j) ≡ swap (map f xs) i j
swap_mapped f [] i j l m = refl
swap_mapped f (d ∷ ds) i j l m =
    map-set f (set (d ∷ ds) i (get_or (d ∷ ds) j d)) j (get_or (d ∷ ds) i d)
    ∙ (λ t. set ((map-set f (d ∷ ds) i (get_or (d ∷ ds) j d) ∙ ap (set (map f (d ∷ ds)) i) (sym (get_or-map f (d ∷ ds) j d (f d) m))) t) j (sym (get_or-map f (d ∷ ds) i d (f d) l) t))

swaps_mapped : {X Y : Type 0} (f : X → Y) (xs : List X) (moves : List (ℕ × ℕ)) → SwapsInRange (length xs) moves → map f (apply_swaps xs moves) ≡ apply_swaps (map f xs) moves
swaps_mapped f xs [] h = refl
swaps_mapped f xs (m ∷ ms) h =
    let long = length_permutation xs (apply_swaps xs ms) (record { moves = ms; below = h.2; is = refl }) in
    let first = h.0 in
    let second = h.1 in
    swap_mapped f (apply_swaps xs ms) m.0 m.1 (omega (arith, long, first)) (omega (arith, long, second)) ∙ ap (λ l. swap l m.0 m.1) (swaps_mapped f xs ms h.2)

-- where the images of a list are put into an order, so is the list
permuted_map : {X Y : Type 0} (f : X → Y) (xs : List X) (ys : List Y) → IsPermutation (map f xs) ys → (zs : List X) × IsPermutation xs zs × (map f zs ≡ ys)
permuted_map f xs ys p =
    let below = subst (λ (n : ℕ). SwapsInRange n p.moves) (length-map xs f) p.below in
    (apply_swaps xs p.moves, record { moves = p.moves; below = below; is = refl }, swaps_mapped f xs p.moves below ∙ sym p.is)

take_mapped : {X Y : Type 0} (f : X → Y) (n : ℕ) (xs : List X) → take n (map f xs) ≡ map f (take n xs)
take_mapped f zero [] = refl
take_mapped f zero (x ∷ xs) = refl
take_mapped f (suc n) [] = refl
take_mapped f (suc n) (x ∷ xs) = ap (λ ys. f x ∷ ys) (take_mapped f n xs)

in_take : {X : Type 0} (n : ℕ) (xs : List X) (x : X) → Contains (take n xs) x → Contains xs x
in_take zero [] x c = c
in_take zero (y ∷ ys) x c = absurd (nothing_in x c)
in_take (suc n) [] x c = c
in_take (suc n) (y ∷ ys) x c =
    elim (in_front y x (take n ys) c) [
      | inl e ↦ subst (Contains (y ∷ ys)) e (first_in y ys)
      | inr later ↦ behind_in y x ys (in_take n ys x later)
    ]

-- ---- a program

-- what is known of an image and of the statements of its sources
pub record IsShown (all : List TracedStatement) (placed : List PlacedStatement) (image : ImageData) : Type 0 where
  pub same : map (λ t. t.statement) all ≡ placed
  pub lines : (t : TracedStatement) → Contains all t → is_on_page_0 t ≡ true → line_at t.statement.load image.lines ≡ Some (t.origin.file, t.origin.line)
  pub marks : AreMarksOf (split_by_run placed) image.marks image.run_marks
  pub reads : All (ReadsAs image.program) (loaded_statements (split_by_run placed))
  pub starts : (a : ℕ) → size_at image.marks a ≡ size_at (marks_of (split_by_run placed).plain) a

module _ (all : List TracedStatement) (placed : List PlacedStatement) (image : ImageData) (shown : IsShown all placed image) where
  abbrev ss : Statements
  ss = split_by_run placed

  -- a statement is one of the program's
  placed_there : (t : TracedStatement) → Contains all t → Contains (placed) t.statement
  placed_there t c = subst (λ (xs : List PlacedStatement). Contains xs t.statement) shown.same (in_map (λ (x : TracedStatement). x.statement) all t c)

  plain_there : (t : TracedStatement) → Contains all t → runs_in_place t.statement ≡ true → Contains ss.plain (as_loaded t.statement)
  plain_there t c on = in_map as_loaded (filter runs_in_place (placed)) t.statement (in_filter runs_in_place (placed) t.statement (placed_there t c) on)

  room : (t : TracedStatement) → Contains all t → runs_in_place t.statement ≡ true → (1 ≤ size_of t.statement.insn) × (t.statement.load + size_of t.statement.insn ≤ 65536)
  room t c on =
      let are = shown.marks in
      let there = Contains-permutation (marks_of ss.plain) image.marks (loaded_mark t) are.same (in_map mark_of ss.plain (as_loaded t.statement) (plain_there t c on)) in
      has_room 0 image.marks (loaded_mark t) are.ascend there

  -- the words of the image at a statement read as it
  reads_there : (t : TracedStatement) → Contains all t → runs_in_place t.statement ≡ true
      → Reads (memory_of_map image.program t.statement.load) (memory_of_map image.program (t.statement.load + 1)) t.statement.insn
  reads_there t c on =
      let s = as_loaded t.statement in
      let r = All-contains (ReadsAs image.program) (loaded_statements ss) s shown.reads (Contains-append_right (map loaded_statement ss.copied) ss.plain s (plain_there t c on)) in
      let l = room t c on in
      let some = l.0 in
      let end = l.1 in
      reads_same s.insn r.first r.second (memory_of_map image.program s.address) (memory_of_map image.program (s.address + 1))
      (word_at image.program s.address r.first (omega (arith, some, end)) r.first_is)
      (λ two. word_at image.program (s.address + 1) r.second (omega (arith, two, end)) (r.second_is two))
      r.reads

  -- what is read at a statement is its line
  line_is : (t : TracedStatement) → Contains all t → runs_in_place t.statement ≡ true → (text : List ℕ) → IsLineOf image.program (source_line_at image) (loaded_mark t) text → text ≡ statement_line t.statement.load (Some t)
  line_is t c on text h = by h.insn h.reads h.text_is
    where
      line : source_line_at image t.statement.load ≡ Some (t.origin.file, t.origin.line)
      line = shown.lines t c (and_parts (stands_on 0 t.statement) (not t.statement.elsewhere) on).0

      by : (o : Option Insn) → ReadsAt image.program t.statement.load (size_of t.statement.insn) o → text ≡ insn_line t.statement.load o (source_line_at image t.statement.load) → text ≡ statement_line t.statement.load (Some t)
      by (Some i) r e =
          let same : i ≡ t.statement.insn = one_reading (memory_of_map image.program t.statement.load) (memory_of_map image.program (t.statement.load + 1)) i t.statement.insn r.0 (reads_there t c on) in
          e ∙ (λ j. insn_line t.statement.load (Some (same j)) (line j))
      by None r e = absurd (r t.statement.insn (reads_there t c on) refl)

  -- ---- `where`

  size_is : (a : ℕ) → size_at image.marks a ≡ option_map (λ t. size_of t.statement.insn) (statement_there all a)
  unfolding size_at
  size_is a =
      let g : PlacedStatement → Mark = λ s. mark_of (as_loaded s) in
      shown.starts a
      ∙ ap (λ ms. option_map (λ (m : Mark). m.size) (find (λ (m : Mark). eqb m.address a) ms)) (map-map mark_of as_loaded (filter runs_in_place (placed)))
      ∙ ap (λ xs. option_map (λ (m : Mark). m.size) (find (λ (m : Mark). eqb m.address a) (map g (filter runs_in_place xs)))) (sym shown.same)
      ∙ ap (option_map (λ (m : Mark). m.size)) (found_mapped runs_in_place g (λ m. m.address) a all)
      ∙ by (statement_there all a)
    where
      by : (o : Option TracedStatement) → option_map (λ (m : Mark). m.size) (option_map (λ t. mark_of (as_loaded t.statement)) o) ≡ option_map (λ t. size_of t.statement.insn) o
      by None = refl
      by (Some t) = refl

  mark_is : (s : State) (text : List ℕ) → IsMarkAt image s text → text ≡ statement_line s.registers.pc (statement_there all s.registers.pc)
  mark_is s text h = by (statement_there all s.registers.pc) refl (subst (λ (o : Option ℕ). IsWhere image.program (source_line_at image) s.registers.pc o text) (size_is s.registers.pc) h)
    where
      by : (o : Option TracedStatement) → statement_there all s.registers.pc ≡ o → IsWhere image.program (source_line_at image) s.registers.pc (option_map (λ t. size_of t.statement.insn) o) text
          → text ≡ statement_line s.registers.pc o
      by None e h = h
      by (Some t) e h =
          let f = found_in (λ (x : TracedStatement). runs_in_place x.statement && eqb x.statement.load s.registers.pc) all t e in
          let g = and_parts (runs_in_place t.statement) (eqb t.statement.load s.registers.pc) f.1 in
          let at : t.statement.load ≡ s.registers.pc = eqb-true t.statement.load s.registers.pc g.1 in
          let there = subst (λ (a : ℕ). IsLineOf image.program (source_line_at image) (record { address = a; size = size_of t.statement.insn }) text) (sym at) h in
          line_is t f.0 g.0 text there ∙ ap (λ a. statement_line a (Some t)) at

  copies_are : (a : ℕ) → copied_at ss.copied a ≡ option_map (λ t. as_copied t.statement) (copy_there all a)
  unfolding copied_at
  copies_are a =
      ap (λ xs. find (λ (c : Copied). eqb c.run a) (map as_copied (filter runs_in_b0 xs))) (sym shown.same)
      ∙ found_mapped runs_in_b0 as_copied (λ c. c.run) a all

  -- the line of what runs in B0
  copy_is : (s : State) (t : TracedStatement) → IsImageOf ss s.world → copy_there all s.registers.pc ≡ Some t → (text : List ℕ) → IsWhereBy image s (Some (run_mark_of (as_copied t.statement))) text
      → text ≡ line_by all s.world s.registers.pc (Some t)
  copy_is s t there found text (i, fetched, line) = by (holds s.world t.statement.run (words t.statement.insn)) refl i fetched line
    where
      at : copied_at ss.copied s.registers.pc ≡ Some (as_copied t.statement)
      at = copies_are s.registers.pc ∙ ap (option_map (λ x. as_copied x.statement)) found

      reads : Reads (s.world.program t.statement.load) (s.world.program ((t.statement.load + 1) % 2 ^ 16)) t.statement.insn
      reads = there.copied_reads s.registers.pc (as_copied t.statement) (copies_are s.registers.pc ∙ ap (option_map (λ x. as_copied x.statement)) found)

      loaded_are : loaded_words s.world (run_mark_of (as_copied t.statement)) ≡ words t.statement.insn
      loaded_are =
          sym (words_read t.statement.insn (s.world.program t.statement.load) (s.world.program ((t.statement.load + 1) % 2 ^ 16))
          (there.copied_reads s.registers.pc (as_copied t.statement) (copies_are s.registers.pc ∙ ap (option_map (λ x. as_copied x.statement)) found)))

      line_there : source_line_at image t.statement.load ≡ Some (t.origin.file, t.origin.line)
      line_there =
          let f = found_in (λ (x : TracedStatement). runs_in_b0 x.statement && eqb x.statement.run s.registers.pc) all t found in
          let g = and_parts (runs_in_b0 t.statement) (eqb t.statement.run s.registers.pc) f.1 in
          shown.lines t f.0 (and_parts (stands_on 0 t.statement) t.statement.elsewhere g.0).0

      by : (b : Bool) → holds s.world t.statement.run (words t.statement.insn) ≡ b → (i : Option Insn) → IsFetchedBy s.registers.cnf s.world s.registers.pc (Some (run_mark_of (as_copied t.statement))) i
          → IsFetchedLine image s (run_mark_of (as_copied t.statement)) i text → text ≡ cond b (statement_line s.registers.pc (Some t)) (statement_line s.registers.pc (statement_there all s.registers.pc))
      by true held (Some i) fetched line =
          let same : i ≡ t.statement.insn = one_reading (s.world.program t.statement.load) (s.world.program ((t.statement.load + 1) % 2 ^ 16)) i t.statement.insn fetched.reads reads in
          line ∙ (λ j. insn_line s.registers.pc (Some (same j)) (line_there j))
      by false held (Some i) fetched line =
          absurd {A = text ≡ statement_line s.registers.pc (statement_there all s.registers.pc)} (false≢true (sym held ∙ ap (λ (ws : List ℕ). holds s.world t.statement.run ws) (sym loaded_are) ∙ fetched.held))
      by true held None fetched line =
          absurd {A = text ≡ statement_line s.registers.pc (Some t)} (fetched t.statement.insn (record { size_is = refl; held = ap (λ (ws : List ℕ). holds s.world t.statement.run ws) loaded_are ∙ held; reads = reads }))
      by false held None fetched line = mark_is s text line

  pub where_is : (s : State) → IsImageOf ss s.world → (text : List ℕ) → IsWhereBy image s (mark_found s.registers.cnf s.world s.registers.pc) text → text ≡ where_text all s
  where_is s there text h =
      let marks : mark_found s.registers.cnf s.world s.registers.pc
      ≡ option_and_then (under s.registers.cnf) (option_map run_mark_of (option_map (λ t. as_copied t.statement) (copy_there all s.registers.pc))) =
      ap (λ (o : Option RunMark). option_and_then (under s.registers.cnf) o) (there.runs s.registers.pc ∙ ap (option_map run_mark_of) (copies_are s.registers.pc)) in
      by (copy_there all s.registers.pc) refl s.registers.cnf (subst (λ (o : Option RunMark). IsWhereBy image s o text) marks h)
    where
      by : (o : Option TracedStatement) → copy_there all s.registers.pc ≡ o → (b : Bool) → IsWhereBy image s (option_and_then (under b) (option_map run_mark_of (option_map (λ t. as_copied t.statement) o))) text
          → text ≡ line_by all s.world s.registers.pc (option_and_then (under b) o)
      by None e b h = mark_is s text h
      by (Some t) e true h = copy_is s t there e text h
      by (Some t) e false h = mark_is s text h

  -- ---- `list`

  lines_are : (ts : List TracedStatement) → ((t : TracedStatement) → Contains ts t → Contains all t × (runs_in_place t.statement ≡ true)) → (text : List ℕ)
      → AreLinesOf image.program (source_line_at image) (map loaded_mark ts) text → text ≡ flat_map (λ t. statement_line t.statement.load (Some t)) ts
  lines_are [] there text h = h
  lines_are (t ∷ ts) there text (first, rest, one, others, e) =
      let own = there t (first_in t ts) in
      let a = line_is t own.0 own.1 first one in
      let b = lines_are ts (λ x c. there x (behind_in t x ts c)) rest others in
      e ∙ (λ j. a j ++ b j)

  pub list_is : (pc n : ℕ) (text : List ℕ) → AreLinesOf image.program (source_line_at image) (marks_from image.marks pc n) text → IsListText all pc n text
  list_is pc n text h =
      let are = shown.marks in
      let some = filter (λ (t : TracedStatement). runs_in_place t.statement) all in
      let g : PlacedStatement → Mark = λ s. mark_of (as_loaded s) in
      let marks : marks_of ss.plain ≡ map loaded_mark some =
      map-map mark_of as_loaded (filter runs_in_place (placed))
      ∙ ap (λ xs. map g (filter runs_in_place xs)) (sym shown.same)
      ∙ ap (map g) (filter_mapped runs_in_place (λ (t : TracedStatement). t.statement) all)
      ∙ map-map g (λ (t : TracedStatement). t.statement) some in
      let o = permuted_map loaded_mark some image.marks (subst (λ (ms : List Mark). IsPermutation ms image.marks) marks are.same) in
      let zs = o.0 in
      let above = filter (λ (t : TracedStatement). leb pc t.statement.load) zs in
      let from : marks_from image.marks pc n ≡ map loaded_mark (take n above) =
      ap (λ ms. take n (filter (λ (m : Mark). leb pc m.address) ms)) (sym o.2)
      ∙ ap (take n) (filter_mapped (λ (m : Mark). leb pc m.address) loaded_mark zs)
      ∙ take_mapped loaded_mark n above in
      let there : (t : TracedStatement) → Contains (take n above) t → Contains all t × (runs_in_place t.statement ≡ true) =
      λ t c.
      let a = (from_filter (λ (x : TracedStatement). leb pc x.statement.load) zs t (in_take n above t c)).0 in
      from_filter (λ (x : TracedStatement). runs_in_place x.statement) all t (Contains-permutation zs some t (IsPermutation-sym some zs o.1) a) in
      record {
        ordered = zs;
        same = o.1;
        ascend = ap (fit_from 0) o.2 ∙ are.ascend;
        text_is = lines_are (take n above) there text (subst (λ (ms : List Mark). AreLinesOf image.program (source_line_at image) ms text) from h);
      }
