-- The first state of a program's pages is an image of its statements.
use Rattle.std.proofs.Common.{◌≡◌, ℕ, ◌+◌, ◌%◌, ◌^◌, ◌≤◌, ◌<◌, Bool, true, false, ◌&&◌, ◌||◌, cond, eqb, ltb, leb, List, [], ◌∷◌, ◌++◌, map, Option, Some, None, refl, sym, ap, ◌∙◌, subst, arith, inl, inr}
use Rattle.std.specs.Prelude.{find, unwrap_or}
use Rattle.std.specs.FinMap as finite
use Rattle.std.specs.List.{All, Contains, list_any}
use Rattle.std.specs.Option.{option_map}
use Rattle.std.specs.Ordering.{nat_cmp}
use Rattle.std.proofs.lemmas.Bool.{eqb-true}
use Rattle.std.proofs.lemmas.Bool.Decides.{nat_tests}
use Rattle.std.proofs.lemmas.List.{map-append}
use Rattle.std.proofs.lemmas.List.Elements.{All-contains, Contains-append_left, Contains-append_right}
use Rattle.std.proofs.lemmas.List.Sorted.{IsPermutation-append_left, IsPermutation-append_right, IsPermutation-map, IsPermutation-sym, IsPermutation-trans}
use Rattle.std.proofs.lemmas.Simd.{map-map}
use Rattle.std.specs.List.Sorted.{IsPermutation}
use Rattle.c25_meaning_processor.specs.FirstState.{first_of_pages, memory_of_map}
use Rattle.c25_meaning_image.specs.Marks.{fit_from, fits_behind}
use Rattle.c25_meaning_image.specs.Marks.{is_code, load_mark, size_at, with_loads}
use Rattle.c25_meaning_processor.specs.Statements.{Copied, IsImageOf, Statement, Statements, loaded_statement, loaded_statements, marks_of, run_mark_of, statement_at}
use Rattle.c25_meaning_processor.specs.Statements as statements
use Rattle.c25_meaning_instructions.specs.Table.{Reads, size_of}
use Rattle.c25_meaning_instructions.specs.declared.insn.Insn.{Insn}
use Rattle.c25_meaning_instructions.specs.declared.insn.Insn.TheVariants as insn
use Rattle.c25_meaning_image.specs.declared.mark.Mark.{Mark}
use Rattle.c25_meaning_image.specs.declared.mark.RunMark.{RunMark}
use Rattle.c25_linking_laws.proofs.Members.{behind_in, first_in, found_in, in_front, in_map, in_permuted, none_found, nothing_in}
use Rattle.c25_laws.proofs.RunsInB0 as b0
use Rattle.c25_laws.proofs.RunsInB0.{one_run, runs_at, runs_same}
use Rattle.c25_laws.specs.ProgramStatements.{AreMarksOf, ReadsAs}

both : (a b : Bool) → (a && b) ≡ true → (a ≡ true) × (b ≡ true)
both true b h = (refl, h)
both false b h = absurd cc

-- ---- marks that ascend

-- a mark that fits lies at or after an address, with its words below 65,536
record Lies (low : ℕ) (x : Mark) : Type 0 where
  from : low ≤ x.address
  some : 1 ≤ x.size
  room : x.address + x.size ≤ 65536

lies_by : (low address size : ℕ) → (leb low address && leb 1 size && leb size 2 && leb (address + size) 65536) ≡ true → (low ≤ address) × (1 ≤ size) × (address + size ≤ 65536)
lies_by low address size h =
    let a = both (leb low address && leb 1 size && leb size 2) (leb (address + size) 65536) h in
    let b = both (leb low address && leb 1 size) (leb size 2) a.0 in
    let c = both (leb low address) (leb 1 size) b.0 in
    let end = a.1 in
    let begin = c.0 in
    let some = c.1 in
    (grind (arith, nat_tests), grind (arith, nat_tests), grind (arith, nat_tests))

lies : (low : ℕ) (ms : List Mark) (x : Mark) → fit_from low ms ≡ true → Contains ms x → Lies low x
lies low [] x h c = absurd (nothing_in x c)
lies low (m ∷ ms) x h c =
    let f = both (fits_behind low m) (fit_from (m.address + m.size) ms) h in
    let l = lies_by low m.address m.size f.0 in
    let own : Lies low m = record { from = l.0; some = l.1; room = l.2 } in
    elim (in_front m x ms c) [
      | inl same ↦ subst (Lies low) same own
      | inr later ↦ let g = lies (m.address + m.size) ms x f.1 later in let from = g.from in let start = own.from in record { from = omega (arith, from, start); some = g.some; room = g.room }
    ]

-- two marks of one address are one
one_mark : (low : ℕ) (ms : List Mark) (x y : Mark) → fit_from low ms ≡ true → Contains ms x → Contains ms y → x.address ≡ y.address → x ≡ y
one_mark low [] x y h c d e = absurd (nothing_in x c)
one_mark low (m ∷ ms) x y h c d e =
    let f = both (fits_behind low m) (fit_from (m.address + m.size) ms) h in
    let l = lies_by low m.address m.size f.0 in
    elim (in_front m x ms c) [
      | inl p ↦ elim (in_front m y ms d) [
        | inl q ↦ sym p ∙ q
        | inr q ↦ absurd (later l.1 (lies (m.address + m.size) ms y f.1 q).from (ap (λ (z : Mark). z.address) p ∙ e))
      ]
      | inr p ↦ elim (in_front m y ms d) [
        | inl q ↦ absurd (later l.1 (lies (m.address + m.size) ms x f.1 p).from (ap (λ (z : Mark). z.address) q ∙ sym e))
        | inr q ↦ one_mark (m.address + m.size) ms x y f.1 p q e
      ]
    ]
  where
    later : {n : ℕ} → 1 ≤ m.size → m.address + m.size ≤ n → m.address ≡ n → ⊥
    later a b c = omega (arith, a, b, c)

-- ---- the same marks in another order

module _ (xs ys : List Mark) (there : (m : Mark) → Contains xs m → Contains ys m) (back : (m : Mark) → Contains ys m → Contains xs m) where
  sizes_same : (address : ℕ) → ((x y : Mark) → Contains ys x → Contains ys y → x.address ≡ y.address → x ≡ y) → size_at xs address ≡ size_at ys address
  unfolding size_at
  sizes_same address one = by (find at xs) (find at ys) refl refl
    where
      at : Mark → Bool
      at = λ m. eqb m.address address

      by : (o p : Option Mark) → find (λ m. eqb m.address address) xs ≡ o → find (λ m. eqb m.address address) ys ≡ p → option_map (λ m. m.size) o ≡ option_map (λ m. m.size) p
      by None None f g = refl
      by None (Some y) f g = let h = found_in (λ (m : Mark). eqb m.address address) ys y g in absurd (none_found (λ (m : Mark). eqb m.address address) xs y f (back y h.0) h.1)
      by (Some x) None f g = let h = found_in (λ (m : Mark). eqb m.address address) xs x f in absurd (none_found (λ (m : Mark). eqb m.address address) ys x g (there x h.0) h.1)
      by (Some x) (Some y) f g =
          let h = found_in (λ (m : Mark). eqb m.address address) xs x f in
          let k = found_in (λ (m : Mark). eqb m.address address) ys y g in
          let same = one x y (there x h.0) k.0 (eqb-true x.address address h.1 ∙ sym (eqb-true y.address address k.1)) in
          ap (λ (m : Mark). Some m.size) same

any_has : {X : Type 0} (p : X → Bool) (xs : List X) → list_any p xs ≡ true → (x : X) × Contains xs x × (p x ≡ true)
any_has p [] h = absurd cc
any_has p (y ∷ ys) h = by (p y) refl h (any_has p ys)
  where
    by : (b : Bool) → p y ≡ b → (b || list_any p ys) ≡ true → (list_any p ys ≡ true → (x : _) × Contains ys x × (p x ≡ true)) → (x : _) × Contains (y ∷ ys) x × (p x ≡ true)
    by true e h later = (y, first_in y ys, e)
    by false e h later = let g = later h in (g.0, behind_in y g.0 ys g.1, g.2)

has_any : {X : Type 0} (p : X → Bool) (xs : List X) (x : X) → Contains xs x → p x ≡ true → list_any p xs ≡ true
has_any p [] x c e = absurd (nothing_in x c)
has_any p (y ∷ ys) x c e =
    elim (in_front y x ys c) [
      | inl same ↦ ap (λ b. b || list_any p ys) (ap p same ∙ e)
      | inr later ↦ or_true (p y) (has_any p ys x later e)
    ]
  where
    or_true : (b : Bool) → list_any p ys ≡ true → (b || list_any p ys) ≡ true
    or_true true h = refl
    or_true false h = h

pub any_same : {X : Type 0} (p : X → Bool) (xs ys : List X) → ((x : X) → Contains xs x → Contains ys x) → ((x : X) → Contains ys x → Contains xs x) → list_any p xs ≡ list_any p ys
any_same p xs ys there back = by (list_any p xs) (list_any p ys) refl refl
  where
    by : (a b : Bool) → list_any p xs ≡ a → list_any p ys ≡ b → a ≡ b
    by true true f g = refl
    by false false f g = refl
    by true false f g = let h = any_has p xs f in let t = has_any p ys h.0 (there h.0 h.1) h.2 in cc
    by false true f g = let h = any_has p ys g in let t = has_any p xs h.0 (back h.0 h.1) h.2 in cc

-- ---- statements and their words

-- the statement that stands at an address
record StandsAt (ss : List Statement) (address : ℕ) (i : Insn) : Type 0 where
  statement : Statement
  there : Contains ss statement
  address_is : statement.address ≡ address
  insn_is : statement.insn ≡ i

stands_at : (ss : List Statement) (address : ℕ) (i : Insn) → statement_at ss address ≡ Some i → StandsAt ss address i
unfolding statement_at
stands_at ss address i e = by (find (λ s. eqb s.address address) ss) refl e
  where
    by : (o : Option Statement) → find (λ s. eqb s.address address) ss ≡ o → option_map (λ s. s.insn) o ≡ Some i → StandsAt ss address i
    by None f e = absurd cc
    by (Some s) f e =
        let h = found_in (λ (x : Statement). eqb x.address address) ss s f in
        record { statement = s; there = h.0; address_is = eqb-true s.address address h.1; insn_is = cc }

-- words that are the same where the instruction has them read the same
pub reads_same : (i : Insn) (x y z w : ℕ) → z ≡ x → (size_of i ≡ 2 → w ≡ y) → Reads x y i → Reads z w i
reads_same (insn.Long name number high) x y z w e f h = rw (e, f refl) h
reads_same (insn.LongMem name word a) x y z w e f h = rw (e, f refl) h
reads_same (insn.Jump name word change next) x y z w e f h = rw (e, f refl) h
reads_same i x y z w e f h = record { in_range = h.in_range; first_is = h.first_is ∙ sym e; second_is = h.second_is }

word_at : (page : finite.FinMap nat_cmp ℕ) (address word : ℕ) → address < 65536 → finite.get page address ≡ Some word → memory_of_map page address ≡ word
word_at page address word l e =
    let t : ltb address 65536 ≡ true = grind (arith, nat_tests) in
    ap (λ b. cond b (unwrap_or (finite.get page address) 0) 0) t ∙ ap (λ (o : Option ℕ). unwrap_or o 0) e

-- ---- the image

module _ (ss : Statements) (page0 page1 : finite.FinMap nat_cmp ℕ) (marks : List Mark) (run_marks : List RunMark) (samples : ℕ → List ℕ) (are : AreMarksOf ss marks run_marks)
    (read : All (ReadsAs page0) (loaded_statements ss)) where
  there : (m : Mark) → Contains marks m → Contains (marks_of ss.plain) m
  there m c = in_permuted marks (marks_of ss.plain) m (IsPermutation-sym (marks_of ss.plain) marks are.same) c

  back : (m : Mark) → Contains (marks_of ss.plain) m → Contains marks m
  back m c = in_permuted (marks_of ss.plain) marks m are.same c

  room_at : (s : Statement) → Contains ss.plain s → Lies 0 (statements.mark_of s)
  room_at s c = lies 0 marks (statements.mark_of s) are.ascend (back (statements.mark_of s) (in_map statements.mark_of ss.plain s c))

  copied_room_at : (c : Copied) → Contains ss.copied c → b0.Lies 0xFF00 (run_mark_of c)
  copied_room_at c there = b0.lies marks 0xFF00 run_marks (run_mark_of c) are.fit (b0.marked ss.copied run_marks are.copied c there)

  -- the places of all of them where they are loaded
  loads_same : IsPermutation (marks_of (loaded_statements ss)) (with_loads run_marks marks)
  loads_same =
      let loads = map load_mark (map run_mark_of ss.copied) in
      let split : marks_of (loaded_statements ss) ≡ loads ++ marks_of ss.plain =
      map-append statements.mark_of (map loaded_statement ss.copied) ss.plain
      ∙ ap (λ ms. ms ++ marks_of ss.plain) (map-map statements.mark_of loaded_statement ss.copied ∙ sym (map-map load_mark run_mark_of ss.copied)) in
      subst (λ (ms : List Mark). IsPermutation ms (with_loads run_marks marks)) (sym split)
      (IsPermutation-trans (loads ++ marks_of ss.plain) (map load_mark run_marks ++ marks_of ss.plain) (with_loads run_marks marks)
      (IsPermutation-append_left (marks_of ss.plain) loads (map load_mark run_marks) (IsPermutation-map load_mark (map run_mark_of ss.copied) run_marks are.copied))
      (IsPermutation-append_right (map load_mark run_marks) (marks_of ss.plain) marks are.same))

  codes_same : (address : ℕ) → is_code (with_loads run_marks marks) address ≡ is_code (marks_of (loaded_statements ss)) address
  unfolding is_code
  codes_same address =
      any_same (λ (m : Mark). leb m.address address && ltb address (m.address + m.size)) (with_loads run_marks marks) (marks_of (loaded_statements ss))
      (λ m c. in_permuted (with_loads run_marks marks) (marks_of (loaded_statements ss)) m (IsPermutation-sym (marks_of (loaded_statements ss)) (with_loads run_marks marks) loads_same) c)
      (λ m c. in_permuted (marks_of (loaded_statements ss)) (with_loads run_marks marks) m loads_same c)

  reads_there : (s : Statement) → Contains (loaded_statements ss) s → 1 ≤ size_of s.insn → s.address + size_of s.insn ≤ 65536
      → Reads (memory_of_map page0 s.address) (memory_of_map page0 ((s.address + 1) % 2 ^ 16)) s.insn
  reads_there s c some room =
      let r = All-contains (ReadsAs page0) (loaded_statements ss) s read c in
      reads_same s.insn r.first r.second (memory_of_map page0 s.address) (memory_of_map page0 ((s.address + 1) % 2 ^ 16))
      (word_at page0 s.address r.first (omega (arith, some, room)) r.first_is)
      (λ two.
      let next : (s.address + 1) % 2 ^ 16 ≡ s.address + 1 = omega (arith, two, room) in
      ap (memory_of_map page0) next ∙ word_at page0 (s.address + 1) r.second (omega (arith, two, room)) (r.second_is two))
      r.reads

  plain_reads : (s : Statement) → Contains ss.plain s → Reads (memory_of_map page0 s.address) (memory_of_map page0 ((s.address + 1) % 2 ^ 16)) s.insn
  plain_reads s c = let l = room_at s c in reads_there s (Contains-append_right (map loaded_statement ss.copied) ss.plain s c) l.some l.room

  copied_reads_there : (c : Copied) → Contains ss.copied c → Reads (memory_of_map page0 c.load) (memory_of_map page0 ((c.load + 1) % 2 ^ 16)) c.insn
  copied_reads_there c there =
      let l = copied_room_at c there in
      reads_there (loaded_statement c) (Contains-append_left (map loaded_statement ss.copied) ss.plain (loaded_statement c) (in_map loaded_statement ss.copied c there)) l.some l.loaded

  pub is_image : IsImageOf ss (first_of_pages page0 page1 marks run_marks samples).world
  is_image = record {
    starts = λ a. sym (sizes_same (marks_of ss.plain) marks back there a (λ x y c d e. one_mark 0 marks x y are.ascend c d e));
    code = codes_same;
    runs = runs_same ss.copied run_marks are.copied (λ x y c d e. one_run marks 0xFF00 run_marks x y are.fit c d e);
    copied_room = λ a c e. (copied_room_at c (runs_at ss.copied a c e).there).loaded;
    copied_reads = λ a c e. copied_reads_there c (runs_at ss.copied a c e).there;
    room = λ a i e. let s = stands_at ss.plain a i e in let l = (room_at s.statement s.there).room in let at = s.address_is in let n = ap size_of s.insn_is in omega (arith, l, at, n);
    reads = λ a i e.
        let s = stands_at ss.plain a i e in
        subst (λ (j : Insn). Reads (memory_of_map page0 a) (memory_of_map page0 ((a + 1) % 2 ^ 16)) j) s.insn_is
        (subst (λ n. Reads (memory_of_map page0 n) (memory_of_map page0 ((n + 1) % 2 ^ 16)) (s.statement).insn) s.address_is (plain_reads s.statement s.there));
  }
