-- The lines of a layout pass one after another.
use Rattle.std.proofs.Common.{◌≡◌, ℕ, suc, ◌+◌, ◌<◌, ◌≤◌, Bool, true, false, not, ◌||◌, List, [], ◌∷◌, ◌++◌, length, map, codes, Option, Some, None, refl, sym, ap, ◌∙◌, subst, arith, inl, append_assoc}
use Rattle.std.specs.Prelude.{string_bytes, String}
use Rattle.std.specs.List.{All}
use Rattle.std.specs.Str.{bytes_eq}
use Rattle.std.specs.declared.alloc.Global.{Global}
use Rattle.std.proofs.lemmas.Bool.{and_parts}
use Rattle.std.proofs.lemmas.List.{length-append, map-append}
use Rattle.std.proofs.lemmas.Slice.Eq.{bytes_eq-Decides}
use Rattle.c25_layout.specs.Layout.{Follow, item_words, rows_words}
use Rattle.c25_layout.specs.declared.layout.Part.{Part}
use Rattle.c25_layout.specs.declared.layout.Row.{Row}
use Rattle.c25_meaning_assembly.specs.AssemblyLine.{Statement}
use Rattle.c25_meaning_assembly.specs.Sections.{Progress, are_distinct, empty_section, is_file_name, is_in, place, start}
use Rattle.c25_meaning_language.specs.Value.{predefined}
use Rattle.c25_layout_laws.proofs.PartLines.{PartsRead, ReadsRow, RowsRead, label_of, load_statements, main_statement, parts_statements, row_statements, rows_statements}
use Rattle.c25_layout_laws.proofs.PartsDone.{AreBelow, begun, below_more, below_push, differ, fresh, label_same, load_done, load_same, part_done, row_done, rows_done, rows_sections}
use Rattle.c25_layout_laws.proofs.Passable.{IsGood, IsNewLabel, Passable, enter_goes, load_goes, put_goes}
use Rattle.c25_layout_laws.proofs.Tracked.{Done, Tracks, enter_tracked, entered, labelled, load_tracked, loaded, put_tracked, with_put}
use Rattle.c25_layout.specs.Buildable.{IsAssemblable}
use Rattle.c25_layout.specs.Layouts.{named, names_from, names_of, run_address}
use Rattle.c25_layout_laws.specs.Listed.{section_of}

-- ---- names to come

abbrev name_list : Option (String Global) → List (List ℕ)
name_list None = []
name_list (Some text) = string_bytes text ∷ []

abbrev rows_come : List Row → List (List ℕ)
rows_come [] = []
rows_come (r ∷ rows) = name_list r.load_label ++ (name_list r.label ++ rows_come rows)

abbrev pub parts_come : List Part → List (List ℕ)
parts_come [] = []
parts_come (p ∷ parts) = rows_come p.rows.items ++ parts_come parts

abbrev OwnAll : List (List ℕ) → Type 0
OwnAll [] = Unit {0}
OwnAll (n ∷ ns) = (predefined n ≡ None) × OwnAll ns

abbrev so_far : Done → List (List ℕ)
so_far d = map (λ n. n.0) d.names

-- the names so far and those to come are apart and few
pub record AreNew (d : Done) (ns : List (List ℕ)) : Type 0 where
  pub apart : are_distinct (so_far d ++ ns) ≡ true
  pub own : OwnAll ns
  pub room : length d.names + length ns ≤ 65535

apart_from : (n : List ℕ) (xs ys : List (List ℕ)) → are_distinct (xs ++ n ∷ ys) ≡ true → is_in xs n ≡ false
apart_from n [] ys h = refl
apart_from n (x ∷ xs) ys h =
    let both = and_parts (not (is_in (xs ++ n ∷ ys) x)) (are_distinct (xs ++ n ∷ ys)) h in
    let none = not_there (is_in (xs ++ n ∷ ys) x) both.0 in
    let other : bytes_eq n x ≡ false = differ n x (λ e. absent xs ys n x none (sym e)) in
    rw other (apart_from n xs ys both.1)
  where
    not_there : (b : Bool) → not b ≡ true → b ≡ false
    not_there true h = absurd (cc)
    not_there false h = refl

    second : (b c : Bool) → (b || c) ≡ false → (b ≡ false) × (c ≡ false)
    second true c h = absurd (cc)
    second false c h = (refl, h)

    absent : (xs ys : List (List ℕ)) (n x : List ℕ) → is_in (xs ++ n ∷ ys) x ≡ false → x ≡ n → ⊥
    absent [] ys n x h e = let parts = second (bytes_eq x n) (is_in ys x) h in let first = parts.0 in let same = (bytes_eq-Decides x n).1 e in absurd (cc)
    absent (y ∷ xs) ys n x h e = absent xs ys n x (second (bytes_eq x y) (is_in (xs ++ n ∷ ys) x) h).1 e

-- one name more
name_more : (d e : Done) (n : List ℕ) (ns : List (List ℕ)) → so_far e ≡ so_far d ++ n ∷ [] → length e.names ≡ length d.names + 1 → AreNew d (n ∷ ns) → AreNew e ns
name_more d e n ns is count h =
    let room = h.room in
    record {
      apart = ap (λ (xs : List (List ℕ)). are_distinct (xs ++ ns)) is ∙ ap are_distinct (append_assoc (so_far d) (n ∷ []) ns) ∙ h.apart;
      own = h.own.1;
      room = omega (arith, room, count);
    }

load_new : (d : Done) (n : List ℕ) (ns : List (List ℕ)) → AreNew d (n ∷ ns) → AreNew (loaded n d) ns
load_new d n ns h = name_more d (loaded n d) n ns (map-append (λ x. x.0) d.names ((n, _) ∷ [])) (length-append d.names ((n, _) ∷ [])) h

label_new : (l : Option (String Global)) (d : Done) (ns : List (List ℕ)) → AreNew d (name_list l ++ ns) → IsNewLabel (label_of l) d × AreNew (labelled (label_of l) d) ns
label_new None d ns h = (tt, h)
label_new (Some text) d ns h = (
  (h.own.0, apart_from (string_bytes text) (so_far d) ns h.apart),
  name_more d (labelled (Some (string_bytes text)) d) (string_bytes text) ns (map-append (λ x. x.0) d.names ((string_bytes text, place d.current d.size) ∷ [])) (length-append d.names ((string_bytes text, place d.current d.size) ∷ [])) h,
)

module _ (file : List ℕ) (named_file : is_file_name file ≡ true) where
  -- what follows passes from wherever these lines lead
  abbrev Then : List Statement → Done → List (List ℕ) → Type 0
  Then ss d ns = (q : Progress) → Tracks q d → IsGood file q → AreNew d ns → Passable file ss q

  load_passable : (l : Option (String Global)) (p : Progress) (d : Done) (ns : List (List ℕ)) (ss : List Statement) → Tracks p d → IsGood file p → AreNew d (name_list l ++ ns) → Then ss (load_done l d) ns → Passable file (load_statements l ++ ss) p
  load_passable None p d ns ss h good new next = next p h good new
  load_passable (Some text) p d ns ss h good new next = λ origin at numbered.
      let room = new.room in
      let g = load_goes file origin (string_bytes text) p d h good new.own.0 (apart_from (string_bytes text) (so_far d) ns new.apart) (omega (arith, room)) in
      (g.to, g.passes, next g.to (load_tracked origin (string_bytes text) p g.to d h g.passes) g.good (load_new d (string_bytes text) ns new))

  main_passable : (r : Row) (x : ReadsRow r) (p : Progress) (d : Done) (ns : List (List ℕ)) (ss : List Statement) → Tracks p d → IsGood file p → AreNew d (name_list r.label ++ ns) → d.size + length (item_words r.item) ≤ 65536
      → Then ss (with_put x.item.put x.item.trees (labelled (label_of r.label) d)) ns → Passable file (main_statement r x ∷ ss) p
  main_passable r x p d ns ss h good new room next = λ origin at numbered.
      let l = label_new r.label d ns new in
      let size = (label_same r.label d).size in
      let sized = x.item.sized in
      let names = l.1.room in
      let g = put_goes file origin (label_of r.label) x.item.put x.item.trees p d h good l.0 at numbered named_file (omega (arith, size, sized, room)) (omega (arith, names)) in
      (g.to, g.passes, next g.to (put_tracked origin (label_of r.label) x.item.put x.item.trees p g.to d h g.passes) g.good (record { apart = l.1.apart; own = l.1.own; room = l.1.room }))

  rows_passable : (rows : List Row) (x : RowsRead rows) (p : Progress) (d : Done) (ns : List (List ℕ)) (ss : List Statement) → Tracks p d → IsGood file p → AreNew d (rows_come rows ++ ns) → d.size + length (rows_words rows) ≤ 65536
      → Then ss (rows_done rows x d) ns → Passable file (rows_statements rows x ++ ss) p
  rows_passable [] x p d ns ss h good new room next = next p h good new
  rows_passable (r ∷ rows) x p d ns ss h good new room next =
      let rest = rows_statements rows x.1 ++ ss in
      let words = length-append (item_words r.item) (rows_words rows) in
      let names : AreNew d (name_list r.load_label ++ (name_list r.label ++ (rows_come rows ++ ns))) =
      subst (AreNew d) (append_assoc (name_list r.load_label) (name_list r.label ++ rows_come rows) ns ∙ ap (λ (xs : List (List ℕ)). name_list r.load_label ++ xs) (append_assoc (name_list r.label) (rows_come rows) ns)) new in
      let list : load_statements r.load_label ++ (main_statement r x.0 ∷ rest) ≡ rows_statements (r ∷ rows) x ++ ss =
      sym (append_assoc (row_statements r x.0) (rows_statements rows x.1) ss ∙ append_assoc (load_statements r.load_label) (main_statement r x.0 ∷ []) rest) in
      subst (λ (xs : List Statement). Passable file xs p) list
      (load_passable r.load_label p d (name_list r.label ++ (rows_come rows ++ ns)) (main_statement r x.0 ∷ rest) h good names
      (λ q tracks q_good q_new.
      let e = load_done r.load_label d in
      let load_size = (load_same r.load_label d).size in
      let label_size = (label_same r.label e).size in
      let sized = x.0.item.sized in
      main_passable r x.0 q e (rows_come rows ++ ns) rest tracks q_good q_new (omega (arith, load_size, room, words))
      (λ s s_tracks s_good s_new. rows_passable rows x.1 s (row_done r x.0 d) ns ss s_tracks s_good s_new (omega (arith, load_size, label_size, sized, room, words)) next)))

  parts_passable : (parts : List Part) (x : PartsRead parts) (from : ℕ) (p : Progress) (d : Done) → Follow from parts → AreBelow from d.sections → length d.sections + length parts ≤ 255 → Tracks p d → IsGood file p → AreNew d (parts_come parts) → Passable file (parts_statements parts x) p
  parts_passable [] x from p d follow below few h good new = good
  parts_passable (t ∷ parts) x from p d (low, some, inside, follow) below few h good new = λ origin at numbered.
      let small : t.address < 65536 = omega (arith, some, inside) in
      let is_fresh = fresh t.address from d.sections low small below in
      let room = new.room in
      let g = enter_goes file origin (section_of t.address) p d h good is_fresh (omega (arith, few)) (omega (arith, room)) in
      let e = entered (section_of t.address) d in
      let next = t.address + length (rows_words t.rows.items) in
      let sections : (part_done t x.0 d).sections ≡ d.sections ++ section_of t.address ∷ [] = rows_sections t.rows.items x.0 e in
      let count = ap length sections ∙ length-append d.sections (section_of t.address ∷ []) in
      let below_next : AreBelow next (part_done t x.0 d).sections = subst (AreBelow next) (sym sections) (below_push next t.address d.sections (omega (arith, some)) small (below_more from next d.sections (omega (arith, low)) below)) in (
        g.to,
        g.passes,
        rows_passable t.rows.items x.0 g.to e (parts_come parts) (parts_statements parts x.1) (enter_tracked origin (section_of t.address) p g.to d h is_fresh g.passes) g.good (record { apart = new.apart; own = new.own; room = new.room }) (omega (arith, inside))
            (λ q tracks q_good q_new. parts_passable parts x.1 next q (part_done t x.0 d) follow below_next (omega (arith, few, count)) tracks q_good q_new),
      )

-- ---- all of them

come_of : (load run : ℕ) (rows : List Row) → map (λ n. n.0) (names_from load run rows) ≡ rows_come rows
come_of load run [] = refl
come_of load run (r ∷ rows) =
    let n = length (item_words r.item) in
    both r.load_label load (named r.label run ++ names_from (load + n) (run + n) rows) (name_list r.label ++ rows_come rows) (both r.label run (names_from (load + n) (run + n) rows) (rows_come rows) (come_of (load + n) (run + n) rows))
  where
    both : (l : Option (String Global)) (a : ℕ) (ns : List (List ℕ × ℕ)) (ms : List (List ℕ)) → map (λ n. n.0) ns ≡ ms → map (λ n. n.0) (named l a ++ ns) ≡ name_list l ++ ms
    both None a ns ms e = e
    both (Some text) a ns ms e = ap (λ (xs : List (List ℕ)). string_bytes text ∷ xs) e

all_come : (parts : List Part) → map (λ n. n.0) (names_of parts) ≡ parts_come parts
all_come [] = refl
all_come (p ∷ parts) =
    map-append (λ n. n.0) (names_from p.address (run_address p) p.rows.items) (names_of parts)
    ∙ (λ j. come_of p.address (run_address p) p.rows.items j ++ all_come parts j)

owned : (ns : List (List ℕ × ℕ)) → All (λ n. predefined n.0 ≡ None) ns → OwnAll (map (λ n. n.0) ns)
owned [] h = tt
owned (n ∷ ns) h = (h 0 n (omega arith), owned ns (λ k d lt. h (suc k) d (omega (arith, lt))))

mapped_length : (ns : List (List ℕ × ℕ)) → length (map (λ n. n.0) ns) ≡ length ns
mapped_length [] = refl
mapped_length (n ∷ ns) = let rest = mapped_length ns in omega (arith, rest)

pub layout_passable : (file : List ℕ) → is_file_name file ≡ true → (parts : List Part) (x : PartsRead parts) → IsAssemblable parts → Passable file (parts_statements parts x) start
layout_passable file named_file parts x h =
    let follow = h.layout.follow in
    let few = h.few_parts in
    let some = h.few_names in
    let count = ap length (sym (all_come parts)) ∙ mapped_length (names_of parts) in
    parts_passable file named_file parts x 0 start begun follow (inl refl, tt) (omega (arith, few))
    (record { sections = refl; current = refl; section = empty_section (codes ".text") true; there = refl; size = refl; names = refl; items = refl })
    (record { declared = refl; exported = refl; sections = (record { initialised = refl; blocks = refl; words = refl; relocations = refl }, tt); used = inl refl })
    (record { apart = ap are_distinct (sym (all_come parts)) ∙ h.apart; own = subst OwnAll (all_come parts) (owned (names_of parts) h.own); room = omega (arith, count, some) })
