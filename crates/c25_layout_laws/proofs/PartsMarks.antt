-- The marks of a program of the texts of parts are those of their instructions.
use Rattle.std.proofs.Common.{◌≡◌, ℕ, ◌+◌, Bool, true, false, if◌then◌else◌, List, [], ◌∷◌, ◌++◌, filter, length, map, Option, Some, None, refl, sym, ap, ◌∙◌, subst, arith, append-nil, append_assoc}
use Rattle.std.specs.Prelude.{is_some, unwrap_or}
use Rattle.std.specs.List.{flat_map}
use Rattle.std.specs.List.Sorted.{IsPermutation}
use Rattle.c25_layout.specs.Layout.{item_words}
use Rattle.c25_layout.specs.declared.layout.Part.{Part}
use Rattle.c25_layout.specs.declared.layout.Row.{Row}
use Rattle.c25_meaning_assembly.specs.OperandFields.{target_size}
use Rattle.c25_meaning_assembly.specs.Sections.{Content, Definitions, Exported, Operands, PendingItem, Words, Zeros}
use Rattle.c25_meaning_assembly.specs.declared.assembly.Target.{Target}
use Rattle.c25_meaning_assembly.specs.declared.assembly.Target.TheVariants as target
use Rattle.c25_meaning_expansion.specs.Files.{Files}
use Rattle.c25_meaning_image.specs.declared.mark.Mark.{Mark}
use Rattle.c25_meaning_image.specs.declared.mark.RunMark.{RunMark}
use Rattle.c25_meaning_instructions.specs.Table.{size_of}
use Rattle.c25_meaning_language.proofs.Numbers.{size_of_form}
use Rattle.c25_meaning_language.specs.Statement.{insn_of}
use Rattle.c25_meaning_language.specs.Tree.{Tree}
use Rattle.c25_meaning_linking.specs.Place.{Place}
use Rattle.c25_meaning_linking.specs.Words.{section_base, section_run, section_runs_elsewhere}
use Rattle.c25_meaning_objects.specs.Module.{Contents}
use Rattle.c25_meaning_processor.specs.Statements.{mark_of, run_mark_of}
use Rattle.c25_laws.specs.ProgramStatements.{AreMarksOf, PlacedStatement, all_statements, as_copied, as_loaded, item_statements, lines_in, numbers_under, program_statements, runs_in_b0, runs_in_place}
use Rattle.c25_layout_laws.proofs.PartLines.{PartsRead, RowsRead}
use Rattle.c25_layout_laws.proofs.PartsDone.{parts_items, rows_items}
use Rattle.c25_layout_laws.proofs.PartsPlaced.{StandsAt}
use Rattle.c25_layout_laws.proofs.PartsWords.{EachStands}
use Rattle.c25_layout_laws.proofs.RowItems.{puts_code}
use Rattle.c25_layout_laws.proofs.Tracked.{Laid, laid_of}
use Rattle.c25_layout_laws.specs.Layouts.{HasMarksOf, marks_from, marks_of_part, run_marks_from, run_marks_of_part}

-- ---- the marks of statements

abbrev plain_marks : List PlacedStatement → List Mark
plain_marks all = map mark_of (map as_loaded (filter runs_in_place all))

abbrev copied_marks : List PlacedStatement → List RunMark
copied_marks all = map run_mark_of (map as_copied (filter runs_in_b0 all))

plain_both : (a b : List PlacedStatement) → plain_marks (a ++ b) ≡ plain_marks a ++ plain_marks b
plain_both [] b = refl
plain_both (s ∷ a) b = go (runs_in_place s) (plain_both a b)
  where
    go : (t : Bool) → plain_marks (a ++ b) ≡ plain_marks a ++ plain_marks b
        → map mark_of (map as_loaded (if t then s ∷ filter runs_in_place (a ++ b) else filter runs_in_place (a ++ b))) ≡ map mark_of (map as_loaded (if t then s ∷ filter runs_in_place a else filter runs_in_place a)) ++ plain_marks b
    go true e = ap (λ (ms : List Mark). mark_of (as_loaded s) ∷ ms) e
    go false e = e

copied_both : (a b : List PlacedStatement) → copied_marks (a ++ b) ≡ copied_marks a ++ copied_marks b
copied_both [] b = refl
copied_both (s ∷ a) b = go (runs_in_b0 s) (copied_both a b)
  where
    go : (t : Bool) → copied_marks (a ++ b) ≡ copied_marks a ++ copied_marks b
        → map run_mark_of (map as_copied (if t then s ∷ filter runs_in_b0 (a ++ b) else filter runs_in_b0 (a ++ b))) ≡ map run_mark_of (map as_copied (if t then s ∷ filter runs_in_b0 a else filter runs_in_b0 a)) ++ copied_marks b
    go true e = ap (λ (ms : List RunMark). run_mark_of (as_copied s) ∷ ms) e
    go false e = e

module _ (places : List Place) (m : Contents) (names : Definitions) where
  abbrev item_of : Laid → PendingItem
  item_of l = record { origin = record { file = []; line = 0 }; section = l.section; offset = l.offset; content = l.content }

  -- the statements of an item
  abbrev said : Laid → List PlacedStatement
  said l = item_statements (m ∷ []) places 0 m names (item_of l) l.content

  laid_said : (i : PendingItem) → item_statements (m ∷ []) places 0 m names i i.content ≡ said (laid_of i)
  laid_said i = go i.content
    where
      go : (c : Content) → item_statements (m ∷ []) places 0 m names i c ≡ item_statements (m ∷ []) places 0 m names (record { origin = record { file = []; line = 0 }; section = i.section; offset = i.offset; content = i.content }) c
      go (Operands (target.Instruction f) trees) = refl
      go (Operands (target.Data w) trees) = refl
      go (Words ws) = refl
      go (Zeros n) = refl
      go (Exported ns) = refl

  all_said : (items : List PendingItem) → flat_map (λ (i : PendingItem). item_statements (m ∷ []) places 0 m names i i.content) items ≡ flat_map said (map laid_of items)
  all_said [] = refl
  all_said (i ∷ items) = (λ j. laid_said i j ++ all_said items j)

  said_both : (a b : List Laid) → flat_map said (a ++ b) ≡ flat_map said a ++ flat_map said b
  said_both [] b = refl
  said_both (l ∷ a) b = ap (λ (ss : List PlacedStatement). said l ++ ss) (said_both a b) ∙ sym (append_assoc (said l) (flat_map said a) (flat_map said b))

  -- ---- one row

  abbrev statement_at : ℕ → ℕ → Target → List Tree → List PlacedStatement
  statement_at k o put trees = said (record { section = k; offset = o; content = Operands put trees })

  abbrev mark_if : Bool → ℕ → ℕ → List Mark
  mark_if code address size = if code then record { address = address; size = size } ∷ [] else []

  abbrev run_mark_if : Bool → ℕ → ℕ → ℕ → List RunMark
  run_mark_if code load run size = if code then record { load = load; run = run; size = size } ∷ [] else []

  module _ (p : Part) (k : ℕ) (at : StandsAt (m ∷ []) places m k p) where
    plain_row : (o : ℕ) (put : Target) (trees : List Tree) (size : ℕ) → p.run ≡ None → target_size put (length trees) ≡ size → plain_marks (statement_at k o put trees) ≡ mark_if (puts_code put) (p.address + o) size
    plain_row o (target.Data w) trees size runs sized = refl
    plain_row o (target.Instruction f) trees size runs sized =
        let elsewhere : section_runs_elsewhere places m k ≡ false = at.elsewhere ∙ ap (λ (r : Option ℕ). is_some r) runs in
        let base = at.base in
        let here : section_base (m ∷ []) places 0 m k + o ≡ p.address + o = omega (arith, base) in
        let words : size_of (insn_of f (numbers_under (m ∷ []) places 0 m names k o (target.Instruction f) trees)) ≡ size = size_of_form f (numbers_under (m ∷ []) places 0 m names k o (target.Instruction f) trees) ∙ sized in
        rw (at.page, elsewhere) (λ j. record { address = here j; size = words j } ∷ [])

    not_copied : (o : ℕ) (put : Target) (trees : List Tree) → p.run ≡ None → copied_marks (statement_at k o put trees) ≡ []
    not_copied o (target.Data w) trees runs = refl
    not_copied o (target.Instruction f) trees runs =
        let elsewhere : section_runs_elsewhere places m k ≡ false = at.elsewhere ∙ ap (λ (r : Option ℕ). is_some r) runs in
        rw (at.page, elsewhere) refl

    copied_row : (o run : ℕ) (put : Target) (trees : List Tree) (size : ℕ) → p.run ≡ Some run → target_size put (length trees) ≡ size → copied_marks (statement_at k o put trees) ≡ run_mark_if (puts_code put) (p.address + o) (run + o) size
    copied_row o run (target.Data w) trees size runs sized = refl
    copied_row o run (target.Instruction f) trees size runs sized =
        let elsewhere : section_runs_elsewhere places m k ≡ true = at.elsewhere ∙ ap (λ (r : Option ℕ). is_some r) runs in
        let base = at.base in
        let there : section_run (m ∷ []) places 0 m k ≡ run = at.run ∙ ap (λ (r : Option ℕ). unwrap_or r p.address) runs in
        let here : section_base (m ∷ []) places 0 m k + o ≡ p.address + o = omega (arith, base) in
        let going : section_run (m ∷ []) places 0 m k + o ≡ run + o = omega (arith, there) in
        let words : size_of (insn_of f (numbers_under (m ∷ []) places 0 m names k o (target.Instruction f) trees)) ≡ size = size_of_form f (numbers_under (m ∷ []) places 0 m names k o (target.Instruction f) trees) ∙ sized in
        rw (at.page, elsewhere) (λ j. record { load = here j; run = going j; size = words j } ∷ [])

    not_plain : (o run : ℕ) (put : Target) (trees : List Tree) → p.run ≡ Some run → plain_marks (statement_at k o put trees) ≡ []
    not_plain o run (target.Data w) trees runs = refl
    not_plain o run (target.Instruction f) trees runs =
        let elsewhere : section_runs_elsewhere places m k ≡ true = at.elsewhere ∙ ap (λ (r : Option ℕ). is_some r) runs in
        rw (at.page, elsewhere) refl

    -- ---- rows

    rows_plain : (rows : List Row) (x : RowsRead rows) (o : ℕ) → p.run ≡ None → plain_marks (flat_map said (rows_items k o rows x)) ≡ marks_from (p.address + o) rows
    rows_plain [] x o runs = refl
    rows_plain (r ∷ rows) x o runs =
        let i = x.0.item in
        let n = length (item_words r.item) in
        let next : p.address + (o + n) ≡ p.address + o + n = omega arith in
        plain_both (statement_at k o i.put i.trees) (flat_map said (rows_items k (o + n) rows x.1))
        ∙ (λ j. (plain_row o i.put i.trees n runs i.sized ∙ ap (λ (b : Bool). mark_if b (p.address + o) n) i.coded) j ++ (rows_plain rows x.1 (o + n) runs ∙ ap (λ (a : ℕ). marks_from a rows) next) j)

    rows_not_copied : (rows : List Row) (x : RowsRead rows) (o : ℕ) → p.run ≡ None → copied_marks (flat_map said (rows_items k o rows x)) ≡ []
    rows_not_copied [] x o runs = refl
    rows_not_copied (r ∷ rows) x o runs =
        let i = x.0.item in
        let n = length (item_words r.item) in
        copied_both (statement_at k o i.put i.trees) (flat_map said (rows_items k (o + n) rows x.1))
        ∙ (λ j. not_copied o i.put i.trees runs j ++ rows_not_copied rows x.1 (o + n) runs j)

    rows_copied : (rows : List Row) (x : RowsRead rows) (o run : ℕ) → p.run ≡ Some run → copied_marks (flat_map said (rows_items k o rows x)) ≡ run_marks_from (p.address + o) (run + o) rows
    rows_copied [] x o run runs = refl
    rows_copied (r ∷ rows) x o run runs =
        let i = x.0.item in
        let n = length (item_words r.item) in
        let next : p.address + (o + n) ≡ p.address + o + n = omega arith in
        let later : run + (o + n) ≡ run + o + n = omega arith in
        copied_both (statement_at k o i.put i.trees) (flat_map said (rows_items k (o + n) rows x.1))
        ∙ (λ j. (copied_row o run i.put i.trees n runs i.sized ∙ ap (λ (b : Bool). run_mark_if b (p.address + o) (run + o) n) i.coded) j
        ++ (rows_copied rows x.1 (o + n) run runs ∙ (λ l. run_marks_from (next l) (later l) rows)) j)

    rows_not_plain : (rows : List Row) (x : RowsRead rows) (o run : ℕ) → p.run ≡ Some run → plain_marks (flat_map said (rows_items k o rows x)) ≡ []
    rows_not_plain [] x o run runs = refl
    rows_not_plain (r ∷ rows) x o run runs =
        let i = x.0.item in
        let n = length (item_words r.item) in
        plain_both (statement_at k o i.put i.trees) (flat_map said (rows_items k (o + n) rows x.1))
        ∙ (λ j. not_plain o run i.put i.trees runs j ++ rows_not_plain rows x.1 (o + n) run runs j)

    part_plain : (x : RowsRead p.rows.items) (o : Option ℕ) → p.run ≡ o → plain_marks (flat_map said (rows_items k 0 p.rows.items x)) ≡ marks_of_part o p
    part_plain x None runs = let same : p.address + 0 ≡ p.address = omega arith in rows_plain p.rows.items x 0 runs ∙ ap (λ (a : ℕ). marks_from a p.rows.items) same
    part_plain x (Some run) runs = rows_not_plain p.rows.items x 0 run runs

    part_copied : (x : RowsRead p.rows.items) (o : Option ℕ) → p.run ≡ o → copied_marks (flat_map said (rows_items k 0 p.rows.items x)) ≡ run_marks_of_part o p
    part_copied x None runs = rows_not_copied p.rows.items x 0 runs
    part_copied x (Some run) runs =
        let same : p.address + 0 ≡ p.address = omega arith in
        let later : run + 0 ≡ run = omega arith in
        rows_copied p.rows.items x 0 run runs ∙ (λ l. run_marks_from (same l) (later l) p.rows.items)

  -- ---- parts

  parts_plain : (k : ℕ) (ps : List Part) (x : PartsRead ps) → EachStands places m k ps → plain_marks (flat_map said (parts_items k ps x)) ≡ flat_map (λ (p : Part). marks_of_part p.run p) ps
  parts_plain k [] x at = refl
  parts_plain k (p ∷ ps) x at =
      let own = rows_items k 0 p.rows.items x.0 in
      let others = parts_items (k + 1) ps x.1 in
      ap plain_marks (said_both own others) ∙ plain_both (flat_map said own) (flat_map said others)
      ∙ (λ j. part_plain p k at.0 x.0 p.run refl j ++ parts_plain (k + 1) ps x.1 at.1 j)

  parts_copied : (k : ℕ) (ps : List Part) (x : PartsRead ps) → EachStands places m k ps → copied_marks (flat_map said (parts_items k ps x)) ≡ flat_map (λ (p : Part). run_marks_of_part p.run p) ps
  parts_copied k [] x at = refl
  parts_copied k (p ∷ ps) x at =
      let own = rows_items k 0 p.rows.items x.0 in
      let others = parts_items (k + 1) ps x.1 in
      ap copied_marks (said_both own others) ∙ copied_both (flat_map said own) (flat_map said others)
      ∙ (λ j. part_copied p k at.0 x.0 p.run refl j ++ parts_copied (k + 1) ps x.1 at.1 j)

-- ---- the program

pub marks_are : (files : Files) (name : List ℕ) (m : Contents) (places : List Place) (parts : List Part) (x : PartsRead parts) (marks : List Mark) (run_marks : List RunMark)
    → map laid_of (lines_in files name).items ≡ parts_items 1 parts x → EachStands places m 1 parts → AreMarksOf (program_statements files (name ∷ []) (m ∷ []) places) marks run_marks → HasMarksOf parts marks run_marks
marks_are files name m places parts x marks run_marks items at are =
    let names = (lines_in files name).names in
    let all : all_statements files (name ∷ []) (m ∷ []) places ≡ flat_map (said places m names) (parts_items 1 parts x) =
    append-nil (flat_map (λ (i : PendingItem). item_statements (m ∷ []) places 0 m names i i.content) (lines_in files name).items) ∙ all_said places m names (lines_in files name).items ∙ ap (flat_map (said places m names)) items in
    record {
      same = subst (λ (ms : List Mark). IsPermutation ms marks) (ap plain_marks all ∙ parts_plain places m names 1 parts x at) are.same;
      ascend = are.ascend;
      same_runs = subst (λ (ms : List RunMark). IsPermutation ms run_marks) (ap copied_marks all ∙ parts_copied places m names 1 parts x at) are.copied;
      fit = are.fit;
    }
