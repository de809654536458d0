-- Lines that no rule of expansion touches are given as they are, and the lines of a false `.if` are skipped.
use Rattle.std.proofs.Common.{◌≡◌, ℕ, zero, suc, ◌+◌, ◌-◌, ◌==◌, ◌<◌, ◌≤◌, Bool, true, false, if◌then◌else◌, List, [], ◌∷◌, ◌++◌, length, map, Option, Some, None, refl, sym, ap, subst, ◌∙◌, append_assoc, append-nil, arith}
use Rattle.std.proofs.lemmas.Bool.Decides.{nat_tests}
use Rattle.c25_meaning_language.specs.Line.{first_word}
use Rattle.c25_meaning_language.specs.Value.{Table}
use Rattle.c25_meaning_expansion.specs.Files.{Files}
use Rattle.c25_meaning_expansion.specs.Rows.{Row, rows_of}
use Rattle.c25_meaning_expansion.specs.Expansion.{LineOrEnd, Read, Reading, Config, Gives, Goes, Finishes, Faults, seen, number_of}
use Rattle.c25_meaning_expansion.specs.ExpansionRules.{directive_in, macro_of, calls, uses, unless_long, used, takes_lines, takes, skips_outer, skips_nested, skips, reads_by}
use Rattle.c25_meaning_expansion.specs.ExpansionRuns.{rewrite, Leads, first, start}
use Rattle.c25_meaning_expansion.specs.ExpansionBounds.{Gave, nothing, line}
use Rattle.c25_print_laws.specs.ExpansionLaws.{IsPlain, ArePlain, are_taken, closed_by, are_closed}
use Rattle.c25_meaning_expansion.proofs.ExpansionFirst.{comes_to_first, leads_before}
use Rattle.c25_substitution.proofs.PlainTexts.{line_kept, short_kept}
use Rattle.c25_meaning_expansion.specs.declared.expansion.Branch.{Branch}
use Rattle.c25_meaning_expansion.specs.declared.expansion.Directive.{Directive}
use Rattle.c25_meaning_expansion.specs.declared.expansion.Directive.TheVariants as directive
use Rattle.c25_meaning_language.specs.declared.statement.FaultKind.TheVariants as fault

not_none : (n : ℕ) → 0 < n → (n == 0) ≡ false
not_none n h = grind (arith, nat_tests)

module _ (files : Files) (s : Table) where
  -- ---- a line that no rule touches

  used_plain : (row : Row) (c : Config) → IsPlain c.names row.text → used files s row None c ≡ Gives row c
  unfolding used
  used_plain row c h =
      ap (λ r. unless_long row.place r (λ text. uses files s (record { place = row.place; text = text }) (directive_in (first_word text)) c))
      (line_kept (seen c.names) (number_of c.names.expansions) row.text h.no_name h.no_mark ∙ short_kept row.text h.short)
      ∙ ap (λ d. uses files s row d c) h.no_directive ∙ ap (λ m. calls files s row m c) h.no_macro

  taken_plain : (row : Row) (bs : List Branch) (c : Config) → are_taken bs ≡ true → IsPlain c.names row.text → reads_by files s row None bs c ≡ Gives row c
  taken_plain row [] c taken h = used_plain row c h
  taken_plain row (b ∷ bs) c taken h = ap (λ t. if t then takes files s row None b bs c else skips files s row None b bs c) taken ∙ used_plain row c h

  -- a plain line is given
  pub gives_plain : (row : Row) (rest : List LineOrEnd) (c : Config) → are_taken c.frame.branches ≡ true → 0 < c.left → IsPlain c.names row.text →
      rewrite files s (record c { lines = Read row ∷ rest; mode = Reading }) ≡ Gives row (record c { lines = rest; mode = Reading; left = c.left - 1 })
  unfolding rewrite
  gives_plain row rest c taken some h =
      let next : Config = record c { lines = rest; mode = Reading; left = c.left - 1 } in
      ap (λ t. if t then Faults row.place fault.Lines else reads_by files s row (directive_in (first_word row.text)) next.frame.branches next) (not_none c.left some)
      ∙ ap (λ d. reads_by files s row d next.frame.branches next) h.no_directive
      ∙ taken_plain row next.frame.branches next taken h

  pub first_plain : (row : Row) (rest : List LineOrEnd) (c : Config) → are_taken c.frame.branches ≡ true → 0 < c.left → IsPlain c.names row.text →
      first files s (record c { lines = Read row ∷ rest; mode = Reading }) ≡ Gives row (record c { lines = rest; mode = Reading; left = c.left - 1 })
  first_plain row rest c taken some h =
      let old : Config = record c { lines = Read row ∷ rest; mode = Reading } in
      comes_to_first files s old _ (zero, old, refl, gives_plain row rest c taken some h) tt

  -- ---- a source of such lines

  no_macro_there : (word : Option (List ℕ)) → macro_of word (record { macros = []; texts = []; expansions = []; count = 0 }) ≡ None
  no_macro_there None = refl
  no_macro_there (Some word) = refl

  module _ (file : ℕ) (text : List ℕ) where
    -- the source from these lines on, where so many lines may still be read
    abbrev pub behind_lines : List Row → ℕ → Config
    behind_lines rows n = record (start file text) { lines = map Read rows; left = n }

    gave_rows : (rows given : List Row) (n : ℕ) → ArePlain rows → length rows ≤ n → Gave files (start file text) given (behind_lines rows n) →
        Gave files (start file text) (given ++ rows) (behind_lines [] (n - length rows))
    gave_rows [] given n h l gave =
        let left : n ≡ n - 0 = omega arith in
        subst (λ rows. Gave files (start file text) rows (behind_lines [] (n - 0))) (sym (append-nil given)) (subst (λ k. Gave files (start file text) given (behind_lines [] k)) left gave)
    gave_rows (row ∷ rows) given n h l gave =
        let plain : IsPlain (start file text).names row.text = record { no_directive = h.0; no_macro = no_macro_there (first_word row.text); no_name = λ i. refl; no_mark = h.1; short = h.2 } in
        let next = line s gave (gives_plain row (map Read rows) (behind_lines (row ∷ rows) n) refl (omega arith) plain) in
        let all = gave_rows rows (given ++ row ∷ []) (n - 1) h.3 (omega arith) next in
        let left : n - 1 - length rows ≡ n - suc (length rows) = omega arith in
        subst (λ xs. Gave files (start file text) xs (behind_lines [] (n - length (row ∷ rows)))) (append_assoc given (row ∷ []) rows)
        (subst (λ k. Gave files (start file text) ((given ++ row ∷ []) ++ rows) (behind_lines [] k)) left all)

    pub finishes_empty : (n : ℕ) → first files s (behind_lines [] n) ≡ Finishes (behind_lines [] n)
    unfolding rewrite
    finishes_empty n = comes_to_first files s (behind_lines [] n) _ (zero, behind_lines [] n, refl, refl) tt

-- ---- what a line that is read says of the configuration where it stands

-- a plain line is given, where nothing else stands
pub plain_line : (files : Files) (s : Table) (row : Row) (rest : List LineOrEnd) (c : Config) → c.mode ≡ Reading → c.lines ≡ Read row ∷ rest → are_taken c.frame.branches ≡ true → 0 < c.left → IsPlain c.names row.text →
    first files s c ≡ Gives row (record c { lines = rest; left = c.left - 1 })
plain_line files s row rest c reading lines taken some h =
    let same : c ≡ record c { lines = Read row ∷ rest; mode = Reading } = ap (λ ls. record c { lines = ls }) lines ∙ ap (λ m. record c { lines = Read row ∷ rest; mode = m }) reading in
    let back : Gives row (record c { lines = rest; mode = Reading; left = c.left - 1 }) ≡ Gives row (record c { lines = rest; left = c.left - 1 }) =
    ap (λ m. Gives row (record c { lines = rest; mode = m; left = c.left - 1 })) (sym reading) in
    ap (first files s) same ∙ first_plain files s row rest c taken some h ∙ back

-- a source of such lines gives them all, and then ends
pub plain_source : (files : Files) (s : Table) (file : ℕ) (text : List ℕ) → ArePlain (rows_of file text) → length (rows_of file text) ≤ 200000 →
    (c : Config) × Gave files (start file text) (rows_of file text) c × (first files s c ≡ Finishes c)
plain_source files s file text h l =
    (behind_lines files s file text [] (200000 - length (rows_of file text)), gave_rows files s file text (rows_of file text) [] 200000 h l nothing, finishes_empty files s file text (200000 - length (rows_of file text)))

-- ---- lines that a false `.if` skips

module _ (files : Files) (s : Table) (c : Config) (b : Branch) (bs : List Branch) (skipped : takes_lines b.phase ≡ false) where
  -- these lines are still to come, so many `.if`s are nested, and so many lines may still be read
  abbrev pub standing : List LineOrEnd → ℕ → ℕ → Config
  standing lines nested left = record c { lines = lines; mode = Reading; left = left; frame = record c.frame { branches = record b { nested = nested } ∷ bs } }

  skips_deep : (row : Row) (d : Option Directive) (n : ℕ) (old : Config) → skips files s row d (record b { nested = suc n }) bs old ≡ skips_nested d (record b { nested = suc n }) bs old
  unfolding skips
  skips_deep row d n old =
      ap (λ t. if t then skips_outer files s row d (record b { nested = suc n }) bs old else skips_nested d (record b { nested = suc n }) bs old) (not_none (suc n) (omega arith))

  skips_one : (row : Row) (rest : List LineOrEnd) (nested left : ℕ) (d : Option Directive) (f : ℕ → Bool) → closed_by nested d f ≡ true →
      (next : ℕ) × (f next ≡ true) × (skips files s row d (record b { nested = nested }) bs (standing rest nested left) ≡ Goes (standing rest next left))
  unfolding skips
  skips_one row rest zero left (Some directive.If) f h = (1, h, refl)
  skips_one row rest zero left (Some directive.ElseIf) f h = absurd (cc)
  skips_one row rest zero left (Some directive.Else) f h = absurd (cc)
  skips_one row rest zero left (Some directive.EndIf) f h = absurd (cc)
  skips_one row rest zero left _ f h = (0, h, refl)
  skips_one row rest (suc n) left (Some directive.If) f h = (suc n + 1, h, skips_deep row (Some directive.If) n (standing rest (suc n) left))
  skips_one row rest (suc n) left (Some directive.EndIf) f h =
      let less : suc n - 1 ≡ n = omega arith in
      (n, h, skips_deep row (Some directive.EndIf) n (standing rest (suc n) left) ∙ ap (λ k. Goes (standing rest k left)) less)
  skips_one row rest (suc n) left d f h = (suc n, h, skips_deep row d n (standing rest (suc n) left))

  reads_skipped : (row : Row) (rest : List LineOrEnd) (nested left next : ℕ) → 0 < left →
      skips files s row (directive_in (first_word row.text)) (record b { nested = nested }) bs (standing rest nested (left - 1)) ≡ Goes (standing rest next (left - 1)) →
      rewrite files s (standing (Read row ∷ rest) nested left) ≡ Goes (standing rest next (left - 1))
  unfolding rewrite
  reads_skipped row rest nested left next some e =
      let d : Option Directive = directive_in (first_word row.text) in
      let b-nested : Branch = record b { nested = nested } in
      let old : Config = standing rest nested (left - 1) in
      ap (λ t. if t then Faults row.place fault.Lines else reads_by files s row d (b-nested ∷ bs) old) (not_none left some)
      ∙ ap (λ t. if t then takes files s row d b-nested bs old else skips files s row d b-nested bs old) skipped
      ∙ e

  all_skipped : (rows : List Row) (rest : List LineOrEnd) (nested left : ℕ) → are_closed nested rows ≡ true → length rows ≤ left →
      Leads files s (length rows) (standing (map Read rows ++ rest) nested left) (standing rest 0 (left - length rows))
  all_skipped [] rest nested left h l =
      let none : nested ≡ 0 = grind (arith, nat_tests) in
      let same : left ≡ left - 0 = omega arith in
      ap (λ n. standing rest n left) none ∙ ap (standing rest 0) same
  all_skipped (row ∷ rows) rest nested left h l =
      let one = skips_one row (map Read rows ++ rest) nested (left - 1) (directive_in (first_word row.text)) (λ n. are_closed n rows) h in
      let read = reads_skipped row (map Read rows ++ rest) nested left one.0 (omega arith) one.2 in
      let others = all_skipped rows rest one.0 (left - 1) one.1 (omega arith) in
      let all = leads_before files s (length rows) _ _ _ read others in
      let same : left - 1 - length rows ≡ left - suc (length rows) = omega arith in
      subst (λ n. Leads files s (length (row ∷ rows)) (standing (Read row ∷ (map Read rows ++ rest)) nested left) (standing rest 0 n)) same all

-- the lines of a false `.if` change nothing but the count of lines that may still be read
pub lines_skipped : (files : Files) (s : Table) (rows : List Row) (rest : List LineOrEnd) (c : Config) (b : Branch) (bs : List Branch) → c.mode ≡ Reading → c.lines ≡ map Read rows ++ rest →
    c.frame.branches ≡ b ∷ bs → takes_lines b.phase ≡ false → b.nested ≡ 0 → are_closed 0 rows ≡ true → length rows ≤ c.left →
    Leads files s (length rows) c (record c { lines = rest; left = c.left - length rows })
lines_skipped files s rows rest c b bs reading lines branches skipped outer closed l =
    let same : (items : List LineOrEnd) (left : ℕ) → record c { lines = items; left = left } ≡ standing files s c b bs skipped items 0 left = λ items left.
    ap (λ m. record c { lines = items; left = left; mode = m }) reading
    ∙ ap (λ xs. record c { lines = items; left = left; mode = Reading; frame = record c.frame { branches = xs } }) branches
    ∙ ap (λ n. record c { lines = items; left = left; mode = Reading; frame = record c.frame { branches = record b { nested = n } ∷ bs } }) outer in
    let here : c ≡ standing files s c b bs skipped (map Read rows ++ rest) 0 c.left = ap (λ ls. record c { lines = ls }) lines ∙ same (map Read rows ++ rest) c.left in
    subst (λ old. Leads files s (length rows) old (record c { lines = rest; left = c.left - length rows })) (sym here)
    (subst (Leads files s (length rows) (standing files s c b bs skipped (map Read rows ++ rest) 0 c.left)) (sym (same rest (c.left - length rows)))
    (all_skipped files s c b bs skipped rows rest 0 c.left closed l))
