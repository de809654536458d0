-- Where nothing is told, nothing is wrong.
use Rattle.std.proofs.Common.{◌≡◌, ℕ, ◌/◌, ◌==◌, ◌&&◌, ◌||◌, Bool, true, false, cond, not, List, [], ◌∷◌, ◌++◌, Option, Some, None, refl, sym, ap, subst, ◌∙◌, inl, inr, true≢false}
use Rattle.std.specs.List.{All, AllZip, list_any}
use Rattle.std.specs.Option.{option_map_or}
use Rattle.std.proofs.lemmas.Bool.{eq-eqb, eqb-true}
use Rattle.std.proofs.lemmas.List.Elements.{All-cons, All-nil}
use Rattle.c25_meaning_linking.specs.Linking.{ImageData}
use Rattle.c25_meaning_processor.specs.Statements.{Statements}
use Rattle.c25_pages.specs.Clauses.{IsOnAt}
use Rattle.c25_pages.specs.Program.{statements_of}
use Rattle.c25_pages.specs.Table.{knowledge_of}
use Rattle.c25_pages.specs.declared.table.Row.{Row}
use Rattle.c25_pages.specs.declared.table.Table.{Table}
use Rattle.c25_pages.proofs.Inductively.{sure_rows}
use Rattle.c25_page_reports.specs.Findings.{ArePageFindings, ArePagesSure, AreFollowed, IsWarningOf, is_wrong, shown_reports}
use Rattle.c25_page_reports.specs.Verdicts.{AreRight, IsRight, is_elsewhere, is_unknown, operand_fault, operand_report, operand_reports, page_fault, saves_status_at, status_fault}
use Rattle.c25_page_reports.specs.declared.operands.PageOperand.{PageOperand}
use Rattle.c25_page_reports.specs.declared.verdicts.OperandFault.{OperandFault}
use Rattle.c25_page_reports.specs.declared.verdicts.OperandFault.TheVariants.{WrongPage, PageUnsure}
use Rattle.c25_page_reports.specs.declared.verdicts.OperandReport.{OperandReport}
use Rattle.c25_page_reports.specs.declared.warning.PageWarning.{PageWarning}

-- ---- lists without items

-- two lists that are together without items
none_of_both : {A : Type 0} (xs ys : List A) → xs ++ ys ≡ [] → (xs ≡ []) × (ys ≡ [])
none_of_both [] ys e = (refl, e)
none_of_both (x ∷ xs) ys e = absurd (cc)

-- what is next to a list without items
none_beside : {A B : Type 0} (R : A → B → Type 0) (xs : List A) → AllZip R xs [] → xs ≡ []
none_beside R [] h = refl
none_beside R (x ∷ xs) h = absurd h

-- all reports are shown where that is asked for
kept_all : (b : Bool) → (b || true) ≡ true
kept_all true = refl
kept_all false = refl

none_shown : (rs : List OperandReport) → shown_reports true rs ≡ [] → rs ≡ []
none_shown [] e = refl
none_shown (r ∷ rs) e =
    let kept : r ∷ shown_reports true rs ≡ [] = sym (ap (λ (b : Bool). cond b (r ∷ shown_reports true rs) (shown_reports true rs)) (kept_all (is_wrong r.fault))) ∙ e in
    absurd (cc)

-- ---- operands

not_false : (b : Bool) → not b ≡ false → b ≡ true
not_false true e = refl
not_false false e = absurd (true≢false e)

known_on : (page : ℕ) (p : Option ℕ) → option_map_or (λ (known : ℕ). not (known == page)) p false ≡ false → option_map_or (λ (known : ℕ). false) p true ≡ false → p ≡ Some page
known_on page None other unknown = absurd (true≢false unknown)
known_on page (Some known) other unknown = ap Some (eqb-true known page (not_false (known == page) other))

-- no row says that DP is another page, and none that it is not known: each says that it is the page
row_on : (address page : ℕ) (row : Row) → is_elsewhere address page row ≡ false → is_unknown address row ≡ false → IsOnAt address page row
row_on address page row other unknown at =
    let here : (row.address == address) ≡ true = eq-eqb row.address address at in
    known_on page row.known.page (sym (ap (λ (b : Bool). b && option_map_or (λ (known : ℕ). not (known == page)) row.known.page false) here) ∙ other)
    (sym (ap (λ (b : Bool). b && option_map_or (λ (known : ℕ). false) row.known.page true) here) ∙ unknown)

none_first : (b c : Bool) → (b || c) ≡ false → (b ≡ false) × (c ≡ false)
none_first true c e = absurd (true≢false e)
none_first false c e = (refl, e)

rows_on : (address page : ℕ) (rows : List Row) → list_any (is_elsewhere address page) rows ≡ false → list_any (is_unknown address) rows ≡ false → All (IsOnAt address page) rows
rows_on address page [] other unknown = All-nil (IsOnAt address page)
rows_on address page (row ∷ rows) other unknown =
    let o = none_first (is_elsewhere address page row) (list_any (is_elsewhere address page) rows) other in
    let u = none_first (is_unknown address row) (list_any (is_unknown address) rows) unknown in
    All-cons (IsOnAt address page) row rows (row_on address page row o.0 u.0) (rows_on address page rows o.1 u.1)

none_of_tests : (a b : Bool) → cond a (Some WrongPage) (cond b (Some PageUnsure) None) ≡ None → (a ≡ false) × (b ≡ false)
none_of_tests true b e = absurd (cc)
none_of_tests false true e = absurd (cc)
none_of_tests false false e = (refl, refl)

none_wrong : (rows : List Row) (o : PageOperand) → page_fault rows o ≡ None → (list_any (is_elsewhere o.run (o.word / 128)) rows ≡ false) × (list_any (is_unknown o.run) rows ≡ false)
none_wrong rows o e = none_of_tests (list_any (is_elsewhere o.run (o.word / 128)) rows) (list_any (is_unknown o.run) rows) e

none_of_test : (a : Bool) → cond a None (Some WrongPage) ≡ None → a ≡ true
none_of_test true e = refl
none_of_test false e = absurd (cc)

status_right : (o : PageOperand) → status_fault o ≡ None → o.word / 128 ≡ 0
status_right o e = eqb-true (o.word / 128) 0 (none_of_test (o.word / 128 == 0) e)

fault_paged : (ss : Statements) (rows : List Row) (o : PageOperand) → operand_fault ss rows o ≡ None → saves_status_at ss o.run ≡ false → page_fault rows o ≡ None
fault_paged ss rows o e f = sym (ap (λ (b : Bool). cond b (status_fault o) (page_fault rows o)) f) ∙ e

fault_status : (ss : Statements) (rows : List Row) (o : PageOperand) → operand_fault ss rows o ≡ None → saves_status_at ss o.run ≡ true → status_fault o ≡ None
fault_status ss rows o e f = sym (ap (λ (b : Bool). cond b (status_fault o) (page_fault rows o)) f) ∙ e

right_one : (ss : Statements) (t : Table) (o : PageOperand) → operand_fault ss t.rows.items o ≡ None → IsRight ss (knowledge_of t) o
right_one ss t o e = record {
  page = λ f. let none = none_wrong t.rows.items o (fault_paged ss t.rows.items o e f) in sure_rows t o.run (o.word / 128) (rows_on o.run (o.word / 128) t.rows.items none.0 none.1);
  status = λ f. status_right o (fault_status ss t.rows.items o e f);
}

some_report : (r : OperandReport) → r ∷ [] ≡ [] → ⊥
some_report r e = cc

no_report : (ss : Statements) (rows : List Row) (o : PageOperand) (f : Option OperandFault) → operand_fault ss rows o ≡ f → operand_report ss rows o ≡ [] → operand_fault ss rows o ≡ None
no_report ss rows o None is e = is
no_report ss rows o (Some f) is e =
    absurd (some_report (record { fault = f; operand = o }) (sym (ap (λ (x : Option OperandFault). option_map_or (λ (y : OperandFault). record { fault = y; operand = o } ∷ []) x []) is) ∙ e))

all_right : (ss : Statements) (t : Table) (os : List PageOperand) → operand_reports ss t.rows.items os ≡ [] → AreRight ss (knowledge_of t) os
all_right ss t [] e = All-nil (IsRight ss (knowledge_of t))
all_right ss t (o ∷ os) e =
    let both = none_of_both (operand_report ss t.rows.items o) (operand_reports ss t.rows.items os) e in
    All-cons (IsRight ss (knowledge_of t)) o os (right_one ss t o (no_report ss t.rows.items o (operand_fault ss t.rows.items o) refl both.0)) (all_right ss t os both.1)

-- ---- all

some_warning : (w : PageWarning) → w ∷ [] ≡ [] → ⊥
some_warning w e = cc

sure_followed : (operands : List PageOperand) (image : ImageData) (ws : List PageWarning) → ws ≡ [] → AreFollowed true operands image ws → ArePagesSure operands image
sure_followed operands image ws none f =
    let both = none_of_both f.of_operands f.others (sym f.all_are ∙ none) in
    let reports = operand_reports (statements_of f.program) f.table.rows.items operands in
    let shown : shown_reports true reports ≡ [] = none_beside (IsWarningOf image) (shown_reports true reports) (subst (λ (xs : List PageWarning). AllZip (IsWarningOf image) (shown_reports true reports) xs) both.0 f.told) in
    record {
      program = f.program;
      table = f.table;
      statements = f.statements;
      inductive = f.inductive;
      closed = f.closed refl both.1;
      right = all_right (statements_of f.program) f.table operands (none_shown reports shown);
    }

pub sure : (operands : List PageOperand) (image : ImageData) (facts : List ℕ) → ArePageFindings true operands image [] facts → ArePagesSure operands image
sure operands image facts p = elim p.found as (λ _. ArePagesSure operands image) [
  | inl f ↦ sure_followed operands image [] refl f
  | inr u ↦ absurd (some_warning u.why (sym u.told))
]
