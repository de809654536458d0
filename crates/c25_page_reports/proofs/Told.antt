-- The warnings of reports, one after another, and what is found with them.
use Rattle.std.proofs.Common.{◌≡◌, ℕ, ◌+◌, ◌<◌, ◌≤◌, ◌||◌, Bool, true, false, cond, List, [], ◌∷◌, ◌++◌, filter, length, get_or, map, take, refl, sym, ap, subst, ◌∙◌, append_assoc, inl, inr, arith}
use Rattle.std.specs.List.{AllZip}
use Rattle.std.proofs.lemmas.List.{append-nil, map-append, take_all}
use Rattle.std.proofs.lemmas.List.Elements.{filter_more}
use Rattle.c25_meaning_linking.specs.Linking.{ImageData}
use Rattle.c25_meaning_pages.specs.Inductive.{IsClosed, IsInductive}
use Rattle.c25_pages.specs.Program.{statements_of}
use Rattle.c25_pages.specs.Table.{knowledge_of}
use Rattle.c25_pages.specs.declared.program.Program.{Program}
use Rattle.c25_pages.specs.declared.table.Table.{Table}
use Rattle.c25_page_reports.specs.Findings.{ArePageFindings, IsWarningOf, is_wrong, shown_reports}
use Rattle.c25_page_reports.specs.Statements.{AreStatementsOf}
use Rattle.c25_page_reports.specs.Verdicts.{operand_reports}
use Rattle.c25_page_reports.specs.declared.operands.PageOperand.{PageOperand}
use Rattle.c25_page_reports.specs.declared.verdicts.OperandReport.{OperandReport}
use Rattle.c25_page_reports.specs.declared.warning.PageWarning.{PageWarning}

zip_push : {A B : Type 0} (R : A → B → Type 0) (xs : List A) (ys : List B) (x : A) (y : B) → AllZip R xs ys → R x y → AllZip R (xs ++ x ∷ []) (ys ++ y ∷ [])
zip_push R [] [] x y all here = (here, tt)
zip_push R [] (b ∷ ys) x y all here = absurd all
zip_push R (a ∷ xs) [] x y all here = absurd all
zip_push R (a ∷ xs) (b ∷ ys) x y all here = (all.0, zip_push R xs ys x y all.1 here)

shown_more : (all : Bool) (reports : List OperandReport) (i : ℕ) (d : OperandReport) (b : Bool) → i < length reports → (is_wrong (get_or reports i d).fault || all) ≡ b
    → shown_reports all (take (i + 1) reports) ≡ shown_reports all (take i reports) ++ cond b (get_or reports i d ∷ []) []
shown_more all reports i d b lt is =
    filter_more (λ (x : OperandReport). is_wrong x.fault || all) reports i d lt ∙ ap (λ (t : Bool). shown_reports all (take i reports) ++ cond t (get_or reports i d ∷ []) []) is

-- a report more that is shown, with its warning
pub shown_told : (image : ImageData) (all : Bool) (reports : List OperandReport) (ws : List PageWarning) (i : ℕ) (d : OperandReport) (w : PageWarning) → i < length reports → (is_wrong (get_or reports i d).fault || all) ≡ true
    → AllZip (IsWarningOf image) (shown_reports all (take i reports)) ws → IsWarningOf image (get_or reports i d) w → AllZip (IsWarningOf image) (shown_reports all (take (i + 1) reports)) (ws ++ w ∷ [])
shown_told image all reports ws i d w lt is told here =
    subst (λ (rs : List OperandReport). AllZip (IsWarningOf image) rs (ws ++ w ∷ [])) (sym (shown_more all reports i d true lt is)) (zip_push (IsWarningOf image) (shown_reports all (take i reports)) ws (get_or reports i d) w told here)

-- one more that is not shown
pub hidden_told : (image : ImageData) (all : Bool) (reports : List OperandReport) (ws : List PageWarning) (i : ℕ) (d : OperandReport) → i < length reports → (is_wrong (get_or reports i d).fault || all) ≡ false
    → AllZip (IsWarningOf image) (shown_reports all (take i reports)) ws → AllZip (IsWarningOf image) (shown_reports all (take (i + 1) reports)) ws
hidden_told image all reports ws i d lt is told =
    subst (λ (rs : List OperandReport). AllZip (IsWarningOf image) rs ws) (sym (shown_more all reports i d false lt is ∙ append-nil (shown_reports all (take i reports)))) told

-- all reports
pub all_told : (image : ImageData) (all : Bool) (reports : List OperandReport) (ws : List PageWarning) (i : ℕ) → length reports ≤ i
    → AllZip (IsWarningOf image) (shown_reports all (take i reports)) ws → AllZip (IsWarningOf image) (shown_reports all reports) ws
all_told image all reports ws i le told = subst (λ (rs : List OperandReport). AllZip (IsWarningOf image) (shown_reports all rs) ws) (take_all i reports le) told

-- ---- findings

-- of a program that was followed
pub followed_found : (all : Bool) (operands : List PageOperand) (image : ImageData) (program : Program) (table : Table) (first others warnings : List PageWarning) (facts : List ℕ) → AreStatementsOf image program → IsInductive (statements_of program) (knowledge_of table)
    → AllZip (IsWarningOf image) (shown_reports all (operand_reports (statements_of program) table.rows.items operands)) first → (all ≡ true → others ≡ [] → IsClosed (statements_of program) (knowledge_of table)) → (all ≡ false → others ≡ [])
    → warnings ≡ first ++ others → (all ≡ false → facts ≡ []) → ArePageFindings all operands image warnings facts
followed_found all operands image program table first others warnings facts statements inductive of_operands closed none are quiet = record {
  found = inl (record {
    program = program;
    table = table;
    statements = statements;
    inductive = inductive;
    of_operands = first;
    others = others;
    all_are = are;
    told = of_operands;
    closed = closed;
    quiet = none;
  });
  quiet = quiet;
}

-- of one that was not, where that is not said
pub unsaid_found : (all : Bool) (operands : List PageOperand) (image : ImageData) (w : PageWarning) (warnings : List PageWarning) (facts : List ℕ) → all ≡ false → warnings ≡ [] → facts ≡ [] → ArePageFindings all operands image warnings facts
unsaid_found all operands image w warnings facts off are none = record {
  found = inr (record { why = w; told = are ∙ sym (ap (λ (b : Bool). cond b (w ∷ []) []) off) });
  quiet = λ e. none;
}

-- and where it is said
pub said_found : (all : Bool) (operands : List PageOperand) (image : ImageData) (w : PageWarning) (warnings : List PageWarning) (facts : List ℕ) → all ≡ true → warnings ≡ w ∷ [] → facts ≡ [] → ArePageFindings all operands image warnings facts
said_found all operands image w warnings facts on are none = record {
  found = inr (record { why = w; told = are ∙ sym (ap (λ (b : Bool). cond b (w ∷ []) []) on) });
  quiet = λ e. none;
}

-- ---- lists that are chosen from

chosen_items : {A : Type 0} (p : A → Bool) (xs items : List A) (i : ℕ) (d : A) (b : Bool) → xs ≡ items → i < length xs → p (get_or xs i d) ≡ b → filter p (take (i + 1) items) ≡ filter p (take i items) ++ cond b (get_or xs i d ∷ []) []
chosen_items {A = A} p xs items i d b same lt is =
    filter_more p items i d (omega (arith, lt, ap length same))
    ∙ ap (λ (x : A). filter p (take i items) ++ cond (p x) (x ∷ []) []) (sym (ap (λ (zs : List A). get_or zs i d) same))
    ∙ ap (λ (t : Bool). filter p (take i items) ++ cond t (get_or xs i d ∷ []) []) is

-- an item more that is chosen
pub chosen_pushed : {A B : Type 0} (p : A → Bool) (f : A → B) (xs items : List A) (i : ℕ) (d : A) (before old new : List B) (y : B) → xs ≡ items → i < length xs → p (get_or xs i d) ≡ true
    → old ≡ before ++ map f (filter p (take i items)) → new ≡ old ++ y ∷ [] → y ≡ f (get_or xs i d) → new ≡ before ++ map f (filter p (take (i + 1) items))
chosen_pushed {A = A} {B = B} p f xs items i d before old new y same lt pass so pushed is =
    let kept = filter p (take i items) in
    pushed
    ∙ ap (λ (zs : List B). zs ++ y ∷ []) so
    ∙ append_assoc before (map f kept) (y ∷ [])
    ∙ ap (λ (z : B). before ++ (map f kept ++ z ∷ [])) is
    ∙ ap (λ (zs : List B). before ++ zs) (sym (map-append f kept (get_or xs i d ∷ [])))
    ∙ ap (λ (zs : List A). before ++ map f zs) (sym (chosen_items p xs items i d true same lt pass))

-- one that is not
pub chosen_left : {A B : Type 0} (p : A → Bool) (f : A → B) (xs items : List A) (i : ℕ) (d : A) (before old : List B) → xs ≡ items → i < length xs → p (get_or xs i d) ≡ false
    → old ≡ before ++ map f (filter p (take i items)) → old ≡ before ++ map f (filter p (take (i + 1) items))
chosen_left {A = A} p f xs items i d before old same lt pass so =
    so ∙ ap (λ (zs : List A). before ++ map f zs) (sym (chosen_items p xs items i d false same lt pass ∙ append-nil (filter p (take i items))))
