-- Where every row of an address says that DP is a page, nothing is wrong with an operand of that page.
use Rattle.std.proofs.Common.{◌≡◌, ℕ, ◌/◌, ◌||◌, Bool, true, false, List, [], ◌∷◌, Option, Some, None, if◌then◌else◌, refl, sym, ap, ◌∙◌, true≢false}
use Rattle.std.specs.List.{list_any}
use Rattle.c25_pages.specs.declared.table.Row.{Row}
use Rattle.c25_page_reports.specs.Verdicts.{is_elsewhere, is_unknown, page_fault}
use Rattle.c25_page_reports.specs.declared.operands.PageOperand.{PageOperand}
use Rattle.c25_page_reports.specs.declared.verdicts.OperandFault.{OperandFault}
use Rattle.c25_page_reports.specs.declared.verdicts.OperandFault.TheVariants.{WrongPage, PageUnsure}

neither : (b c : Bool) → (b || c) ≡ false → (b ≡ false) × (c ≡ false)
neither true c e = absurd (true≢false e)
neither false c e = (refl, e)

-- where neither of two tests holds of any item, none holds of the first test and none of the second
none_of_either : {A : Type 0} (f g : A → Bool) (xs : List A) → list_any (λ x. f x || g x) xs ≡ false → (list_any f xs ≡ false) × (list_any g xs ≡ false)
none_of_either f g [] e = (refl, refl)
none_of_either f g (x ∷ xs) e =
    let parts = neither (f x || g x) (list_any (λ y. f y || g y) xs) e in
    let here = neither (f x) (g x) parts.0 in
    let rest = none_of_either f g xs parts.1 in
    (ap (λ b. b || list_any f xs) here.0 ∙ rest.0, ap (λ b. b || list_any g xs) here.1 ∙ rest.1)

pub right_everywhere : (rows : List Row) (o : PageOperand) → list_any (λ row. is_elsewhere o.run (o.word / 128) row || is_unknown o.run row) rows ≡ false → None ≡ page_fault rows o
right_everywhere rows o e =
    let parts = none_of_either (is_elsewhere o.run (o.word / 128)) (is_unknown o.run) rows e in
    sym (ap (λ (b : Bool). if b then Some WrongPage else (if list_any (is_unknown o.run) rows then Some PageUnsure else None)) parts.0
    ∙ ap (λ (b : Bool). if b then Some PageUnsure else None) parts.1)
