-- A text without lines has no warnings of data pages.
use Rattle.std.proofs.Common.{◌≡◌, ℕ, Bool, true, false, List, [], ◌∷◌, ◌++◌, refl, sym, subst, ◌∙◌}
use Rattle.c25_check.specs.Checking.{HasPageWarnings, TellsPages}
use Rattle.c25_check.specs.declared.showing.Paging.TheVariants.{All}
use Rattle.c25_meaning_linking.specs.Linking.{ImageData}
use Rattle.c25_page_reports.specs.Findings.{ArePageFindings, ArePagesSure}
use Rattle.c25_page_reports.specs.Warnings.{page_warning_lines, page_warning_text}
use Rattle.c25_page_reports.specs.declared.operands.PageOperand.{PageOperand}
use Rattle.c25_page_reports.specs.declared.warning.PageWarning.{PageWarning}
use Rattle.c25_warning_pages.specs.Explained.{AreJoined, IsPageExplained, lesson}

some_line : (head tail : List ℕ) → (head ++ 10 ∷ []) ++ tail ≡ [] → ⊥
some_line [] tail e = cc
some_line (x ∷ head) tail e = cc

none_first : (xs ys : List ℕ) → xs ++ ys ≡ [] → xs ≡ []
none_first [] ys e = refl
none_first (x ∷ xs) ys e = absurd (cc)

none_explained : (ws : List PageWarning) → AreJoined IsPageExplained ws [] → ws ≡ []
none_explained [] e = refl
none_explained (w ∷ ws) e = absurd (some_line (page_warning_text w) (lesson e.2.0) (sym e.2.2 ∙ none_first e.0 e.1 (sym e.4)))

none_written : (ws : List PageWarning) → [] ≡ page_warning_lines ws → ws ≡ []
none_written [] e = refl
none_written (w ∷ ws) e = absurd (some_line (page_warning_text w) (page_warning_lines ws) (sym e))

none_shown : (explain : Bool) (ws : List PageWarning) → HasPageWarnings explain ws [] → ws ≡ []
none_shown true ws has = none_explained ws has
none_shown false ws has = none_written ws has

pub sure : ((operands : List PageOperand) (image : ImageData) (facts : List ℕ) → ArePageFindings true operands image [] facts → ArePagesSure operands image)
    → (explain : Bool) (operands : List PageOperand) (image : ImageData) (facts : List ℕ) → TellsPages explain All operands image [] facts → ArePagesSure operands image
sure law explain operands image facts p =
    law operands image facts (subst (λ (ws : List PageWarning). ArePageFindings true operands image ws facts) (none_shown explain p.warnings p.shown) p.found)
