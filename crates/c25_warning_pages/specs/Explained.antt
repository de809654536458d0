-- Warnings, each with what it means and what to do.
use Rattle.std.specs.Prelude.{◌≡◌, ℕ, List, [], ◌∷◌, ◌++◌, codes}
use Rattle.std.specs.Fmt.{decimal}
use Rattle.c25_page_reports.specs.Warnings.{page_warning_text}
use Rattle.c25_page_reports.specs.declared.warning.PageWarning.{PageWarning}
use Rattle.c25_warnings.specs.Linking.{LinkWarning}
use Rattle.c25_warnings.specs.Program.{ProgramWarnings}
use Rattle.c25_warnings.specs.Shown.{link_warning_text, warning_text}
use Rattle.c25_warnings.specs.Warnings.{Warning}
use Rattle.c25_warning_pages.specs.Pages.{IsPageOf}
use Rattle.c25_warning_pages.specs.declared.page.Page.{Page}
use Rattle.c25_warning_pages.specs.declared.pages.AnyWarning.TheVariants.{Line, Section, DataPage}

-- what a warning means, what to do, and how to see its example, with an empty line before each
abbrev pub lesson : Page → List ℕ
lesson page = codes "\n" ++ page.meaning.now ++ codes "\n" ++ page.advice.now ++ codes "\nExample: c25 explain " ++ page.name.now ++ codes "\n"

-- the line of a source as it was read, with its number, and then what the warning names
abbrev pub details : Warning → List ℕ
details w = codes "  " ++ decimal w.line ++ codes " | " ++ w.text ++ codes "\n  about " ++ w.name ++ codes "\n"

-- a warning of a source with its explanation
abbrev pub IsExplained : Warning → List ℕ → Type 0
IsExplained w text = (page : Page) × IsPageOf (Line w.kind) page × (text ≡ warning_text w ++ codes "\n" ++ details w ++ lesson page)

-- a warning of a command file with its explanation
abbrev pub IsLinkExplained : LinkWarning → List ℕ → Type 0
IsLinkExplained w text = (page : Page) × IsPageOf (Section w.kind) page × (text ≡ link_warning_text w ++ codes "\n" ++ lesson page)

-- a warning of data pages with its explanation
abbrev pub IsPageExplained : PageWarning → List ℕ → Type 0
IsPageExplained w text = (page : Page) × IsPageOf (DataPage w.kind) page × (text ≡ page_warning_text w ++ codes "\n" ++ lesson page)

-- the texts of items, one after the other
abbrev pub AreJoined : {X : Type 0} → (X → List ℕ → Type 0) → List X → List ℕ → Type 0
AreJoined Is [] text = text ≡ []
AreJoined Is (x ∷ xs) text = (first rest : List ℕ) × Is x first × AreJoined Is xs rest × (text ≡ first ++ rest)

-- the warnings of a program with their explanations: those of its sources, and then those of the command file
abbrev pub IsProgramExplained : ProgramWarnings → List ℕ → Type 0
IsProgramExplained p text =
    (lines sections : List ℕ) × AreJoined IsExplained p.of_lines lines × AreJoined IsLinkExplained p.of_sections sections × (text ≡ lines ++ sections)
