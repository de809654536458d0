-- What a page is of, what it says, and which names have one.
use Rattle.std.specs.Char.{to_ascii_lowercase}
use Rattle.std.specs.Prelude.{◌≡◌, ℕ, List, [], ◌∷◌, ◌++◌, Option, Some, None, codes, map}
use Rattle.std.specs.List.{flat_map}
use Rattle.c25_line_warnings.specs.Names.{warning_name}
use Rattle.c25_line_warnings.specs.declared.warning_kind.WarningKind.{WarningKind}
use Rattle.c25_line_warnings.specs.declared.warning_kind.WarningKind.TheVariants as line
use Rattle.c25_warnings.specs.Names.{link_warning_name}
use Rattle.c25_warnings.specs.declared.warning.LinkWarningKind.{LinkWarningKind}
use Rattle.c25_warnings.specs.declared.warning.LinkWarningKind.TheVariants as section
use Rattle.c25_page_reports.specs.Warnings.{page_warning_name}
use Rattle.c25_page_reports.specs.declared.warning.PageWarningKind.{PageWarningKind}
use Rattle.c25_page_reports.specs.declared.warning.PageWarningKind.TheVariants as data_page
use Rattle.c25_warning_pages.specs.declared.page.Page.{Page}
use Rattle.c25_warning_pages.specs.declared.pages.AnyWarning.{AnyWarning}
use Rattle.c25_warning_pages.specs.declared.pages.AnyWarning.TheVariants.{Line, Section, DataPage}

-- ---- warnings

-- the name of a warning
abbrev pub name_of : AnyWarning → List ℕ
name_of (Line kind) = warning_name kind
name_of (Section kind) = link_warning_name kind
name_of (DataPage kind) = page_warning_name kind

-- two names are alike but for the case of their letters
abbrev pub IsAlike : List ℕ → List ℕ → Type 0
IsAlike name other = map to_ascii_lowercase name ≡ map to_ascii_lowercase other

-- the warning of a line that has this name, whatever the case of its letters, or none where none has it
abbrev pub IsLineNamed : List ℕ → Option WarningKind → Type 0
IsLineNamed name None = (kind : WarningKind) → IsAlike (warning_name kind) name → ⊥
IsLineNamed name (Some kind) = IsAlike (warning_name kind) name

-- the same of a command file
abbrev pub IsSectionNamed : List ℕ → Option LinkWarningKind → Type 0
IsSectionNamed name None = (kind : LinkWarningKind) → IsAlike (link_warning_name kind) name → ⊥
IsSectionNamed name (Some kind) = IsAlike (link_warning_name kind) name

-- the same of data pages
abbrev pub IsDataPageNamed : List ℕ → Option PageWarningKind → Type 0
IsDataPageNamed name None = (kind : PageWarningKind) → IsAlike (page_warning_name kind) name → ⊥
IsDataPageNamed name (Some kind) = IsAlike (page_warning_name kind) name

-- the same of any kind
abbrev pub IsWarningNamed : List ℕ → Option AnyWarning → Type 0
IsWarningNamed name None = (warning : AnyWarning) → IsAlike (name_of warning) name → ⊥
IsWarningNamed name (Some warning) = IsAlike (name_of warning) name

-- ---- pages

-- a page has the name of this warning
abbrev pub IsPageOf : AnyWarning → Page → Type 0
IsPageOf warning page = page.name.now ≡ name_of warning

-- the answer to a name, whatever the case of its letters: the page of the warning that has it, or nothing where no
-- warning has it
abbrev pub IsPageNamed : List ℕ → Option Page → Type 0
IsPageNamed name None = IsWarningNamed name None
IsPageNamed name (Some page) = (warning : AnyWarning) × IsWarningNamed name (Some warning) × IsPageOf warning page

-- name, meaning, example and advice, with an empty line between them
abbrev pub whole_text : Page → List ℕ
whole_text page = page.name.now ++ codes "\n\n" ++ page.meaning.now ++ codes "\n" ++ page.example.now ++ codes "\n" ++ page.advice.now

-- ---- the list of all

-- all warnings, those of a command file after those of lines, and those of data pages last
abbrev pub all_warnings : List AnyWarning
all_warnings =
    Line line.MnemonicLabel ∷ Line line.DirectiveLabel ∷ Line line.RegisterShift ∷ Line line.ProgramAddress ∷ Line line.DataAddress
    ∷ Line line.NotRepeatable ∷ Line line.Unused ∷ Line line.NotReached
    ∷ Section section.ReservedInProgram ∷ Section section.AbsentSection
    ∷ DataPage data_page.WrongPage ∷ DataPage data_page.PageUnsure ∷ DataPage data_page.NotFollowed ∷ DataPage data_page.CodeLeft ∷ []

-- pages are those of these warnings
abbrev pub ArePagesOf : List AnyWarning → List Page → Type 0
ArePagesOf warnings pages = map (λ page. page.name.now) pages ≡ map name_of warnings

-- the line of a warning in the list of all: its name, and the first sentence of what it means
abbrev pub summary_line : Page → List ℕ
summary_line page = page.name.now ++ codes ": " ++ page.summary.now ++ codes "\n"

-- a text is the list of all warnings
abbrev pub IsListOfAll : List ℕ → Type 0
IsListOfAll text = (pages : List Page) × ArePagesOf all_warnings pages × (text ≡ flat_map summary_line pages)
