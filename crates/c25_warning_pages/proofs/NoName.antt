-- A name that no warning has.
use Rattle.std.proofs.Common.{◌≡◌, ℕ, List}
use Rattle.std.specs.Prelude.{None}
use Rattle.c25_line_warnings.specs.Names.{warning_name}
use Rattle.c25_line_warnings.specs.declared.warning_kind.WarningKind.{WarningKind}
use Rattle.c25_line_warnings.specs.declared.warning_kind.WarningKind.TheVariants as line
use Rattle.c25_warnings.specs.Names.{link_warning_name}
use Rattle.c25_warnings.specs.declared.warning.LinkWarningKind.{LinkWarningKind}
use Rattle.c25_warnings.specs.declared.warning.LinkWarningKind.TheVariants as section
use Rattle.c25_page_reports.specs.Warnings.{page_warning_name}
use Rattle.c25_page_reports.specs.declared.warning.PageWarningKind.TheVariants as data_page
use Rattle.c25_warning_pages.specs.Pages.{IsAlike, IsDataPageNamed, IsLineNamed, IsSectionNamed, IsWarningNamed}
use Rattle.c25_warning_pages.specs.declared.pages.AnyWarning.{AnyWarning}
use Rattle.c25_warning_pages.specs.declared.pages.AnyWarning.TheVariants.{Line, Section, DataPage}

-- the name of this warning is another one
abbrev pub IsOther : List ℕ → WarningKind → Type 0
IsOther name kind = IsAlike (warning_name kind) name → ⊥

pub no_line : (name : List ℕ) → IsOther name line.MnemonicLabel → IsOther name line.DirectiveLabel → IsOther name line.RegisterShift → IsOther name line.ProgramAddress → IsOther name line.DataAddress → IsOther name line.NotRepeatable → IsOther name line.Unused → IsOther name line.NotReached → IsLineNamed name None
no_line name a b c d e f g h line.MnemonicLabel = a
no_line name a b c d e f g h line.DirectiveLabel = b
no_line name a b c d e f g h line.RegisterShift = c
no_line name a b c d e f g h line.ProgramAddress = d
no_line name a b c d e f g h line.DataAddress = e
no_line name a b c d e f g h line.NotRepeatable = f
no_line name a b c d e f g h line.Unused = g
no_line name a b c d e f g h line.NotReached = h

pub no_section : (name : List ℕ) → (IsAlike (link_warning_name section.ReservedInProgram) name → ⊥) → (IsAlike (link_warning_name section.AbsentSection) name → ⊥) → IsSectionNamed name None
no_section name a b section.ReservedInProgram = a
no_section name a b section.AbsentSection = b

pub no_data_page : (name : List ℕ) → (IsAlike (page_warning_name data_page.WrongPage) name → ⊥) → (IsAlike (page_warning_name data_page.PageUnsure) name → ⊥) → (IsAlike (page_warning_name data_page.NotFollowed) name → ⊥) → (IsAlike (page_warning_name data_page.CodeLeft) name → ⊥) → IsDataPageNamed name None
no_data_page name a b c d data_page.WrongPage = a
no_data_page name a b c d data_page.PageUnsure = b
no_data_page name a b c d data_page.NotFollowed = c
no_data_page name a b c d data_page.CodeLeft = d

pub no_warning : (name : List ℕ) → IsLineNamed name None → IsSectionNamed name None → IsDataPageNamed name None → IsWarningNamed name None
no_warning name lines sections pages (Line kind) = lines kind
no_warning name lines sections pages (Section kind) = sections kind
no_warning name lines sections pages (DataPage kind) = pages kind
