-- The warnings of data pages, and how they are shown.
use Rattle.std.specs.Prelude.{ℕ, List, ◌++◌, codes, unwrap_or}
use Rattle.std.specs.List.{flat_map}
use Rattle.std.specs.String.{string_bytes}
use Rattle.c25_meaning_common.specs.Faults.{placed_text}
use Rattle.c25_meaning_linking.specs.Linking.{ImageData, line_at}
use Rattle.c25_page_reports.specs.declared.verdicts.OperandFault.{OperandFault}
use Rattle.c25_page_reports.specs.declared.verdicts.OperandFault.TheVariants as fault
use Rattle.c25_page_reports.specs.declared.warning.PageWarning.{PageWarning}
use Rattle.c25_page_reports.specs.declared.warning.PageWarningKind.{PageWarningKind}
use Rattle.c25_page_reports.specs.declared.warning.PageWarningKind.TheVariants.{WrongPage, PageUnsure, NotFollowed, CodeLeft}

-- the name of a warning, as shown to the user
abbrev pub page_warning_name : PageWarningKind → List ℕ
page_warning_name WrongPage = codes "WrongPage"
page_warning_name PageUnsure = codes "PageUnsure"
page_warning_name NotFollowed = codes "NotFollowed"
page_warning_name CodeLeft = codes "CodeLeft"

-- a warning: `a.asm:3: warning WrongPage: ` and its remark
abbrev pub page_warning_text : PageWarning → List ℕ
page_warning_text w = placed_text (string_bytes w.file) w.line (codes "warning " ++ page_warning_name w.kind ++ codes ": " ++ string_bytes w.remark)

-- warnings, each on a line
abbrev pub page_warning_lines : List PageWarning → List ℕ
page_warning_lines ws = flat_map (λ w. page_warning_text w ++ codes "\n") ws

-- the warning of an operand's fault
abbrev pub kind_of_fault : OperandFault → PageWarningKind
kind_of_fault fault.WrongPage = WrongPage
kind_of_fault fault.PageUnsure = PageUnsure

-- where the instruction that is loaded at an address stands in the sources: its file and its line; `link` and 0 where that is
-- not known
abbrev pub place_at : ImageData → (load : ℕ) → List ℕ × ℕ
place_at image load = unwrap_or (line_at load image.lines) (codes "link", 0)
