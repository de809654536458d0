-- What is found of the data pages of a linked program.
use Rattle.std.specs.Prelude.{◌≡◌, ℕ, ◌⊎◌, ◌||◌, Bool, true, false, List, [], ◌∷◌, ◌++◌, filter, map, if◌then◌else◌}
use Rattle.std.specs.List.{AllZip}
use Rattle.std.specs.String.{string_bytes}
use Rattle.c25_meaning_linking.specs.Linking.{ImageData}
use Rattle.c25_meaning_linking.specs.Place.{Place}
use Rattle.c25_meaning_pages.specs.Inductive.{IsClosed, IsInductive}
use Rattle.c25_pages.specs.Program.{statements_of}
use Rattle.c25_pages.specs.Table.{knowledge_of}
use Rattle.c25_pages.specs.declared.program.Program.{Program}
use Rattle.c25_pages.specs.declared.table.Table.{Table}
use Rattle.c25_page_reports.specs.Statements.{AreStatementsOf}
use Rattle.c25_page_reports.specs.Verdicts.{AreRight, operand_reports}
use Rattle.c25_page_reports.specs.Warnings.{kind_of_fault, place_at}
use Rattle.c25_page_reports.specs.declared.operands.PageOperand.{PageOperand}
use Rattle.c25_page_reports.specs.declared.verdicts.OperandFault.{OperandFault}
use Rattle.c25_page_reports.specs.declared.verdicts.OperandFault.TheVariants.{WrongPage, PageUnsure}
use Rattle.c25_page_reports.specs.declared.verdicts.OperandReport.{OperandReport}
use Rattle.c25_page_reports.specs.declared.warning.PageWarning.{PageWarning}

-- the places of the sections of an image
abbrev pub places_in : ImageData → List Place
places_in image = map (λ s. s.place) image.described.sections

-- whether DP is surely another page, and not only unknown
abbrev pub is_wrong : OperandFault → Bool
is_wrong WrongPage = true
is_wrong PageUnsure = false

-- the reports that are shown: all where that is asked for, else those where DP is another page
abbrev pub shown_reports : (all : Bool) → List OperandReport → List OperandReport
shown_reports all reports = filter (λ r. is_wrong r.fault || all) reports

-- a warning is that of a report, at the line of the instruction that has the operand
pub record IsWarningOf (image : ImageData) (r : OperandReport) (w : PageWarning) : Type 0 where
  pub kind_is : w.kind ≡ kind_of_fault r.fault
  pub place_is : (string_bytes w.file, w.line) ≡ place_at image r.operand.load

-- a program was followed, and these are its warnings: those of these direct operands, by a table whose knowledge is inductive, and
-- after them, only where all is asked for, one that the code may be left, unless the knowledge is closed
pub record AreFollowed (all : Bool) (operands : List PageOperand) (image : ImageData) (warnings : List PageWarning) : Type 0 where
  pub program : Program
  pub table : Table
  pub statements : AreStatementsOf image program
  pub inductive : IsInductive (statements_of program) (knowledge_of table)
  pub of_operands : List PageWarning
  pub others : List PageWarning
  pub all_are : warnings ≡ of_operands ++ others
  pub told : AllZip (IsWarningOf image) (shown_reports all (operand_reports (statements_of program) table.rows.items operands)) of_operands
  pub closed : all ≡ true → others ≡ [] → IsClosed (statements_of program) (knowledge_of table)
  pub quiet : all ≡ false → others ≡ []

-- a program was not followed: that is said where all is asked for
pub record AreUnfollowed (all : Bool) (warnings : List PageWarning) : Type 0 where
  pub why : PageWarning
  pub told : warnings ≡ (if all then why ∷ [] else [])

-- what is found of the data pages of a program with these direct operands: its warnings, all or those that are certain; and in a text
-- what was supposed and found on the whole, only where all is asked for
pub record ArePageFindings (all : Bool) (operands : List PageOperand) (image : ImageData) (warnings : List PageWarning) (facts : List ℕ) : Type 0 where
  pub found : AreFollowed all operands image warnings ⊎ AreUnfollowed all warnings
  pub quiet : all ≡ false → facts ≡ []

-- the data pages of a program with these direct operands are sure: there is knowledge of its statements that is inductive and closed,
-- and by it each of these operands is surely the word that is meant
pub record ArePagesSure (operands : List PageOperand) (image : ImageData) : Type 0 where
  pub program : Program
  pub table : Table
  pub statements : AreStatementsOf image program
  pub inductive : IsInductive (statements_of program) (knowledge_of table)
  pub closed : IsClosed (statements_of program) (knowledge_of table)
  pub right : AreRight (statements_of program) (knowledge_of table) operands
