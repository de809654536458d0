-- What is said of direct operands, by a table of what is known.
use Rattle.std.specs.Prelude.{◌≡◌, ℕ, ◌/◌, ◌==◌, ◌&&◌, not, Bool, true, false, List, [], ◌∷◌, Option, None, Some, if◌then◌else◌}
use Rattle.std.specs.List.{All, flat_map, list_any}
use Rattle.std.specs.Option.{option_map, option_map_or, option_or}
use Rattle.c25_meaning_instructions.specs.declared.insn.Addr.TheVariants.{Direct}
use Rattle.c25_meaning_instructions.specs.declared.insn.Insn.{Insn}
use Rattle.c25_meaning_instructions.specs.declared.insn.Insn.TheVariants as insn
use Rattle.c25_meaning_instructions.specs.declared.mnemonic.MemName.TheVariants as mem
use Rattle.c25_meaning_pages.specs.Inductive.{IsSurelyOn}
use Rattle.c25_meaning_pages.specs.Known.{Knowledge}
use Rattle.c25_meaning_processor.specs.Statements.{Statements, copied_at, statement_at}
use Rattle.c25_pages.specs.declared.table.Row.{Row}
use Rattle.c25_page_reports.specs.declared.operands.PageOperand.{PageOperand}
use Rattle.c25_page_reports.specs.declared.verdicts.OperandFault.{OperandFault}
use Rattle.c25_page_reports.specs.declared.verdicts.OperandFault.TheVariants.{WrongPage, PageUnsure}
use Rattle.c25_page_reports.specs.declared.verdicts.OperandReport.{OperandReport}

-- whether an instruction is SST or SST1 with a direct operand, which is on data page 0 whatever DP is
abbrev pub saves_status : Insn → Bool
saves_status (insn.Mem mem.Sst (Direct low)) = true
saves_status (insn.Mem mem.Sst1 (Direct low)) = true
saves_status i = false

-- the instruction of the statement that runs at an address: of one that stands there, or else of one that runs there in block B0
abbrev pub insn_at : Statements → ℕ → Option Insn
insn_at statements address = option_or (statement_at statements.plain address) (option_map (λ c. c.insn) (copied_at statements.copied address))

-- whether SST or SST1 with a direct operand runs at an address
abbrev pub saves_status_at : Statements → ℕ → Bool
saves_status_at statements address = option_map_or saves_status (insn_at statements address) false

-- whether a row is of an address, and DP is known there to be another page
abbrev pub is_elsewhere : (address page : ℕ) → Row → Bool
is_elsewhere address page row = (row.address == address) && option_map_or (λ known. not (known == page)) row.known.page false

-- whether a row is of an address, and DP is not known there
abbrev pub is_unknown : (address : ℕ) → Row → Bool
is_unknown address row = (row.address == address) && option_map_or (λ known. false) row.known.page true

-- what is wrong with a direct operand where rows say what is known of DP: in some row DP is another page than that of the word that is
-- meant; or in none, and in some row DP is not known
abbrev pub page_fault : List Row → PageOperand → Option OperandFault
page_fault rows o =
    if list_any (is_elsewhere o.run (o.word / 128)) rows then Some WrongPage
    else (if list_any (is_unknown o.run) rows then Some PageUnsure else None)

-- what is wrong with the direct operand of SST or SST1: the word that is meant is on another page than page 0
abbrev pub status_fault : PageOperand → Option OperandFault
status_fault o = if o.word / 128 == 0 then None else Some WrongPage

-- what is wrong with a direct operand of a program
abbrev pub operand_fault : Statements → List Row → PageOperand → Option OperandFault
operand_fault statements rows o = if saves_status_at statements o.run then status_fault o else page_fault rows o

-- the report of a direct operand, if something is wrong with it
abbrev pub operand_report : Statements → List Row → PageOperand → List OperandReport
operand_report statements rows o = option_map_or (λ fault. record { fault = fault; operand = o } ∷ []) (operand_fault statements rows o) []

-- the reports of direct operands, in their order
abbrev pub operand_reports : Statements → List Row → List PageOperand → List OperandReport
operand_reports statements rows operands = flat_map (operand_report statements rows) operands

-- a direct operand is surely the word that is meant: DP is surely the page of that word; or the instruction is SST or SST1, and the
-- word is on page 0
pub record IsRight (statements : Statements) (knowledge : Knowledge) (o : PageOperand) : Type 0 where
  pub page : saves_status_at statements o.run ≡ false → IsSurelyOn knowledge o.run (o.word / 128)
  pub status : saves_status_at statements o.run ≡ true → o.word / 128 ≡ 0

-- all direct operands of a program are surely the words that are meant
abbrev pub AreRight : Statements → Knowledge → List PageOperand → Type 0
AreRight statements knowledge operands = All (IsRight statements knowledge) operands
