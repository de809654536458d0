-- What `check` finds in sources among files: their program's warnings, or why there is no program.
use Rattle.std.specs.Prelude.{◌≡◌, ℕ, Bool, true, false, List, [], ◌++◌, Option, Result, Ok, Err}
use Rattle.std.specs.String.{string_bytes}
use Rattle.c25_absolute_operands.specs.Operands.{absolute_operands}
use Rattle.c25_chain.specs.Built.{IsUnbuilt}
use Rattle.c25_chain.specs.Linked.{places_of}
use Rattle.c25_chain.specs.Modules.{Modules, modules_of}
use Rattle.c25_chain.specs.Refusal.{Fault, refusal_of}
use Rattle.c25_disk.specs.Held.{Held}
use Rattle.c25_inputs.specs.Files.{AfterOptional, AfterSources, ComesTo, SourceNames, assembled_in}
use Rattle.c25_meaning_common.specs.declared.failure.Failure.TheVariants as failure
use Rattle.c25_meaning_expansion.specs.Files.{Files}
use Rattle.c25_meaning_linking.specs.Command.{CommandData}
use Rattle.c25_meaning_linking.specs.CommandText.{command_of}
use Rattle.c25_meaning_linking.specs.Linking.{ImageData, IsProgram}
use Rattle.c25_meaning_objects.specs.Module.{Contents}
use Rattle.c25_check.specs.Showing.{paging_for, showing_for, shown_warnings}
use Rattle.c25_check.specs.declared.check.Checked.{Checked}
use Rattle.c25_check.specs.declared.showing.Paging.{Paging}
use Rattle.c25_check.specs.declared.showing.Paging.TheVariants.{Nothing, Certain, All}
use Rattle.c25_check.specs.declared.showing.Showing.{Showing}
use Rattle.c25_page_reports.specs.Findings.{ArePageFindings, places_in}
use Rattle.c25_page_reports.specs.Operands.{page_operands}
use Rattle.c25_page_reports.specs.Warnings.{page_warning_lines}
use Rattle.c25_page_reports.specs.declared.operands.PageOperand.{PageOperand}
use Rattle.c25_page_reports.specs.declared.warning.PageWarning.{PageWarning}
use Rattle.c25_warning_pages.specs.Explained.{AreJoined, IsPageExplained, IsProgramExplained}
use Rattle.c25_warnings.specs.Program.{ProgramWarnings, warnings_of_program}
use Rattle.c25_warnings.specs.Shown.{program_text}

-- a text has these warnings: each with its explanation, or each on a line alone
abbrev pub HasWarnings : (explain : Bool) → ProgramWarnings → List ℕ → Type 0
HasWarnings true warnings text = IsProgramExplained warnings text
HasWarnings false warnings text = text ≡ program_text warnings

-- a text has the warnings that are shown of sources whose modules are linked under a command to this image
abbrev pub Warns : Showing → Files → (sources : List (List ℕ)) → List Contents → CommandData → ImageData → List ℕ → Type 0
Warns showing files sources modules command image text =
    HasWarnings showing.explain (shown_warnings showing.fronted sources (warnings_of_program files sources (record { modules = modules; command = command; places = places_of image.described }))) text

-- a text has these warnings of data pages: each with its explanation, or each on a line alone
abbrev pub HasPageWarnings : (explain : Bool) → List PageWarning → List ℕ → Type 0
HasPageWarnings true warnings text = AreJoined IsPageExplained warnings text
HasPageWarnings false warnings text = text ≡ page_warning_lines warnings

-- the direct operands of a program that say which word they mean: those that are relocated, and those that are numbers from 128 on in
-- the sources, whose modules these are
abbrev pub operands_meant : Files → (sources : List (List ℕ)) → List Contents → ImageData → List PageOperand
operands_meant files sources modules image = page_operands (absolute_operands files sources) modules (places_in image)

-- texts have what is found of the data pages of a program with these direct operands, all or what is certain: the warnings, explained
-- or not, and what was supposed and found on the whole
pub record HasPageFindings (explain all : Bool) (operands : List PageOperand) (image : ImageData) (told facts : List ℕ) : Type 0 where
  pub warnings : List PageWarning
  pub shown : HasPageWarnings explain warnings told
  pub found : ArePageFindings all operands image warnings facts

-- texts have what is said of the data pages of a program with these direct operands
abbrev pub TellsPages : (explain : Bool) → Paging → List PageOperand → ImageData → (told facts : List ℕ) → Type 0
TellsPages explain Nothing operands image told facts = (told ≡ []) × (facts ≡ [])
TellsPages explain Certain operands image told facts = HasPageFindings explain false operands image told facts
TellsPages explain All operands image told facts = HasPageFindings explain true operands image told facts

-- texts have the warnings that are shown of sources whose modules are linked under a command to this image, those of its data pages
-- last, and what was supposed and found of these on the whole
pub record IsFound (showing : Showing) (files : Files) (sources : List (List ℕ)) (modules : List Contents) (command : CommandData) (image : ImageData) (checked : Checked) : Type 0 where
  pub text : List ℕ
  pub told : List ℕ
  pub warnings : string_bytes checked.warnings ≡ text ++ told
  pub warns : Warns showing files sources modules command image text
  pub pages : TellsPages showing.explain showing.paging (operands_meant files sources modules image) image told (string_bytes checked.facts)

-- the sources are linked to a program under the text of a command file, and these texts have what is found in it
pub record IsWarned (showing : Showing) (files : Files) (sources : List (List ℕ)) (command : List ℕ) (checked : Checked) : Type 0 where
  pub all : Modules
  pub assembled : modules_of files sources ≡ Ok all
  pub read : CommandData
  pub is_read : command_of command ≡ Ok read
  pub image : ImageData
  pub program : IsProgram all.modules read image
  pub found : IsFound showing files sources all.modules read image checked

-- the warnings of the program of sources, or the first fault of building it, unless memory runs out
abbrev pub Checks : Showing → Files → (sources : List (List ℕ)) → (command : List ℕ) → Result Checked Fault → Type 0
Checks showing files sources command (Ok checked) = IsWarned showing files sources command checked
Checks showing files sources command (Err (failure.NoMemory n)) = Unit {0}
Checks showing files sources command (Err (failure.Fault f)) = IsUnbuilt files sources command (refusal_of f)

-- the same over given files and those of a disk that they copy
abbrev pub ChecksOver : Showing → Held → Files → List (List ℕ) → List ℕ → Result Checked Fault → Type 0
ChecksOver showing held given sources command answer = ComesTo held given (λ files result. Checks showing files sources command result) answer

-- the same of sources on a disk: the sources are read first, and then the command file, where one is named
abbrev pub ChecksFrom : (explain pages : Bool) → Held → SourceNames → Option (List ℕ) → Result Checked Fault → Type 0
ChecksFrom explain pages held sources command answer =
    AfterSources held sources (λ given. AfterOptional held command (ChecksOver (showing_for explain (paging_for pages command) sources) held given (assembled_in sources)))
    answer
