-- What is found in the sources of a linked program.
use Rattle.std.proofs.Common.{◌≡◌, ◌++◌, IfOk, subst, sym, ℕ, List}
use Rattle.std.specs.Prelude.{Err, Ok, Result, String}
use Rattle.std.specs.String.{string_bytes}
use Rattle.std.specs.declared.alloc.Global.{Global}
use Rattle.c25_chain.specs.Linked.{IsLinked}
use Rattle.c25_chain.specs.Modules.{modules_of}
use Rattle.c25_chain.specs.View.{modules_view}
use Rattle.c25_chain.specs.declared.linked.Linked.{Linked}
use Rattle.c25_chain.specs.declared.modules.Modules.{Modules}
use Rattle.c25_meaning_expansion.specs.Files.{Files}
use Rattle.c25_meaning_linking.specs.Command.{CommandData}
use Rattle.c25_meaning_linking.specs.Linking.{ImageData}
use Rattle.c25_meaning_objects.specs.Module.{Contents}
use Rattle.c25_check.specs.declared.check.Checked.{Checked}
use Rattle.c25_check.specs.declared.showing.Showing.{Showing}
use Rattle.c25_check.specs.Checking.{IsFound, IsWarned, TellsPages, Warns, operands_meant}

pub warned : (showing : Showing) (files : Files) (sources : List (List ℕ)) (command : List ℕ) (m : Modules) (linked : Linked) (checked : Checked) (shown : List Contents) → modules_of files sources ≡ Ok (modules_view m) → shown ≡ m.modules.items
    → (l : IsLinked shown command linked) → IsFound showing files sources shown l.under.command linked.image checked → IsWarned showing files sources command checked
warned showing files sources command m linked checked shown assembled is = subst With (sym is) (λ l found. record {
  all = modules_view m;
  assembled = assembled;
  read = l.under.command;
  is_read = l.under.read;
  image = linked.image;
  program = l.under.program;
  found = found;
})
  where
    With : List Contents → Type 0
    With ms = (l : IsLinked ms command linked) → IsFound showing files sources ms l.under.command linked.image checked → IsWarned showing files sources command checked

-- what is found, where the warnings and what is said of data pages are there
pub found_with : {E : Type 0} (showing : Showing) (files : Files) (sources : List (List ℕ)) (modules : List Contents) (command : CommandData) (image : ImageData) (text told : List ℕ) (facts : String Global) (answer : Result Checked E)
    → IfOk answer (λ checked. string_bytes checked.warnings ≡ text ++ told) → IfOk answer (λ checked. checked.facts ≡ facts)
    → Warns showing files sources modules command image text → TellsPages showing.explain showing.paging (operands_meant files sources modules image) image told (string_bytes facts) → IfOk answer (IsFound showing files sources modules command image)
found_with showing files sources modules command image text told facts (Ok checked) lines same warns pages = record {
  text = text;
  told = told;
  warnings = lines;
  warns = warns;
  pages = subst (λ (f : String Global). TellsPages showing.explain showing.paging (operands_meant files sources modules image) image told (string_bytes f)) (sym same) pages;
}
found_with showing files sources modules command image text told facts (Err e) lines same warns pages = tt
