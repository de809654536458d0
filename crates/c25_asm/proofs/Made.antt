-- What the lines have made is a module.
use Rattle.std.proofs.Common.{◌≡◌, ◌≤◌, ℕ, Bool, true, false, List, length, Result, Ok, Err, refl, ap, ◌∙◌, subst}
use Rattle.c25_module_laws.proofs.ModulesOfSources.{few_files, source_good}
use Rattle.c25_meaning_assembly.specs.Emission.{finished, lines_in}
use Rattle.c25_meaning_assembly.specs.Sections.{Progress}
use Rattle.c25_meaning_language.specs.ExpansionFault.{ExpansionFault}
use Rattle.c25_meaning_expansion.specs.ExpansionRuns.{start_of}
use Rattle.c25_meaning_expansion.specs.Files.{Files}
use Rattle.c25_meaning_objects.specs.Module.{Contents, is_module}
use Rattle.c25_meaning_assembly.specs.ModuleOfSource.{Assembled, LinesSoFar, assembled, completed, passed_from}
use Rattle.c25_meaning_common.specs.Results.{◌>>=◌, FailsBy, MeetsBy}
use Rattle.c25_meaning_common.specs.declared.failure.Failure.{Failure}
use Rattle.c25_meaning_common.specs.declared.failure.Failure.TheVariants.{NoMemory, Fault}
use Rattle.c25_phases.specs.View.{fault_of}
use Rattle.c25_phases.specs.declared.fault.AsmFault.{AsmFault}
use Rattle.c25_listing.specs.declared.listing.Listing.{Listing}
use Rattle.c25_asm.specs.Listed.{AreAlike, Assembles, IsListed, module_of}
use Rattle.c25_asm.specs.View.{assembled_of}
use Rattle.c25_asm.proofs.Alike.{same_made}

-- the lists of lines that pass and whose operands are right
pub lists_are_a_module : (files : Files) (name : List ℕ) (a : LinesSoFar) (c : Contents) → passed_from files name (start_of files name) ≡ Ok a → finished a.progress ≡ Ok c
    → is_module c ≡ true
unfolding assembled
lists_are_a_module files name a c passed made =
    let whole : Assembled = record { contents = c; entries = a.entries } in
    let ended : completed a ≡ Ok whole = ap (λ (r : Result Contents ExpansionFault). r >>= λ m. Ok (record { contents = m; entries = a.entries })) made in
    (source_good files name whole (ap (λ (r : Result LinesSoFar ExpansionFault). r >>= λ b. completed b) passed ∙ ended)).lists

-- ---- where a listing may be wanted

module _ (listed : Bool) (files : Files) (name : List ℕ) (a made : LinesSoFar) (passed : passed_from files name (start_of files name) ≡ Ok a) (alike : AreAlike listed a made) where
  pub few_made : length (lines_in made.progress.sections).files ≤ 65535
  few_made = subst (λ (p : Progress). length (lines_in p.sections).files ≤ 65535) (same_made listed a made alike) (few_files files name a passed)

  finished_alike : (r : Result Contents ExpansionFault) → finished made.progress ≡ r → finished a.progress ≡ r
  finished_alike r h = ap finished (same_made listed a made alike) ∙ h

  pub is_module_made : (m : Contents) → finished made.progress ≡ Ok m → is_module m ≡ true
  is_module_made m h = lists_are_a_module files name a m passed (finished_alike (Ok m) h)

  assembled_so : (r : Result Contents ExpansionFault) → finished made.progress ≡ r → assembled files name ≡ (r >>= λ m. Ok (record { contents = m; entries = a.entries }))
  unfolding assembled
  assembled_so r h =
      ap (λ (x : Result LinesSoFar ExpansionFault). x >>= λ b. completed b) passed
      ∙ ap (λ (x : Result Contents ExpansionFault). x >>= λ m. Ok (record { contents = m; entries = a.entries })) (finished_alike r h)

  -- the operands are right
  pub assembled_alike : (m : Contents) → finished made.progress ≡ Ok m
      → (b : Assembled) × (assembled files name ≡ Ok b) × IsListed listed b (record { contents = m; entries = made.entries })
  assembled_alike m h = (record { contents = m; entries = a.entries }, assembled_so (Ok m) h, by_listing listed alike)
    where
      by_listing : (wanted : Bool) → AreAlike wanted a made → IsListed wanted (record { contents = m; entries = a.entries }) (record { contents = m; entries = made.entries })
      by_listing true same = ap (λ (x : LinesSoFar). record { contents = m; entries = x.entries }) same
      by_listing false same = refl

  -- an operand is wrong
  pub unfinished : (e : Failure AsmFault) → FailsBy fault_of (finished made.progress) e → FailsBy fault_of (assembled files name) e
  unfinished (NoMemory n) h = tt
  unfinished (Fault f) h = assembled_so (Err (fault_of f)) h

-- a line is refused
pub unpassed : (files : Files) (name : List ℕ) (e : Failure AsmFault) → FailsBy fault_of (passed_from files name (start_of files name)) e → FailsBy fault_of (assembled files name) e
unfolding assembled
unpassed files name (NoMemory n) h = tt
unpassed files name (Fault f) h = ap (λ (x : Result LinesSoFar ExpansionFault). x >>= λ b. completed b) h

-- ---- the module alone

pub module_alone : (files : Files) (name : List ℕ) (b l : Assembled) → assembled files name ≡ Ok b → IsListed false b l → module_of files name ≡ Ok l.contents
module_alone files name b l h same = ap (λ (x : Result Assembled ExpansionFault). x >>= λ c. Ok c.contents) h ∙ ap Ok same

pub no_module : (files : Files) (name : List ℕ) (e : Failure AsmFault) → FailsBy fault_of (assembled files name) e → FailsBy fault_of (module_of files name) e
no_module files name (NoMemory n) h = tt
no_module files name (Fault f) h = ap (λ (x : Result Assembled ExpansionFault). x >>= λ c. Ok c.contents) h

-- ---- with its listing

pub listed_meets : (meant : Result Assembled ExpansionFault) (answer : Result Listing (Failure AsmFault)) → Assembles true meant answer → MeetsBy fault_of assembled_of meant answer
listed_meets meant (Ok l) (b, h, same) = h ∙ ap Ok same
listed_meets meant (Err e) h = h
