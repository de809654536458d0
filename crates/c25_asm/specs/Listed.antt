-- Lines and modules of which a listing may be wanted.
use Rattle.std.specs.Prelude.{◌≡◌, Bool, true, false, ℕ, List, Result, Ok, Err}
use Rattle.c25_listing.specs.declared.listing.Listing.{Listing}
use Rattle.c25_meaning_common.specs.Results.{◌>>=◌, FailsBy}
use Rattle.c25_meaning_common.specs.declared.failure.Failure.{Failure}
use Rattle.c25_meaning_expansion.specs.Files.{Files}
use Rattle.c25_meaning_language.specs.ExpansionFault.{ExpansionFault}
use Rattle.c25_meaning_objects.specs.Module.{Contents}
use Rattle.c25_meaning_assembly.specs.ModuleOfSource as source
use Rattle.c25_phases.specs.View.{fault_of}
use Rattle.c25_phases.specs.declared.fault.AsmFault.{AsmFault}
use Rattle.c25_asm.specs.View.{assembled_of, passed_of}
use Rattle.c25_asm.specs.declared.lines_so_far.LinesSoFar.{LinesSoFar}

-- lines have made the same, and have the same entries where a listing is wanted
abbrev pub AreAlike : (listed : Bool) → source.LinesSoFar → source.LinesSoFar → Type 0
AreAlike true a b = a ≡ b
AreAlike false a b = a.progress ≡ b.progress

-- the lines that passed are those that are meant, unless memory ran out
abbrev pub Passes : (listed : Bool) → Result source.LinesSoFar ExpansionFault → Result LinesSoFar (Failure AsmFault) → Type 0
Passes listed meant (Ok p) = (a : source.LinesSoFar) × (meant ≡ Ok a) × AreAlike listed a (passed_of p)
Passes listed meant (Err e) = FailsBy fault_of meant e

-- two modules with entries are the same, and so are their entries where a listing is wanted
abbrev pub IsListed : (listed : Bool) → source.Assembled → source.Assembled → Type 0
IsListed true a b = a ≡ b
IsListed false a b = a.contents ≡ b.contents

-- what was assembled is what is meant, unless memory ran out
abbrev pub Assembles : (listed : Bool) → Result source.Assembled ExpansionFault → Result Listing (Failure AsmFault) → Type 0
Assembles listed meant (Ok l) = (a : source.Assembled) × (meant ≡ Ok a) × IsListed listed a (assembled_of l)
Assembles listed meant (Err e) = FailsBy fault_of meant e

-- the module of the source of a name alone, or why there is none
abbrev pub module_of : Files → List ℕ → Result Contents ExpansionFault
module_of files name = source.assembled files name >>= λ a. Ok a.contents
