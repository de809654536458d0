-- The modules of several sources, or the first fault among them.
use Rattle.std.specs.Prelude.{ℕ, List, [], ◌∷◌, ◌++◌, Result, Ok}
use Rattle.c25_meaning_language.specs.ExpansionFault.{ExpansionFault, Faulty, Missing}
use Rattle.c25_meaning_expansion.specs.Files.{Files}
use Rattle.c25_meaning_assembly.specs.Listing.{listing_text}
use Rattle.c25_meaning_objects.specs.Module.{Contents}
use Rattle.c25_meaning_assembly.specs.ModuleOfSource.{Assembled, assembled}
use Rattle.c25_meaning_common.specs.Results.{◌>>=◌, fold_ok, told}
use Rattle.c25_chain.specs.declared.fault.ChainFault.{ChainFault}
use Rattle.c25_chain.specs.declared.fault.ChainFault.TheVariants.{Source, NoFile}

-- a fault of the assembler as a fault of the chain
abbrev pub asm_refusal : ExpansionFault → ChainFault (List ℕ)
asm_refusal (Faulty file line kind) = Source (record { place = record { file = file; line = line }; fault = kind })
asm_refusal (Missing file line name) = NoFile file line name

-- the module and the listing of a source among these files, or why there are none
abbrev pub assembled_in : Files → List ℕ → Result Assembled (ChainFault (List ℕ))
assembled_in files name = told asm_refusal (assembled files name)

-- the module of a source among these files, or why there is none
abbrev pub module_in : Files → List ℕ → Result Contents (ChainFault (List ℕ))
module_in files name = assembled_in files name >>= λ a. Ok a.contents

-- the modules of sources, and the texts of their listings
pub record Modules : Type 0 where
  pub modules : List Contents
  pub listings : List (List ℕ)

-- no modules and no listings
abbrev pub no_modules : Modules
no_modules = record { modules = []; listings = [] }

-- one more module with its listing
abbrev pub with_module : Modules → Assembled → Modules
with_module all a = record {
  modules = all.modules ++ a.contents ∷ [];
  listings = all.listings ++ listing_text a.contents a.entries ∷ [];
}

-- the modules with that of one more source, or its fault
abbrev pub with_source : Files → Modules → List ℕ → Result Modules (ChainFault (List ℕ))
with_source files all name = assembled_in files name >>= λ a. Ok (with_module all a)

-- the modules of the sources of these names, in order, or the first fault
abbrev pub modules_of : Files → List (List ℕ) → Result Modules (ChainFault (List ℕ))
modules_of files names = fold_ok (with_source files) no_modules names
