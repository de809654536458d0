-- The texts of buildable layouts are built.
use Rattle.std.proofs.Common.{◌≡◌, ℕ, Bool, true, cond, List, [], ◌∷◌, None, Some, Result, Ok, Err, refl, ap, inl, inr}
use Rattle.std.proofs.lemmas.Slice.Eq.{bytes_eq-Decides}
use Rattle.c25_chain.proofs.Sourced.{are_modules}
use Rattle.c25_chain.specs.Built.{IsUnbuilt}
use Rattle.c25_chain.specs.Linked.{IsRefusedUnder}
use Rattle.c25_chain.specs.Modules.{Modules, asm_refusal, modules_of, no_modules, with_module, with_source}
use Rattle.c25_chain.specs.declared.fault.ChainFault.{ChainFault}
use Rattle.c25_chain.specs.declared.fault.ChainFault.TheVariants.{Command}
use Rattle.c25_layout.specs.SourceText.{command_text, source_text}
use Rattle.c25_layout.specs.declared.layout.Part.{Part}
use Rattle.c25_laws.specs.ProgramStatements.{AreModulesOf}
use Rattle.c25_layout.specs.Buildable.{IsAssemblable, IsBuildable}
use Rattle.c25_layout.specs.Layouts.{IsLayout}
use Rattle.c25_layout_laws.specs.Listed.{command_for}
use Rattle.c25_meaning_assembly.specs.ModuleOfSource.{Assembled, assembled}
use Rattle.c25_meaning_assembly.specs.Sections.{is_file_name}
use Rattle.c25_meaning_common.specs.Results.{◌>>=◌, fold_ok, told}
use Rattle.c25_meaning_common.specs.declared.placed.Placed.{Placed}
use Rattle.c25_meaning_expansion.specs.Files.{Files, text_named}
use Rattle.c25_meaning_linking.specs.Command.{CommandData}
use Rattle.c25_meaning_linking.specs.CommandText.{command_of}
use Rattle.c25_meaning_linking.specs.Linking.{IsRefusal}
use Rattle.c25_meaning_linking.specs.declared.link_fault.LinkFault.{LinkFault}
use Rattle.c25_meaning_objects.specs.Module.{Contents}

-- the laws on which this rests
pub record Laws : Type 0 where
  pub read : (parts : List Part) → IsLayout parts → command_of (command_text parts) ≡ Ok (command_for parts)
  pub assembles : (files : Files) (name : List ℕ) (parts : List Part) → text_named files name ≡ Some (source_text parts) → is_file_name name ≡ true → IsAssemblable parts → (a : Assembled) × (assembled files name ≡ Ok a)
  pub links : (files : Files) (name : List ℕ) (parts : List Part) (modules : List Contents) (command : CommandData) (refusal : Placed (List ℕ) LinkFault) → text_named files name ≡ Some (source_text parts) → is_file_name name ≡ true → IsBuildable parts
      → AreModulesOf files (name ∷ []) modules → command_of (command_text parts) ≡ Ok command → IsRefusal modules command refusal → ⊥

not_told : {A E F : Type 0} (f : E → F) (r : Result A E) (x : A) (y : F) → r ≡ Ok x → told f r ≡ Err y → ⊥
not_told f (Ok z) x y e k = cc
not_told f (Err d) x y e k = cc

module _ (laws : Laws) (name : List ℕ) (parts : List Part) (r : ChainFault (List ℕ)) (room : is_file_name name ≡ true) (h : IsBuildable parts) where
  abbrev files : Files
  files = (name, source_text parts) ∷ []

  there : text_named files name ≡ Some (source_text parts)
  there = ap (λ (b : Bool). cond b (Some (source_text parts)) None) ((bytes_eq-Decides name name).1 refl)

  modules_there : (m : Modules) × (modules_of files (name ∷ []) ≡ Ok m)
  modules_there =
      let a = laws.assembles files name parts there room h.source in (
        with_module no_modules a.0,
        ap (λ x. (told asm_refusal x >>= λ a. Ok (with_module no_modules a)) >>= λ next. fold_ok (with_source files) next []) a.1,
      )

  not_under : (modules : List Contents) → AreModulesOf files (name ∷ []) modules → IsRefusedUnder modules (command_text parts) r → ⊥
  not_under modules of (inl faulty) = not_told Command (command_of (command_text parts)) (command_for parts) r (laws.read parts h.source.layout) faulty
  not_under modules of (inr (command, read, refused)) = laws.links files name parts modules command refused.faulty there room h of read refused.refused

  pub never_unbuilt : IsUnbuilt files (name ∷ []) (command_text parts) r → ⊥
  never_unbuilt (inl faulty) = let m = modules_there in let made = m.1 in cc
  never_unbuilt (inr l) = not_under l.all.modules (are_modules files (name ∷ []) l.all l.assembled) l.refused
