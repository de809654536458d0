-- The texts of buildable parts of an image are built to its words.
use Rattle.std.proofs.Common.{◌≡◌, ℕ, Bool, true, cond, List, [], ◌∷◌, None, Some, Ok, refl, ap, arith}
use Rattle.std.proofs.lemmas.Slice.Eq.{bytes_eq-Decides}
use Rattle.std.specs.FinMap as finite
use Rattle.std.specs.Ordering.{nat_cmp}
use Rattle.c25_chain.proofs.Sourced.{are_modules}
use Rattle.c25_chain.specs.Modules.{Modules, asm_refusal, modules_of, no_modules, with_module, with_source}
use Rattle.c25_layout.specs.Buildable.{IsAssemblable, IsBuildable}
use Rattle.c25_layout.specs.Layout.{ArePartsOf}
use Rattle.c25_layout.specs.Layouts.{IsLayout}
use Rattle.c25_layout.specs.SourceText.{command_text, source_text}
use Rattle.c25_layout.specs.declared.layout.Part.{Part}
use Rattle.c25_layout_laws.specs.Listed.{command_for}
use Rattle.c25_laws.specs.ProgramStatements.{AreModulesOf}
use Rattle.c25_meaning_assembly.specs.ModuleOfSource.{Assembled, assembled}
use Rattle.c25_meaning_assembly.specs.Sections.{is_file_name}
use Rattle.c25_meaning_common.specs.Results.{◌>>=◌, fold_ok, told}
use Rattle.c25_meaning_expansion.specs.Files.{Files, text_named}
use Rattle.c25_meaning_linking.specs.CommandText.{command_of}
use Rattle.c25_meaning_linking.specs.Linking.{ImageData, IsProgram}
use Rattle.c25_meaning_objects.specs.Module.{Contents}
use Rattle.c25_source.proofs.BuiltTexts as built_texts
use Rattle.c25_source.proofs.BuiltTexts.{is_built, texts_for}
use Rattle.c25_source.proofs.ImageWords as words_of
use Rattle.c25_source.specs.Answer.{files_of_parts}
use Rattle.c25_source.specs.Rebuilt.{HasProgram, IsRebuilt}

-- the laws of programs and their texts
pub record ProgramLaws : Type 0 where
  pub read : (parts : List Part) → IsLayout parts → command_of (command_text parts) ≡ Ok (command_for parts)
  pub assembles : (files : Files) (name : List ℕ) (parts : List Part) → text_named files name ≡ Some (source_text parts) → is_file_name name ≡ true → IsAssemblable parts → (a : Assembled) × (assembled files name ≡ Ok a)
  pub programs : (files : Files) (name : List ℕ) (parts : List Part) (modules : List Contents) → text_named files name ≡ Some (source_text parts) → is_file_name name ≡ true → IsBuildable parts
      → AreModulesOf files (name ∷ []) modules → (image : ImageData) × IsProgram modules (command_for parts) image

module _ (laws : ProgramLaws) (words_laws : words_of.Laws) (text_laws : built_texts.Laws) (name : List ℕ) (parts : List Part) (room : is_file_name name ≡ true) (h : IsBuildable parts) where
  abbrev own_files : Files
  own_files = (name, source_text parts) ∷ []

  own_there : text_named own_files name ≡ Some (source_text parts)
  own_there = ap (λ (b : Bool). cond b (Some (source_text parts)) None) ((bytes_eq-Decides name name).1 refl)

  own_modules : (m : Modules) × (modules_of own_files (name ∷ []) ≡ Ok m)
  own_modules =
      let a = laws.assembles own_files name parts own_there room h.source in (
        with_module no_modules a.0,
        ap (λ x. (told asm_refusal x >>= λ a. Ok (with_module no_modules a)) >>= λ next. fold_ok (with_source own_files) next []) a.1,
      )

  program_there : HasProgram (files_of_parts name parts)
  program_there =
      let m = own_modules in
      let p = laws.programs own_files name parts (m.0).modules own_there room h (are_modules own_files (name ∷ []) m.0 m.1) in
      record {
        image = p.0;
        texts = texts_for p.0;
        listings = (m.0).listings;
        built = is_built text_laws own_files (name ∷ []) (command_text parts) m.0 (command_for parts) p.0 (omega arith) m.1 (laws.read parts h.source.layout) p.1;
      }

  pub rebuilt : (words : finite.FinMap nat_cmp ℕ) (blank : ℕ) → ArePartsOf words blank parts → IsRebuilt (files_of_parts name parts) words blank
  rebuilt words blank are = record { program = program_there; kept = words_of.word_kept words_laws name words blank parts h.source.layout are program_there }
