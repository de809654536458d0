-- The texts of a program: it is built, with hex texts, a map and listings.
use Rattle.std.proofs.Common.{◌≡◌, ℕ, ◌<◌, ◌^◌, List, [], ◌∷◌, All, length, Result, Ok, refl, sym, subst, arith}
use Rattle.std.specs.List.{AllByRecursion}
use Rattle.std.proofs.lemmas.List.Elements.{All-from_recursion}
use Rattle.c25_chain.proofs.Sourced.{are_modules}
use Rattle.c25_chain.specs.Built.{IsBuilt}
use Rattle.c25_chain.specs.Linked.{AreTexts, LinkedTexts, places_of}
use Rattle.c25_chain.specs.Modules.{Modules, modules_of}
use Rattle.c25_hex.specs.HexText.{written}
use Rattle.c25_laws.specs.ProgramStatements.{AreModulesOf}
use Rattle.c25_meaning_assembly.specs.ModuleOfSource.{Assembled, assembled}
use Rattle.c25_meaning_expansion.specs.Files.{Files}
use Rattle.c25_meaning_linking.specs.Command.{CommandData, IsCommand}
use Rattle.c25_meaning_linking.specs.CommandText.{command_of}
use Rattle.c25_meaning_linking.specs.GoodMap.{IsGoodMap}
use Rattle.c25_meaning_linking.specs.Linking.{HasMarks, HasRunMarks, HasWords, ImageData, IsProgram, map_of, names_checked}
use Rattle.c25_meaning_linking.specs.MapText.{IsMapOf, IsPrinted, map_text}
use Rattle.c25_meaning_linking.specs.Place.{Place}
use Rattle.c25_meaning_objects.specs.Module.{Contents, IsModule}

-- the laws on which this rests
pub record Laws : Type 0 where
  pub each_module : (files : Files) (name : List ℕ) (a : Assembled) → assembled files name ≡ Ok a → IsModule a.contents
  pub commands : (text : List ℕ) (command : CommandData) → command_of text ≡ Ok command → IsCommand command
  pub places : (modules : List Contents) (command : CommandData) (image : ImageData) → (p : IsProgram modules command image) → places_of image.described ≡ p.places
  pub printed : (modules : List Contents) (command : CommandData) (places : List Place)
      → All IsModule modules → length modules < 2 ^ 64 → IsCommand command → names_checked modules command.entry ≡ Ok tt → IsGoodMap modules command places
      → IsPrinted (map_of modules command.entry places)

-- ---- modules

all_modules : Laws → (files : Files) (names : List (List ℕ)) (modules : List Contents) → AreModulesOf files names modules → AllByRecursion IsModule modules
all_modules laws files [] [] of = tt
all_modules laws files [] (m ∷ modules) of = absurd of
all_modules laws files (name ∷ names) [] of = absurd of
all_modules laws files (name ∷ names) (m ∷ modules) of =
    let a = of.0 in
    (subst IsModule a.2 (laws.each_module files name a.0 a.1), all_modules laws files names modules of.1)

as_many : (files : Files) (names : List (List ℕ)) (modules : List Contents) → AreModulesOf files names modules → length modules ≡ length names
as_many files [] [] of = refl
as_many files [] (m ∷ modules) of = absurd of
as_many files (name ∷ names) [] of = absurd of
as_many files (name ∷ names) (m ∷ modules) of = let rest = as_many files names modules of.1 in omega (arith, rest)

-- ---- the texts

abbrev pub texts_for : ImageData → LinkedTexts
texts_for image = record { page0 = written image.program; page1 = written image.store; map = map_text image.described }

module _ (laws : Laws) (files : Files) (sources : List (List ℕ)) (text : List ℕ) (all : Modules) (command : CommandData) (image : ImageData) (few : length sources < 2 ^ 64)
    (made : modules_of files sources ≡ Ok all) (read : command_of text ≡ Ok command) (p : IsProgram all.modules command image) where
  of : AreModulesOf files sources all.modules
  of = are_modules files sources all made

  printed_map : IsMapOf (map_text image.described) image.described
  printed_map =
      let many = as_many files sources all.modules of in
      let form = laws.printed all.modules command p.places (All-from_recursion IsModule all.modules (all_modules laws files sources all.modules of)) (omega (arith, few, many)) (laws.commands text command read) p.names p.good in
      record { printed = subst IsPrinted (sym p.described) form; text_is = refl }

  are_texts : AreTexts all.modules command image (texts_for image)
  are_texts =
      let same : p.places ≡ places_of image.described = sym (laws.places all.modules command image p) in
      record {
        printed = printed_map;
        good = subst (λ (ps : List Place). IsGoodMap all.modules command ps) same p.good;
        program = subst (λ (ps : List Place). HasWords all.modules ps 0 image.program) same p.program;
        store = subst (λ (ps : List Place). HasWords all.modules ps 1 image.store) same p.store;
        marks = subst (λ (ps : List Place). HasMarks all.modules ps image.marks) same p.marks;
        run_marks = subst (λ (ps : List Place). HasRunMarks all.modules ps image.marks image.run_marks) same p.run_marks;
        page0 = refl;
        page1 = refl;
      }

  pub is_built : IsBuilt files sources text image (texts_for image) all.listings
  is_built = record { all = all; assembled = made; listings_are = refl; linked = record { command = command; read = read; program = p; texts_are = are_texts } }
