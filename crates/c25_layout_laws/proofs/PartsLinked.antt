-- The module of a layout is linked under the layout's command file.
use Rattle.std.proofs.Common.{◌≡◌, ℕ, List, [], ◌∷◌, map, codes, None, Some, Ok, true, All, refl, ap, ◌∙◌, subst, inl, inr}
use Rattle.std.proofs.lemmas.List.Elements.{All-cons, All-nil}
use Rattle.c25_layout.specs.SourceText.{command_text, source_text}
use Rattle.c25_layout.specs.declared.layout.Part.{Part}
use Rattle.c25_meaning_assembly.specs.ModuleOfSource.{Assembled, assembled}
use Rattle.c25_meaning_assembly.specs.Sections.{is_file_name}
use Rattle.c25_meaning_common.specs.declared.placed.Placed.{Placed}
use Rattle.c25_meaning_expansion.specs.Files.{Files, text_named}
use Rattle.c25_meaning_linking.specs.Command.{CommandData, IsCommand}
use Rattle.c25_meaning_linking.specs.CommandText.{command_of}
use Rattle.c25_meaning_linking.specs.GoodMap.{IsGoodMap}
use Rattle.c25_meaning_linking.specs.Linking.{ImageData, IsProgram, IsRefusal, first_spilled, names_checked, refused_with}
use Rattle.c25_meaning_linking.specs.Place.{Place}
use Rattle.c25_meaning_linking.specs.declared.link_fault.LinkFault.{LinkFault}
use Rattle.c25_meaning_linking.specs.declared.link_fault.LinkFault.TheVariants.{RelocRange}
use Rattle.c25_meaning_objects.specs.Module.{Contents, IsModule, SectionData}
use Rattle.c25_laws.proofs.StatementsUnder.{ComesFrom, comes_from}
use Rattle.c25_laws.specs.ProgramStatements.{AreModulesOf}
use Rattle.c25_layout_laws.proofs.LayoutWords.{each_stands, layout_command}
use Rattle.c25_layout_laws.proofs.ModuleOfParts.{IsModuleOf, module_of_parts, sized_of}
use Rattle.c25_layout_laws.proofs.PartsDone.{sections_of}
use Rattle.c25_layout_laws.proofs.PartsFit.{all_placed, places_there, section_names, sized_names}
use Rattle.c25_layout_laws.proofs.PartsUsed.{fields_pass, names_pass}
use Rattle.c25_layout.specs.Buildable.{IsBuildable}
use Rattle.c25_layout_laws.specs.Listed.{command_for}

one_linked : (files : Files) (name : List ℕ) (parts : List Part) (m : Contents) (refusal : Placed (List ℕ) LinkFault) → text_named files name ≡ Some (source_text parts) → is_file_name name ≡ true → IsBuildable parts
    → AreModulesOf files (name ∷ []) (m ∷ []) → IsRefusal (m ∷ []) (command_for parts) refusal → ⊥
one_linked files name parts m refusal there room h of refused =
    let follow = h.source.layout.follow in
    let from : ComesFrom files name m = subst (ComesFrom files name) (of.0).2 (comes_from files name (of.0).0 (of.0).1) in
    let i : IsModuleOf parts m = module_of_parts files name parts m there room h.source from in
    go i refused
  where
    sections : IsModuleOf parts m → map (λ (s : SectionData). s.name) m.sections ≡ codes ".text" ∷ sections_of parts
    sections i = sized_names m.sections ((codes ".text", 0) ∷ map sized_of parts) i.sections ∙ ap (λ (ns : List (List ℕ)). codes ".text" ∷ ns) (section_names parts)

    go : IsModuleOf parts m → IsRefusal (m ∷ []) (command_for parts) refusal → ⊥
    go i (inl names) = let passed = names_pass parts m i in cc
    go i (inr (inl place)) = all_placed parts h.source.layout.follow m i h.runs refusal place.unplaced
    go i (inr (inr field)) =
        let stands = each_stands parts h.source.layout.follow m (command_for parts) field.places field.good refl (sections i) 1 (codes ".text" ∷ []) parts refl refl (λ q c. c) in
        let passed = ap (refused_with RelocRange) (fields_pass parts m i field.places stands) in
        let spilled = field.spilled in
        cc

pub layout_linked : (files : Files) (name : List ℕ) (parts : List Part) (modules : List Contents) (command : CommandData) (refusal : Placed (List ℕ) LinkFault) → text_named files name ≡ Some (source_text parts) → is_file_name name ≡ true → IsBuildable parts
    → AreModulesOf files (name ∷ []) modules → command_of (command_text parts) ≡ Ok command → IsRefusal modules command refusal → ⊥
layout_linked files name parts [] command refusal there room h of read refused = absurd of
layout_linked files name parts (m ∷ other ∷ more) command refusal there room h of read refused = absurd of.1
layout_linked files name parts (m ∷ []) command refusal there room h of read refused =
    let command_is : command ≡ command_for parts = let own = layout_command parts h.source.layout in cc in
    one_linked files name parts m refusal there room h of (subst (λ (c : CommandData). IsRefusal (m ∷ []) c refusal) command_is refused)

-- ---- the program

-- what laws say of modules and programs
pub record Laws : Type 0 where
  pub each_module : (files : Files) (name : List ℕ) (a : Assembled) → assembled files name ≡ Ok a → IsModule a.contents
  pub commands : (text : List ℕ) (command : CommandData) → command_of text ≡ Ok command → IsCommand command
  pub programs : (modules : List Contents) (command : CommandData) (places : List Place) → All IsModule modules → IsCommand command → names_checked modules command.entry ≡ Ok tt → IsGoodMap modules command places → first_spilled modules places ≡ None
      → (image : ImageData) × IsProgram modules command image

one_program : Laws → (files : Files) (name : List ℕ) (parts : List Part) (m : Contents) → text_named files name ≡ Some (source_text parts) → is_file_name name ≡ true → IsBuildable parts
    → AreModulesOf files (name ∷ []) (m ∷ []) → (image : ImageData) × IsProgram (m ∷ []) (command_for parts) image
one_program laws files name parts m there room h of =
    let follow = h.source.layout.follow in
    let from : ComesFrom files name m = subst (ComesFrom files name) (of.0).2 (comes_from files name (of.0).0 (of.0).1) in
    let i : IsModuleOf parts m = module_of_parts files name parts m there room h.source from in
    let sections : map (λ (s : SectionData). s.name) m.sections ≡ codes ".text" ∷ sections_of parts =
    sized_names m.sections ((codes ".text", 0) ∷ map sized_of parts) i.sections ∙ ap (λ (ns : List (List ℕ)). codes ".text" ∷ ns) (section_names parts) in
    let placed = places_there parts follow m i h.runs in
    let stands = each_stands parts follow m (command_for parts) placed.0 placed.1 refl sections 1 (codes ".text" ∷ []) parts refl refl (λ q c. c) in
    let is : IsModule m = subst IsModule (of.0).2 (laws.each_module files name (of.0).0 (of.0).1) in
    laws.programs (m ∷ []) (command_for parts) placed.0 (All-cons IsModule m [] is (All-nil IsModule)) (laws.commands (command_text parts) (command_for parts) (layout_command parts h.source.layout))
    (names_pass parts m i) placed.1 (fields_pass parts m i placed.0 stands)

pub layout_program : Laws → (files : Files) (name : List ℕ) (parts : List Part) (modules : List Contents) → text_named files name ≡ Some (source_text parts) → is_file_name name ≡ true → IsBuildable parts
    → AreModulesOf files (name ∷ []) modules → (image : ImageData) × IsProgram modules (command_for parts) image
layout_program laws files name parts [] there room h of = absurd of
layout_program laws files name parts (m ∷ other ∷ more) there room h of = absurd of.1
layout_program laws files name parts (m ∷ []) there room h of = one_program laws files name parts m there room h of
