-- The marks of a program are the places and sizes of its statements.
use Rattle.std.proofs.Common.{◌≡◌, ℕ, ◌+◌, Bool, eqb, List, [], ◌∷◌, ◌++◌, map, filter, refl, sym, ap, ◌∙◌, subst}
use Rattle.std.specs.List.Sorted.{IsPermutation}
use Rattle.std.proofs.lemmas.List.{map-append}
use Rattle.std.proofs.lemmas.List.Elements.{filter-append}
use Rattle.std.proofs.lemmas.List.Sorted.{IsPermutation-append_left, IsPermutation-append_right, IsPermutation-map, IsPermutation-refl, IsPermutation-sym, IsPermutation-trans}
use Rattle.std.proofs.lemmas.Simd.{map-map}
use Rattle.c25_meaning_linking.specs.Command.{CommandData}
use Rattle.c25_meaning_expansion.specs.Files.{Files}
use Rattle.c25_meaning_assembly.specs.InstructionStatements.{Instruction}
use Rattle.c25_meaning_language.proofs.Numbers.{size_of_form}
use Rattle.c25_meaning_linking.specs.Linking.{ImageData, IsProgram}
use Rattle.c25_meaning_objects.specs.Module.{Contents}
use Rattle.c25_meaning_linking.specs.Place.{Place, by_modules}
use Rattle.c25_meaning_processor.specs.Statements.{marks_of, run_mark_of}
use Rattle.c25_meaning_processor.specs.Statements as statements
use Rattle.c25_meaning_linking.specs.Words.{is_copied, is_run_in_place, placed_mark, placed_run_mark, program_marks, program_run_marks, section_base, section_run}
use Rattle.c25_meaning_image.specs.declared.mark.Mark.{Mark}
use Rattle.c25_meaning_image.specs.declared.mark.RunMark.{RunMark}
use Rattle.c25_meaning_objects.specs.declared.object.ModuleMark.{ModuleMark}
use Rattle.c25_laws.proofs.ByKeys.{alike_filtered, alike_permuted, filter_mapped, map_same}
use Rattle.c25_laws.proofs.SourcesRead.{AreRead, sources_read}
use Rattle.c25_laws.specs.ModuleStatements.{AreStatements, mark_of}
use Rattle.c25_laws.proofs.SheetStatements.{sheet_statements, statements_in, module_statements, operand_numbers, placed_statement, statements_by}
use Rattle.c25_laws.proofs.StatementsUnder.{statements_are}
use Rattle.c25_laws.specs.ProgramStatements.{AreMarksOf, AreModulesOf, PlacedStatement, as_copied, as_loaded, program_statements, runs_in_b0, runs_in_place, split_by_run}

-- ---- marks of one kind

-- marks of modules that pass a test are those of the statements that do
module _ {X : Type 0} (modules : List Contents) (places : List Place) (on : Contents → ModuleMark → Bool) (placed : ℕ → Contents → ModuleMark → X) (passes : PlacedStatement → Bool) (made : PlacedStatement → X)
    (tests : (number : ℕ) (m : Contents) (i : Instruction) → passes (placed_statement modules places number m i) ≡ on m (mark_of i))
    (makes : (number : ℕ) (m : Contents) (i : Instruction) → placed number m (mark_of i) ≡ made (placed_statement modules places number m i)) where
  module_marked : (number : ℕ) (m : Contents) (is : List Instruction) → AreStatements m is → IsPermutation (map made (filter passes (module_statements modules places number m is))) (map (placed number m) (filter (on m) m.marks))
  module_marked number m is h =
      let stand = placed_statement modules places number m in
      let key : ModuleMark → ℕ = λ mark. mark.section in
      let alike = λ (k : ℕ). h.marks k ∙ sym (filter_mapped (λ (mark : ModuleMark). eqb mark.section k) mark_of is) in
      let same = alike_permuted key (filter (on m) m.marks) (filter (on m) (map mark_of is)) (alike_filtered key (on m) m.marks (map mark_of is) alike) in
      let both = IsPermutation-map (placed number m) (filter (on m) m.marks) (filter (on m) (map mark_of is)) same in
      let marks : map (placed number m) (filter (on m) (map mark_of is)) ≡ map made (filter passes (module_statements modules places number m is)) =
      ap (map (placed number m)) (filter_mapped (on m) mark_of is)
      ∙ map-map (placed number m) mark_of (filter (λ i. on m (mark_of i)) is)
      ∙ map_same (λ i. placed number m (mark_of i)) (λ i. made (stand i)) (filter (λ i. on m (mark_of i)) is) (makes number m)
      ∙ sym (λ j. map (λ i. made (stand i)) (filter (λ i. tests number m i j) is))
      ∙ sym (map-map made stand (filter (λ i. passes (stand i)) is))
      ∙ sym (ap (map made) (filter_mapped passes stand is)) in
      IsPermutation-sym (map (placed number m) (filter (on m) m.marks)) (map made (filter passes (module_statements modules places number m is))) (subst (IsPermutation (map (placed number m) (filter (on m) m.marks))) marks both)

  all_marked : (number : ℕ) (ms : List Contents) (all : List (List Instruction)) → AreRead ms all
      → IsPermutation (map made (filter passes (statements_by modules places number ms all))) (by_modules (λ n m. map (placed n m) (filter (on m) m.marks)) number ms)
  all_marked number [] [] h = IsPermutation-refl []
  all_marked number [] (is ∷ all) h = absurd h
  all_marked number (m ∷ ms) [] h = absurd h
  all_marked number (m ∷ ms) (is ∷ all) h =
      let own = module_statements modules places number m is in
      let rest = statements_by modules places (number + 1) ms all in
      let marks = map (placed number m) (filter (on m) m.marks) in
      let others = by_modules (λ n m. map (placed n m) (filter (on m) m.marks)) (number + 1) ms in
      subst (λ (xs : List X). IsPermutation xs (marks ++ others)) (sym (ap (map made) (filter-append passes own rest) ∙ map-append made (filter passes own) (filter passes rest)))
      (IsPermutation-trans (map made (filter passes own) ++ map made (filter passes rest)) (marks ++ map made (filter passes rest)) (marks ++ others)
      (IsPermutation-append_left (map made (filter passes rest)) (map made (filter passes own)) marks (module_marked number m is (h.0).said))
      (IsPermutation-append_right marks (map made (filter passes rest)) others (all_marked (number + 1) ms all h.1)))

-- ---- marks of both kinds

module _ (modules : List Contents) (places : List Place) where
  one_mark : (number : ℕ) (m : Contents) (i : Instruction) → placed_mark modules places number m (mark_of i) ≡ statements.mark_of (as_loaded (placed_statement modules places number m i))
  one_mark number m i = ap (λ n. record { address = section_base modules places number m i.section + i.offset; size = n }) (sym (size_of_form i.form (operand_numbers modules places number m i)))

  one_run_mark : (number : ℕ) (m : Contents) (i : Instruction) → placed_run_mark modules places number m (mark_of i) ≡ run_mark_of (as_copied (placed_statement modules places number m i))
  one_run_mark number m i =
      ap (λ n. record { load = section_base modules places number m i.section + i.offset; run = section_run modules places number m i.section + i.offset; size = n })
      (sym (size_of_form i.form (operand_numbers modules places number m i)))

  pub plain_marked : (all : List (List Instruction)) → AreRead modules all → IsPermutation (marks_of (map as_loaded (filter runs_in_place (statements_by modules places 0 modules all)))) (program_marks modules places)
  plain_marked all h =
      let some = filter runs_in_place (statements_by modules places 0 modules all) in
      subst (λ (ms : List Mark). IsPermutation ms (program_marks modules places)) (sym (map-map statements.mark_of as_loaded some))
      (all_marked modules places (is_run_in_place places) (placed_mark modules places) runs_in_place (λ s. statements.mark_of (as_loaded s)) (λ number m i. refl) one_mark 0 modules all h)

  pub copied_marked : (all : List (List Instruction)) → AreRead modules all → IsPermutation (map run_mark_of (map as_copied (filter runs_in_b0 (statements_by modules places 0 modules all)))) (program_run_marks modules places)
  copied_marked all h =
      let some = filter runs_in_b0 (statements_by modules places 0 modules all) in
      subst (λ (ms : List RunMark). IsPermutation ms (program_run_marks modules places)) (sym (map-map run_mark_of as_copied some))
      (all_marked modules places (is_copied places) (placed_run_mark modules places) runs_in_b0 (λ s. run_mark_of (as_copied s)) (λ number m i. refl) one_run_mark 0 modules all h)

pub sheet_marks : (files : Files) (names : List (List ℕ)) (modules : List Contents) (command : CommandData) (image : ImageData) → AreModulesOf files names modules → (p : IsProgram modules command image)
    → AreMarksOf (split_by_run (sheet_statements files names modules p.places)) image.marks image.run_marks
sheet_marks files names modules command image of p =
    let ss = split_by_run (sheet_statements files names modules p.places) in
    let all = map (statements_in files) names in
    let read = sources_read files names modules of in
    record {
      same = IsPermutation-trans (marks_of ss.plain) (program_marks modules p.places) image.marks (plain_marked modules p.places all read) p.marks.same;
      ascend = p.marks.ascend;
      copied = IsPermutation-trans (map run_mark_of ss.copied) (program_run_marks modules p.places) image.run_marks (copied_marked modules p.places all read) p.run_marks.same;
      fit = p.run_marks.fit;
    }

-- the marks of a program are those of its sources' statements
pub marks_are : (files : Files) (names : List (List ℕ)) (modules : List Contents) (command : CommandData) (image : ImageData) → AreModulesOf files names modules → (p : IsProgram modules command image)
    → AreMarksOf (program_statements files names modules p.places) image.marks image.run_marks
marks_are files names modules command image of p =
    subst (λ (all : List PlacedStatement). AreMarksOf (split_by_run all) image.marks image.run_marks) (sym (statements_are files names modules p.places of)) (sheet_marks files names modules command image of p)
