-- The modules of sources and their instruction statements, one by one.
use Rattle.std.proofs.Common.{◌≡◌, ℕ, List, [], ◌∷◌, ◌++◌, map, Result, Ok, refl, ap, sym, ◌∙◌, subst}
use Rattle.std.specs.List.{AllByRecursion}
use Rattle.std.proofs.lemmas.List.{append-nil, append_assoc}
use Rattle.c25_meaning_expansion.specs.Files.{Files}
use Rattle.c25_meaning_assembly.specs.InstructionStatements.{Instruction}
use Rattle.c25_meaning_objects.specs.Module.{Contents, IsModule}
use Rattle.c25_meaning_language.specs.ExpansionFault.{ExpansionFault}
use Rattle.c25_meaning_expansion.specs.ExpansionRuns.{start_of}
use Rattle.c25_meaning_assembly.specs.ModuleOfSource.{Assembled, LinesSoFar, assembled, completed, passed_from}
use Rattle.c25_meaning_common.specs.Results.{◌>>=◌, fold_ok}
use Rattle.c25_module_laws.proofs.ModulesOfSources.{source_good}
use Rattle.c25_module_laws.proofs.ResultSteps.{bound}
use Rattle.c25_laws.proofs.StatementsOfSources.{HasOperands, source_read}
use Rattle.c25_laws.specs.ModuleStatements.{AreStatements}
use Rattle.c25_laws.proofs.SheetStatements.{statements_in, without_fault}
use Rattle.c25_laws.specs.ProgramStatements as program
use Rattle.c25_laws.specs.ProgramStatements.{AreModulesOf, lines_in, lines_of}

-- a module and its statements
pub record IsRead (m : Contents) (statements : List Instruction) : Type 0 where
  pub module_is : IsModule m
  pub said : AreStatements m statements
  pub operands : AllByRecursion HasOperands statements

-- modules and their statements
abbrev pub AreRead : List Contents → List (List Instruction) → Type 0
AreRead [] [] = Unit {0}
AreRead [] (is ∷ all) = ⊥
AreRead (m ∷ ms) [] = ⊥
AreRead (m ∷ ms) (is ∷ all) = IsRead m is × AreRead ms all

one_read : (files : Files) (name : List ℕ) (a : Assembled) → assembled files name ≡ Ok a → IsRead a.contents (statements_in files name)
one_read files name a e =
    let r = source_read files name a e in
    let same : statements_in files name ≡ r.0 = ap without_fault r.1 in
    subst (IsRead a.contents) (sym same) (record { module_is = source_good files name a e; said = r.2; operands = r.3 })

-- the lines of a source that has a module have no fault
pub source_lines : (files : Files) (name : List ℕ) (a : Assembled) → assembled files name ≡ Ok a → lines_of files name ≡ Ok (lines_in files name)
unfolding assembled
source_lines files name a e =
    let b = bound (passed_from files name (start_of files name)) (λ b. completed b) a e in
    let made : lines_of files name ≡ Ok (b.0).progress = ap (λ (r : Result LinesSoFar ExpansionFault). r >>= λ (x : LinesSoFar). Ok x.progress) b.1 in
    made ∙ ap Ok (sym (ap program.without_fault made))

pub sources_read : (files : Files) (names : List (List ℕ)) (modules : List Contents) → AreModulesOf files names modules → AreRead modules (map (statements_in files) names)
sources_read files [] [] h = tt
sources_read files [] (m ∷ modules) h = absurd h
sources_read files (name ∷ names) [] h = absurd h
sources_read files (name ∷ names) (m ∷ modules) h =
    let a = h.0 in
    (subst (λ (c : Contents). IsRead c (statements_in files name)) a.2 (one_read files name a.0 a.1), sources_read files names modules h.1)

-- ---- modules that were assembled one after another

fronted : {X : Type 0} (xs ys zs all : List X) (x : X) → all ≡ xs ++ x ∷ [] → zs ≡ all ++ ys → zs ≡ xs ++ x ∷ ys
fronted xs ys zs all x e f = f ∙ ap (λ ws. ws ++ ys) e ∙ append_assoc xs (x ∷ []) ys

module _ {S E : Type 0} (files : Files) (modules_of : S → List Contents) (step : S → List ℕ → Result S E)
    (one : (s t : S) (name : List ℕ) → step s name ≡ Ok t → (a : Assembled) × (assembled files name ≡ Ok a) × (modules_of t ≡ modules_of s ++ a.contents ∷ [])) where
  -- where each step gives the module of a source more, all of them are the modules of the sources
  pub modules_folded : (names : List (List ℕ)) (s t : S) → fold_ok step s names ≡ Ok t → (ms : List Contents) × (modules_of t ≡ modules_of s ++ ms) × AreModulesOf files names ms
  modules_folded [] s t e = ([], (let same : s ≡ t = cc in ap modules_of (sym same) ∙ sym (append-nil (modules_of s))), tt)
  modules_folded (name ∷ names) s t e =
      let n = bound (step s name) (λ next. fold_ok step next names) t e in
      let a = one s n.0 name n.1 in
      let rest = modules_folded names n.0 t n.2 in
      ((a.0).contents ∷ rest.0, fronted (modules_of s) rest.0 (modules_of t) (modules_of n.0) (a.0).contents a.2 rest.1, ((a.0, a.1, refl), rest.2))
