-- The modules of sources, one by one.
use Rattle.std.proofs.Common.{◌≡◌, ℕ, List, [], ◌∷◌, ◌++◌, Result, Ok, Err, refl, ap, sym, ◌∙◌, subst}
use Rattle.std.specs.List.{All, AllByRecursion}
use Rattle.std.proofs.lemmas.List.{append-nil, append_assoc}
use Rattle.std.proofs.lemmas.List.Elements.{All-from_recursion}
use Rattle.c25_laws.specs.ProgramStatements.{AreModulesOf}
use Rattle.c25_meaning_common.specs.Results.{◌>>=◌, fold_ok, told}
use Rattle.c25_meaning_expansion.specs.Files.{Files}
use Rattle.c25_meaning_language.specs.ExpansionFault.{ExpansionFault}
use Rattle.c25_meaning_objects.specs.Module.{Contents, IsModule}
use Rattle.c25_meaning_assembly.specs.ModuleOfSource.{Assembled, assembled}
use Rattle.c25_chain.specs.Headline.{HasStatements}
use Rattle.c25_chain.specs.Modules.{Modules, asm_refusal, modules_of, no_modules, with_module, with_source}
use Rattle.c25_chain.proofs.Cited.{Laws}

-- what follows a result follows one without a fault
bound : {A B E : Type 0} (r : Result A E) (f : A → Result B E) (y : B) → (r >>= f) ≡ Ok y → (x : A) × (r ≡ Ok x) × (f x ≡ Ok y)
bound (Ok x) f y e = (x, refl, e)
bound (Err d) f y e = absurd cc

untold : (r : Result Assembled ExpansionFault) (a : Assembled) → told asm_refusal r ≡ Ok a → r ≡ Ok a
untold (Ok x) a e = cc
untold (Err f) a e = absurd cc

one_more : (files : Files) (s t : Modules) (name : List ℕ) → with_source files s name ≡ Ok t → (a : Assembled) × (assembled files name ≡ Ok a) × (t.modules ≡ s.modules ++ a.contents ∷ [])
one_more files s t name e =
    let b = bound (told asm_refusal (assembled files name)) (λ a. Ok (with_module s a)) t e in
    let same : with_module s b.0 ≡ t = let last = b.2 in cc in
    (b.0, untold (assembled files name) b.0 b.1, ap (λ (x : Modules). x.modules) (sym same))

fronted : {X : Type 0} (xs ys zs all : List X) (x : X) → all ≡ xs ++ x ∷ [] → zs ≡ all ++ ys → zs ≡ xs ++ x ∷ ys
fronted xs ys zs all x e f = f ∙ ap (λ ws. ws ++ ys) e ∙ append_assoc xs (x ∷ []) ys

folded : (files : Files) (names : List (List ℕ)) (s t : Modules) → fold_ok (with_source files) s names ≡ Ok t → (ms : List Contents) × (t.modules ≡ s.modules ++ ms) × AreModulesOf files names ms
folded files [] s t e = ([], (let same : s ≡ t = cc in ap (λ (x : Modules). x.modules) (sym same) ∙ sym (append-nil s.modules)), tt)
folded files (name ∷ names) s t e =
    let n = bound (with_source files s name) (λ next. fold_ok (with_source files) next names) t e in
    let a = one_more files s n.0 name n.1 in
    let rest = folded files names n.0 t n.2 in
    ((a.0).contents ∷ rest.0, fronted s.modules rest.0 t.modules (n.0).modules (a.0).contents a.2 rest.1, ((a.0, a.1, refl), rest.2))

pub are_modules : (files : Files) (names : List (List ℕ)) (all : Modules) → modules_of files names ≡ Ok all → AreModulesOf files names all.modules
are_modules files names all e =
    let f = folded files names no_modules all e in
    subst (AreModulesOf files names) (sym f.1) f.2

module _ (laws : Laws) (files : Files) where
  each_said : (names : List (List ℕ)) (modules : List Contents) → AreModulesOf files names modules → AllByRecursion (HasStatements files) names × AllByRecursion IsModule modules
  each_said [] [] h = (tt, tt)
  each_said [] (m ∷ modules) h = absurd h
  each_said (name ∷ names) [] h = absurd h
  each_said (name ∷ names) (m ∷ modules) h =
      let a = h.0 in
      let rest = each_said names modules h.1 in
      ((laws.lines files name a.0 a.1, rest.0), (subst IsModule a.2 (laws.each_module files name a.0 a.1), rest.1))

  -- each source has its statements, and each module is one
  pub have_statements : (names : List (List ℕ)) (modules : List Contents) → AreModulesOf files names modules → All (HasStatements files) names
  have_statements names modules of = All-from_recursion (HasStatements files) names (each_said names modules of).0

  pub modules_are : (names : List (List ℕ)) (modules : List Contents) → AreModulesOf files names modules → All IsModule modules
  modules_are names modules of = All-from_recursion IsModule modules (each_said names modules of).1
