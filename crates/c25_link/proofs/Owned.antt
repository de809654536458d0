-- What holds of modules by their numbers: each is one, and each definition is of the module that it names.
use Rattle.std.proofs.Common.{◌≡◌, ℕ, ◌+◌, ◌<◌, ◌≤◌, Bool, true, false, ◌&&◌, cond, ltb, List, [], ◌∷◌, ◌++◌, length, get_or, find, Option, Some, All, refl, ap, subst, ◌∙◌, arith, ⊎_elim}
use Rattle.std.specs.List.{slice_get}
use Rattle.std.specs.Option.{option_map}
use Rattle.std.specs.Str.{bytes_eq}
use Rattle.std.proofs.lemmas.Bool.{cases_lt}
use Rattle.std.proofs.lemmas.Bool.Decides.{nat_tests}
use Rattle.std.proofs.lemmas.List.{length-append}
use Rattle.std.proofs.lemmas.List.Elements.{All-head, All-tail}
use Rattle.std.proofs.lemmas.Option.{slice_get_read, slice_get-map}
use Rattle.c25_meaning_objects.specs.Module.{SectionData, Contents, IsModule, is_module, each_fits, section_fits}
use Rattle.c25_meaning_linking.specs.Words.{Definition, definitions, definition_of}
use Rattle.c25_meaning_linking.proofs.Parts.{sections_of_module}
use Rattle.c25_module.specs.View.{section_data, sections_data}
use Rattle.c25_module.specs.declared.parts.Section.{Section}
use Rattle.c25_link.proofs.Named.{owners}

-- one module more
pub are_more : (modules : List Contents) (i : ℕ) (x : Contents) → i < length modules → x ≡ get_or modules i x → IsModule x → ((number : ℕ) (m : Contents) → number < i → slice_get modules number ≡ Some m → IsModule m)
    → (number : ℕ) (m : Contents) → number < i + 1 → slice_get modules number ≡ Some m → IsModule m
are_more modules i x lt is fits before number m below at =
    ⊎_elim (λ less. before number m less at) (λ ge.
    let same : number ≡ i = omega arith in
    let here : slice_get modules i ≡ Some m = subst (λ n. slice_get modules n ≡ Some m) same at in
    let there : slice_get modules i ≡ Some x = slice_get_read modules (length modules) i x refl lt is in
    let one : x ≡ m = cc in
    subst IsModule one fits) (cases_lt number i)

-- the section of a number as the definitions see it
pub section_at : (ss : List Section) (i : ℕ) (s : Section) → i < length ss → s ≡ get_or ss i s → slice_get (sections_data ss) i ≡ Some (section_data s)
section_at ss i s lt is = slice_get-map section_data ss i ∙ ap (λ (o : Option Section). option_map section_data o) (slice_get_read ss (length ss) i s refl lt is)

-- ---- a module has few sections

both : (a b : Bool) → (a && b) ≡ true → (a ≡ true) × (b ≡ true)
both true b h = (refl, h)
both false b h = absurd cc

few_from : (before ss : List SectionData) → length before ≤ 255 → each_fits section_fits before ss ≡ true → length before + length ss ≤ 255
few_from before [] le e = omega arith
few_from before (s ∷ ss) le e =
    let g = both (section_fits before s) (each_fits section_fits (before ++ s ∷ []) ss) e in
    let few = both _ (ltb (length before) 255) g.0 in
    let less : length before < 255 = grind (arith, nat_tests, few.1) in
    let more : length (before ++ s ∷ []) ≡ length before + 1 = length-append before (s ∷ []) in
    let rest = few_from (before ++ s ∷ []) ss (omega arith) g.1 in
    omega (arith, rest, more)

pub few_sections : (c : Contents) → is_module c ≡ true → length c.sections ≤ 255
few_sections c h = let few : length {A = SectionData} [] + length c.sections ≤ 255 = few_from [] c.sections (omega arith) (sections_of_module c h) in omega (arith, few)

-- ---- the module of a definition

-- what is found in a list holds what all of it do
pub found_holds : {A : Type 0} (P : A → Type 0) (test : A → Bool) (xs : List A) (x : A) → All P xs → find test xs ≡ Some x → P x
found_holds P test [] x all e = absurd cc
found_holds P test (y ∷ ys) x all e = by_test (found_holds P test ys x (All-tail P y ys all)) (test y) e where
  by_test : (find test ys ≡ Some x → P x) → (t : Bool) → cond t (Some y) (find test ys) ≡ Some x → P x
  by_test after true g = let same : y ≡ x = cc in subst P same (All-head P y ys all)
  by_test after false g = after g

pub definition_owned : (modules : List Contents) (name : List ℕ) (d : Definition) → definition_of name (definitions modules) ≡ Some d → slice_get modules d.number ≡ Some d.owner
definition_owned modules name d e =
    found_holds (λ (x : Definition). slice_get modules x.number ≡ Some x.owner) (λ (x : Definition). bytes_eq name x.symbol.name) (definitions modules) d (owners modules) e
