-- The sums of sections, by their names.
use Rattle.std.proofs.Common.{◌≡◌, ℕ, ◌+◌, ◌≤◌, ◌*◌, Bool, true, false, ◌&&◌, ◌||◌, cond, List, [], ◌∷◌, ◌++◌, length, get_or, Some, None, unwrap_or, refl, sym, ap, ◌∙◌, arith}
use Rattle.std.specs.List.{list_any, All}
use Rattle.std.specs.Str.{bytes_eq}
use Rattle.std.proofs.lemmas.List.Folds.{list_any-append}
use Rattle.std.proofs.lemmas.List.Sums.{sum_by-cons, sum_by_push, sum_by-le}
use Rattle.c25_meaning_objects.specs.Module.{SectionData, body_size, has_words}
use Rattle.c25_meaning_linking.specs.Place.{is_section_named, size_for}
use Rattle.c25_meaning_linking.proofs.PlaceNames.{same_name, is_same}
use Rattle.c25_place.specs.Outputs.{size_of_sections, any_words, output_of}
use Rattle.c25_place.specs.declared.outputs.Output.{Output}

-- two names compare alike either way
pub turned : (a b : List ℕ) → bytes_eq a b ≡ bytes_eq b a
turned a b = by_tests (bytes_eq a b) (bytes_eq b a) refl refl where
  by_tests : (t u : Bool) → bytes_eq a b ≡ t → bytes_eq b a ≡ u → bytes_eq a b ≡ bytes_eq b a
  by_tests true true e f = e ∙ sym f
  by_tests true false e f = let g : bytes_eq b a ≡ true = ap (λ x. bytes_eq x a) (sym (same_name a b e)) ∙ is_same a in absurd cc
  by_tests false true e f = let g : bytes_eq a b ≡ true = ap (λ x. bytes_eq x b) (sym (same_name b a f)) ∙ is_same b in absurd cc
  by_tests false false e f = e ∙ sym f

-- the sum of no sections
abbrev pub nothing : Output
nothing = record { size = 0; initialised = false }

-- a section more
abbrev pub with_section : Output → SectionData → Output
with_section o s = record { size = o.size + body_size s.body; initialised = o.initialised || has_words s.body }

record AddsNothing (name : List ℕ) (ss : List SectionData) : Type 0 where
  size : size_of_sections name ss ≡ 0
  words : any_words name ss ≡ false

zero_more : (n : ℕ) → 0 + n ≡ n
zero_more n = omega arith

adds_nothing : (name : List ℕ) (ss : List SectionData) → list_any (is_section_named name) ss ≡ false → AddsNothing name ss
adds_nothing name [] h = record { size = refl; words = refl }
adds_nothing name (s ∷ ss) h = by_test (adds_nothing name ss) (bytes_eq name s.name) refl h where
  by_test : (list_any (is_section_named name) ss ≡ false → AddsNothing name ss) → (t : Bool) → bytes_eq name s.name ≡ t → (t || list_any (is_section_named name) ss) ≡ false → AddsNothing name (s ∷ ss)
  by_test later true e g = absurd cc
  by_test later false e g =
      let n = later g in
      record {
        size = sum_by-cons (size_for name) s ss ∙ ap (λ b. cond b (body_size s.body) 0 + size_of_sections name ss) e ∙ zero_more (size_of_sections name ss) ∙ n.size;
        words = ap (λ b. (b && has_words s.body) || any_words name ss) e ∙ n.words;
      }

so_far : (name : List ℕ) (ss : List SectionData) → unwrap_or (output_of name ss) nothing ≡ record { size = size_of_sections name ss; initialised = any_words name ss }
so_far name ss = by_test (list_any (is_section_named name) ss) refl where
  by_test : (t : Bool) → list_any (is_section_named name) ss ≡ t → unwrap_or (cond t (Some (record { size = size_of_sections name ss; initialised = any_words name ss })) None) nothing ≡ record { size = size_of_sections name ss; initialised = any_words name ss }
  by_test true e = refl
  by_test false e = let n = adds_nothing name ss e in λ i. record { size = sym n.size i; initialised = sym n.words i }

pub or_true : (b : Bool) → (b || true) ≡ true
or_true true = refl
or_true false = refl

pub or_false : (b : Bool) → (b || false) ≡ b
or_false true = refl
or_false false = refl

appended : (name : List ℕ) (ss : List SectionData) (s : SectionData) (t : Bool) → bytes_eq name s.name ≡ t
    → output_of name (ss ++ s ∷ []) ≡ cond (list_any (is_section_named name) ss || t) (Some (record { size = size_of_sections name ss + cond t (body_size s.body) 0; initialised = any_words name ss || (t && has_words s.body) })) None
appended name ss s t e =
    let any : list_any (is_section_named name) (ss ++ s ∷ []) ≡ (list_any (is_section_named name) ss || t) =
    list_any-append (is_section_named name) ss (s ∷ []) ∙ ap (λ b. list_any (is_section_named name) ss || b) (or_false (bytes_eq name s.name) ∙ e) in
    let words : any_words name (ss ++ s ∷ []) ≡ (any_words name ss || (t && has_words s.body)) =
    list_any-append (λ (x : SectionData). is_section_named name x && has_words x.body) ss (s ∷ []) ∙ ap (λ b. any_words name ss || b) (or_false (bytes_eq name s.name && has_words s.body) ∙ ap (λ b. b && has_words s.body) e) in
    let size : size_of_sections name (ss ++ s ∷ []) ≡ size_of_sections name ss + cond t (body_size s.body) 0 =
    sum_by_push (size_for name) ss s ∙ ap (λ b. size_of_sections name ss + cond b (body_size s.body) 0) e in
    λ i. cond (any i) (Some (record { size = size i; initialised = words i })) None

-- a section more under its own name
pub output_same : (ss : List SectionData) (s : SectionData) → output_of s.name (ss ++ s ∷ []) ≡ Some (with_section (unwrap_or (output_of s.name ss) nothing) s)
output_same ss s =
    appended s.name ss s true (is_same s.name)
    ∙ ap (λ b. cond b (Some (record { size = size_of_sections s.name ss + body_size s.body; initialised = any_words s.name ss || has_words s.body })) None) (or_true (list_any (is_section_named s.name) ss))
    ∙ ap (λ (o : Output). Some (with_section o s)) (sym (so_far s.name ss))

-- under another name
pub output_other : (name : List ℕ) (ss : List SectionData) (s : SectionData) → bytes_eq name s.name ≡ false → output_of name (ss ++ s ∷ []) ≡ output_of name ss
output_other name ss s e =
    appended name ss s false e
    ∙ (λ i. cond (or_false (list_any (is_section_named name) ss) i) (Some (record { size = zeroed i; initialised = or_false (any_words name ss) i })) None)
  where
    zeroed : size_of_sections name ss + 0 ≡ size_of_sections name ss
    zeroed = omega arith

-- the step of a map from names
pub output_more : (name : List ℕ) (ss : List SectionData) (s : SectionData) → output_of name (ss ++ s ∷ []) ≡ cond (bytes_eq s.name name) (Some (with_section (unwrap_or (output_of s.name ss) nothing) s)) (output_of name ss)
output_more name ss s = by_test (bytes_eq s.name name) refl where
  by_test : (t : Bool) → bytes_eq s.name name ≡ t → output_of name (ss ++ s ∷ []) ≡ cond t (Some (with_section (unwrap_or (output_of s.name ss) nothing) s)) (output_of name ss)
  by_test true e = ap (λ n. output_of n (ss ++ s ∷ [])) (sym (same_name s.name name e)) ∙ output_same ss s
  by_test false e = output_other name ss s (turned name s.name ∙ e)

-- sizes of sections are bounded
size_for_small : (name : List ℕ) (s : SectionData) → body_size s.body ≤ 65536 → size_for name s ≤ 65536
size_for_small name s le = by_test (bytes_eq name s.name) where
  by_test : (t : Bool) → cond t (body_size s.body) 0 ≤ 65536
  by_test true = le
  by_test false = omega arith

pub sizes_small : (name : List ℕ) (ss : List SectionData) → All (λ s. body_size s.body ≤ 65536) ss → size_of_sections name ss ≤ length ss * 65536
sizes_small name ss all = sum_by-le (size_for name) 65536 ss (λ k d lt. size_for_small name (get_or ss k d) (all k d lt))

pub output_small : (name : List ℕ) (ss : List SectionData) → All (λ s. body_size s.body ≤ 65536) ss → (unwrap_or (output_of name ss) nothing).size ≤ length ss * 65536
output_small name ss all = omega (arith, ap (λ (o : Output). o.size) (so_far name ss), sizes_small name ss all)
