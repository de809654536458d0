-- What is written for a text, a fragment at a time.
use Rattle.std.proofs.Common.{◌≡◌, ℕ, zero, suc, ◌-◌, ◌<◌, ◌≤◌, List, [], ◌∷◌, ◌++◌, length, get_or, drop, refl, ap, sym, subst, ◌∙◌, arith, append_assoc, append-nil, add_assoc, length-append, Result, Ok, Err}
use Rattle.std.proofs.lemmas.List.{length-drop}
use Rattle.c25_meaning_language.specs.Quoting.{behind}
use Rattle.c25_meaning_language.specs.Fragments.{Replacements, without, Fragment, front, fragments}
use Rattle.c25_meaning_language.specs.Substitution.{Draft, as_is, joined, all_joined, drafted_by, drafted}
use Rattle.c25_meaning_language.specs.declared.long_line.LongLine.{LongLine}
use Rattle.c25_meaning_common.specs.declared.failure.Failure.{Failure}
use Rattle.c25_meaning_common.specs.declared.failure.Failure.TheVariants.{NoMemory, Fault}
use Rattle.c25_meaning_language.specs.declared.quoting.Quoting.{Quoting}
use Rattle.c25_substitution.specs.View.{Refuses, Writes}

pub same_draft : (a b : Draft) → a.text ≡ b.text → a.replacements ≡ b.replacements → a ≡ b
same_draft a b t n =
    let with : List ℕ → ℕ → Draft = λ text replacements. record { text = text; replacements = replacements } in
    ap (λ text. with text a.replacements) t ∙ ap (with b.text) n

pub joined_assoc : (a b c : Draft) → joined (joined a b) c ≡ joined a (joined b c)
joined_assoc a b c = same_draft (joined (joined a b) c) (joined a (joined b c)) (append_assoc a.text b.text c.text) (add_assoc a.replacements b.replacements c.replacements)

pub joined-nothing : (a : Draft) → joined a (as_is []) ≡ a
joined-nothing a = same_draft (joined a (as_is [])) a (append-nil a.text) (omega arith)

-- what is too long stays so
pub Refuses-joined : (a b : Draft) (e : Failure LongLine) → Refuses a e → Refuses (joined a b) e
Refuses-joined a b (NoMemory m) h = tt
Refuses-joined a b (Fault f) h = omega (arith, h, length-append a.text b.text)

pub nothing-joined : (a : Draft) → joined (as_is []) a ≡ a
nothing-joined a = same_draft (joined (as_is []) a) a refl (omega arith)

-- the first of two texts is too long, or the second of three
pub first_refused : (old a b : Draft) (e : Failure LongLine) → Refuses (joined old a) e → Refuses (joined old (joined a b)) e
first_refused old a b e h = subst (λ w. Refuses w e) (joined_assoc old a b) (Refuses-joined (joined old a) b e h)

pub second_refused : (old so_far a b c : Draft) (e : Failure LongLine) → so_far ≡ joined old a → Refuses (joined so_far b) e → Refuses (joined old (joined a (joined b c))) e
second_refused old so_far a b c e is h = subst (λ w. Refuses w e) (joined_assoc old a (joined b c)) (first_refused (joined old a) b c e (subst (λ o. Refuses (joined o b) e) is h))

-- what is written after a text is written with that text
pub written_behind : {A : Type 0} (old so_far a b new : Draft) (r : Result A (Failure LongLine)) → so_far ≡ joined old a → Writes so_far b r new → Writes old (joined a b) r new
written_behind old so_far a b new (Ok x) is h = (h.0 ∙ ap (λ o. joined o b) is ∙ joined_assoc old a b, h.1)
written_behind old so_far a b new (Err e) is h = subst (λ w. Refuses w e) (joined_assoc old a b) (subst (λ o. Refuses (joined o b) e) is h)

-- a fragment that covers more bytes
fragments-skip : (names : Replacements) (q : Quoting) (k : ℕ) (text : List ℕ) → fragments names q k text ≡ fragments names q 0 (drop k text)
unfolding fragments
fragments-skip names q zero text = refl
fragments-skip names q (suc k) [] = refl
fragments-skip names q (suc k) (b ∷ text) = fragments-skip names q k text

-- the first fragment, and those of the rest
fragments-first : (names : Replacements) (q : Quoting) (text : List ℕ) → 0 < length text → 0 < (front names q text).size →
    fragments names q 0 text ≡ (front names q text).fragment ∷ fragments names (behind (get_or text 0 0) q) 0 (drop (front names q text).size text)
unfolding fragments
fragments-first names q [] h s = absurd (omega arith)
fragments-first names q (b ∷ rest) h s =
    let size : ℕ = (front names q (b ∷ rest)).size in
    let e : suc (size - 1) ≡ size = omega (arith, s) in
    ap (λ ps. (front names q (b ∷ rest)).fragment ∷ ps) (fragments-skip names (behind b q) (size - 1) rest ∙ ap (λ k. fragments names (behind b q) 0 (drop k (b ∷ rest))) e)

pub drafted-empty : (d : ℕ) (names : Replacements) (number : ℕ) (aside : List (List ℕ)) (q : Quoting) → drafted d names number aside q [] ≡ as_is []
unfolding drafted fragments
drafted-empty zero names number aside q = refl
drafted-empty (suc d) names number aside q = refl

drafted-first : (d : ℕ) (names : Replacements) (number : ℕ) (aside : List (List ℕ)) (q : Quoting) (text : List ℕ) → 0 < length text → 0 < (front (without aside names) q text).size →
    drafted (suc d) names number aside q text
    ≡ joined (drafted_by (λ name inner begins. drafted d names number (aside ++ name ∷ []) begins inner) number (front (without aside names) q text).fragment)
    (drafted (suc d) names number aside (behind (get_or text 0 0) q) (drop (front (without aside names) q text).size text))
unfolding drafted
drafted-first d names number aside q text h s =
    ap (all_joined (drafted_by (λ name inner begins. drafted d names number (aside ++ name ∷ []) begins inner) number)) (fragments-first (without aside names) q text h s)

-- at the depth of the code: one less for each name set aside
module _ (names : Replacements) (number : ℕ) (level : ℕ) (aside : List (List ℕ)) where
  abbrev pub whole : Quoting → List ℕ → Draft
  whole q text = drafted (1025 - level) names number aside q text

  abbrev pub part : Fragment → Draft
  part p = drafted_by (λ name inner begins. drafted (1024 - level) names number (aside ++ name ∷ []) begins inner) number p

  pub step : (q : Quoting) (rest after : List ℕ) (p : Fragment) (first : ℕ) → level ≤ 1024 → 0 < length rest →
      p ≡ (front (without aside names) q rest).fragment → after ≡ drop (front (without aside names) q rest).size rest → length after < length rest → first ≡ get_or rest 0 0 →
      whole q rest ≡ joined (part p) (whole (behind first q) after)
  step q rest after p first deep more fragment cut shorter byte =
      let depth : suc (1024 - level) ≡ 1025 - level = omega (arith, deep) in
      let size : ℕ = (front (without aside names) q rest).size in
      let left : length after ≡ length rest - size = ap length cut ∙ length-drop size rest in
      let some : 0 < size = omega (arith, shorter, left) in
      ap (λ d. drafted d names number aside q rest) (sym depth)
      ∙ drafted-first (1024 - level) names number aside q rest more some
      ∙ ap (λ d. joined (part (front (without aside names) q rest).fragment) (drafted d names number aside (behind (get_or rest 0 0) q) (drop size rest))) depth
      ∙ ap (λ x. joined (part x) (whole (behind (get_or rest 0 0) q) (drop size rest))) (sym fragment)
      ∙ ap (λ b. joined (part p) (whole (behind b q) (drop size rest))) (sym byte)
      ∙ ap (λ t. joined (part p) (whole (behind first q) t)) (sym cut)

  module _ (q : Quoting) (rest after : List ℕ) (p : Fragment) (first : ℕ) (deep : level ≤ 1024) (more : 0 < length rest)
      (fragment : p ≡ (front (without aside names) q rest).fragment) (cut : after ≡ drop (front (without aside names) q rest).size rest) (shorter : length after < length rest) (byte : first ≡ get_or rest 0 0)
      (old all : Draft) (so_far : joined old (whole q rest) ≡ all) where
    joins : joined (joined old (part p)) (whole (behind first q) after) ≡ all
    joins = joined_assoc old (part p) (whole (behind first q) after) ∙ ap (joined old) (sym (step q rest after p first deep more fragment cut shorter byte)) ∙ so_far

    pub goes_on : (new : Draft) → new ≡ joined old (part p) → joined new (whole (behind first q) after) ≡ all
    goes_on new e = ap (λ w. joined w (whole (behind first q) after)) e ∙ joins

    pub refuses : (e : Failure LongLine) → Refuses (joined old (part p)) e → Refuses all e
    refuses e h = subst (λ w. Refuses w e) joins (Refuses-joined (joined old (part p)) (whole (behind first q) after) e h)

  pub ends : (q : Quoting) (rest : List ℕ) (old all : Draft) → length rest ≡ 0 → joined old (whole q rest) ≡ all → old ≡ all
  ends q [] old all h so_far = sym (joined-nothing old) ∙ ap (joined old) (sym (drafted-empty (1025 - level) names number aside q)) ∙ so_far
  ends q (b ∷ rest) old all h so_far = absurd (omega arith)
