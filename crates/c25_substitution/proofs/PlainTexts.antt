-- A text without `?` in which no name stands for a text is kept as it is.
use Rattle.std.proofs.Common.{◌≡◌, ℕ, zero, suc, ◌+◌, ◌-◌, ◌<◌, ◌≤◌, ◌==◌, max, Bool, true, false, ◌&&◌, if◌then◌else◌, List, [], ◌∷◌, ◌++◌, length, take, drop, Option, Some, None, Ok, Err, nat_le, refl, sym, ap, subst, ◌∙◌, arith}
use Rattle.std.specs.Prelude.{slice_index, option_map, option_and_then}
use Rattle.std.specs.List.{prefix_len, take_while}
use Rattle.std.proofs.lemmas.Bool.Decides.{nat_tests}
use Rattle.std.proofs.lemmas.List.{take-append-drop}
use Rattle.std.proofs.lemmas.List.Folds.{length-prefix_len}
use Rattle.c25_meaning_common.specs.Bytes.{is_digit, is_letter_or_digit, begins_name, goes_on_name}
use Rattle.c25_substitution.specs.PlainTexts.{StandsForNothing, HasNoMark}
use Rattle.c25_meaning_language.specs.Quoting.{behind}
use Rattle.c25_meaning_language.specs.Fragments.{Replacements, without, Kept, Replaced, Front, kept, character, whole_name, unit, unforced, forced, forced_or, front, fragments, is_beyond_ascii}
use Rattle.c25_meaning_language.specs.Substitution.{Draft, as_is, joined, all_joined, drafted_by, drafted, measured, too_long, line_quoting, substituted, unsubstituted}
use Rattle.c25_meaning_language.specs.declared.quoting.Quoting.{Quoting}
use Rattle.c25_meaning_language.specs.declared.quoting.Quoting.TheVariants.{Outside, Within, Throughout, Comment}

-- a fragment that is kept, of at least one byte
record Keeps (text : List ℕ) (f : Front) : Type 0 where
  pub fragment : f.fragment ≡ Kept (take f.size text)
  pub some : 0 < f.size

-- ---- runs

first_passes : (p : ℕ → Bool) (b : ℕ) (rest : List ℕ) → p b ≡ true → 0 < prefix_len p (b ∷ rest)
first_passes p b rest h = rw h (omega arith)

digit_goes_on : (b : ℕ) → is_digit b ≡ true → is_letter_or_digit b ≡ true
digit_goes_on b h = grind (arith, nat_tests)

name_goes_on : (b : ℕ) → begins_name b ≡ true → goes_on_name b ≡ true
name_goes_on b h = grind (arith, nat_tests)

-- ---- one fragment

keeps_if : (text : List ℕ) (b : Bool) (x y : Front) → (b ≡ true → Keeps text x) → (b ≡ false → Keeps text y) → Keeps text (if b then x else y)
keeps_if text true x y h k = h refl
keeps_if text false x y h k = k refl

keeps_kept : (size : ℕ) (text : List ℕ) → 0 < size → Keeps text (kept size text)
keeps_kept size text h = record { fragment = refl; some = h }

keeps_character : (text : List ℕ) → Keeps text (character text)
keeps_character text = keeps_kept (max (prefix_len is_beyond_ascii text) 1) text (omega arith)

keeps_name : (names : Replacements) (text : List ℕ) (marked : Bool) → 0 < prefix_len goes_on_name text → names (take_while goes_on_name text) ≡ None → marked ≡ false → Keeps text (whole_name names (take_while goes_on_name text) marked)
keeps_name names text true some none unmarked = absurd (cc)
keeps_name names text false some none unmarked =
    let name : List ℕ = take_while goes_on_name text in
    let same : prefix_len goes_on_name text ≡ length name = sym (length-prefix_len goes_on_name text) in
    let as_written : Keeps text (record { fragment = Kept name; size = length name }) = record { fragment = ap (λ n. Kept (take n text)) same; some = omega (arith, some, same) } in
    subst (λ (o : Option (List ℕ)). Keeps text (elim o [ None ↦ record { fragment = Kept name; size = length name } | Some inner ↦ record { fragment = Replaced name inner Outside; size = length name } ])) (sym none) as_written

-- outside quotes
keeps_unit : (names : Replacements) (b : ℕ) (rest : List ℕ) → StandsForNothing names (b ∷ rest) → HasNoMark (b ∷ rest) → Keeps (b ∷ rest) (unit names (b ∷ rest))
keeps_unit names b rest none unmarked =
    keeps_if (b ∷ rest) (is_digit b) _ _
    (λ digit. keeps_kept (prefix_len is_letter_or_digit (b ∷ rest)) (b ∷ rest) (first_passes is_letter_or_digit b rest (digit_goes_on b digit)))
    (λ _. keeps_if (b ∷ rest) (b == 46 && begins_name (slice_index (b ∷ rest) 1)) _ _
    (λ _. keeps_kept (prefix_len goes_on_name (drop 1 (b ∷ rest)) + 1) (b ∷ rest) (omega arith))
    (λ _. keeps_if (b ∷ rest) (begins_name b) _ _
    (λ begins. keeps_name names (b ∷ rest) _ (first_passes goes_on_name b rest (name_goes_on b begins)) (none 0) (unmarked (prefix_len goes_on_name (b ∷ rest))))
    (λ _. keeps_character (b ∷ rest))))

keeps_unforced : (names : Replacements) (q : Quoting) (b : ℕ) (rest : List ℕ) → StandsForNothing names (b ∷ rest) → HasNoMark (b ∷ rest) → Keeps (b ∷ rest) (unforced names q (b ∷ rest))
keeps_unforced names Outside b rest none unmarked = keeps_unit names b rest none unmarked
keeps_unforced names (Within quote) b rest none unmarked = keeps_character (b ∷ rest)
keeps_unforced names Throughout b rest none unmarked = keeps_character (b ∷ rest)
keeps_unforced names Comment b rest none unmarked = keeps_character (b ∷ rest)

no_text : (names : Replacements) (name : List ℕ) (b : Bool) → names name ≡ None → option_and_then {U = List ℕ × List ℕ} (λ n. option_map (λ inner. (n, inner)) (names n)) (if b then Some name else None) ≡ None
no_text names name true h = rw h refl
no_text names name false h = refl

not_forced : (names : Replacements) (q : Quoting) (text : List ℕ) → StandsForNothing names text → forced names q text ≡ None
not_forced names Outside text none = no_text names (take_while goes_on_name (drop 1 text)) _ (none 1)
not_forced names (Within quote) text none = no_text names (take_while goes_on_name (drop 1 text)) _ (none 1)
not_forced names Throughout text none = no_text names (take_while goes_on_name (drop 1 text)) _ (none 1)
not_forced names Comment text none = refl

keeps_front : (names : Replacements) (q : Quoting) (b : ℕ) (rest : List ℕ) → StandsForNothing names (b ∷ rest) → HasNoMark (b ∷ rest) → Keeps (b ∷ rest) (front names q (b ∷ rest))
unfolding front
keeps_front names q b rest none unmarked =
    subst (λ o. Keeps (b ∷ rest) (forced_or o q (unforced names q (b ∷ rest)))) (sym (not_forced names q (b ∷ rest) none)) (keeps_unforced names q b rest none unmarked)

-- ---- all of them

rejoined : (n : ℕ) (b : ℕ) (rest : List ℕ) → 0 < n → take n (b ∷ rest) ++ drop (n - 1) rest ≡ b ∷ rest
rejoined zero b rest h = absurd (omega arith)
rejoined (suc n) b rest h =
    let less : suc n - 1 ≡ n = omega arith in
    ap (λ k. take (suc n) (b ∷ rest) ++ drop k rest) less ∙ ap (λ xs. b ∷ xs) (take-append-drop n rest)

all_kept : (replace : List ℕ → List ℕ → Quoting → Draft) (number : ℕ) (names : Replacements) (q : Quoting) (skip : ℕ) (text : List ℕ) → StandsForNothing names text → HasNoMark text →
    all_joined (drafted_by replace number) (fragments names q skip text) ≡ as_is (drop skip text)
unfolding fragments
all_kept replace number names q zero [] none unmarked = refl
all_kept replace number names q (suc skip) [] none unmarked = refl
all_kept replace number names q (suc skip) (b ∷ rest) none unmarked = all_kept replace number names q skip rest (λ i. none (suc i)) (λ i. unmarked (suc i))
all_kept replace number names q zero (b ∷ rest) none unmarked =
    let f : Front = front names q (b ∷ rest) in
    let k = keeps_front names q b rest none unmarked in
    let others : Draft = all_joined (drafted_by replace number) (fragments names (behind b q) (f.size - 1) rest) in
    ap (λ x. joined (drafted_by replace number x) others) k.fragment
    ∙ ap (joined (as_is (take f.size (b ∷ rest)))) (all_kept replace number names (behind b q) (f.size - 1) rest (λ i. none (suc i)) (λ i. unmarked (suc i)))
    ∙ ap as_is (rejoined f.size b rest k.some)

drafted_kept : (depth : ℕ) (names : Replacements) (number : ℕ) (q : Quoting) (text : List ℕ) → StandsForNothing names text → HasNoMark text → drafted (suc depth) names number [] q text ≡ as_is text
unfolding drafted
drafted_kept depth names number q text none unmarked = all_kept _ number (without [] names) q 0 text none unmarked

-- the line, with the same test of its length
pub line_kept : (names : Replacements) (number : ℕ) (line : List ℕ) → StandsForNothing names line → HasNoMark line → substituted names number line ≡ unsubstituted line
line_kept names number line none unmarked = ap measured (drafted_kept 1024 names number (line_quoting line) line none unmarked)

pub short_kept : (line : List ℕ) → length line ≤ 1024 → unsubstituted line ≡ Ok line
short_kept line h =
    let fits : nat_le (max (length line) 0) 1024 ≡ true = grind (arith, nat_tests) in
    ap (λ b. if b then Ok line else Err too_long) fits
