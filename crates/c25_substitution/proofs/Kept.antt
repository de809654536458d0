-- What is kept of a text stands in it, and a comment is kept.
use Rattle.std.proofs.Common.{◌≡◌, ℕ, zero, suc, ◌+◌, ◌-◌, ◌&&◌, ◌==◌, max, Bool, true, false, cond, List, [], ◌∷◌, ◌++◌, length, take, drop, Option, Some, None, refl, ap, sym, subst, ◌∙◌, arith, length-take-le, take-append-drop}
use Rattle.std.specs.List.{prefix_len, take_while}
use Rattle.std.specs.Prelude.{slice_index}
use Rattle.std.proofs.lemmas.List.Sums.{prefix_len-le-length}
use Rattle.c25_meaning_common.specs.Bytes.{is_digit, is_letter_or_digit, begins_name, goes_on_name}
use Rattle.c25_meaning_language.specs.Fragments.{Replacements, without, Fragment, Kept, Numbered, Replaced, Front, is_beyond_ascii, kept, character, whole_name, unit, unforced, forced, forced_or, front, fragments}
use Rattle.c25_meaning_language.specs.Substitution.{Draft, as_is, joined, all_joined, drafted_by, drafted, rewritten}
use Rattle.c25_meaning_language.specs.declared.quoting.Quoting.{Quoting}
use Rattle.c25_meaning_language.specs.declared.quoting.Quoting.TheVariants.{Outside, Within, Throughout, Comment}

abbrev IsCut : Fragment → List ℕ → List ℕ → Type 0
IsCut (Kept kept) text rest = kept ++ rest ≡ text
IsCut (Numbered name) text rest = Unit {0}
IsCut (Replaced name inner quoting) text rest = Unit {0}

abbrev IsCutBy : Front → List ℕ → Type 0
IsCutBy f text = IsCut f.fragment text (drop f.size text)

abbrev by_text : List ℕ → Option (List ℕ) → Front
by_text name o = elim o [
  | None ↦ record { fragment = Kept name; size = length name }
  | Some text ↦ record { fragment = Replaced name text Outside; size = length name }
]

by_option : (name text : List ℕ) (o : Option (List ℕ)) → name ++ drop (length name) text ≡ text → IsCutBy (by_text name o) text
by_option name text None h = h
by_option name text (Some inner) h = tt

of_name : (names : Replacements) (name text : List ℕ) (numbered : Bool) → name ++ drop (length name) text ≡ text → IsCutBy (whole_name names name numbered) text
of_name names name text true h = tt
of_name names name text false h = by_option name text (names name) h

by_test : (b : Bool) (f g : Front) (text : List ℕ) → IsCutBy f text → IsCutBy g text → IsCutBy (cond b f g) text
by_test true f g text h k = h
by_test false f g text h k = k

of_kept : (size : ℕ) (text : List ℕ) → IsCutBy (kept size text) text
of_kept size text = take-append-drop size text

of_word : (text : List ℕ) → take_while goes_on_name text ++ drop (length (take_while goes_on_name text)) text ≡ text
of_word text =
    let n : ℕ = prefix_len goes_on_name text in
    ap (λ k. take n text ++ drop k text) (length-take-le n text (prefix_len-le-length goes_on_name text)) ∙ take-append-drop n text

of_unit : (names : Replacements) (text : List ℕ) → IsCutBy (unit names text) text
of_unit names text =
    let name : List ℕ = take_while goes_on_name text in
    let numbered : Bool = slice_index text (prefix_len goes_on_name text) == 63 in
    let whole : Front = whole_name names name numbered in
    let constant : Front = kept (prefix_len is_letter_or_digit text) text in
    let dotted : Front = kept (prefix_len goes_on_name (drop 1 text) + 1) text in
    let digit : Bool = is_digit (slice_index text 0) in
    let dot : Bool = slice_index text 0 == 46 && begins_name (slice_index text 1) in
    let begins : Bool = begins_name (slice_index text 0) in
    let one : IsCutBy (character text) text = of_kept (max (prefix_len is_beyond_ascii text) 1) text in
    let last : Front = cond begins whole (character text) in
    by_test digit constant (cond dot dotted last) text (of_kept (prefix_len is_letter_or_digit text) text)
    (by_test dot dotted last text (of_kept (prefix_len goes_on_name (drop 1 text) + 1) text)
    (by_test begins whole (character text) text (of_name names name text numbered (of_word text)) one))

of_unforced : (names : Replacements) (q : Quoting) (text : List ℕ) → IsCutBy (unforced names q text) text
of_unforced names Outside text = of_unit names text
of_unforced names (Within quote) text = of_kept (max (prefix_len is_beyond_ascii text) 1) text
of_unforced names Throughout text = of_kept (max (prefix_len is_beyond_ascii text) 1) text
of_unforced names Comment text = of_kept (max (prefix_len is_beyond_ascii text) 1) text

of_forced : (q : Quoting) (other : Front) (text : List ℕ) (o : Option (List ℕ × List ℕ)) → IsCutBy other text → IsCutBy (forced_or o q other) text
of_forced q other text None k = k
of_forced q other text (Some s) k = tt

cuts : (names : Replacements) (q : Quoting) (text : List ℕ) → IsCutBy (front names q text) text
unfolding front
cuts names q text = of_forced q (unforced names q text) text (forced names q text) (of_unforced names q text)

-- a fragment that is kept, and what follows
pub kept_front : (names : Replacements) (q : Quoting) (text kept : List ℕ) (p : Fragment) → p ≡ Kept kept → p ≡ (front names q text).fragment → kept ++ drop (front names q text).size text ≡ text
kept_front names q text kept p k e = subst (λ x. IsCut x text (drop (front names q text).size text)) (sym e ∙ k) (cuts names q text)

comment_fragments : (replace : List ℕ → List ℕ → Quoting → Draft) (number : ℕ) (names : Replacements) (k : ℕ) (text : List ℕ) → all_joined (drafted_by replace number) (fragments names Comment k text) ≡ as_is (drop k text)
unfolding fragments front
comment_fragments replace number names zero [] = refl
comment_fragments replace number names (suc k) [] = refl
comment_fragments replace number names (suc k) (b ∷ rest) = comment_fragments replace number names k rest
comment_fragments replace number names zero (b ∷ rest) =
    let n : ℕ = max (prefix_len is_beyond_ascii (b ∷ rest)) 1 in
    let e : suc (n - 1) ≡ n = omega arith in
    ap (joined (as_is (take n (b ∷ rest)))) (comment_fragments replace number names (n - 1) rest)
    ∙ ap (λ k. as_is (take n (b ∷ rest) ++ drop k (b ∷ rest))) e ∙ ap as_is (take-append-drop n (b ∷ rest))

drafted_comment : (d : ℕ) (names : Replacements) (number : ℕ) (aside : List (List ℕ)) (text : List ℕ) → drafted (suc d) names number aside Comment text ≡ as_is text
unfolding drafted
drafted_comment d names number aside text = comment_fragments (λ name inner begins. drafted d names number (aside ++ name ∷ []) begins inner) number (without aside names) 0 text

-- a comment stays as it is
pub comment_stays : (names : Replacements) (number : ℕ) (text : List ℕ) → rewritten names number Comment text ≡ as_is text
comment_stays names number text = drafted_comment 1024 names number [] text
