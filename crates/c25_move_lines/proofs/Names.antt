-- The names of local labels.
use Rattle.std.proofs.Common.{◌≡◌, ◌∙◌, ◌<◌, ◌≤◌, ◌+◌, ◌-◌, ◌^◌, ℕ, Bool, true, false, zero, suc, List, [], ◌∷◌, ◌++◌, append-nil, append_assoc, ap, sym, subst, refl, arith, inl, inr, None, MatchBool, codes, encode_utf8, length, map, replicate, slice_index_or}
use Rattle.std.proofs.lemmas.Bool.{cases_lt, false≢true}
use Rattle.std.proofs.lemmas.List.{get_or-append-add, get_or_append_left, length-append, map-append, replicate-append-replicate}
use Rattle.std.proofs.lemmas.Str.{encode_ascii}
use Rattle.std.proofs.lemmas.Str.Pattern.{contains_text}
use Rattle.std.proofs.lemmas.Fmt.{decimal_digit, decimal_injective, decimal_is_IsNumeral}
use Rattle.std.specs.Char.{digit_value}
use Rattle.std.specs.Fmt.{decimal}
use Rattle.std.specs.Str.Iter.{HasSubslice}
use Rattle.std.specs.Str.Parse.{AllDigits}
use Rattle.std.specs.Str.Pattern.{FindsText, HasMatch}
use Rattle.c25_move_lines.specs.LocalLabels.{AreNewNames, HasLocalNames, IsFree, IsLookedThrough, IsNewName, Scope, beginning, longer}

in_empty : (x : ℕ) (xs a b : List ℕ) → [] ≡ a ++ ((x ∷ xs) ++ b) → ⊥
in_empty x xs [] b h = absurd (cc)
in_empty x xs (y ∷ a) b h = absurd (cc)

none_in_empty : (x : ℕ) (xs : List ℕ) → HasSubslice [] (x ∷ xs) → ⊥
none_in_empty x xs h = in_empty x xs h.0 h.1 h.2

-- in an empty text each name is free
free_in_empty : (x : ℕ) (xs free : List ℕ) (count : ℕ) → free ≡ longer count (x ∷ xs) → ((fewer : ℕ) → fewer < count → HasSubslice [] (longer fewer (x ∷ xs))) → free ≡ x ∷ xs
free_in_empty x xs free zero is others = is ∙ append-nil (x ∷ xs)
free_in_empty x xs free (suc count) is others = absurd (none_in_empty x (xs ++ []) (others 0 (omega arith)))

-- where a name stands its front does
front_stands : (source front more : List ℕ) → HasSubslice source (front ++ more) → HasSubslice source front
front_stands source front more h = (h.0, more ++ h.1, h.2 ∙ ap (λ l. h.0 ++ l) (append_assoc front more h.1))

free_in_source : (source : List ℕ) (blocks digit : ℕ) (name : List ℕ) → digit < 10 → ¬ (HasLocalNames source) → IsNewName (record { source = []; blocks = blocks }) digit name
    → IsNewName (record { source = source; blocks = blocks }) digit name
free_in_source source blocks digit name small lacks h =
    let is : name ≡ beginning digit ++ decimal blocks = free_in_empty 90 ((decimal digit ++ codes "N") ++ decimal blocks) name h.count h.is h.others_stand in
    record {
      count = 0;
      is = is ∙ sym (append-nil (beginning digit ++ decimal blocks));
      stands_nowhere = λ there. lacks (digit, small, front_stands source (beginning digit) (decimal blocks) (subst (HasSubslice source) is there));
      others_stand = λ fewer none. absurd (omega (arith, none));
    }

-- names that are free in the text that is looked through are free in the source
pub new_names_in_source : (source text : List ℕ) (blocks : ℕ) (labels : List (List ℕ)) → IsLookedThrough source text → AreNewNames (record { source = text; blocks = blocks }) labels
    → AreNewNames (record { source = source; blocks = blocks }) labels
new_names_in_source source text blocks labels (inl same) h = subst (λ t. AreNewNames (record { source = t; blocks = blocks }) labels) same h
new_names_in_source source text blocks labels (inr none) h =
    let k : AreNewNames (record { source = []; blocks = blocks }) labels = subst (λ t. AreNewNames (record { source = t; blocks = blocks }) labels) none.0 h in
    record {
      count = k.count;
      each = λ digit small. free_in_source source blocks digit (slice_index_or labels digit []) small none.1 (k.each digit small);
    }

-- ---- names of two labels

first_same : (x y : ℕ) (xs ys : List ℕ) → x ∷ xs ≡ y ∷ ys → x ≡ y
first_same x y xs ys h = cc

rest_same : (x y : ℕ) (xs ys : List ℕ) → x ∷ xs ≡ y ∷ ys → xs ≡ ys
rest_same x y xs ys h = cc

no_digit : (y : ℕ) → 95 ≡ y → digit_value y < 10 → ⊥
no_digit y h k = absurd (omega (arith, subst (λ z. digit_value z < 10) (sym h) k))

none_before : (n y : ℕ) (ys : List ℕ) → digit_value y < 10 → replicate n 95 ≡ y ∷ ys → ⊥
none_before zero y ys d h = absurd (cc)
none_before (suc n) y ys d h = no_digit y (first_same 95 y (replicate n 95) ys h) d

-- digits before `_` are the same where the texts are
same_digits : (xs ys : List ℕ) (n m : ℕ) → AllDigits 10 xs → AllDigits 10 ys → xs ++ replicate n 95 ≡ ys ++ replicate m 95 → xs ≡ ys
same_digits [] [] n m d e h = refl
same_digits [] (y ∷ ys) n m d e h = absurd (none_before n y (ys ++ replicate m 95) e.0 h)
same_digits (x ∷ xs) [] n m d e h = absurd (none_before m x (xs ++ replicate n 95) d.0 (sym h))
same_digits (x ∷ xs) (y ∷ ys) n m d e h =
    let first : x ≡ y = first_same x y (xs ++ replicate n 95) (ys ++ replicate m 95) h in
    let more : xs ≡ ys = same_digits xs ys n m d.1 e.1 (rest_same x y (xs ++ replicate n 95) (ys ++ replicate m 95) h) in
    ap (λ z. z ∷ xs) first ∙ ap (λ zs. y ∷ zs) more

-- a name as it is written
spelled : (blocks digit count : ℕ) → digit < 10 → longer count (beginning digit ++ decimal blocks) ≡ 90 ∷ (48 + digit) ∷ 78 ∷ (decimal blocks ++ replicate count 95)
spelled blocks digit count small = ap (λ d. longer count ((codes "Z" ++ d ++ codes "N") ++ decimal blocks)) (decimal_digit digit small)

-- two labels with one name are the same
pub names_differ : (source : List ℕ) (blocks others digit other : ℕ) (name : List ℕ) → blocks < 2 ^ 64 → others < 2 ^ 64 → digit < 10 → other < 10
    → IsNewName (record { source = source; blocks = blocks }) digit name → IsNewName (record { source = source; blocks = others }) other name → (blocks ≡ others) × (digit ≡ other)
names_differ source blocks others digit other name b o d e h k =
    let same = sym (spelled blocks digit h.count d) ∙ sym h.is ∙ k.is ∙ spelled others other k.count e in
    let after = rest_same 90 90 _ _ same in
    let digits = first_same (48 + digit) (48 + other) _ _ after in
    let numbers = rest_same 78 78 _ _ (rest_same (48 + digit) (48 + other) _ _ after) in
    (decimal_injective blocks others b o (same_digits (decimal blocks) (decimal others) h.count k.count (decimal_is_IsNumeral blocks b).0.1 (decimal_is_IsNumeral others o).0.1 numbers), omega (arith, digits))

pub name_stands_nowhere : (scope : Scope) (digit : ℕ) (name : List ℕ) → IsNewName scope digit name → ¬ (HasSubslice scope.source name)
name_stands_nowhere scope digit name h = h.stands_nowhere

-- ---- whether a name stands in a text

pub stands : (r : Bool) (n s : List ℕ) → MatchBool r (HasMatch (FindsText n) s) (FindsText n s None) → MatchBool r (HasSubslice s n) (¬ (HasSubslice s n))
stands true n s h = (contains_text true n s h).0 refl
stands false n s h = λ there. false≢true ((contains_text false n s h).1 there)

pub stands_same : (r : Bool) (text part same : List ℕ) → part ≡ same → MatchBool r (HasSubslice text part) (¬ (HasSubslice text part)) → MatchBool r (HasSubslice text same) (¬ (HasSubslice text same))
stands_same r text part same is h = subst (λ p. MatchBool r (HasSubslice text p) (¬ (HasSubslice text p))) is h

-- no name of a digit below this one stands in the text
abbrev pub LacksBelow : List ℕ → ℕ → Type 0
LacksBelow text n = (digit : ℕ) → digit < n → ¬ (HasSubslice text (beginning digit))

pub no_name_before : (text : List ℕ) → LacksBelow text 0
no_name_before text = λ digit none. absurd (omega (arith, none))

pub one_name_less : (text : List ℕ) (n : ℕ) → LacksBelow text n → ¬ (HasSubslice text (beginning n)) → LacksBelow text (n + 1)
one_name_less text n below here = λ digit small there. elim (cases_lt digit n) [
  | inl less ↦ below digit less there
  | inr more ↦
      let last : n ≡ digit = omega (arith, small, more) in
      here (subst (λ d. HasSubslice text (beginning d)) (sym last) there)
]

pub has_a_name : (text : List ℕ) (digit : ℕ) → digit < 10 → HasSubslice text (beginning digit) → HasLocalNames text
has_a_name text digit small there = (digit, small, there)

pub has_no_name : (text : List ℕ) (n : ℕ) → 10 ≤ n → LacksBelow text n → ¬ (HasLocalNames text)
has_no_name text n all below = λ h. below h.0 (omega (arith, all, h.1)) h.2

-- ---- a name that is made longer

-- a name with some `_` after it, and with fewer it stands in the source
pub record IsLong (source name free : List ℕ) : Type 0 where
  pub count : ℕ
  pub is : free ≡ longer count name
  pub others_stand : (fewer : ℕ) → fewer < count → HasSubslice source (longer fewer name)

pub begins_long : (source name free : List ℕ) → free ≡ name → IsLong source name free
begins_long source name free h = record { count = 0; is = h ∙ sym (append-nil name); others_stand = λ fewer none. absurd (omega (arith, none)) }

underscore : encode_utf8 95 ≡ 95 ∷ []
underscore = encode_ascii 95 (omega arith)

more_underscores : (name : List ℕ) (count : ℕ) → longer count name ++ encode_utf8 95 ≡ longer (count + 1) name
more_underscores name count =
    ap (λ l. longer count name ++ l) underscore ∙ append_assoc name (replicate count 95) (95 ∷ []) ∙ ap (λ l. name ++ l) (replicate-append-replicate count 1 95)

pub grows_long : (source name free more : List ℕ) → IsLong source name free → HasSubslice source free → more ≡ free ++ encode_utf8 95 → IsLong source name more
grows_long source name free more h there pushed = record {
  count = h.count + 1;
  is = pushed ∙ ap (λ l. l ++ encode_utf8 95) h.is ∙ more_underscores name h.count;
  others_stand = λ fewer small. elim (cases_lt fewer h.count) [
    | inl less ↦ h.others_stand fewer less
    | inr all ↦
        let last : h.count ≡ fewer = omega (arith, small, all) in
        subst (HasSubslice source) (h.is ∙ ap (λ n. longer n name) last) there
  ];
}

pub is_long : (source name free : List ℕ) → IsLong source name free → ¬ (HasSubslice source free) → IsFree source name free
is_long source name free h nowhere = record { count = h.count; is = h.is; stands_nowhere = nowhere; others_stand = h.others_stand }

fits : (source part : List ℕ) → HasSubslice source part → length part ≤ length source
fits source part h =
    let all : length source ≡ length h.0 + (length part + length h.1) = ap length h.2 ∙ length-append h.0 (part ++ h.1) ∙ ap (λ (n : ℕ). length h.0 + n) (length-append part h.1) in
    omega (arith, all)

pub less_left : (source free more : List ℕ) → HasSubslice source free → more ≡ free ++ encode_utf8 95 → (length source + 1) - length more < (length source + 1) - length free
less_left source free more there pushed =
    let grown : length more ≡ length free + 1 = ap length pushed ∙ length-append free (encode_utf8 95) ∙ ap (λ l. length free + length l) underscore in
    omega (arith, grown, fits source free there)

-- ---- the names of all digits

-- names of the digits below this one
abbrev pub AreNamesBelow : Scope → ℕ → List (List ℕ) → Type 0
AreNamesBelow scope n labels = (length labels ≡ n) × ((digit : ℕ) → digit < n → IsNewName scope digit (slice_index_or labels digit []))

pub no_names : (scope : Scope) → AreNamesBelow scope 0 []
no_names scope = (refl, λ digit none. absurd (omega (arith, none)))

one_more : (scope : Scope) (n : ℕ) (labels : List (List ℕ)) (name : List ℕ) → AreNamesBelow scope n labels → IsNewName scope n name → AreNamesBelow scope (n + 1) (labels ++ name ∷ [])
one_more scope n labels name h new = (
  length-append labels (name ∷ []) ∙ ap (λ k. k + 1) h.0,
  λ digit small. elim (cases_lt digit n) [
    | inl less ↦ subst (IsNewName scope digit) (sym (get_or_append_left labels (name ∷ []) [] digit (omega (arith, h.0, less)))) (h.1 digit less)
    | inr more ↦
        let last : n ≡ digit = omega (arith, small, more) in
        let at : digit ≡ length labels + 0 = omega (arith, last, h.0) in
        let there : slice_index_or (labels ++ name ∷ []) digit [] ≡ name = ap (λ (k : ℕ). slice_index_or (labels ++ name ∷ []) k []) at ∙ get_or-append-add labels (name ∷ []) 0 [] in
        subst (IsNewName scope digit) (sym there) (subst (λ d. IsNewName scope d name) last new)
  ],
)

pub one_name_more : {A : Type 0} (view : A → List ℕ) (scope : Scope) (n : ℕ) (items more : List A) (x : A) → more ≡ items ++ x ∷ [] → AreNamesBelow scope n (map view items) → IsNewName scope n (view x)
    → AreNamesBelow scope (n + 1) (map view more)
one_name_more view scope n items more x pushed h new =
    subst (AreNamesBelow scope (n + 1)) (sym (ap (map view) pushed ∙ map-append view items (x ∷ []))) (one_more scope n (map view items) (view x) h new)

pub all_names : (scope : Scope) (n : ℕ) (labels : List (List ℕ)) → n ≡ 10 → AreNamesBelow scope n labels → AreNewNames scope labels
all_names scope n labels ten h =
    let k : AreNamesBelow scope 10 labels = subst (λ n. AreNamesBelow scope n labels) ten h in
    record { count = k.0; each = k.1 }
