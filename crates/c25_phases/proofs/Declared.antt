-- Declared names: how many of them are not defined, and that they come after the others, each once.
use denote.Ref.{Bor}
use Rattle.std.proofs.Common.{◌≡◌, ℕ, zero, suc, ◌+◌, ◌≤◌, ◌<◌, Bool, true, false, cond, not, ◌||◌, List, [], ◌∷◌, ◌++◌, length, take, get_or, slice_get, Option, Some, None, is_some, pos, refl, sym, ap, ◌∙◌, arith}
use Rattle.std.specs.List.{filter}
use Rattle.std.specs.Option.{option_map}
use Rattle.std.specs.Str.{bytes_eq}
use Rattle.std.proofs.lemmas.List.{append_assoc, append-nil, length-append}
use Rattle.std.proofs.lemmas.List.Elements.{filter_more}
use Rattle.std.proofs.lemmas.Option.{slice_get_within, get_or_from_slice_get, slice_get-get_or}
use Rattle.std.proofs.lemmas.Slice.Eq.{bytes_eq-Decides}
use Rattle.c25_meaning_assembly.specs.Emission.{numbered, names_with}
use Rattle.c25_meaning_assembly.specs.Sections.{Definitions, stands, is_in, once, are_distinct, imports, name_count}
use Rattle.c25_meaning_assembly.proofs.Distinct.{turned, neither, both}
use Rattle.c25_meaning_language.specs.Value.{predefined, defined, named_by}
use Rattle.c25_meaning_language.specs.declared.value.Value.{Value}
use Rattle.c25_meaning_language.specs.declared.value.Base.TheVariants.{External}
use Rattle.c25_phases.specs.Imports.{imported}

-- ---- texts

pub same_text : (a b : List ℕ) → bytes_eq a b ≡ true → a ≡ b
same_text a b h = (bytes_eq-Decides a b).0 h

-- ---- names that are defined

or_of : (a b : Bool) → cond a true b ≡ (a || b)
or_of true b = refl
or_of false b = refl

found_behind : (names more : Definitions) (d : List ℕ) → is_some (defined (names ++ more) d) ≡ (is_some (defined names d) || is_some (defined more d))
found_behind [] more d = refl
found_behind (n ∷ ns) more d = on (bytes_eq d n.0) (found_behind ns more d)
  where
    on : (b : Bool) → is_some (defined (ns ++ more) d) ≡ (is_some (defined ns d) || is_some (defined more d))
        → is_some (cond b (Some n.1) (defined (ns ++ more) d)) ≡ (is_some (cond b (Some n.1) (defined ns d)) || is_some (defined more d))
    on true h = refl
    on false h = h

-- a name is defined among two lists of names if it is in one of them
pub stands_behind : (names more : Definitions) (d : List ℕ) → stands (names ++ more) d ≡ (stands names d || is_some (named_by (predefined d) (defined more d)))
stands_behind names more d = on (predefined d)
  where
    on : (p : Option ℕ) → is_some (named_by p (defined (names ++ more) d)) ≡ (is_some (named_by p (defined names d)) || is_some (named_by p (defined more d)))
    on (Some n) = refl
    on None = found_behind names more d

-- ---- a name that is defined

one_more : (p : Option ℕ) (b : Bool) (o : Option Value) (v : Value) → is_some (named_by p o) ≡ false → is_some (named_by p (cond b (Some v) None)) ≡ b
one_more (Some n) b o v h = absurd (cc)
one_more None true o v h = refl
one_more None false o v h = refl

-- whether a name is defined once another one is
pub stands_with : (names : Definitions) (n d : List ℕ) (v : Value) → stands names d ≡ false → stands (names ++ (n, v) ∷ []) d ≡ bytes_eq d n
stands_with names n d v h = stands_behind names ((n, v) ∷ []) d ∙ ap (λ b. b || is_some (named_by (predefined d) (cond (bytes_eq d n) (Some v) None))) h ∙ one_more (predefined d) (bytes_eq d n) (defined names d) v h

pub stands_still : (names more : Definitions) (d : List ℕ) → stands names d ≡ true → stands (names ++ more) d ≡ true
stands_still names more d h = stands_behind names more d ∙ ap (λ b. b || is_some (named_by (predefined d) (defined more d))) h

head_counts : (a b : Bool) (d : List ℕ) (xs ys : List (List ℕ)) (r : ℕ) → cond a 0 1 + length xs ≡ cond b 0 1 + length ys + r
    → length (cond (not a) (d ∷ xs) xs) ≡ length (cond (not b) (d ∷ ys) ys) + r
head_counts true true d xs ys r h = omega (arith, h)
head_counts true false d xs ys r h = omega (arith, h)
head_counts false true d xs ys r h = omega (arith, h)
head_counts false false d xs ys r h = omega (arith, h)

-- one declared name, by whether it is the one that is defined (same) and whether it stood for something (stood)
step_counts : (same stood stands_now among : Bool) (x y : ℕ) → (same ≡ true → stood ≡ false) → (same ≡ true → among ≡ false)
    → stands_now ≡ (stood || same) → x ≡ y + cond among 1 0
    → cond stood 0 1 + x ≡ cond stands_now 0 1 + y + cond (same || among) 1 0
step_counts true true now among x y new away is h = absurd (let q = new refl in cc)
step_counts true false now true x y new away is h = absurd (let q = away refl in cc)
step_counts true false now false x y new away is h = rw is (omega (arith, h))
step_counts false true now among x y new away is h = rw is (omega (arith, h))
step_counts false false now among x y new away is h = rw is (omega (arith, h))

stands_by : (names : Definitions) (n d : List ℕ) (v : Value) (s : Bool) → stands names d ≡ s → stands (names ++ (n, v) ∷ []) d ≡ (s || bytes_eq n d)
stands_by names n d v true e = stands_still names ((n, v) ∷ []) d e
stands_by names n d v false e = stands_with names n d v e ∙ turned d n

-- a name that is defined is no other module's any more
pub define_counts : (names : Definitions) (n : List ℕ) (v : Value) (ds : List (List ℕ)) → stands names n ≡ false → are_distinct ds ≡ true
    → length (imports names ds) ≡ length (imports (names ++ (n, v) ∷ []) ds) + cond (is_in ds n) 1 0
define_counts names n v [] new distinct = refl
define_counts names n v (d ∷ ds) new distinct =
    let p = both (is_in ds d) (are_distinct ds) distinct in
    head_counts (stands names d) (stands (names ++ (n, v) ∷ []) d) d (imports names ds) (imports (names ++ (n, v) ∷ []) ds) (cond (is_in (d ∷ ds) n) 1 0)
    (step_counts (bytes_eq n d) (stands names d) (stands (names ++ (n, v) ∷ []) d) (is_in ds n) (length (imports names ds)) (length (imports (names ++ (n, v) ∷ []) ds))
    (λ e. ap (stands names) (sym (same_text n d e)) ∙ new) (λ e. ap (is_in ds) (same_text n d e) ∙ p.0)
    (stands_by names n d v (stands names d) refl) (define_counts names n v ds new p.1))

-- a name that was declared and is defined now was missing
pub some_missing : (names : Definitions) (n : List ℕ) (v : Value) (ds : List (List ℕ)) → stands names n ≡ false → are_distinct ds ≡ true → is_in ds n ≡ true
    → 1 ≤ length (imports names ds)
some_missing names n v ds new distinct here = let e = rw here at (define_counts names n v ds new distinct) in omega (arith, e)

-- ---- a name that is declared

-- a name declared for the first time comes last
pub once_new : (ds : List (List ℕ)) (n : List ℕ) → is_in ds n ≡ false → once ds n ≡ ds ++ n ∷ []
once_new ds n h = rw h refl

pub declare_counts : (names : Definitions) (ds : List (List ℕ)) (n : List ℕ) → length (imports names (ds ++ n ∷ [])) ≡ length (imports names ds) + cond (stands names n) 0 1
declare_counts names [] n = on (stands names n)
  where
    on : (b : Bool) → length (cond (not b) (n ∷ []) []) ≡ 0 + cond b 0 1
    on true = refl
    on false = refl
declare_counts names (d ∷ ds) n = on (stands names d) (declare_counts names ds n)
  where
    on : (b : Bool) → length (imports names (ds ++ n ∷ [])) ≡ length (imports names ds) + cond (stands names n) 0 1
        → length (cond (not b) (d ∷ imports names (ds ++ n ∷ [])) (imports names (ds ++ n ∷ []))) ≡ length (cond (not b) (d ∷ imports names ds) (imports names ds)) + cond (stands names n) 0 1
    on true h = h
    on false h = omega (arith, h)

-- ---- all declared names after the others

numbered_has : (k : ℕ) (ns : List (List ℕ)) (d : List ℕ) → is_some (defined (numbered k ns) d) ≡ is_in ns d
numbered_has k [] d = refl
numbered_has k (n ∷ ns) d = on (bytes_eq d n) (numbered_has (k + 1) ns d)
  where
    on : (b : Bool) → is_some (defined (numbered (k + 1) ns) d) ≡ is_in ns d
        → is_some (cond b (Some (record { base = External k; offset = pos 0 })) (defined (numbered (k + 1) ns) d)) ≡ (b || is_in ns d)
    on true h = refl
    on false h = h

numbered-push : (k : ℕ) (ns : List (List ℕ)) (n : List ℕ) → numbered k (ns ++ n ∷ []) ≡ numbered k ns ++ (n, record { base = External (k + length ns); offset = pos 0 }) ∷ []
numbered-push k [] n = ap (λ m. (n, record { base = External m; offset = pos 0 }) ∷ []) (let e : k ≡ k + 0 = omega arith in e)
numbered-push k (x ∷ xs) n = ap (λ r. (x, record { base = External k; offset = pos 0 }) ∷ r) (numbered-push (k + 1) xs n ∙ ap (λ m. numbered (k + 1) xs ++ (n, record { base = External m; offset = pos 0 }) ∷ []) (let e : k + 1 + length xs ≡ k + length (x ∷ xs) = omega arith in e))

pub kept_away : (p : List ℕ → Bool) (xs : List (List ℕ)) (d : List ℕ) → is_in xs d ≡ false → is_in (filter p xs) d ≡ false
kept_away p [] d h = refl
kept_away p (x ∷ xs) d h = let q = neither (bytes_eq d x) (is_in xs d) h in on (p x) q.0 (kept_away p xs d q.1)
  where
    on : (b : Bool) → bytes_eq d x ≡ false → is_in (filter p xs) d ≡ false → is_in (cond b (x ∷ filter p xs) (filter p xs)) d ≡ false
    on true e h = ap (λ c. c || is_in (filter p xs) d) e ∙ h
    on false e h = h

-- in distinct names none is among those before it
pub not_before : (ds : List (List ℕ)) (i : ℕ) (d : List ℕ) → i < length ds → d ≡ get_or ds i d → are_distinct ds ≡ true → is_in (take i ds) d ≡ false
not_before [] i d l is h = absurd (omega (arith, l))
not_before (x ∷ xs) zero d l is h = refl
not_before (x ∷ xs) (suc i) d l is h =
    let p = both (is_in xs x) (are_distinct xs) h in
    let more = not_before xs i d (omega (arith, l)) is p.1 in
    ap (λ b. b || is_in (take i xs) d) (turned d x ∙ apart xs i x d (omega (arith, l)) is p.0) ∙ more
  where
    apart : (xs : List (List ℕ)) (i : ℕ) (x d : List ℕ) → i < length xs → d ≡ get_or xs i d → is_in xs x ≡ false → bytes_eq x d ≡ false
    apart [] i x d l is h = absurd (omega (arith, l))
    apart (y ∷ ys) zero x d l is h = ap (bytes_eq x) is ∙ (neither (bytes_eq x y) (is_in ys x) h).0
    apart (y ∷ ys) (suc i) x d l is h = apart ys i x d (omega (arith, l)) is (neither (bytes_eq x y) (is_in ys x) h).1

length-numbered : (k : ℕ) (ns : List (List ℕ)) → length (numbered k ns) ≡ length ns
length-numbered k [] = refl
length-numbered k (n ∷ ns) = ap suc (length-numbered (k + 1) ns)

stands_among : (names : Definitions) (ns : List (List ℕ)) (d : List ℕ) (b : Bool) → stands names d ≡ b → is_in ns d ≡ false → stands (names ++ numbered (length names) ns) d ≡ b
stands_among names ns d true e away = stands_still names (numbered (length names) ns) d e
stands_among names ns d false e away =
    stands_behind names (numbered (length names) ns) d ∙ ap (λ b. b || is_some (named_by (predefined d) (defined (numbered (length names) ns) d))) e ∙ none (predefined d) e
  where
    none : (p : Option ℕ) → is_some (named_by p (defined names d)) ≡ false → is_some (named_by p (defined (numbered (length names) ns) d)) ≡ false
    none (Some n) e = absurd (cc)
    none None e = numbered_has (length names) ns d ∙ away

added : (names : Definitions) (ns : List (List ℕ)) (d : List ℕ) → (names ++ numbered (length names) ns) ++ (d, record { base = External (length (names ++ numbered (length names) ns)); offset = pos 0 }) ∷ [] ≡ names ++ numbered (length names) (ns ++ d ∷ [])
added names ns d =
    let size : length (names ++ numbered (length names) ns) ≡ length names + length ns = length-append names (numbered (length names) ns) ∙ ap (λ n. length names + n) (length-numbered (length names) ns) in
    ap (λ n. (names ++ numbered (length names) ns) ++ (d, record { base = External n; offset = pos 0 }) ∷ []) size
    ∙ append_assoc names (numbered (length names) ns) ((d, record { base = External (length names + length ns); offset = pos 0 }) ∷ [])
    ∙ ap (λ r. names ++ r) (sym (numbered-push (length names) ns d))

import_by : (names : Definitions) (ns more : List (List ℕ)) (d : List ℕ) (b : Bool) → stands (names ++ numbered (length names) ns) d ≡ b → more ≡ ns ++ cond (not b) (d ∷ []) []
    → imported (names ++ numbered (length names) ns) d ≡ names ++ numbered (length names) more
import_by names ns more d true e is = rw e (ap (λ xs. names ++ numbered (length names) xs) (sym (is ∙ append-nil ns)))
import_by names ns more d false e is = rw e (added names ns d ∙ ap (λ xs. names ++ numbered (length names) xs) (sym is))

-- one declared name more, in its turn
pub import_more : (names : Definitions) (ds : List (List ℕ)) (i : ℕ) (d : List ℕ) → i < length ds → d ≡ get_or ds i d → are_distinct ds ≡ true
    → imported (names_with names (take i ds)) d ≡ names_with names (take (i + 1) ds)
import_more names ds i d l is h =
    let away = kept_away (λ name. not (stands names name)) (take i ds) d (not_before ds i d l is h) in
    import_by names (imports names (take i ds)) (imports names (take (i + 1) ds)) d (stands names d)
    (stands_among names (imports names (take i ds)) d (stands names d) refl away)
    (filter_more (λ name. not (stands names name)) ds i d l ∙ ap (λ x. imports names (take i ds) ++ cond (not (stands names x)) (x ∷ []) []) (sym is))

-- the name of a number is the one that stands there
pub import_at : (names new : Definitions) (ds : List (List ℕ)) (i : ℕ) (found : Option (Bor (List ℕ))) (name : Bor (List ℕ)) → found ≡ Some name → option_map (λ t. t.now) found ≡ slice_get ds i
    → are_distinct ds ≡ true → new ≡ imported (names_with names (take i ds)) name.now → new ≡ names_with names (take (i + 1) ds)
import_at names new ds i found name some is h made =
    let there : slice_get ds i ≡ Some name.now = sym is ∙ ap (option_map (λ t. t.now)) some in
    made ∙ import_more names ds i name.now (slice_get_within ds i name.now there) (sym (get_or_from_slice_get ds i name.now name.now there)) h

-- each number below the count of names has a name
pub none_missing : (ds : List (List ℕ)) (i : ℕ) (found : Option (Bor (List ℕ))) → i < length ds → option_map (λ t. t.now) found ≡ slice_get ds i → ((name : Bor (List ℕ)) → found ≡ Some name → ⊥) → ⊥
none_missing ds i (Some name) l is none = none name refl
none_missing ds i None l is none = let there = slice_get-get_or ds i [] l in absurd (cc)

kept_less : (p : List ℕ → Bool) (xs : List (List ℕ)) (i : ℕ) → length (filter p (take i xs)) ≤ length (filter p xs)
kept_less p [] zero = omega arith
kept_less p [] (suc i) = omega arith
kept_less p (x ∷ xs) zero = omega arith
kept_less p (x ∷ xs) (suc i) = on (p x) (kept_less p xs i)
  where
    on : (b : Bool) → length (filter p (take i xs)) ≤ length (filter p xs) → length (cond b (x ∷ filter p (take i xs)) (filter p (take i xs))) ≤ length (cond b (x ∷ filter p xs) (filter p xs))
    on true h = omega (arith, h)
    on false h = h

-- so far there are no more names than in the end
pub names_so_far : (names : Definitions) (ds : List (List ℕ)) (i : ℕ) → length (names_with names (take i ds)) ≤ name_count names ds
names_so_far names ds i =
    let size = length-append names (numbered (length names) (imports names (take i ds))) ∙ ap (λ n. length names + n) (length-numbered (length names) (imports names (take i ds))) in
    omega (arith, size, kept_less (λ name. not (stands names name)) ds i)

-- no more names are missing than are declared
pub few_missing : (names : Definitions) (ds : List (List ℕ)) → length (imports names ds) ≤ length ds
few_missing names [] = omega arith
few_missing names (d ∷ ds) = on (stands names d) (few_missing names ds)
  where
    on : (b : Bool) → length (imports names ds) ≤ length ds → length (cond (not b) (d ∷ imports names ds) (imports names ds)) ≤ length (d ∷ ds)
    on true h = omega (arith, h)
    on false h = omega (arith, h)
