-- Lists, item by item.
use Rattle.std.proofs.Common.{◌≡◌, ℕ, zero, suc, ◌+◌, ◌<◌, ◌≤◌, Bool, true, false, cond, ◌||◌, not, List, [], ◌∷◌, ◌++◌, length, get_or, take, drop, map, Option, Some, None, is_some, refl, sym, ap, subst, ◌∙◌, arith, All}
use Rattle.std.specs.Borrow.{Bor}
use Rattle.std.specs.List.{list_any}
use Rattle.std.specs.Option.{option_copied}
use Rattle.std.specs.Str.{bytes_eq}
use Rattle.std.proofs.lemmas.List.{map-append, take_more, take_all}
use Rattle.std.proofs.lemmas.List.Elements.{All-nil, All-cons, All-head, All-tail, All-push}
use Rattle.c25_cmd.specs.View.{placing_of, placings_of}
use Rattle.c25_cmd.specs.declared.command.Placing.{Placing}
use Rattle.c25_meaning_linking.specs.Command.{PlacingData}
use Rattle.c25_meaning_linking.specs.GoodMap.{is_among}
use Rattle.c25_meaning_objects.specs.Module.{Contents, IsModule, body_size, each_fits, section_fits, has_sections, lists_fit}
use Rattle.c25_module.proofs.Small.{sections_small}
use Rattle.c25_module.proofs.Texts.{both}
use Rattle.c25_module.specs.View.{body_data, sections_data}
use Rattle.c25_module.specs.declared.parts.Section.{Section}

-- ---- mapped lists

pub unmapped : {A B : Type 0} (P : B → Type 0) (f : A → B) (xs : List A) → All P (map f xs) → All (λ x. P (f x)) xs
unmapped P f [] h = All-nil (λ x. P (f x))
unmapped P f (x ∷ xs) h = All-cons (λ y. P (f y)) x xs (All-head P (f x) (map f xs) h) (unmapped P f xs (All-tail P (f x) (map f xs) h))

pub mapped_more : {A B : Type 0} (f : A → B) (xs : List A) (i : ℕ) (d : A) → i < length xs → map f (take (i + 1) xs) ≡ map f (take i xs) ++ f (get_or xs i d) ∷ []
mapped_more f xs i d lt = ap (map f) (take_more xs i d lt) ∙ map-append f (take i xs) (get_or xs i d ∷ [])

pub all_more : {A B : Type 0} (P : B → Type 0) (f : A → B) (xs : List A) (i : ℕ) (d : A) → i < length xs → All P (map f (take i xs)) → P (f (get_or xs i d)) → All P (map f (take (i + 1) xs))
all_more P f xs i d lt all p = subst (All P) (sym (mapped_more f xs i d lt)) (All-push P (map f (take i xs)) (f (get_or xs i d)) all p)

pub all_whole : {A B : Type 0} (P : B → Type 0) (f : A → B) (xs : List A) (i : ℕ) → length xs ≤ i → All P (map f (take i xs)) → All P (map f xs)
all_whole P f xs i le all = subst (λ ys. All P (map f ys)) (take_all i xs le) all

pub split_at : {A B : Type 0} (f : A → B) (xs : List A) (i : ℕ) (d : A) → i < length xs → map f xs ≡ map f (take i xs) ++ f (get_or xs i d) ∷ map f (drop (suc i) xs)
split_at f [] i d lt = absurd (omega arith)
split_at f (x ∷ xs) zero d lt = refl
split_at f (x ∷ xs) (suc i) d lt = let below : i < length xs = omega arith in ap (λ ys. f x ∷ ys) (split_at f xs i d below)

pub any_at : {A B : Type 0} (test : B → Bool) (f : A → B) (xs : List A) (i : ℕ) (d : A) → i < length xs → true ≡ test (f (get_or xs i d)) → true ≡ list_any test (map f xs)
any_at test f [] i d lt e = absurd (omega arith)
any_at test f (x ∷ xs) zero d lt e = ap (λ b. b || list_any test (map f xs)) e
any_at test f (x ∷ xs) (suc i) d lt e =
    let below : i < length xs = omega arith in
    sym (or_true (test (f x))) ∙ ap (λ b. test (f x) || b) (any_at test f xs i d below e)
  where
    or_true : (b : Bool) → (b || true) ≡ true
    or_true true = refl
    or_true false = refl

pub copied_some : (x : Option (Bor ℕ)) → is_some (option_copied x) ≡ is_some x
copied_some None = refl
copied_some (Some n) = refl

-- ---- names

any_names : (k : Bor (List ℕ)) (ks : List (Bor (List ℕ))) → list_any (λ x. bytes_eq k.now x.now) ks ≡ is_among k.now (map (λ x. x.now) ks)
any_names k [] = refl
any_names k (x ∷ ks) = ap (λ b. bytes_eq k.now x.now || b) (any_names k ks)

pub name_is_new : (k : Bor (List ℕ)) (old : List (Bor (List ℕ))) (names : List (List ℕ)) (b : Bool) → b ≡ not (list_any (λ x. bytes_eq k.now x.now) old) → map (λ x. x.now) old ≡ names → b ≡ not (is_among k.now names)
name_is_new k old names b e are = e ∙ ap not (any_names k old ∙ ap (is_among k.now) are)

mapped_cond : (t : Bool) (k : Bor (List ℕ)) (old : List (Bor (List ℕ))) → map (λ x. x.now) (cond t old (old ++ k ∷ [])) ≡ cond t (map (λ x. x.now) old) (map (λ x. x.now) old ++ k.now ∷ [])
mapped_cond true k old = refl
mapped_cond false k old = map-append (λ x. x.now) old (k ∷ [])

pub names_inserted : (k : Bor (List ℕ)) (old new : List (Bor (List ℕ))) (names : List (List ℕ)) → new ≡ cond (list_any (λ x. bytes_eq k.now x.now) old) old (old ++ k ∷ []) → map (λ x. x.now) old ≡ names
    → map (λ x. x.now) new ≡ cond (is_among k.now names) names (names ++ k.now ∷ [])
names_inserted k old new names e are =
    ap (map (λ (x : Bor (List ℕ)). x.now)) e ∙ mapped_cond (list_any (λ (x : Bor (List ℕ)). bytes_eq k.now x.now) old) k old
    ∙ ap (λ t. cond t (map (λ (x : Bor (List ℕ)). x.now) old) (map (λ (x : Bor (List ℕ)). x.now) old ++ k.now ∷ [])) (any_names k old)
    ∙ ap (λ ns. cond (is_among k.now ns) ns (ns ++ k.now ∷ [])) are

pub names_next : (ps : List Placing) (i : ℕ) (p : Placing) (name : List ℕ) → i < length ps → p ≡ get_or ps i p → name ≡ (placing_of p).name
    → map (λ (q : PlacingData). q.name) (placings_of (take i ps)) ++ name ∷ [] ≡ map (λ (q : PlacingData). q.name) (placings_of (take (i + 1) ps))
names_next ps i p name lt is called =
    ap (λ n. map (λ (q : PlacingData). q.name) (placings_of (take i ps)) ++ n ∷ []) (called ∙ ap (λ q. (placing_of q).name) is)
    ∙ sym (map-append (λ (q : PlacingData). q.name) (placings_of (take i ps)) (placing_of (get_or ps i p) ∷ []))
    ∙ ap (map (λ (q : PlacingData). q.name)) (sym (mapped_more placing_of ps i p lt))

-- ---- the sections of a module

pub small_sections : (m : Contents) (ss : List Section) → IsModule m → sections_data ss ≡ m.sections → All (λ s. body_size (body_data s.body) ≤ 65536) ss
small_sections m ss is are = λ k d lt. (sections_small ss fits k d lt).1 where
  lists : lists_fit m ≡ true
  lists = (both (has_sections m) (lists_fit m) is.lists).1

  fits : each_fits section_fits [] (sections_data ss) ≡ true
  fits = ap (each_fits section_fits []) are ∙ (both (each_fits section_fits [] m.sections) _ lists).0
