-- Entries of a map, found by the bytes of their names, whatever their values stand for.
use Rattle.std.proofs.Common.{◌≡◌, ℕ, ◌+◌, Bool, true, false, cond, List, [], ◌∷◌, ◌++◌, map, Option, Some, None, is_some, String, refl, ap, sym, ◌∙◌}
use Rattle.std.specs.declared.alloc.Global.{Global}
use Rattle.std.specs.Map.{lookup}
use Rattle.std.specs.Option.{option_map}
use Rattle.std.specs.Str.{bytes_eq}
use Rattle.std.specs.String.{string_bytes, string_eq}
use Rattle.indexmap.specs.IndexMap.{insert_entry}
use Rattle.std.specs.List.{position, position_or_len}
use Rattle.std.specs.Map.{keys_of}
use Rattle.std.proofs.lemmas.List.Recursion.{is_position_or_len}
use Rattle.c25_meaning_expansion.specs.Rows.{file_number}

-- entries by the bytes of their names
abbrev pub views : {V A : Type 0} → (V → A) → List (String Global × V) → List (List ℕ × A)
views f es = map (λ e. (string_bytes e.0, f e.1)) es

by_test : {V A : Type 0} (f : V → A) (b : Bool) (v : V) (o : Option V) (p : Option A) → option_map f o ≡ p → option_map f (cond b (Some v) o) ≡ cond b (Some (f v)) p
by_test f true v o p h = refl
by_test f false v o p h = h

-- what is found is what the entry stands for
pub lookup-views : {V A : Type 0} (f : V → A) (es : List (String Global × V)) (name : List ℕ) → option_map f (lookup (λ k. bytes_eq name (string_bytes k)) es) ≡ lookup (bytes_eq name) (views f es)
lookup-views f [] name = refl
lookup-views f (e ∷ es) name = by_test f (bytes_eq name (string_bytes e.0)) e.1 (lookup (λ k. bytes_eq name (string_bytes k)) es) (lookup (bytes_eq name) (views f es)) (lookup-views f es name)

by_new : {V A : Type 0} (f : V → A) (b : Bool) (e : String Global × V) (es fs : List (String Global × V)) (name : List ℕ) (v : V) (o : Option A) → (o ≡ None → views f fs ≡ views f es ++ (name, f v) ∷ []) → cond b (Some (f e.1)) o ≡ None → views f (cond b ((e.0, v) ∷ es) (e ∷ fs)) ≡ views f (e ∷ es) ++ (name, f v) ∷ []
by_new f true e es fs name v o more h = cc
by_new f false e es fs name v o more h = ap (λ xs. (string_bytes e.0, f e.1) ∷ xs) (more h)

-- a new name that is put in comes last
pub views-new : {V A : Type 0} (f : V → A) (es : List (String Global × V)) (name : String Global) (v : V) → lookup (bytes_eq (string_bytes name)) (views f es) ≡ None → views f (insert_entry string_eq es name v) ≡ views f es ++ (string_bytes name, f v) ∷ []
views-new f [] name v h = refl
views-new f (e ∷ es) name v h = by_new f (bytes_eq (string_bytes name) (string_bytes e.0)) e es (insert_entry string_eq es name v) (string_bytes name) v (lookup (bytes_eq (string_bytes name)) (views f es)) (views-new f es name v) h

pub none_there : {A : Type 0} (o : Option A) → is_some o ≡ false → o ≡ None
none_there None h = refl
none_there (Some x) h = absurd (cc)

-- an option that is None is None after a function
pub is_some_mapped : {A B : Type 0} (f : A → B) (o : Option A) (p : Option B) → option_map f o ≡ p → is_some o ≡ false → is_some p ≡ false
is_some_mapped f None p e h = ap is_some (sym e)
is_some_mapped f (Some x) p e h = absurd (cc)

-- the first place that passes, or the length
place_in : {X : Type 0} → (X → Bool) → List X → ℕ
place_in p [] = 0
place_in p (x ∷ xs) = cond (p x) 0 (1 + place_in p xs)

is_place : {X : Type 0} (p : X → Bool) (xs : List X) → place_in p xs ≡ position_or_len p xs
unfolding place_in
is_place p xs = is_position_or_len (place_in p) p refl (λ x rest. refl) xs

place_of_key : (name : List ℕ) (es : List (String Global × List ℕ)) → place_in (λ k. bytes_eq name (string_bytes k)) (keys_of es) ≡ place_in (λ f. bytes_eq name f.0) (views (λ t. t) es)
unfolding place_in
place_of_key name [] = refl
place_of_key name (e ∷ es) = ap (λ n. cond (bytes_eq name (string_bytes e.0)) 0 (1 + n)) (place_of_key name es)

-- the place of a name among the keys is that among the names
same_place : (es : List (String Global × List ℕ)) (name : List ℕ) → position_or_len (λ k. bytes_eq name (string_bytes k)) (keys_of es) ≡ file_number (views (λ t. t) es) name
same_place es name =
    sym (is_place (λ k. bytes_eq name (string_bytes k)) (keys_of es)) ∙ place_of_key name es ∙ is_place (λ f. bytes_eq name f.0) (views (λ t. t) es)

found_at : (b : Bool) (i n : ℕ) → Some i ≡ cond b (Some n) None → i ≡ n
found_at true i n h = cc
found_at false i n h = absurd (cc)

pub numbered : (es : List (String Global × List ℕ)) (name : List ℕ) (i : ℕ) → Some i ≡ position (λ k. bytes_eq name (string_bytes k)) (keys_of es) → i ≡ file_number (views (λ t. t) es) name
numbered es name i h = found_at _ i _ h ∙ same_place es name
