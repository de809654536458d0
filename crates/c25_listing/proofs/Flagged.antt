-- Flags of words say whether they have a relocation.
use Rattle.std.proofs.Common.{◌≡◌, ℕ, zero, suc, Bool, true, false, cond, ◌||◌, ◌&&◌, ◌==◌, nat_lt, List, [], ◌∷◌, length, set, replicate, fold, slice_get, Option, Some, None, is_some, refl, ap, sym, ◌∙◌, arith}
use Rattle.std.specs.List.{list_any}
use Rattle.std.proofs.lemmas.Bool.Decides.{same_from_decides, Decides-eqb, Decides-like}
use Rattle.c25_meaning_assembly.specs.Listing.{is_at, is_relocated}
use Rattle.c25_meaning_objects.specs.Module.{Contents, SectionData, words_at, body_words}
use Rattle.c25_meaning_objects.specs.declared.object.Relocation.{Relocation}
use Rattle.c25_listing.specs.Flags.{flag_at, flag_in, flag_by, raised, raised_by, with_flag, with_flag_by, no_flags}

-- ---- lists with one element changed

same_suc : (i k : ℕ) → (suc i == suc k) ≡ (i == k)
same_suc i k = same_from_decides (suc i == suc k) (i == k) (Decides-eqb (suc i) (suc k)) (Decides-like (i == k) (λ e. ap suc e) (λ e. omega (arith, e)) (Decides-eqb i k))

zero_apart : (k : ℕ) → (0 == suc k) ≡ false
zero_apart k = grind arith

suc_apart : (i : ℕ) → (suc i == 0) ≡ false
suc_apart i = grind arith

get_set : {X : Type 0} (xs : List X) (i k : ℕ) (x y : X) → slice_get xs i ≡ Some y → slice_get (set xs i x) k ≡ cond (i == k) (Some x) (slice_get xs k)
get_set [] i k x y h = absurd (cc)
get_set (z ∷ zs) zero zero x y h = refl
get_set (z ∷ zs) zero (suc k) x y h = ap (λ b. cond b (Some x) (slice_get zs k)) (sym (zero_apart k))
get_set (z ∷ zs) (suc i) zero x y h = ap (λ b. cond b (Some x) (Some z)) (sym (suc_apart i))
get_set (z ∷ zs) (suc i) (suc k) x y h = get_set zs i k x y h ∙ ap (λ b. cond b (Some x) (slice_get zs k)) (sym (same_suc i k))

equal : (i k : ℕ) → (i == k) ≡ true → i ≡ k
equal i k h = (Decides-eqb i k).0 h

-- ---- one flag

or_false : (b : Bool) → (b || false) ≡ b
or_false true = refl
or_false false = refl

or_true : (b : Bool) → (b || true) ≡ true
or_true true = refl
or_true false = refl

and_false : (b : Bool) → (b && false) ≡ false
and_false true = refl
and_false false = refl

raised_there : (f : List Bool) (k o : ℕ) → is_some (slice_get (raised f k) o) ≡ is_some (slice_get f o)
raised_there f k o = on (slice_get f k) refl
  where
    by_hit : (b hit : Bool) → slice_get f k ≡ Some b → (k == o) ≡ hit → is_some (cond hit (Some true) (slice_get f o)) ≡ is_some (slice_get f o)
    by_hit b true e h = sym (ap is_some (ap (slice_get f) (sym (equal k o h)) ∙ e))
    by_hit b false e h = refl

    on : (old : Option Bool) → slice_get f k ≡ old → is_some (slice_get (raised_by old f k) o) ≡ is_some (slice_get f o)
    on None e = refl
    on (Some b) e = ap is_some (get_set f k o true b e) ∙ by_hit b (k == o) e refl

raised_flag : (f : List Bool) (k o : ℕ) → flag_by (slice_get (raised f k) o) ≡ (flag_by (slice_get f o) || ((k == o) && is_some (slice_get f o)))
raised_flag f k o = on (slice_get f k) refl
  where
    none_hit : (hit : Bool) → slice_get f k ≡ None → (k == o) ≡ hit → flag_by (slice_get f o) ≡ (flag_by (slice_get f o) || (hit && is_some (slice_get f o)))
    none_hit true e h = let q : slice_get f o ≡ None = ap (slice_get f) (sym (equal k o h)) ∙ e in rw q refl
    none_hit false e h = sym (or_false (flag_by (slice_get f o)))

    by_hit : (b hit : Bool) → slice_get f k ≡ Some b → (k == o) ≡ hit → flag_by (cond hit (Some true) (slice_get f o)) ≡ (flag_by (slice_get f o) || (hit && is_some (slice_get f o)))
    by_hit b true e h = let q : slice_get f o ≡ Some b = ap (slice_get f) (sym (equal k o h)) ∙ e in rw q (sym (or_true b))
    by_hit b false e h = sym (or_false (flag_by (slice_get f o)))

    on : (old : Option Bool) → slice_get f k ≡ old → flag_by (slice_get (raised_by old f k) o) ≡ (flag_by (slice_get f o) || ((k == o) && is_some (slice_get f o)))
    on None e = none_hit (k == o) e refl
    on (Some b) e = ap flag_by (get_set f k o true b e) ∙ by_hit b (k == o) e refl

-- ---- the flags of all sections

there_in : Option (List Bool) → ℕ → Bool
there_in None o = false
there_in (Some f) o = is_some (slice_get f o)

there : List (List Bool) → ℕ → ℕ → Bool
there all s o = there_in (slice_get all s) o

with_there : (all : List (List Bool)) (r : Relocation) (s o : ℕ) → there (with_flag all r) s o ≡ there all s o
unfolding there there_in
with_there all r s o = on (slice_get all r.section) refl
  where
    by_hit : (f : List Bool) (hit : Bool) → slice_get all r.section ≡ Some f → (r.section == s) ≡ hit → there_in (cond hit (Some (raised f r.offset)) (slice_get all s)) o ≡ there_in (slice_get all s) o
    by_hit f true e h = raised_there f r.offset o ∙ sym (ap (λ x. there_in x o) (ap (slice_get all) (sym (equal r.section s h)) ∙ e))
    by_hit f false e h = refl

    on : (old : Option (List Bool)) → slice_get all r.section ≡ old → there_in (slice_get (with_flag_by old all r.section r.offset) s) o ≡ there_in (slice_get all s) o
    on None e = refl
    on (Some f) e = ap (λ x. there_in x o) (get_set all r.section s (raised f r.offset) f e) ∙ by_hit f (r.section == s) e refl

with_set : (all : List (List Bool)) (r : Relocation) (s o : ℕ) → flag_at (with_flag all r) s o ≡ (flag_at all s o || (is_at s o r && there all s o))
unfolding there there_in
with_set all r s o = on (slice_get all r.section) refl
  where
    none_hit : (hit : Bool) → slice_get all r.section ≡ None → (r.section == s) ≡ hit → flag_in (slice_get all s) o ≡ (flag_in (slice_get all s) o || ((hit && (r.offset == o)) && there_in (slice_get all s) o))
    none_hit true e h = let q : slice_get all s ≡ None = ap (slice_get all) (sym (equal r.section s h)) ∙ e in rw q (sym (and_false (r.offset == o)))
    none_hit false e h = sym (or_false (flag_in (slice_get all s) o))

    by_hit : (f : List Bool) (hit : Bool) → slice_get all r.section ≡ Some f → (r.section == s) ≡ hit
        → flag_in (cond hit (Some (raised f r.offset)) (slice_get all s)) o ≡ (flag_in (slice_get all s) o || ((hit && (r.offset == o)) && there_in (slice_get all s) o))
    by_hit f true e h = let q : slice_get all s ≡ Some f = ap (slice_get all) (sym (equal r.section s h)) ∙ e in rw q (raised_flag f r.offset o)
    by_hit f false e h = sym (or_false (flag_in (slice_get all s) o))

    on : (old : Option (List Bool)) → slice_get all r.section ≡ old → flag_in (slice_get (with_flag_by old all r.section r.offset) s) o ≡ (flag_in (slice_get all s) o || (((r.section == s) && (r.offset == o)) && there_in (slice_get all s) o))
    on None e = none_hit (r.section == s) e refl
    on (Some f) e = ap (λ x. flag_in x o) (get_set all r.section s (raised f r.offset) f e) ∙ by_hit f (r.section == s) e refl

-- ---- all relocations

gathered : (flag here at any : Bool) → ((flag || (at && here)) || (here && any)) ≡ (flag || (here && (at || any)))
gathered true here at any = refl
gathered false true true any = refl
gathered false true false any = refl
gathered false false true any = refl
gathered false false false any = refl

all_set : (rs : List Relocation) (all : List (List Bool)) (s o : ℕ) → flag_at (fold with_flag all rs) s o ≡ (flag_at all s o || (there all s o && list_any (is_at s o) rs))
all_set [] all s o = none (flag_at all s o) (there all s o)
  where
    none : (a b : Bool) → a ≡ (a || (b && false))
    none true b = refl
    none false true = refl
    none false false = refl
all_set (r ∷ rs) all s o =
    all_set rs (with_flag all r) s o
    ∙ ap (λ b. b || (there (with_flag all r) s o && list_any (is_at s o) rs)) (with_set all r s o)
    ∙ ap (λ b. (flag_at all s o || (is_at s o r && there all s o)) || (b && list_any (is_at s o) rs)) (with_there all r s o)
    ∙ gathered (flag_at all s o) (there all s o) (is_at s o r) (list_any (is_at s o) rs)

-- ---- no flags

no_flag_in : (n o : ℕ) → flag_by (slice_get (replicate n false) o) ≡ false
no_flag_in zero o = refl
no_flag_in (suc n) zero = refl
no_flag_in (suc n) (suc o) = no_flag_in n o

below_suc : (o n : ℕ) → nat_lt (suc o) (suc n) ≡ nat_lt o n
below_suc o n = grind arith

room_in : (n o : ℕ) → is_some (slice_get (replicate n false) o) ≡ nat_lt o n
room_in zero o = grind arith
room_in (suc n) zero = grind arith
room_in (suc n) (suc o) = room_in n o ∙ sym (below_suc o n)

none_set : (sections : List SectionData) (s o : ℕ) → flag_at (no_flags sections) s o ≡ false
none_set [] s o = refl
none_set (x ∷ xs) zero o = no_flag_in (length (body_words x.body)) o
none_set (x ∷ xs) (suc s) o = none_set xs s o

all_there : (sections : List SectionData) (s o : ℕ) → there (no_flags sections) s o ≡ nat_lt o (length (words_at sections s))
unfolding there there_in
all_there [] s o = grind arith
all_there (x ∷ xs) zero o = room_in (length (body_words x.body)) o
all_there (x ∷ xs) (suc s) o = all_there xs s o

-- the flags of a module's words, after all its relocations, say which words have one
pub flagged : (m : Contents) (all : List (List Bool)) (section offset : ℕ) → all ≡ fold with_flag (no_flags m.sections) m.relocations
    → flag_at all section offset ≡ is_relocated m section offset
flagged m all section offset is =
    ap (λ x. flag_at x section offset) is ∙ all_set m.relocations (no_flags m.sections) section offset
    ∙ ap (λ b. b || (there (no_flags m.sections) section offset && list_any (is_at section offset) m.relocations)) (none_set m.sections section offset)
    ∙ ap (λ b. b && list_any (is_at section offset) m.relocations) (all_there m.sections section offset)
