-- A map from addresses as a finite map.
use Rattle.std.proofs.Common.{◌≡◌, ℕ, List, [], ◌∷◌, ◌++◌, Option, Some, None, ◌^◌, ◌<◌, Bool, true, false, ◌&&◌, T, cond, refl, sym, ap, subst, ◌∙◌, ◌==◌, arith}
use Rattle.std.proofs.lemmas.Bool.Decides.{nat_tests}
use Rattle.std.proofs.lemmas.Bool.{eqb-true}
use Rattle.c25_meaning_image.specs.WordMap.{AreWords, IsWord, IsWordMap, put_all}
use Rattle.std.specs.Ordering.{nat_cmp, eq_by_cmp, is_lt}
use Rattle.std.specs.declared.cmp.Ordering.TheVariants.{Less}
use Rattle.std.specs.Cmp.{nat_cmp_total, unsigned_tied}
use Rattle.std.specs.FinMap as map
use Rattle.std.specs.FinMap.{is_sorted, get-empty, get-from_entries, get-insert, same_map, nat_cmp-IsAntisymmetric}
use Rattle.std.specs.BTreeMap as tree
use Rattle.std.specs.BTreeMap.{BTreeMap}
use Rattle.std.specs.Map.{lookup, keys_of, update, update_all}
use Rattle.std.specs.List.{AllByRecursion, fold}
use Rattle.std.proofs.lemmas.List.Elements.{All-head, All-tail}
use Rattle.std.specs.List.Sorted.{IsStrictlySortedBy}
use Rattle.std.specs.FinMap.Entries.{below_all}

found : (q : ℕ) (es : List (ℕ × ℕ)) → map.find nat_cmp q es ≡ lookup (tree.is_at (nat_cmp q)) es
found q [] = refl
found q (e ∷ es) = ap (cond (eq_by_cmp nat_cmp q e.0) (Some e.1)) (found q es)

pub get_view : (m : BTreeMap ℕ ℕ) (q : ℕ) → map.get (map.from_entries {R = nat_cmp} m.entries) q ≡ tree.get nat_cmp m q
get_view m q = get-from_entries nat_cmp_total m.entries q ∙ found q m.entries

either_way : (q k : ℕ) → (k == q) ≡ (q == k)
either_way q k = grind (arith, nat_tests)

turned : (q k : ℕ) → eq_by_cmp nat_cmp k q ≡ eq_by_cmp nat_cmp q k
turned q k = unsigned_tied k q ∙ either_way q k ∙ sym (unsigned_tied q k)

pub insert_view : (m n : BTreeMap ℕ ℕ) (k w : ℕ) → tree.Updates nat_cmp m n k (Some w) → map.from_entries {R = nat_cmp} n.entries ≡ map.insert (map.from_entries {R = nat_cmp} m.entries) k w
insert_view m n k w u =
    same_map nat_cmp_total nat_cmp-IsAntisymmetric (map.from_entries {R = nat_cmp} n.entries) (map.insert (map.from_entries {R = nat_cmp} m.entries) k w) (λ q.
    get_view n q ∙ u.0 q ∙ ap (λ b. cond b (Some w) (tree.get nat_cmp m q)) (turned q k) ∙ ap (cond (eq_by_cmp nat_cmp q k) (Some w)) (sym (get_view m q)) ∙ sym (get-insert nat_cmp_total (map.from_entries {R = nat_cmp} m.entries) k w q))

-- keys in order by recursion are in the order that a finite map keeps
is_above : (k : ℕ) (es : List (ℕ × ℕ)) → AllByRecursion (λ y. nat_cmp k y ≡ Less) (keys_of es) → T (below_all nat_cmp k es)
is_above k [] h = tt
is_above k (e ∷ es) h = both (is_lt (nat_cmp k e.0)) (below_all nat_cmp k es) (rw h.0 tt) (is_above k es h.1) where
  both : (a b : Bool) → T a → T b → T (a && b)
  both true b p q = q
  both false b p q = absurd p

in_order : (es : List (ℕ × ℕ)) → IsStrictlySortedBy nat_cmp (keys_of es) → T (is_sorted nat_cmp es)
unfolding IsStrictlySortedBy
in_order [] h = tt
in_order (e ∷ es) h = both (below_all nat_cmp e.0 es) (is_sorted nat_cmp es) (is_above e.0 es h.0) (in_order es h.1) where
  both : (a b : Bool) → T a → T b → T (a && b)
  both true b p q = q
  both false b p q = absurd p

-- a map kept in order has the entries of its view
pub entries_view : (m : BTreeMap ℕ ℕ) → tree.IsOrdered nat_cmp m → m.entries ≡ map.entries (map.from_entries {R = nat_cmp} m.entries)
entries_view m ordered =
    let sorted = in_order m.entries ordered in
    let same : map.from_sorted {R = nat_cmp} m.entries ≡ map.from_entries {R = nat_cmp} m.entries =
    same_map nat_cmp_total nat_cmp-IsAntisymmetric (map.from_sorted {R = nat_cmp} m.entries) (map.from_entries {R = nat_cmp} m.entries)
    (λ q. map.get-from_sorted nat_cmp m.entries q sorted ∙ sym (get-from_entries nat_cmp_total m.entries q)) in
    sym (map.entries-from_sorted nat_cmp m.entries sorted) ∙ ap (λ (n : map.FinMap nat_cmp ℕ). map.entries n) same

-- no words are words of 16 bits
pub in_range-empty : (m : BTreeMap ℕ ℕ) → m.entries ≡ [] → IsWordMap (map.from_entries {R = nat_cmp} m.entries)
in_range-empty m none address word is =
    let gone : None ≡ Some word = sym (get-empty nat_cmp address) ∙ ap (λ (es : List (ℕ × ℕ)). map.get (map.from_entries {R = nat_cmp} es) address) (sym none) ∙ is in
    cc gone

one_in_range : (b : Bool) (m : map.FinMap nat_cmp ℕ) (k w address word : ℕ) → eq_by_cmp nat_cmp address k ≡ b → IsWordMap m → k < 2 ^ 16 → w < 2 ^ 16
    → cond b (Some w) (map.get m address) ≡ Some word → (address < 2 ^ 16) × (word < 2 ^ 16)
one_in_range true m k w address word at inside in_k in_w is =
    let here : address ≡ k = eqb-true address k (sym (unsigned_tied address k) ∙ at) in
    let same : w ≡ word = cc is in
    (omega arith, omega arith)
one_in_range false m k w address word at inside in_k in_w is = inside address word is

-- one word more of 16 bits
pub in_range-insert : (m n : map.FinMap nat_cmp ℕ) (k w : ℕ) → n ≡ map.insert m k w → IsWordMap m → k < 2 ^ 16 → w < 2 ^ 16 → IsWordMap n
in_range-insert m n k w e inside in_k in_w address word is =
    one_in_range (eq_by_cmp nat_cmp address k) m k w address word refl inside in_k in_w
    (sym (get-insert nat_cmp_total m k w address) ∙ ap (λ (o : map.FinMap nat_cmp ℕ). map.get o address) (sym e) ∙ is)

-- what lists a map kept in order lists its view
pub listed_view : (m : BTreeMap ℕ ℕ) (seen : map.FinMap nat_cmp ℕ) (listed : List (ℕ × ℕ)) → listed ≡ m.entries → tree.IsOrdered nat_cmp m → map.from_entries {R = nat_cmp} m.entries ≡ seen → listed ≡ map.entries seen
listed_view m seen listed all ordered view =
    all ∙ entries_view m ordered ∙ ap (λ (n : map.FinMap nat_cmp ℕ). map.entries n) view

-- ---- words that are put one after another

abbrev put : map.FinMap nat_cmp ℕ → ℕ × ℕ → map.FinMap nat_cmp ℕ
put words entry = map.insert words entry.0 entry.1

-- a map that has what a function gives has it still once the same is put into both
all_put : (es : List (ℕ × ℕ)) (m : map.FinMap nat_cmp ℕ) (f : ℕ → Option ℕ) → ((q : ℕ) → f q ≡ map.get m q) → (q : ℕ) → update_all (eq_by_cmp nat_cmp) f es q ≡ map.get (fold put m es) q
all_put [] m f same q = same q
all_put (e ∷ es) m f same q =
    all_put es (put m e) (update (eq_by_cmp nat_cmp) f e.0 (Some e.1))
    (λ p. ap (λ b. cond b (Some e.1) (f p)) (turned p e.0) ∙ ap (cond (eq_by_cmp nat_cmp p e.0) (Some e.1)) (same p) ∙ sym (get-insert nat_cmp_total m e.0 e.1 p)) q

-- what is collected of a list is the map of its words put one after another
pub collected_view : (m : BTreeMap ℕ ℕ) (es : List (ℕ × ℕ)) → tree.IsFromIterResult nat_cmp es m → map.from_entries {R = nat_cmp} m.entries ≡ put_all es
collected_view m es made =
    same_map nat_cmp_total nat_cmp-IsAntisymmetric (map.from_entries {R = nat_cmp} m.entries) (put_all es)
    (λ q. get_view m q ∙ made.0 q ∙ all_put es map.empty (λ _. None) (λ p. sym (get-empty nat_cmp p)) q)

all_in_range : (es : List (ℕ × ℕ)) (m : map.FinMap nat_cmp ℕ) → IsWordMap m → AreWords es → IsWordMap (fold put m es)
all_in_range [] m inside are = inside
all_in_range (e ∷ es) m inside are =
    let here = All-head IsWord e es are in
    all_in_range es (put m e) (in_range-insert m (put m e) e.0 e.1 refl inside here.0 here.1) (All-tail IsWord e es are)

none_in_range : IsWordMap map.empty
none_in_range address word is = let gone : None ≡ Some word = sym (get-empty nat_cmp address) ∙ is in cc gone

-- a map that is collected of words of 16 bits has words of 16 bits
pub in_range-collected : (m : BTreeMap ℕ ℕ) (es : List (ℕ × ℕ)) → tree.IsFromIterResult nat_cmp es m → AreWords es → IsWordMap (map.from_entries {R = nat_cmp} m.entries)
in_range-collected m es made are =
    subst IsWordMap (sym (collected_view m es made)) (all_in_range es map.empty none_in_range are)

put_behind : (es : List (ℕ × ℕ)) (e : ℕ × ℕ) (m : map.FinMap nat_cmp ℕ) → fold put m (es ++ e ∷ []) ≡ put (fold put m es) e
put_behind [] e m = refl
put_behind (x ∷ es) e m = put_behind es e (put m x)

-- one word more after others
pub put_more : (es : List (ℕ × ℕ)) (e : ℕ × ℕ) → put_all (es ++ e ∷ []) ≡ map.insert (put_all es) e.0 e.1
put_more es e = put_behind es e map.empty
