-- The values of trees, item by item.
use Rattle.std.proofs.Common.{◌≡◌, ℕ, ◌+◌, ◌<◌, true, ◌&&◌, nat_lt, nat_le, List, [], ◌∷◌, ◌++◌, length, get_or, reverse, map, drop, take, Option, Result, Ok, Err, refl, sym, ap, ◌∙◌, arith, append_assoc}
use Rattle.std.proofs.lemmas.Bool.{and_parts, ltb-true, eqb-true}
use Rattle.std.proofs.lemmas.List.{at_drop_more, append-nil, reverse-append, map-append, take-append-drop, take_more, length-reverse}
use Rattle.c25_expr.proofs.Lasts.{reverse_pushed}
use Rattle.c25_meaning_language.specs.Tree.{Tree}
use Rattle.c25_meaning_language.specs.Reading.{PostfixItem, Push, Wrap, Apply, Combine}
use Rattle.c25_meaning_common.specs.Results.{◌>>=◌}
use Rattle.c25_meaning_language.specs.Value.{value_of, unary_value, binary_value}
use Rattle.c25_meaning_language.specs.declared.value.Value.{Value}
use Rattle.c25_meaning_language.specs.declared.value.ValueFault.{ValueFault}
use Rattle.c25_expr.specs.Postfix.{built, built_one, last_tree, fits, height, runs, most_waiting}
use Rattle.c25_expr.specs.Stack.{onto, applied, values_of, last_value, other_values}

abbrev value_or : {T : Type 0} → T → Result T ValueFault → T
value_or d (Ok x) = x
value_or d (Err f) = d

ok_same : {T : Type 0} (x y : T) → (let r : Result T ValueFault = Ok x in r) ≡ Ok y → x ≡ y
ok_same x y h = ap (value_or x) h

not_both : {T : Type 0} (x : T) (f : ValueFault) → (let r : Result T ValueFault = Ok x in r) ≡ Err f → ⊥
not_both x f h = cc

-- the values of a tree and of those before it
record Parts (o : Result (List Value) ValueFault) (r : Result Value ValueFault) (vs : List Value) : Type 0 where
  last : Value
  others : List Value
  last_is : r ≡ Ok last
  others_is : o ≡ Ok others
  all : vs ≡ last ∷ others

parts : (o : Result (List Value) ValueFault) (r : Result Value ValueFault) (vs : List Value) → (o >>= onto r) ≡ Ok vs → Parts o r vs
parts (Ok ws) (Ok v) vs h = record { last = v; others = ws; last_is = refl; others_is = refl; all = sym (ok_same (v ∷ ws) vs h) }
parts (Ok ws) (Err f) vs h = absurd (not_both vs f (sym h))
parts (Err f) r vs h = absurd (not_both vs f (sym h))

some_waits : (n : ℕ) → (nat_lt 0 n && nat_le n most_waiting) ≡ true → 0 < n
some_waits n h = ltb-true 0 n (and_parts (nat_lt 0 n) (nat_le n most_waiting) h).0

two_wait : (n : ℕ) → (nat_lt 1 n && nat_le n most_waiting) ≡ true → 1 < n
two_wait n h = ltb-true 1 n (and_parts (nat_lt 1 n) (nat_le n most_waiting) h).0

made_unary : (o : Result (List Value) ValueFault) (r : Result Value ValueFault) (g : Value → Result Value ValueFault) (v : Value) (ws vs : List Value)
    → o ≡ Ok ws → r ≡ Ok v → vs ≡ v ∷ ws → (o >>= onto (r >>= g)) ≡ onto (g (last_value vs)) (other_values vs)
made_unary o r g v ws vs h k all = rw (h, k, all) refl

made_binary : (o : Result (List Value) ValueFault) (l r : Result Value ValueFault) (g : Value → Value → Result Value ValueFault) (x y : Value) (us ws vs : List Value)
    → o ≡ Ok us → l ≡ Ok x → r ≡ Ok y → vs ≡ y ∷ ws → ws ≡ x ∷ us → (o >>= onto (l >>= λ a. r >>= g a)) ≡ onto (g (last_value (other_values vs)) (last_value vs)) (other_values (other_values vs))
made_binary o l r g x y us ws vs h j k all others = rw (h, j, k, all, others) refl

-- what names stand for
abbrev Names : Type 0
Names = List ℕ → Option Value

-- as many values as trees
pub length_values : (names : Names) (here : Value) (ts : List Tree) (vs : List Value) → values_of names here ts ≡ Ok vs → length ts ≡ length vs
length_values names here [] vs h = ap (λ (us : List Value). length us) (ok_same [] vs h)
length_values names here (t ∷ ts) vs h =
    let p = parts (values_of names here ts) (value_of names here t) vs h in
    let more : length ts ≡ length p.others = length_values names here ts p.others p.others_is in
    let same : length vs ≡ length (p.last ∷ p.others) = ap (λ (us : List Value). length us) p.all in
    omega (arith, more, same)

-- an item makes of the values what it makes of the trees
pub values_built : (names : Names) (here : Value) (i : PostfixItem) (ts : List Tree) (vs : List Value) → values_of names here ts ≡ Ok vs → fits i (length ts) ≡ true → values_of names here (built_one i ts) ≡ applied names here i vs
values_built names here (Push l) ts vs h room = rw h refl
values_built names here Wrap [] vs h room = absurd (omega (arith, ltb-true 0 0 room))
values_built names here Wrap (t ∷ ts) vs h room = h
values_built names here (Apply op) [] vs h room = absurd (omega (arith, some_waits 0 room))
values_built names here (Apply op) (t ∷ ts) vs h room =
    let p = parts (values_of names here ts) (value_of names here t) vs h in
    made_unary (values_of names here ts) (value_of names here t) (unary_value op) p.last p.others vs p.others_is p.last_is p.all
values_built names here (Combine op) [] vs h room = absurd (omega (arith, two_wait 0 room))
values_built names here (Combine op) (r ∷ []) vs h room = absurd (omega (arith, two_wait 1 room))
values_built names here (Combine op) (r ∷ l ∷ ts) vs h room =
    let p = parts (values_of names here (l ∷ ts)) (value_of names here r) vs h in
    let q = parts (values_of names here ts) (value_of names here l) p.others p.others_is in
    made_binary (values_of names here ts) (value_of names here l) (value_of names here r) (binary_value op) q.last p.last q.others p.others vs q.others_is q.last_is p.last_is p.all q.all

err_unary : (o : Result (List Value) ValueFault) (r : Result Value ValueFault) (g : Value → Result Value ValueFault) (f : ValueFault) → (o >>= onto r) ≡ Err f → (o >>= onto (r >>= g)) ≡ Err f
err_unary (Ok vs) (Ok v) g f h = absurd (not_both (v ∷ vs) f h)
err_unary (Ok vs) (Err e) g f h = h
err_unary (Err e) r g f h = h

err_binary : (o : Result (List Value) ValueFault) (l r : Result Value ValueFault) (g : Value → Value → Result Value ValueFault) (f : ValueFault) → ((o >>= onto l) >>= onto r) ≡ Err f → (o >>= onto (l >>= λ x. r >>= g x)) ≡ Err f
err_binary (Ok vs) (Ok x) (Ok y) g f h = absurd (not_both (y ∷ x ∷ vs) f h)
err_binary (Ok vs) (Ok x) (Err e) g f h = h
err_binary (Ok vs) (Err e) r g f h = h
err_binary (Err e) l r g f h = h

-- a fault stays
err_one : (names : Names) (here : Value) (i : PostfixItem) (ts : List Tree) (f : ValueFault) → values_of names here ts ≡ Err f → values_of names here (built_one i ts) ≡ Err f
err_one names here (Push l) ts f h = rw h refl
err_one names here Wrap [] f h = absurd (not_both [] f h)
err_one names here Wrap (t ∷ ts) f h = h
err_one names here (Apply op) [] f h = absurd (not_both [] f h)
err_one names here (Apply op) (t ∷ ts) f h = err_unary (values_of names here ts) (value_of names here t) (unary_value op) f h
err_one names here (Combine op) [] f h = absurd (not_both [] f h)
err_one names here (Combine op) (r ∷ []) f h = err_unary (Ok []) (value_of names here r) (binary_value op here) f h
err_one names here (Combine op) (r ∷ l ∷ ts) f h = err_binary (values_of names here ts) (value_of names here l) (value_of names here r) (binary_value op) f h

err_many : (names : Names) (here : Value) (is js : List PostfixItem) (f : ValueFault) → values_of names here (built js) ≡ Err f → values_of names here (built (is ++ js)) ≡ Err f
err_many names here [] js f h = h
err_many names here (i ∷ is) js f h = err_one names here i (built (is ++ js)) f (err_many names here is js f h)

-- how many trees there are after an item
pub length_built : (i : PostfixItem) (ts : List Tree) → fits i (length ts) ≡ true → length (built_one i ts) ≡ height i (length ts)
length_built (Push l) ts room = omega arith
length_built Wrap [] room = absurd (omega (arith, ltb-true 0 0 room))
length_built Wrap (t ∷ ts) room = refl
length_built (Apply op) [] room = absurd (omega (arith, some_waits 0 room))
length_built (Apply op) (t ∷ ts) room = refl
length_built (Combine op) [] room = absurd (omega (arith, two_wait 0 room))
length_built (Combine op) (r ∷ []) room = absurd (omega (arith, two_wait 1 room))
length_built (Combine op) (r ∷ l ∷ ts) room = omega arith

-- items that run leave one tree
one_left : (is js : List PostfixItem) → runs is (length (built js)) ≡ true → length (built (reverse is ++ js)) ≡ 1
one_left [] js h = eqb-true (length (built js)) 1 h
one_left (i ∷ is) js h =
    let p = and_parts (fits i (length (built js))) _ h in
    let next : runs is (length (built (i ∷ js))) ≡ true = ap (runs is) (length_built i (built js) p.0) ∙ p.1 in
    ap (λ (ks : List PostfixItem). length (built ks)) (ap (λ (ks : List PostfixItem). ks ++ js) (reverse-append (i ∷ []) is) ∙ append_assoc (reverse is) (i ∷ []) js) ∙ one_left is (i ∷ js) next

-- the fault of a single tree
single_err : (names : Names) (here : Value) (ts : List Tree) (f : ValueFault) → length ts ≡ 1 → values_of names here ts ≡ Err f → value_of names here (last_tree ts) ≡ Err f
single_err names here [] f n h = absurd (not_both [] f h)
single_err names here (t ∷ []) f n h = by_value (value_of names here t) h
  where
    by_value : (r : Result Value ValueFault) → onto r [] ≡ Err f → r ≡ Err f
    by_value (Ok v) h = absurd (not_both (v ∷ []) f h)
    by_value (Err e) h = cc
single_err names here (t ∷ u ∷ ts) f n h = absurd (omega (arith, n))

-- the value of a single tree
pub single_ok : (names : Names) (here : Value) (ts : List Tree) (v : Value) (vs : List Value) → length vs ≡ 0 → values_of names here ts ≡ Ok (v ∷ vs) → value_of names here (last_tree ts) ≡ Ok v
single_ok names here [] v vs n h = absurd (omega (arith, ap (λ (us : List Value). length us) (ok_same [] (v ∷ vs) h)))
single_ok names here (t ∷ ts) v vs n h =
    let p = parts (values_of names here ts) (value_of names here t) (v ∷ vs) h in
    p.last_is ∙ ap (λ (x : Value). Ok x) (head_same p.last v p.others vs (sym p.all))
  where
    head_same : (x y : Value) (xs ys : List Value) → x ∷ xs ≡ y ∷ ys → x ≡ y
    head_same x y xs ys h = cc

-- one item more
pub runs_more : {A : Type 0} (g : A → PostfixItem) (xs : List A) (i : ℕ) (d : A) (n : ℕ) → i < length xs → runs (map g (drop i xs)) n ≡ true
    → (fits (g (get_or xs i d)) n ≡ true) × (runs (map g (drop (i + 1) xs)) (height (g (get_or xs i d)) n) ≡ true)
runs_more g xs i d n l h = and_parts _ _ (sym (at_drop_more (λ us. runs (map g us) n) xs i d l) ∙ h)

-- what an item makes of the values so far
made : {A : Type 0} (names : Names) (here : Value) (g : A → PostfixItem) (xs : List A) (i : ℕ) (d : A) (vs : List Value) → i < length xs
    → values_of names here (built (reverse (map g (take i xs)))) ≡ Ok (reverse vs) → runs (map g (drop i xs)) (length vs) ≡ true
    → values_of names here (built (reverse (map g (take (i + 1) xs)))) ≡ applied names here (g (get_or xs i d)) (reverse vs)
made names here g xs i d vs l valued left =
    let ts : List Tree = built (reverse (map g (take i xs))) in
    let same : length vs ≡ length ts = omega (arith, length_values names here ts (reverse vs) valued, length-reverse vs) in
    let room : fits (g (get_or xs i d)) (length ts) ≡ true = ap (fits (g (get_or xs i d))) (sym same) ∙ (runs_more g xs i d (length vs) l left).0 in
    ap (λ (ks : List PostfixItem). values_of names here (built ks)) (reverse_pushed g (take i xs) (take (i + 1) xs) (get_or xs i d) (take_more xs i d l))
    ∙ values_built names here (g (get_or xs i d)) ts (reverse vs) valued room

-- after an item that has values
pub values_more : {A : Type 0} (names : Names) (here : Value) (g : A → PostfixItem) (xs : List A) (i : ℕ) (d : A) (vs ws : List Value) → i < length xs
    → values_of names here (built (reverse (map g (take i xs)))) ≡ Ok (reverse vs) → runs (map g (drop i xs)) (length vs) ≡ true
    → applied names here (g (get_or xs i d)) (reverse vs) ≡ Ok (reverse ws)
    → (values_of names here (built (reverse (map g (take (i + 1) xs)))) ≡ Ok (reverse ws)) × ((runs (map g (drop (i + 1) xs)) (length ws) ≡ true) × (height (g (get_or xs i d)) (length vs) ≡ length ws))
values_more names here g xs i d vs ws l valued left h =
    let ts : List Tree = built (reverse (map g (take i xs))) in
    let us : List Tree = built (reverse (map g (take (i + 1) xs))) in
    let x : PostfixItem = g (get_or xs i d) in
    let next : values_of names here us ≡ Ok (reverse ws) = made names here g xs i d vs l valued left ∙ h in
    let same : length vs ≡ length ts = omega (arith, length_values names here ts (reverse vs) valued, length-reverse vs) in
    let room : fits x (length ts) ≡ true = ap (fits x) (sym same) ∙ (runs_more g xs i d (length vs) l left).0 in
    let trees : length us ≡ height x (length ts) =
    ap (λ (ks : List PostfixItem). length (built ks)) (reverse_pushed g (take i xs) (take (i + 1) xs) (get_or xs i d) (take_more xs i d l)) ∙ length_built x ts room in
    let now : height x (length vs) ≡ length ws = ap (height x) same ∙ sym trees ∙ length_values names here us (reverse ws) next ∙ length-reverse ws in
    (next, (ap (runs (map g (drop (i + 1) xs))) (sym now) ∙ (runs_more g xs i d (length vs) l left).1, now))

-- a fault on the way is the fault of the tree
pub err_stays : {A : Type 0} (names : Names) (here : Value) (g : A → PostfixItem) (xs : List A) (i : ℕ) (d : A) (vs : List Value) (f : ValueFault) → i < length xs
    → values_of names here (built (reverse (map g (take i xs)))) ≡ Ok (reverse vs) → runs (map g (drop i xs)) (length vs) ≡ true
    → applied names here (g (get_or xs i d)) (reverse vs) ≡ Err f → runs (map g xs) 0 ≡ true
    → value_of names here (last_tree (built (reverse (map g xs)))) ≡ Err f
err_stays names here g xs i d vs f l valued left h whole =
    let all : reverse (map g xs) ≡ reverse (map g (drop (i + 1) xs)) ++ reverse (map g (take (i + 1) xs)) =
    ap (λ ys. reverse (map g ys)) (sym (take-append-drop (i + 1) xs)) ∙ ap reverse (map-append g (take (i + 1) xs) (drop (i + 1) xs)) ∙ reverse-append (map g (take (i + 1) xs)) (map g (drop (i + 1) xs)) in
    single_err names here (built (reverse (map g xs))) f
    (ap (λ (ks : List PostfixItem). length (built ks)) (sym (append-nil (reverse (map g xs)))) ∙ one_left (map g xs) [] whole)
    (ap (λ (ks : List PostfixItem). values_of names here (built ks)) all
    ∙ err_many names here (reverse (map g (drop (i + 1) xs))) (reverse (map g (take (i + 1) xs))) f (made names here g xs i d vs l valued left ∙ h))
