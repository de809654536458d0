-- A value that an expression has when it is assembled is its value under the map where its base is replaced by the address
-- of that base: no operator takes an address but a sum with a number and a difference, and a base stands once or not at all.
use Rattle.std.proofs.Common.{◌≡◌, ℕ, ◌^◌, ltb, Bool, true, false, cond, eqb, List, Option, Some, None, Result, Ok, Err, ℤ, pos, negsuc, ◌+ℤ◌, ◌-ℤ◌, ◌*ℤ◌, neg_ℤ, refl, sym, ap, ◌∙◌, arith}
use Rattle.std.specs.Int.{int_shr}
use Rattle.std.specs.Int.RustNames.{int_div, int_rem}
use Rattle.std.specs.Option.{ok_or}
use Rattle.std.proofs.Math.IntN.{+ℤ_idl}
use Rattle.std.proofs.lemmas.Bool.{eqb-true}
use Rattle.std.proofs.lemmas.Int.{ints}
use Rattle.c25_bits.specs.Cut.{fits32}
use Rattle.c25_meaning_common.specs.Results.{◌>>=◌, told}
use Rattle.c25_meaning_language.specs.Statement.{value_fault}
use Rattle.c25_meaning_language.specs.Tree.{Leaf, Constant, Name, Here, Tree, Single, Group, Unary, Binary}
use Rattle.c25_meaning_language.specs.Value.{in_range, is_zero, shift_count, number_of, base_of, binary_value, unary_value, absolute_base, leaf_value, value_of}
use Rattle.c25_meaning_language.specs.declared.expression.UnaryOperator.{UnaryOperator}
use Rattle.c25_meaning_language.specs.declared.expression.UnaryOperator.TheVariants as unary
use Rattle.c25_meaning_language.specs.declared.expression.BinaryOperator.{BinaryOperator}
use Rattle.c25_meaning_language.specs.declared.expression.BinaryOperator.TheVariants as binary
use Rattle.c25_meaning_language.specs.declared.value.Base.{Base}
use Rattle.c25_meaning_language.specs.declared.value.Base.TheVariants.{Absolute, Section, Loaded, External}
use Rattle.c25_meaning_language.specs.declared.value.Value.{Value}
use Rattle.c25_meaning_language.specs.declared.value.ValueFault.{ValueFault}
use Rattle.c25_meaning_language.specs.declared.value.ValueFault.TheVariants as fault
use Rattle.c25_module_laws.proofs.ResultSteps.{bound, permitted}
use Rattle.c25_laws.specs.SourceValues.{shift, unary_result, binary_result, leaf_under, value_under, leaf_is_address, unary_is_address, binary_is_address, is_address, counts_from_place}

-- ---- numbers

in_range_is : (z y : ℤ) → in_range z ≡ Ok y → z ≡ y
in_range_is z y e = (permitted (fits32 z) z fault.ValueRange y e).1

same_ok : (y z : ℤ) → ◌≡◌ {A = Result ℤ ValueFault} (Ok y) (Ok z) → y ≡ z
same_ok y z e = let q : y ≡ z = cc in q

divided_is : (b : Bool) (q z : ℤ) → cond b (Err fault.DivideByZero) (in_range q) ≡ Ok z → q ≡ z
divided_is true q z e = absurd (cc)
divided_is false q z e = in_range_is q z e

counted : (b : Bool) (m n : ℕ) → ok_or (cond b (Some m) None) fault.ValueRange ≡ Ok n → m ≡ n
counted true m n e = let q : m ≡ n = cc in q
counted false m n e = absurd (cc)

shift_is : (y : ℤ) (n : ℕ) → ok_or (shift_count y) fault.ValueRange ≡ Ok n → shift y ≡ n
shift_is (pos m) n e = counted (ltb m 32) m n e
shift_is (negsuc m) n e = absurd (cc)

-- a number that was tested is the number
number_is : (op : BinaryOperator) (x y z : ℤ) → number_of op x y ≡ Ok z → binary_result op x y ≡ z
number_is binary.Multiply x y z e = in_range_is (x *ℤ y) z e
number_is binary.Divide x y z e = divided_is (is_zero y) (int_div x y) z e
number_is binary.Remainder x y z e = divided_is (is_zero y) (int_rem x y) z e
number_is binary.Add x y z e = in_range_is (x +ℤ y) z e
number_is binary.Subtract x y z e = in_range_is (x -ℤ y) z e
number_is binary.ShiftLeft x y z e = let a = bound (ok_or (shift_count y) fault.ValueRange) (λ n. in_range (x *ℤ pos (2 ^ n))) z e in ap (λ n. x *ℤ pos (2 ^ n)) (shift_is y a.0 a.1) ∙ in_range_is (x *ℤ pos (2 ^ a.0)) z a.2
number_is binary.ShiftRight x y z e = let a = bound (ok_or (shift_count y) fault.ValueRange) (λ n. in_range (int_shr x n)) z e in ap (int_shr x) (shift_is y a.0 a.1) ∙ in_range_is (int_shr x a.0) z a.2
number_is binary.Less x y z e = same_ok _ z e
number_is binary.LessOrEqual x y z e = same_ok _ z e
number_is binary.Greater x y z e = same_ok _ z e
number_is binary.GreaterOrEqual x y z e = same_ok _ z e
number_is binary.Equal x y z e = same_ok _ z e
number_is binary.NotEqual x y z e = same_ok _ z e
number_is binary.And x y z e = same_ok _ z e
number_is binary.ExclusiveOr x y z e = same_ok _ z e
number_is binary.Or x y z e = same_ok _ z e

-- sums of bases and offsets; `w` is the base of a plain number
add_right : (u w x y z : ℤ) → w ≡ pos 0 → x +ℤ y ≡ z → (u +ℤ x) +ℤ (w +ℤ y) ≡ u +ℤ z
add_right u w x y z e f = omega (arith, ints)

add_left : (u w x y z : ℤ) → w ≡ pos 0 → x +ℤ y ≡ z → (w +ℤ x) +ℤ (u +ℤ y) ≡ u +ℤ z
add_left u w x y z e f = omega (arith, ints)

subtract_right : (u w x y z : ℤ) → w ≡ pos 0 → x -ℤ y ≡ z → (u +ℤ x) -ℤ (w +ℤ y) ≡ u +ℤ z
subtract_right u w x y z e f = omega (arith, ints)

subtract_same : (u w x y z : ℤ) → w ≡ pos 0 → x -ℤ y ≡ z → (u +ℤ x) -ℤ (u +ℤ y) ≡ w +ℤ z
subtract_same u w x y z e f = omega (arith, ints)

-- ---- bases

same : (b c : Base) → ◌≡◌ {A = Result Base ValueFault} (Ok b) (Ok c) → b ≡ c
same b c e = cc

same_value : (v w : Value) → ◌≡◌ {A = Result Value ValueFault} (Ok v) (Ok w) → v ≡ w
same_value v w e = let q : v ≡ w = cc in q

absolute_is : (b a : Base) → absolute_base b ≡ Ok a → (b ≡ Absolute) × (Absolute ≡ a)
absolute_is Absolute a e = (refl, same Absolute a e)
absolute_is (Section n) a e = absurd (cc)
absolute_is (Loaded n) a e = absurd (cc)
absolute_is (External n) a e = absurd (cc)

section_is : (s t : ℕ) (c : Base) → cond (eqb s t) (Ok Absolute) (Err fault.NotAbsolute) ≡ Ok c → (s ≡ t) × (Absolute ≡ c)
section_is s t c e = let p = permitted (eqb s t) Absolute fault.NotAbsolute c e in (eqb-true s t p.0, p.1)

found : (o : Option Value) (v : Value) → ok_or o fault.Undefined ≡ Ok v → o ≡ Some v
found None v e = absurd (cc)
found (Some w) v e = let q : w ≡ v = cc in ap Some q

pub untold : (r : Result Value ValueFault) (v : Value) → told value_fault r ≡ Ok v → r ≡ Ok v
untold (Ok x) v e = let q : x ≡ v = cc in ap Ok q
untold (Err f) v e = absurd (cc)

-- ---- values

module _ (at : Base → ℤ) (none : at Absolute ≡ pos 0) where
  -- what a value is with its base's address
  abbrev pub moved : Value → ℤ
  moved v = at v.base +ℤ v.offset

  plain : (x : ℤ) → at Absolute +ℤ x ≡ x
  plain x = ap (λ w. w +ℤ x) none ∙ +ℤ_idl x

  plain_at : (b : Base) (x : ℤ) → b ≡ Absolute → at b +ℤ x ≡ x
  plain_at b x e = ap (λ c. at c +ℤ x) e ∙ plain x

  pair_moves : (op : BinaryOperator) (a b c : Base) (x y z : ℤ) → base_of op a b ≡ Ok c → number_of op x y ≡ Ok z → binary_result op (at a +ℤ x) (at b +ℤ y) ≡ at c +ℤ z
  pair_moves op Absolute Absolute c x y z e n = (λ i. binary_result op (plain x i) (plain y i)) ∙ number_is op x y z n ∙ sym (plain_at c z (sym (same Absolute c e)))
  pair_moves binary.Add (Section s) Absolute c x y z e n = add_right (at (Section s)) (at Absolute) x y z none (number_is binary.Add x y z n) ∙ ap (λ b. at b +ℤ z) (same (Section s) c e)
  pair_moves binary.Add (Loaded s) Absolute c x y z e n = add_right (at (Loaded s)) (at Absolute) x y z none (number_is binary.Add x y z n) ∙ ap (λ b. at b +ℤ z) (same (Loaded s) c e)
  pair_moves binary.Add (External s) Absolute c x y z e n = add_right (at (External s)) (at Absolute) x y z none (number_is binary.Add x y z n) ∙ ap (λ b. at b +ℤ z) (same (External s) c e)
  pair_moves binary.Add Absolute (Section t) c x y z e n = add_left (at (Section t)) (at Absolute) x y z none (number_is binary.Add x y z n) ∙ ap (λ b. at b +ℤ z) (same (Section t) c e)
  pair_moves binary.Add Absolute (Loaded t) c x y z e n = add_left (at (Loaded t)) (at Absolute) x y z none (number_is binary.Add x y z n) ∙ ap (λ b. at b +ℤ z) (same (Loaded t) c e)
  pair_moves binary.Add Absolute (External t) c x y z e n = add_left (at (External t)) (at Absolute) x y z none (number_is binary.Add x y z n) ∙ ap (λ b. at b +ℤ z) (same (External t) c e)
  pair_moves binary.Subtract (Section s) Absolute c x y z e n = subtract_right (at (Section s)) (at Absolute) x y z none (number_is binary.Subtract x y z n) ∙ ap (λ b. at b +ℤ z) (same (Section s) c e)
  pair_moves binary.Subtract (Loaded s) Absolute c x y z e n = subtract_right (at (Loaded s)) (at Absolute) x y z none (number_is binary.Subtract x y z n) ∙ ap (λ b. at b +ℤ z) (same (Loaded s) c e)
  pair_moves binary.Subtract (External s) Absolute c x y z e n = subtract_right (at (External s)) (at Absolute) x y z none (number_is binary.Subtract x y z n) ∙ ap (λ b. at b +ℤ z) (same (External s) c e)
  pair_moves binary.Subtract (Section s) (Section t) c x y z e n =
      let p = section_is s t c e in
      ap (λ k. (at (Section s) +ℤ x) -ℤ (at (Section k) +ℤ y)) (sym p.0)
      ∙ subtract_same (at (Section s)) (at Absolute) x y z none (number_is binary.Subtract x y z n)
      ∙ ap (λ b. at b +ℤ z) p.1
  pair_moves binary.Subtract (Loaded s) (Loaded t) c x y z e n =
      let p = section_is s t c e in
      ap (λ k. (at (Loaded s) +ℤ x) -ℤ (at (Loaded k) +ℤ y)) (sym p.0)
      ∙ subtract_same (at (Loaded s)) (at Absolute) x y z none (number_is binary.Subtract x y z n)
      ∙ ap (λ b. at b +ℤ z) p.1
  pair_moves _ a b c x y z e n = absurd (cc)

  binary_moves : (op : BinaryOperator) (x y v : Value) → binary_value op x y ≡ Ok v → binary_result op (moved x) (moved y) ≡ moved v
  binary_moves op x y v e =
      let a = bound (base_of op x.base y.base) _ v e in
      let b = bound (number_of op x.offset y.offset) _ v a.2 in
      pair_moves op x.base y.base a.0 x.offset y.offset b.0 a.1 b.1 ∙ ap moved (same_value (record { base = a.0; offset = b.0 }) v b.2)

  unary_moves : (op : UnaryOperator) (x v : Value) → unary_value op x ≡ Ok v → unary_result op (moved x) ≡ moved v
  unary_moves unary.Plus x v e = ap moved (same_value x v e)
  unary_moves unary.Minus x v e =
      let a = bound (absolute_base x.base) _ v e in
      let made : ℤ → Value = λ z. record { base = a.0; offset = z } in
      let b = bound (in_range (neg_ℤ x.offset)) (λ z. Ok (made z)) v a.2 in
      let p = absolute_is x.base a.0 a.1 in
      ap neg_ℤ (plain_at x.base x.offset p.0) ∙ in_range_is (neg_ℤ x.offset) b.0 b.1 ∙ sym (plain_at a.0 b.0 (sym p.1)) ∙ ap moved (same_value (made b.0) v b.2)
  unary_moves unary.Complement x v e =
      let a = bound (absolute_base x.base) _ v e in
      let p = absolute_is x.base a.0 a.1 in
      let z = neg_ℤ x.offset -ℤ pos 1 in
      ap (λ y. neg_ℤ y -ℤ pos 1) (plain_at x.base x.offset p.0) ∙ sym (plain_at a.0 z (sym p.1)) ∙ ap moved (same_value (record { base = a.0; offset = z }) v a.2)

  module _ (names : List ℕ → Option Value) (here : Value) (number : List ℕ → ℤ) (address : ℤ) (each : (text : List ℕ) (w : Value) → names text ≡ Some w → number text ≡ moved w) (begins : address ≡ moved here) where
    leaf_moves : (l : Leaf) (v : Value) → leaf_value names here l ≡ Ok v → leaf_under number address l ≡ moved v
    leaf_moves (Constant n) v e =
        let a = bound (in_range (pos n)) _ v e in
        in_range_is (pos n) a.0 a.1 ∙ sym (plain a.0) ∙ ap moved (same_value (record { base = Absolute; offset = a.0 }) v a.2)
    leaf_moves (Name text) v e = each text v (found (names text) v e)
    leaf_moves Here v e = begins ∙ ap moved (same_value here v e)

    -- the value under the map of an expression that has one
    pub value_moves : (t : Tree) (v : Value) → value_of names here t ≡ Ok v → value_under number address t ≡ moved v
    value_moves (Single l) v e = leaf_moves l v e
    value_moves (Group t) v e = value_moves t v e
    value_moves (Unary op t) v e =
        let a = bound (value_of names here t) (unary_value op) v e in
        ap (unary_result op) (value_moves t a.0 a.1) ∙ unary_moves op a.0 v a.2
    value_moves (Binary op l r) v e =
        let a = bound (value_of names here l) (λ x. value_of names here r >>= binary_value op x) v e in
        let b = bound (value_of names here r) (binary_value op a.0) v a.2 in
        (λ i. binary_result op (value_moves l a.0 a.1 i) (value_moves r b.0 b.1 i)) ∙ binary_moves op a.0 b.0 v b.2

-- ---- whether it is an address

none_address : (op : BinaryOperator) → binary_is_address op false false ≡ false
none_address binary.Add = refl
none_address binary.Subtract = refl
none_address _ = refl

pair_kind : (op : BinaryOperator) (a b c : Base) → base_of op a b ≡ Ok c → binary_is_address op (counts_from_place a) (counts_from_place b) ≡ counts_from_place c
pair_kind op Absolute Absolute c e = none_address op ∙ ap counts_from_place (same Absolute c e)
pair_kind binary.Add (Section s) Absolute c e = ap counts_from_place (same (Section s) c e)
pair_kind binary.Add (Loaded s) Absolute c e = ap counts_from_place (same (Loaded s) c e)
pair_kind binary.Add (External s) Absolute c e = ap counts_from_place (same (External s) c e)
pair_kind binary.Add Absolute (Section t) c e = ap counts_from_place (same (Section t) c e)
pair_kind binary.Add Absolute (Loaded t) c e = ap counts_from_place (same (Loaded t) c e)
pair_kind binary.Add Absolute (External t) c e = ap counts_from_place (same (External t) c e)
pair_kind binary.Subtract (Section s) Absolute c e = ap counts_from_place (same (Section s) c e)
pair_kind binary.Subtract (Loaded s) Absolute c e = ap counts_from_place (same (Loaded s) c e)
pair_kind binary.Subtract (External s) Absolute c e = ap counts_from_place (same (External s) c e)
pair_kind binary.Subtract (Section s) (Section t) c e = ap counts_from_place (section_is s t c e).1
pair_kind binary.Subtract (Loaded s) (Loaded t) c e = ap counts_from_place (section_is s t c e).1
pair_kind _ a b c e = absurd (cc)

binary_kind : (op : BinaryOperator) (x y v : Value) → binary_value op x y ≡ Ok v → binary_is_address op (counts_from_place x.base) (counts_from_place y.base) ≡ counts_from_place v.base
binary_kind op x y v e =
    let a = bound (base_of op x.base y.base) _ v e in
    let b = bound (number_of op x.offset y.offset) _ v a.2 in
    pair_kind op x.base y.base a.0 a.1 ∙ ap (λ (w : Value). counts_from_place w.base) (same_value (record { base = a.0; offset = b.0 }) v b.2)

unary_kind : (op : UnaryOperator) (x v : Value) → unary_value op x ≡ Ok v → unary_is_address op (counts_from_place x.base) ≡ counts_from_place v.base
unary_kind unary.Plus x v e = ap (λ (w : Value). counts_from_place w.base) (same_value x v e)
unary_kind unary.Minus x v e =
    let a = bound (absolute_base x.base) _ v e in
    let made : ℤ → Value = λ z. record { base = a.0; offset = z } in
    let b = bound (in_range (neg_ℤ x.offset)) (λ z. Ok (made z)) v a.2 in
    ap counts_from_place (absolute_is x.base a.0 a.1).1 ∙ ap (λ (w : Value). counts_from_place w.base) (same_value (made b.0) v b.2)
unary_kind unary.Complement x v e =
    let a = bound (absolute_base x.base) _ v e in
    ap counts_from_place (absolute_is x.base a.0 a.1).1 ∙ ap (λ (w : Value). counts_from_place w.base) (same_value (record { base = a.0; offset = neg_ℤ x.offset -ℤ pos 1 }) v a.2)

module _ (names : List ℕ → Option Value) (here : Value) (places : List ℕ → Bool) (each : (text : List ℕ) (w : Value) → names text ≡ Some w → places text ≡ counts_from_place w.base) (begins : true ≡ counts_from_place here.base) where
  leaf_kind : (l : Leaf) (v : Value) → leaf_value names here l ≡ Ok v → leaf_is_address places l ≡ counts_from_place v.base
  leaf_kind (Constant n) v e =
      let a = bound (in_range (pos n)) _ v e in
      ap (λ (w : Value). counts_from_place w.base) (same_value (record { base = Absolute; offset = a.0 }) v a.2)
  leaf_kind (Name text) v e = each text v (found (names text) v e)
  leaf_kind Here v e = begins ∙ ap (λ (w : Value). counts_from_place w.base) (same_value here v e)

  -- an expression is an address where its value counts from one
  pub kind_stays : (t : Tree) (v : Value) → value_of names here t ≡ Ok v → is_address places t ≡ counts_from_place v.base
  kind_stays (Single l) v e = leaf_kind l v e
  kind_stays (Group t) v e = kind_stays t v e
  kind_stays (Unary op t) v e =
      let a = bound (value_of names here t) (unary_value op) v e in
      ap (unary_is_address op) (kind_stays t a.0 a.1) ∙ unary_kind op a.0 v a.2
  kind_stays (Binary op l r) v e =
      let a = bound (value_of names here l) (λ x. value_of names here r >>= binary_value op x) v e in
      let b = bound (value_of names here r) (binary_value op a.0) v a.2 in
      (λ i. binary_is_address op (kind_stays l a.0 a.1 i) (kind_stays r b.0 b.1 i)) ∙ binary_kind op a.0 b.0 v b.2
