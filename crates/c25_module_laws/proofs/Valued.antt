-- Values of expressions: each counts from what the symbols count from, or from nothing, and has 32 signed bits.
use Rattle.std.proofs.Common.{◌≡◌, ℕ, ◌<◌, ◌^◌, Bool, true, false, cond, eqb, int_lt, not, List, Option, Some, None, Result, Ok, Err, ℤ, pos, negsuc, ◌+ℤ◌, ◌-ℤ◌, ◌*ℤ◌, neg_ℤ, ap, subst, arith}
use Rattle.std.specs.Int.{w32, int_bit_and, int_bit_or, int_bit_xor, int_shr}
use Rattle.std.specs.Int.RustNames.{FitsSigned, int_div, int_rem}
use Rattle.std.specs.Option.{ok_or}
use Rattle.std.proofs.lemmas.Bool.Decides.{nat_tests}
use Rattle.std.proofs.lemmas.Int.{ints}
use borrow.Author.Gap.{read_sfits}
use Rattle.c25_bits.specs.Cut.{fits32}
use Rattle.c25_meaning_common.specs.Results.{◌>>=◌, told}
use Rattle.c25_meaning_language.specs.Statement.{valued, value_fault}
use Rattle.c25_meaning_language.specs.Tree.{Leaf, Constant, Name, Here, Tree, Single, Group, Unary, Binary}
use Rattle.c25_meaning_language.specs.Value.{Table, in_range, is_zero, shift_count, truth, number_of, base_of, binary_value, unary_value, absolute_base, plain_value, leaf_value, value_of, value_named}
use Rattle.c25_meaning_language.specs.declared.expression.UnaryOperator.{UnaryOperator}
use Rattle.c25_meaning_language.specs.declared.expression.UnaryOperator.TheVariants as unary
use Rattle.c25_meaning_language.specs.declared.expression.BinaryOperator.{BinaryOperator}
use Rattle.c25_meaning_language.specs.declared.expression.BinaryOperator.TheVariants as binary
use Rattle.c25_meaning_language.specs.declared.value.Base.{Base}
use Rattle.c25_meaning_language.specs.declared.value.Base.TheVariants.{Absolute, Section, Loaded, External}
use Rattle.c25_meaning_language.specs.declared.value.Value.{Value}
use Rattle.c25_meaning_language.specs.declared.value.ValueFault.{ValueFault}
use Rattle.c25_meaning_language.specs.declared.value.ValueFault.TheVariants as fault
use Rattle.c25_module_laws.proofs.ResultSteps.{bound, permitted}

-- ---- numbers

tested : (z : ℤ) → fits32 z ≡ true → FitsSigned w32 z
tested (pos n) h = let l : n < 2 ^ 31 = grind (arith, nat_tests) in omega (arith, ints)
tested (negsuc n) h = let l : n < 2 ^ 31 = grind (arith, nat_tests) in omega (arith, ints)

pub natural_fits : (n : ℕ) → n < 2 ^ 31 → FitsSigned w32 (pos n)
natural_fits n h = omega (arith, ints)

ranged : (z y : ℤ) → in_range z ≡ Ok y → FitsSigned w32 y
ranged z y e = let p = permitted (fits32 z) z fault.ValueRange y e in subst (FitsSigned w32) p.1 (tested z p.0)

truth_fits : (b : Bool) (z : ℤ) → ◌≡◌ {A = Result ℤ ValueFault} (Ok (truth b)) (Ok z) → FitsSigned w32 z
truth_fits true z e = let q : pos 1 ≡ z = cc in subst (FitsSigned w32) q (natural_fits 1 (omega arith))
truth_fits false z e = let q : pos 0 ≡ z = cc in subst (FitsSigned w32) q (natural_fits 0 (omega arith))

same_fits : (y z : ℤ) → ◌≡◌ {A = Result ℤ ValueFault} (Ok y) (Ok z) → FitsSigned w32 y → FitsSigned w32 z
same_fits y z e h = let q : y ≡ z = cc in subst (FitsSigned w32) q h

divided : (b : Bool) (q z : ℤ) → cond b (Err fault.DivideByZero) (in_range q) ≡ Ok z → FitsSigned w32 z
divided true q z e = absurd (cc)
divided false q z e = ranged q z e

number_fits : (op : BinaryOperator) (x y z : ℤ) → number_of op x y ≡ Ok z → FitsSigned w32 z
number_fits binary.Multiply x y z e = ranged (x *ℤ y) z e
number_fits binary.Divide x y z e = divided (is_zero y) (int_div x y) z e
number_fits binary.Remainder x y z e = divided (is_zero y) (int_rem x y) z e
number_fits binary.Add x y z e = ranged (x +ℤ y) z e
number_fits binary.Subtract x y z e = ranged (x -ℤ y) z e
number_fits binary.ShiftLeft x y z e = let a = bound (ok_or (shift_count y) fault.ValueRange) (λ n. in_range (x *ℤ pos (2 ^ n))) z e in ranged (x *ℤ pos (2 ^ a.0)) z a.2
number_fits binary.ShiftRight x y z e = let a = bound (ok_or (shift_count y) fault.ValueRange) (λ n. in_range (int_shr x n)) z e in ranged (int_shr x a.0) z a.2
number_fits binary.Less x y z e = truth_fits (int_lt x y) z e
number_fits binary.LessOrEqual x y z e = truth_fits (not (int_lt y x)) z e
number_fits binary.Greater x y z e = truth_fits (int_lt y x) z e
number_fits binary.GreaterOrEqual x y z e = truth_fits (not (int_lt x y)) z e
number_fits binary.Equal x y z e = truth_fits (is_zero (x -ℤ y)) z e
number_fits binary.NotEqual x y z e = truth_fits (not (is_zero (x -ℤ y))) z e
number_fits binary.And x y z e = same_fits (int_bit_and w32 x y) z e (read_sfits w32 _)
number_fits binary.ExclusiveOr x y z e = same_fits (int_bit_xor w32 x y) z e (read_sfits w32 _)
number_fits binary.Or x y z e = same_fits (int_bit_or w32 x y) z e (read_sfits w32 _)

complement_fits : (z : ℤ) → FitsSigned w32 z → FitsSigned w32 (neg_ℤ z -ℤ pos 1)
complement_fits (pos n) h = omega (arith, ints, h)
complement_fits (negsuc n) h = omega (arith, ints, h)

-- ---- bases

same : (b c : Base) → ◌≡◌ {A = Result Base ValueFault} (Ok b) (Ok c) → b ≡ c
same b c e = cc

-- a value counts so, and has 32 signed bits
abbrev pub IsGoodValue : (Base → Type 0) → Value → Type 0
IsGoodValue B v = B v.base × FitsSigned w32 v.offset

module _ (B : Base → Type 0) (none : B Absolute) where
  absolute_base_good : (b a : Base) → absolute_base b ≡ Ok a → B a
  absolute_base_good Absolute a e = subst B (same Absolute a e) none
  absolute_base_good (Section n) a e = absurd (cc)
  absolute_base_good (Loaded n) a e = absurd (cc)
  absolute_base_good (External n) a e = absurd (cc)

  same_section : (s t : ℕ) (c : Base) → cond (eqb s t) (Ok Absolute) (Err fault.NotAbsolute) ≡ Ok c → B c
  same_section s t c e = let p = permitted (eqb s t) Absolute fault.NotAbsolute c e in subst B p.1 none

  joined : (op : BinaryOperator) (a b c : Base) → B a → B b → base_of op a b ≡ Ok c → B c
  joined op Absolute Absolute c g h e = subst B (same Absolute c e) none
  joined binary.Add (Section s) Absolute c g h e = subst B (same (Section s) c e) g
  joined binary.Add (Loaded s) Absolute c g h e = subst B (same (Loaded s) c e) g
  joined binary.Add (External s) Absolute c g h e = subst B (same (External s) c e) g
  joined binary.Add Absolute (Section t) c g h e = subst B (same (Section t) c e) h
  joined binary.Add Absolute (Loaded t) c g h e = subst B (same (Loaded t) c e) h
  joined binary.Add Absolute (External t) c g h e = subst B (same (External t) c e) h
  joined binary.Subtract (Section s) Absolute c g h e = subst B (same (Section s) c e) g
  joined binary.Subtract (Loaded s) Absolute c g h e = subst B (same (Loaded s) c e) g
  joined binary.Subtract (External s) Absolute c g h e = subst B (same (External s) c e) g
  joined binary.Subtract (Section s) (Section t) c g h e = same_section s t c e
  joined binary.Subtract (Loaded s) (Loaded t) c g h e = same_section s t c e
  joined _ a b c g h e = absurd (cc)

  same_value : (v w : Value) → ◌≡◌ {A = Result Value ValueFault} (Ok v) (Ok w) → IsGoodValue B v → IsGoodValue B w
  same_value v w e h = let q : v ≡ w = cc in subst (λ (x : Value). IsGoodValue B x) q h

  good_plain : (n : ℕ) (v : Value) → plain_value n ≡ Ok v → IsGoodValue B v
  good_plain n v e =
      let a = bound (in_range (pos n)) _ v e in
      same_value (record { base = Absolute; offset = a.0 }) v a.2 (none, ranged (pos n) a.0 a.1)

  good_unary : (op : UnaryOperator) (x v : Value) → IsGoodValue B x → unary_value op x ≡ Ok v → IsGoodValue B v
  good_unary unary.Plus x v h e = same_value x v e h
  good_unary unary.Minus x v h e =
      let a = bound (absolute_base x.base) _ v e in
      let made : ℤ → Value = λ z. record { base = a.0; offset = z } in
      let b = bound (in_range (neg_ℤ x.offset)) (λ z. Ok (made z)) v a.2 in
      same_value (made b.0) v b.2 (absolute_base_good x.base a.0 a.1, ranged (neg_ℤ x.offset) b.0 b.1)
  good_unary unary.Complement x v h e =
      let a = bound (absolute_base x.base) _ v e in
      same_value (record { base = a.0; offset = neg_ℤ x.offset -ℤ pos 1 }) v a.2 (absolute_base_good x.base a.0 a.1, complement_fits x.offset h.1)

  good_binary : (op : BinaryOperator) (x y v : Value) → IsGoodValue B x → IsGoodValue B y → binary_value op x y ≡ Ok v → IsGoodValue B v
  good_binary op x y v g h e =
      let a = bound (base_of op x.base y.base) _ v e in
      let b = bound (number_of op x.offset y.offset) _ v a.2 in
      same_value (record { base = a.0; offset = b.0 }) v b.2 (joined op x.base y.base a.0 g.0 h.0 a.1, number_fits op x.offset y.offset b.0 b.1)

  known : (o : Option Value) (v : Value) → ok_or o fault.Undefined ≡ Ok v → o ≡ Some v
  known None v e = absurd (cc)
  known (Some w) v e = let q : w ≡ v = cc in ap Some q

  good_leaf : (names : List ℕ → Option Value) (here : Value) (l : Leaf) (v : Value) → ((name : List ℕ) (w : Value) → names name ≡ Some w → IsGoodValue B w) → IsGoodValue B here
      → leaf_value names here l ≡ Ok v → IsGoodValue B v
  good_leaf names here (Constant n) v each h e = good_plain n v e
  good_leaf names here (Name text) v each h e = each text v (known (names text) v e)
  good_leaf names here Here v each h e = same_value here v e h

  good_tree : (names : List ℕ → Option Value) (here : Value) (t : Tree) (v : Value) → ((name : List ℕ) (w : Value) → names name ≡ Some w → IsGoodValue B w) → IsGoodValue B here
      → value_of names here t ≡ Ok v → IsGoodValue B v
  good_tree names here (Single l) v each h e = good_leaf names here l v each h e
  good_tree names here (Group t) v each h e = good_tree names here t v each h e
  good_tree names here (Unary op t) v each h e =
      let a = bound (value_of names here t) (unary_value op) v e in
      good_unary op a.0 v (good_tree names here t a.0 each h a.1) a.2
  good_tree names here (Binary op l r) v each h e =
      let a = bound (value_of names here l) (λ x. value_of names here r >>= binary_value op x) v e in
      let b = bound (value_of names here r) (binary_value op a.0) v a.2 in
      good_binary op a.0 b.0 v (good_tree names here l a.0 each h a.1) (good_tree names here r b.0 each h b.1) b.2

  untold : (r : Result Value ValueFault) (v : Value) → told value_fault r ≡ Ok v → r ≡ Ok v
  untold (Ok x) v e = let q : x ≡ v = cc in ap Ok q
  untold (Err f) v e = absurd (cc)

  -- the value of an expression is good, where those of the symbols are
  pub good_valued : (table : Table) (t : Tree) (v : Value) → ((name : List ℕ) (w : Value) → value_named table name ≡ Some w → IsGoodValue B w) → IsGoodValue B table.here → valued table t ≡ Ok v → IsGoodValue B v
  good_valued table t v each h e = good_tree (value_named table) table.here t v each h (untold (value_of (value_named table) table.here t) v e)
