-- The operands of a line are taken, wherever their names stand for places of the module.
use Rattle.std.proofs.Common.{◌≡◌, ℕ, zero, suc, ◌+◌, ◌^◌, ◌<◌, ◌≤◌, true, nat_lt, List, [], ◌∷◌, ◌++◌, length, Option, Some, None, Result, Ok, Err, ℤ, pos, refl, sym, ap, ◌∙◌, subst, arith, append_assoc, append-nil}
use Rattle.std.specs.Fmt.{decimal}
use Rattle.std.specs.Prelude.{ok_or, string_bytes}
use Rattle.std.proofs.lemmas.Bool.Decides.{nat_tests}
use Rattle.std.proofs.lemmas.List.{length-append}
use Rattle.c25_layout.specs.declared.layout.Item.{Item}
use Rattle.c25_layout.specs.declared.layout.Item.TheVariants as item
use Rattle.c25_meaning_assembly.specs.Addresses.{OperandValues, no_operands, operand_values, taken, with_address, with_number, with_value}
use Rattle.c25_meaning_assembly.specs.OperandFields.{field_of}
use Rattle.c25_meaning_assembly.specs.declared.assembly.Address.{Address}
use Rattle.c25_meaning_assembly.specs.declared.assembly.Target.{Target}
use Rattle.c25_meaning_common.specs.Results.{◌>>=◌, fold_ok, told}
use Rattle.c25_meaning_common.specs.declared.relocation.RelocationKind.{RelocationKind}
use Rattle.c25_meaning_common.specs.declared.relocation.RelocationKind.TheVariants as relocation
use Rattle.c25_meaning_language.specs.Statement.{number_in, relocation_of, valued, value_fault}
use Rattle.c25_meaning_language.specs.Tree.{Tree}
use Rattle.c25_meaning_language.specs.Value.{Table, binary_value, value_named, value_of}
use Rattle.c25_meaning_language.specs.declared.expression.BinaryOperator.TheVariants as binary
use Rattle.c25_meaning_language.specs.declared.statement.Field.{Field}
use Rattle.c25_meaning_language.specs.declared.statement.FaultKind.{FaultKind}
use Rattle.c25_meaning_language.specs.declared.value.Base.{Base}
use Rattle.c25_meaning_language.specs.declared.value.Base.TheVariants.{Absolute, Section, Loaded, External}
use Rattle.c25_meaning_language.specs.declared.value.Value.{Value}
use Rattle.c25_meaning_language.specs.declared.value.ValueFault.{ValueFault}
use Rattle.c25_meaning_language.specs.declared.value.ValueFault.TheVariants as value
use Rattle.c25_meaning_objects.specs.declared.object.RelocationBase.{RelocationBase}
use Rattle.c25_meaning_objects.specs.declared.object.RelocationBase.TheVariants as relocated
use Rattle.c25_module_laws.proofs.ResultSteps.{bound}
use Rattle.c25_print_laws.proofs.Numerals.{decimal_constant}
use Rattle.c25_print_laws.proofs.Values.{constant_number, constant_tree}
use Rattle.c25_layout_laws.proofs.Targets.{target_tree}

-- ---- names of places

abbrev pub IsPlaceBase : Base → Type 0
IsPlaceBase (Section n) = Unit {0}
IsPlaceBase (Loaded n) = Unit {0}
IsPlaceBase _ = ⊥

-- where a relocation counts from, by what a value counts from
abbrev pub IsBaseOf : Base → RelocationBase → Type 0
IsBaseOf (Section n) b = b ≡ relocated.Section n
IsBaseOf (Loaded n) b = b ≡ relocated.Loaded n
IsBaseOf _ b = ⊥

-- a value is a place at a small offset
pub record IsSmallPlace (v : Value) : Type 0 where
  pub offset : ℕ
  pub offset_is : v.offset ≡ pos offset
  pub base : IsPlaceBase v.base
  pub small : offset ≤ 65536

-- a name stands for a place
abbrev pub StandsFor : Table → List ℕ → Type 0
StandsFor table name = (v : Value) × (value_named table name ≡ Some v) × IsSmallPlace v

-- an address counts from the place of a name
pub record IsAddressOf (table : Table) (name : List ℕ) (after : ℕ) (a : Address) : Type 0 where
  pub value : Value
  pub named : value_named table name ≡ Some value
  pub place : IsSmallPlace value
  pub kind : a.kind ≡ relocation.Word16
  pub base : IsBaseOf value.base a.base
  pub addend : a.addend ≡ pos (place.offset + after)

-- the addresses of an item are those of its name
abbrev pub AreAddresses : Table → Item → List Address → Type 0
AreAddresses table (item.Named i t) list = (a : Address) × (list ≡ a ∷ []) × IsAddressOf table (string_bytes t.name) t.after a
AreAddresses table (item.Address n t) list = (a : Address) × (list ≡ a ∷ []) × IsAddressOf table (string_bytes t.name) t.after a
AreAddresses table _ list = list ≡ []

-- the name of an item, if it has one, stands for a place
abbrev pub ArePlaced : Table → Item → Type 0
ArePlaced table (item.Named i t) = StandsFor table (string_bytes t.name)
ArePlaced table (item.Address n t) = StandsFor table (string_bytes t.name)
ArePlaced table _ = Unit {0}

-- ---- operands

untold : {A : Type 0} (r : Result A ValueFault) (x : A) → told value_fault r ≡ Ok x → r ≡ Ok x
untold (Ok y) x e = cc
untold (Err f) x e = absurd (cc)

none_behind : {A : Type 0} (xs ys : List A) → xs ++ ys ≡ [] → ys ≡ []
none_behind [] ys e = e
none_behind (x ∷ xs) ys e = absurd (cc)

none_before : {A : Type 0} (xs ys : List A) → xs ++ ys ≡ [] → xs ≡ []
none_before [] ys e = refl
none_before (x ∷ xs) ys e = absurd (cc)

-- a step from some operands goes from others too, and adds the same addresses
record Again (next : OperandValues → Result OperandValues FaultKind) (s u r : OperandValues) : Type 0 where
  to : OperandValues
  is : next u ≡ Ok to
  more : List Address
  before : r.addresses ≡ s.addresses ++ more
  after : to.addresses ≡ u.addresses ++ more

record AgainOne (next : OperandValues → Result OperandValues FaultKind) (s u r : OperandValues) : Type 0 where
  again : Again next s u r
  count : length again.to.numbers ≡ length u.numbers + 1
  own : length r.numbers ≡ length s.numbers + 1

module _ (p : Target) (table : Table) where
  -- operands are taken, and these are the addresses among them
  abbrev pub Taken : (List Address → Type 0) → OperandValues → List Tree → Type 0
  Taken Are s es = (r : OperandValues) × (fold_ok (taken p table) s es ≡ Ok r) × Are r.addresses

  address_again : (k : Option RelocationKind) (b : RelocationBase) (z : ℤ) (s u r : OperandValues) → length s.numbers ≡ length u.numbers → with_address k b z s ≡ Ok r → AgainOne (with_address k b z) s u r
  address_again None b z s u r same e = absurd (cc)
  address_again (Some kind) b z s u r same e =
      let a : ℕ → Address = λ n. record { operand = n; kind = kind; base = b; addend = z } in
      let made : OperandValues → OperandValues = λ x. record { numbers = x.numbers ++ 0 ∷ []; addresses = x.addresses ++ a (length x.numbers) ∷ [] } in
      let is : made s ≡ r = cc in
      record {
        again = record { to = made u; is = refl; more = a (length s.numbers) ∷ []; before = ap (λ (x : OperandValues). x.addresses) (sym is); after = ap (λ (n : ℕ). u.addresses ++ a n ∷ []) (sym same) };
        count = length-append u.numbers (0 ∷ []);
        own = ap (λ (x : OperandValues). length x.numbers) (sym is) ∙ length-append s.numbers (0 ∷ []);
      }

  value_again : (b : Base) (f : Field) (z : ℤ) (s u r : OperandValues) → length s.numbers ≡ length u.numbers → with_value b f z s ≡ Ok r → AgainOne (with_value b f z) s u r
  value_again Absolute f z s u r same e =
      let n = bound (number_in f z) (λ n. Ok (with_number n s)) r e in
      let is : with_number n.0 s ≡ r = let last = n.2 in cc in
      record {
        again = record { to = with_number n.0 u; is = ap (λ x. x >>= λ n. Ok (with_number n u)) n.1; more = []; before = ap (λ (x : OperandValues). x.addresses) (sym is) ∙ sym (append-nil s.addresses); after = sym (append-nil u.addresses) };
        count = length-append u.numbers (n.0 ∷ []);
        own = ap (λ (x : OperandValues). length x.numbers) (sym is) ∙ length-append s.numbers (n.0 ∷ []);
      }
  value_again (Section n) f z s u r same e = let x = address_again (relocation_of f) (relocated.Section n) z s u r same e in record { again = record { to = x.again.to; is = x.again.is; more = x.again.more; before = x.again.before; after = x.again.after }; count = x.count; own = x.own }
  value_again (Loaded n) f z s u r same e = let x = address_again (relocation_of f) (relocated.Loaded n) z s u r same e in record { again = record { to = x.again.to; is = x.again.is; more = x.again.more; before = x.again.before; after = x.again.after }; count = x.count; own = x.own }
  value_again (External n) f z s u r same e = let x = address_again (relocation_of f) (relocated.External n) z s u r same e in record { again = record { to = x.again.to; is = x.again.is; more = x.again.more; before = x.again.before; after = x.again.after }; count = x.count; own = x.own }

  one_again : (e : Tree) (s u r : OperandValues) → length s.numbers ≡ length u.numbers → taken p table s e ≡ Ok r → AgainOne (λ x. taken p table x e) s u r
  unfolding taken
  one_again e s u r same t =
      let v = bound (valued table e) (λ v. with_value v.base (field_of p (length s.numbers)) v.offset s) r t in
      let w = value_again (v.0).base (field_of p (length s.numbers)) (v.0).offset s u r same v.2 in
      record {
        again = record {
          to = w.again.to;
          is = ap (λ (x : Result Value FaultKind). x >>= λ v. with_value v.base (field_of p (length u.numbers)) v.offset u) v.1 ∙ ap (λ (k : ℕ). with_value (v.0).base (field_of p k) (v.0).offset u) (sym same) ∙ w.again.is;
          more = w.again.more;
          before = w.again.before;
          after = w.again.after;
        };
        count = w.count;
        own = w.own;
      }

  one_more : (e : Tree) (s r : OperandValues) → taken p table s e ≡ Ok r → length r.numbers ≡ length s.numbers + 1
  one_more e s r t = (one_again e s s r refl t).own

  -- a step and further ones
  joined : (e : Tree) (es : List Tree) (s u r a : OperandValues) (b : AgainOne (λ x. taken p table x e) s u a) → Again (λ x. fold_ok (taken p table) x es) a b.again.to r → Again (λ x. fold_ok (taken p table) x (e ∷ es)) s u r
  joined e es s u r a b d = record {
    to = d.to;
    is = ap (λ (x : Result OperandValues FaultKind). x >>= λ y. fold_ok (taken p table) y es) b.again.is ∙ d.is;
    more = b.again.more ++ d.more;
    before = d.before ∙ ap (λ (xs : List Address). xs ++ d.more) b.again.before ∙ append_assoc s.addresses b.again.more d.more;
    after = d.after ∙ ap (λ (xs : List Address). xs ++ d.more) b.again.after ∙ append_assoc u.addresses b.again.more d.more;
  }

  rest_again : (es : List Tree) (s u r : OperandValues) → length s.numbers ≡ length u.numbers → fold_ok (taken p table) s es ≡ Ok r → Again (λ x. fold_ok (taken p table) x es) s u r
  rest_again [] s u r same t =
      let is : s ≡ r = cc in
      record { to = u; is = refl; more = []; before = ap (λ (x : OperandValues). x.addresses) (sym is) ∙ sym (append-nil s.addresses); after = sym (append-nil u.addresses) }
  rest_again (e ∷ es) s u r same t =
      let a = bound (taken p table s e) (λ x. fold_ok (taken p table) x es) r t in
      let b = one_again e s u a.0 same a.1 in
      let count = b.own in
      let also = b.count in
      joined e es s u r a.0 b (rest_again es a.0 b.again.to r (omega (arith, count, also, same)) a.2)

  -- ---- a name, and a number after it

  small_sum : (b : Base) (m n : ℕ) → IsPlaceBase b → m ≤ 65536 → n < 65536 → binary_value binary.Add (record { base = b; offset = pos m }) (record { base = Absolute; offset = pos n }) ≡ Ok (record { base = b; offset = pos (m + n) })
  small_sum b m n is low high =
      let fits : nat_lt (m + n) (2 ^ 31) ≡ true = grind (arith, nat_tests) in
      go b is fits
    where
      go : (b : Base) → IsPlaceBase b → nat_lt (m + n) (2 ^ 31) ≡ true → binary_value binary.Add (record { base = b; offset = pos m }) (record { base = Absolute; offset = pos n }) ≡ Ok (record { base = b; offset = pos (m + n) })
      go Absolute is fits = absurd is
      go (Section k) is fits = rw fits refl
      go (Loaded k) is fits = rw fits refl
      go (External k) is fits = absurd is

  target_value : (text : List ℕ) (after : ℕ) (h : StandsFor table text) → after < 65536 → (v : Value) × (valued table (target_tree text after) ≡ Ok v) × (v.base ≡ (h.0).base) × (v.offset ≡ pos ((h.2).offset + after))
  target_value text zero (v, named, place) small = (v, ap (λ (o : Option Value). told value_fault (ok_or o value.Undefined)) named, refl, place.offset_is ∙ ap (λ (k : ℕ). pos k) (omega arith))
  target_value text (suc after) (v, named, place) small =
      let number = untold (value_of (value_named table) table.here (constant_tree (decimal (suc after)))) (record { base = Absolute; offset = pos (suc after) })
      (constant_number (suc after) (decimal (suc after)) (decimal_constant (suc after) (omega (arith, small))).value (omega (arith, small)) table) in
      let sum = small_sum v.base place.offset (suc after) place.base place.small small in
      let left : value_named table text ≡ Some (record { base = v.base; offset = pos place.offset }) = named ∙ ap (λ (z : ℤ). Some (record { base = v.base; offset = z })) place.offset_is in (
        record { base = v.base; offset = pos (place.offset + suc after) },
        ap (λ (o : Option Value). told value_fault (ok_or o value.Undefined >>= λ x. value_of (value_named table) table.here (constant_tree (decimal (suc after))) >>= binary_value binary.Add x)) left
            ∙ ap (λ (r : Result Value ValueFault). told value_fault (r >>= binary_value binary.Add (record { base = v.base; offset = pos place.offset }))) number
            ∙ ap (told value_fault) sum,
        refl,
        refl,
      )

  -- a name is taken as an address
  record TakesName (text : List ℕ) (after : ℕ) (s : OperandValues) : Type 0 where
    to : OperandValues
    is : taken p table s (target_tree text after) ≡ Ok to
    count : length to.numbers ≡ length s.numbers + 1
    address : Address
    addresses : to.addresses ≡ s.addresses ++ address ∷ []
    is_of : IsAddressOf table text after address

  record TakesPlace (b : Base) (f : Field) (z : ℤ) (s : OperandValues) : Type 0 where
    to : OperandValues
    is : with_value b f z s ≡ Ok to
    count : length to.numbers ≡ length s.numbers + 1
    address : Address
    addresses : to.addresses ≡ s.addresses ++ address ∷ []
    kind : address.kind ≡ relocation.Word16
    base : IsBaseOf b address.base
    addend : address.addend ≡ z

  place_taken : (b : Base) (f : Field) (z : ℤ) (s : OperandValues) → IsPlaceBase b → relocation_of f ≡ Some relocation.Word16 → TakesPlace b f z s
  place_taken Absolute f z s is takes = absurd is
  place_taken (Section n) f z s is takes =
      let a : Address = record { operand = length s.numbers; kind = relocation.Word16; base = relocated.Section n; addend = z } in
      record {
        to = record { numbers = s.numbers ++ 0 ∷ []; addresses = s.addresses ++ a ∷ [] };
        is = ap (λ (k : Option RelocationKind). with_address k (relocated.Section n) z s) takes;
        count = length-append s.numbers (0 ∷ []);
        address = a;
        addresses = refl;
        kind = refl;
        base = refl;
        addend = refl;
      }
  place_taken (Loaded n) f z s is takes =
      let a : Address = record { operand = length s.numbers; kind = relocation.Word16; base = relocated.Loaded n; addend = z } in
      record {
        to = record { numbers = s.numbers ++ 0 ∷ []; addresses = s.addresses ++ a ∷ [] };
        is = ap (λ (k : Option RelocationKind). with_address k (relocated.Loaded n) z s) takes;
        count = length-append s.numbers (0 ∷ []);
        address = a;
        addresses = refl;
        kind = refl;
        base = refl;
        addend = refl;
      }
  place_taken (External n) f z s is takes = absurd is

  target_taken : (text : List ℕ) (after : ℕ) (s : OperandValues) → StandsFor table text → after < 65536 → relocation_of (field_of p (length s.numbers)) ≡ Some relocation.Word16 → TakesName text after s
  unfolding taken
  target_taken text after s h small takes =
      let v = target_value text after h small in
      let place = h.2 in
      let w = place_taken (v.0).base (field_of p (length s.numbers)) (v.0).offset s (subst IsPlaceBase (sym v.2) place.base) takes in
      record {
        to = w.to;
        is = ap (λ (x : Result Value FaultKind). x >>= λ v. with_value v.base (field_of p (length s.numbers)) v.offset s) v.1 ∙ w.is;
        count = w.count;
        address = w.address;
        addresses = w.addresses;
        is_of = record { value = h.0; named = h.1; place = place; kind = w.kind; base = subst (λ (b : Base). IsBaseOf b w.address.base) v.2 w.base; addend = w.addend ∙ v.3 };
      }

  -- ---- a name in place of a number

  abbrev AreOf : List ℕ → ℕ → List Address → Type 0
  AreOf text after list = (a : Address) × (list ≡ a ∷ []) × IsAddressOf table text after a

  -- a name alone
  pub name_taken : (text : List ℕ) (after : ℕ) → StandsFor table text → after < 65536 → relocation_of (field_of p 0) ≡ Some relocation.Word16 → Taken (AreOf text after) no_operands (target_tree text after ∷ [])
  name_taken text after h small takes =
      let b = target_taken text after no_operands h small takes in
      (b.to, ap (λ (x : Result OperandValues FaultKind). x >>= λ y. fold_ok (taken p table) y []) b.is, (b.address, b.addresses, b.is_of))

  pub first_taken : (text : List ℕ) (after : ℕ) (c : Tree) (es : List Tree) (ns : List ℕ) → StandsFor table text → after < 65536 → relocation_of (field_of p 0) ≡ Some relocation.Word16 → operand_values p table (c ∷ es) ≡ Ok (record { numbers = ns; addresses = [] })
      → Taken (AreOf text after) no_operands (target_tree text after ∷ es)
  first_taken text after c es ns h small takes t =
      let a = bound (taken p table no_operands c) (λ x. fold_ok (taken p table) x es) (record { numbers = ns; addresses = [] }) t in
      let count = one_more c no_operands a.0 a.1 in
      let b = target_taken text after no_operands h small takes in
      let also = b.count in
      let d = rest_again es a.0 b.to (record { numbers = ns; addresses = [] }) (omega (arith, count, also)) a.2 in
      let none : d.more ≡ [] = none_behind (a.0).addresses d.more (sym d.before) in
      let all : d.to.addresses ≡ b.address ∷ [] = d.after ∙ (λ i. b.addresses i ++ none i) in
      (d.to, ap (λ (x : Result OperandValues FaultKind). x >>= λ y. fold_ok (taken p table) y es) b.is ∙ d.is, (b.address, all, b.is_of))

  pub second_taken : (text : List ℕ) (after : ℕ) (register c : Tree) (ns : List ℕ) → StandsFor table text → after < 65536 → relocation_of (field_of p 1) ≡ Some relocation.Word16
      → operand_values p table (register ∷ c ∷ []) ≡ Ok (record { numbers = ns; addresses = [] }) → Taken (AreOf text after) no_operands (register ∷ target_tree text after ∷ [])
  second_taken text after register c ns h small takes t =
      let a = bound (taken p table no_operands register) (λ x. fold_ok (taken p table) x (c ∷ [])) (record { numbers = ns; addresses = [] }) t in
      let count : length (a.0).numbers ≡ 1 = one_more register no_operands a.0 a.1 in
      let d = rest_again (c ∷ []) a.0 a.0 (record { numbers = ns; addresses = [] }) refl a.2 in
      let none : (a.0).addresses ≡ [] = none_before (a.0).addresses d.more (sym d.before) in
      let b = target_taken text after a.0 h small (ap (λ (k : ℕ). relocation_of (field_of p k)) count ∙ takes) in
      let all : b.to.addresses ≡ b.address ∷ [] = b.addresses ∙ ap (λ (xs : List Address). xs ++ b.address ∷ []) none in (
        b.to,
        ap (λ (x : Result OperandValues FaultKind). x >>= λ y. fold_ok (taken p table) y (target_tree text after ∷ [])) a.1 ∙ ap (λ (x : Result OperandValues FaultKind). x >>= λ y. fold_ok (taken p table) y []) b.is,
        (b.address, all, b.is_of),
      )
