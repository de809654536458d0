-- The numbers and addresses of a line's operands under all symbols: the numbers fit, and the addresses ascend, each of a
-- field that takes one and whose number is 0.
use Rattle.std.proofs.Common.{◌≡◌, ℕ, zero, suc, ◌+◌, ◌<◌, ℤ, Ok, List, [], ◌∷◌, ◌++◌, length, slice_index, Option, Some, None, subst, refl, ap, ◌∙◌, arith}
use Rattle.std.specs.Int.{w32}
use Rattle.std.specs.Int.RustNames.{FitsSigned}
use Rattle.std.proofs.lemmas.List.{length-append}
use Rattle.c25_meaning_language.proofs.Numbers.{each_push, holds_zero-form, holds_number}
use Rattle.c25_meaning_assembly.specs.Addresses.{OperandValues, no_operands, with_number, with_address, with_value, taken, operand_values}
use Rattle.c25_meaning_assembly.specs.OperandFields.{field_of, FitsTarget}
use Rattle.c25_meaning_language.specs.Fits.{Holds}
use Rattle.c25_meaning_common.specs.Results.{fold_ok}
use Rattle.c25_meaning_language.specs.Statement.{number_in, relocation_of, valued}
use Rattle.c25_meaning_language.specs.Tree.{Tree}
use Rattle.c25_meaning_language.specs.Value.{Table, value_named}
use Rattle.c25_meaning_assembly.specs.declared.assembly.Address.{Address}
use Rattle.c25_meaning_assembly.specs.declared.assembly.DataWidth.TheVariants as width
use Rattle.c25_meaning_assembly.specs.declared.assembly.Target.{Target}
use Rattle.c25_meaning_assembly.specs.declared.assembly.Target.TheVariants as target
use Rattle.c25_meaning_objects.specs.declared.object.RelocationBase.{RelocationBase}
use Rattle.c25_meaning_objects.specs.declared.object.RelocationBase.TheVariants as relocated
use Rattle.c25_meaning_common.specs.declared.relocation.RelocationKind.{RelocationKind}
use Rattle.c25_meaning_language.specs.declared.value.Base.{Base}
use Rattle.c25_meaning_language.specs.declared.value.Base.TheVariants.{Absolute, Section, Loaded, External}
use Rattle.c25_meaning_language.specs.declared.value.Value.{Value}
use Rattle.c25_module_laws.proofs.Chains.{Chain, chain_push, chain_weaker, chain_longer}
use Rattle.c25_module_laws.proofs.ResultSteps.{bound}
use Rattle.c25_module_laws.proofs.Valued.{IsGoodValue, good_valued}

-- what holds of a value's base, of the relocation's base that comes of it
abbrev pub HoldsOf : (Base → Type 0) → RelocationBase → Type 0
HoldsOf B (relocated.Section n) = B (Section n)
HoldsOf B (relocated.Loaded n) = B (Loaded n)
HoldsOf B (relocated.External n) = B (External n)

-- an address among these numbers
pub record IsAddress (B : Base → Type 0) (t : Target) (ns : List ℕ) (a : Address) : Type 0 where
  pub clear : slice_index ns a.operand ≡ 0
  pub kind : relocation_of (field_of t a.operand) ≡ Some a.kind
  pub base : HoldsOf B a.base
  pub fits : FitsSigned w32 a.addend

abbrev pub AreAddresses : (Base → Type 0) → Target → List ℕ → List Address → Type 0
AreAddresses B t ns list = Chain (λ (a : Address). a.operand) (IsAddress B t ns) 0 (length ns) list

-- the numbers and addresses of so many operands
pub record IsSheet (B : Base → Type 0) (t : Target) (n : ℕ) (s : OperandValues) : Type 0 where
  pub fits : FitsTarget t s.numbers
  pub count : length s.numbers ≡ n
  pub addresses : AreAddresses B t s.numbers s.addresses

zero_holds : (t : Target) (k : ℕ) → Holds (field_of t k) 0
zero_holds (target.Instruction f) k = holds_zero-form f k
zero_holds (target.Data width.Word) k = omega arith
zero_holds (target.Data width.Byte) k = omega arith

length_push : {X : Type 0} (xs : List X) (x : X) → length (xs ++ x ∷ []) ≡ length xs + 1
length_push xs x = length-append xs (x ∷ [])

last_number : (ns : List ℕ) (n : ℕ) → slice_index (ns ++ n ∷ []) (length ns) ≡ n
last_number [] n = refl
last_number (x ∷ xs) n = last_number xs n

earlier_number : (ns : List ℕ) (n k : ℕ) → k < length ns → slice_index (ns ++ n ∷ []) k ≡ slice_index ns k
earlier_number [] n k l = absurd (omega (arith, l))
earlier_number (x ∷ xs) n zero l = refl
earlier_number (x ∷ xs) n (suc k) l = earlier_number xs n k (omega (arith, l))

module _ (B : Base → Type 0) (none : B Absolute) (t : Target) where
  address_stays : (ns : List ℕ) (n : ℕ) (a : Address) → a.operand < length ns → IsAddress B t ns a → IsAddress B t (ns ++ n ∷ []) a
  address_stays ns n a l h = record { clear = earlier_number ns n a.operand l ∙ h.clear; kind = h.kind; base = h.base; fits = h.fits }

  addresses_stay : (ns : List ℕ) (n : ℕ) (list : List Address) → AreAddresses B t ns list → Chain (λ (a : Address). a.operand) (IsAddress B t (ns ++ n ∷ [])) 0 (length ns) list
  addresses_stay ns n list h = chain_weaker (λ (a : Address). a.operand) (IsAddress B t ns) (IsAddress B t (ns ++ n ∷ [])) 0 (length ns) list (address_stays ns n) h

  more_number : (s : OperandValues) (n m : ℕ) → IsSheet B t n s → Holds (field_of t (length s.numbers)) m → IsSheet B t (n + 1) (with_number m s)
  more_number s n m h holds =
      let count = length_push s.numbers m in
      record {
        fits = each_push (λ k x. Holds (field_of t k) x) s.numbers m h.fits holds (zero_holds t);
        count = count ∙ ap (λ k. k + 1) h.count;
        addresses = chain_longer (λ (a : Address). a.operand) (IsAddress B t (s.numbers ++ m ∷ [])) 0 (length s.numbers) (length (s.numbers ++ m ∷ [])) s.addresses (omega (arith, count)) (addresses_stay s.numbers m s.addresses h.addresses);
      }

  more_address : (s new : OperandValues) (n : ℕ) (o : Option RelocationKind) (base : RelocationBase) (z : ℤ) → relocation_of (field_of t (length s.numbers)) ≡ o → HoldsOf B base → FitsSigned w32 z
      → IsSheet B t n s → with_address o base z s ≡ Ok new → IsSheet B t (n + 1) new
  more_address s new n None base z is good fits h e = absurd (cc)
  more_address s new n (Some kind) base z is good fits h e =
      let a : Address = record { operand = length s.numbers; kind = kind; base = base; addend = z } in
      let made : OperandValues = record { numbers = s.numbers ++ 0 ∷ []; addresses = s.addresses ++ a ∷ [] } in
      let q : made ≡ new = cc in
      let count = length_push s.numbers 0 in
      let last : IsAddress B t (s.numbers ++ 0 ∷ []) a = record { clear = last_number s.numbers 0; kind = is; base = good; fits = fits } in
      subst (λ (x : OperandValues). IsSheet B t (n + 1) x) q (record {
        fits = each_push (λ k x. Holds (field_of t k) x) s.numbers 0 h.fits (zero_holds t (length s.numbers)) (zero_holds t);
        count = count ∙ ap (λ k. k + 1) h.count;
        addresses = chain_push (λ (b : Address). b.operand) (IsAddress B t (s.numbers ++ 0 ∷ [])) 0 (length (s.numbers ++ 0 ∷ [])) s.addresses a (addresses_stay s.numbers 0 s.addresses h.addresses) last (omega (arith, count));
      })

  more_value : (s new : OperandValues) (n : ℕ) (v : Value) → IsGoodValue B v → IsSheet B t n s → with_value v.base (field_of t (length s.numbers)) v.offset s ≡ Ok new → IsSheet B t (n + 1) new
  more_value s new n v good h e = by v.base refl e
    where
      by : (b : Base) → v.base ≡ b → with_value b (field_of t (length s.numbers)) v.offset s ≡ Ok new → IsSheet B t (n + 1) new
      by Absolute is e =
          let m = bound (number_in (field_of t (length s.numbers)) v.offset) (λ m. Ok (with_number m s)) new e in
          let q : with_number m.0 s ≡ new = let last = m.2 in cc in
          subst (λ (x : OperandValues). IsSheet B t (n + 1) x) q (more_number s n m.0 h (holds_number (field_of t (length s.numbers)) v.offset m.0 m.1))
      by (Section k) is e = more_address s new n (relocation_of (field_of t (length s.numbers))) (relocated.Section k) v.offset refl (subst B is good.0) good.1 h e
      by (Loaded k) is e = more_address s new n (relocation_of (field_of t (length s.numbers))) (relocated.Loaded k) v.offset refl (subst B is good.0) good.1 h e
      by (External k) is e = more_address s new n (relocation_of (field_of t (length s.numbers))) (relocated.External k) v.offset refl (subst B is good.0) good.1 h e

  module _ (table : Table) (known : (name : List ℕ) (w : Value) → value_named table name ≡ Some w → IsGoodValue B w) (here : IsGoodValue B table.here) where
    more_taken : (s new : OperandValues) (n : ℕ) (e : Tree) → IsSheet B t n s → taken t table s e ≡ Ok new → IsSheet B t (n + 1) new
    unfolding taken
    more_taken s new n e h is =
        let v = bound (valued table e) (λ v. with_value v.base (field_of t (length s.numbers)) v.offset s) new is in
        more_value s new n v.0 (good_valued B none table e v.0 known here v.1) h v.2

    all_taken : (es : List Tree) (s new : OperandValues) (n : ℕ) → IsSheet B t n s → fold_ok (taken t table) s es ≡ Ok new → IsSheet B t (n + length es) new
    all_taken [] s new n h is = let q : s ≡ new = cc in let z : n + 0 ≡ n = omega arith in rw z (subst (λ (x : OperandValues). IsSheet B t n x) q h)
    all_taken (e ∷ es) s new n h is =
        let m = bound (taken t table s e) (λ next. fold_ok (taken t table) next es) new is in
        let z : n + length (e ∷ es) ≡ n + 1 + length es = omega arith in
        rw z (all_taken es m.0 new (n + 1) (more_taken s m.0 n e h m.1) m.2)

    -- what holds of the operands of a line
    pub sheet_made : (es : List Tree) (s : OperandValues) → operand_values t table es ≡ Ok s → IsSheet B t (length es) s
    sheet_made es s is =
        let z : 0 + length es ≡ length es = omega arith in
        let none : IsSheet B t 0 no_operands = record { fits = zero_holds t; count = refl; addresses = omega arith } in
        rw z at (all_taken es no_operands s 0 none is)
