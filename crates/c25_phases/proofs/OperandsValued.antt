-- What holds of a line's operands under all names: their numbers fit, and the fields of addresses are within its words.
use Rattle.std.proofs.Common.{◌≡◌, ℕ, zero, suc, ◌+◌, ◌<◌, ℤ, Result, Ok, Err, List, [], ◌∷◌, ◌++◌, length, Option, Some, None, subst, refl, sym, arith}
use Rattle.std.specs.List.{All}
use Rattle.std.proofs.lemmas.List.{length-append}
use Rattle.std.proofs.lemmas.List.Elements.{All-nil, All-push, All-weaker}
use Rattle.c25_meaning_language.proofs.Numbers.{each_push, holds_zero-form, holds_number}
use Rattle.c25_meaning_assembly.specs.Addresses.{OperandValues, no_operands, with_number, with_address, with_value, taken, operand_values, AreWithin}
use Rattle.c25_meaning_assembly.specs.OperandFields.{field_of, word_of, target_size, FitsTarget}
use Rattle.c25_meaning_language.specs.Fits.{Holds}
use Rattle.c25_meaning_common.specs.Results.{◌>>=◌, fold_ok}
use Rattle.c25_meaning_language.specs.Statement.{form_field, form_row, number_in, relocation_of, valued, with_number as with_number_field, addr_field}
use Rattle.c25_meaning_instructions.specs.Table.{size}
use Rattle.c25_meaning_language.specs.Tree.{Tree}
use Rattle.c25_meaning_language.specs.Value.{Table}
use Rattle.c25_meaning_assembly.specs.declared.assembly.Address.{Address}
use Rattle.c25_meaning_assembly.specs.declared.assembly.DataWidth.TheVariants as width
use Rattle.c25_meaning_assembly.specs.declared.assembly.Target.{Target}
use Rattle.c25_meaning_assembly.specs.declared.assembly.Target.TheVariants as target
use Rattle.c25_meaning_instructions.specs.declared.mnemonic.ShortName.TheVariants as short
use Rattle.c25_meaning_instructions.specs.declared.mnemonic.LongName.TheVariants as long
use Rattle.c25_meaning_instructions.specs.declared.mnemonic.PlainName.TheVariants as plain
use Rattle.c25_meaning_objects.specs.declared.object.RelocationBase.{RelocationBase}
use Rattle.c25_meaning_objects.specs.declared.object.RelocationBase.TheVariants as relocated
use Rattle.c25_meaning_common.specs.declared.relocation.RelocationKind.{RelocationKind}
use Rattle.c25_meaning_language.specs.declared.statement.AddrForm.{AddrForm}
use Rattle.c25_meaning_language.specs.declared.statement.AddrForm.TheVariants.{Direct, Indirect}
use Rattle.c25_meaning_language.specs.declared.statement.FaultKind.{FaultKind}
use Rattle.c25_meaning_language.specs.declared.statement.Form.{Form}
use Rattle.c25_meaning_language.specs.declared.statement.Form.TheVariants as form
use Rattle.c25_meaning_language.specs.declared.value.Base.{Base}
use Rattle.c25_meaning_language.specs.declared.value.Base.TheVariants.{Absolute, Section, Loaded, External}
use Rattle.c25_meaning_language.specs.declared.value.Value.{Value}

-- an address is of an operand before the n-th, whose field takes it
Takes : Target → ℕ → Address → Type 0
Takes t n a = (a.operand < n) × (relocation_of (field_of t a.operand) ≡ Some a.kind)

takes_more : (t : Target) (n : ℕ) (a : Address) → Takes t n a → Takes t (n + 1) a
unfolding Takes
takes_more t n a h = (omega (arith, h.0), h.1)

-- what holds of the operands so far
record Good (t : Target) (s : OperandValues) : Type 0 where
  fits : FitsTarget t s.numbers
  takes : All (Takes t (length s.numbers)) s.addresses

zero_holds : (t : Target) (k : ℕ) → Holds (field_of t k) 0
zero_holds (target.Instruction f) k = holds_zero-form f k
zero_holds (target.Data width.Word) k = omega arith
zero_holds (target.Data width.Byte) k = omega arith

length_push : {X : Type 0} (xs : List X) (x : X) → length (xs ++ x ∷ []) ≡ length xs + 1
length_push xs x = length-append xs (x ∷ [])

fits_more : (t : Target) (ns : List ℕ) (n : ℕ) → FitsTarget t ns → Holds (field_of t (length ns)) n → FitsTarget t (ns ++ n ∷ [])
fits_more t ns n fits h = each_push (λ k m. Holds (field_of t k) m) ns n fits h (zero_holds t)

takes_all : (t : Target) (ns : List ℕ) (n : ℕ) (addresses : List Address) → All (Takes t (length ns)) addresses → All (Takes t (length (ns ++ n ∷ []))) addresses
takes_all t ns n addresses h = rw (length_push ns n) (All-weaker (Takes t (length ns)) (Takes t (length ns + 1)) (takes_more t (length ns)) addresses h)

-- one operand more
record More (t : Target) (s new : OperandValues) : Type 0 where
  good : Good t new
  count : length new.numbers ≡ length s.numbers + 1

more_number : (t : Target) (s : OperandValues) (n : ℕ) → Good t s → Holds (field_of t (length s.numbers)) n → More t s (with_number n s)
more_number t s n good h = record {
  good = record { fits = fits_more t s.numbers n good.fits h; takes = takes_all t s.numbers n s.addresses good.takes };
  count = length_push s.numbers n;
}

more_address : (t : Target) (s new : OperandValues) (o : Option RelocationKind) (base : RelocationBase) (z : ℤ) → relocation_of (field_of t (length s.numbers)) ≡ o
    → Good t s → with_address o base z s ≡ Ok new → More t s new
unfolding Takes
more_address t s new None base z is good h = absurd (cc)
more_address t s new (Some kind) base z is good h =
    let a : Address = record { operand = length s.numbers; kind = kind; base = base; addend = z } in
    let made : OperandValues = record { numbers = s.numbers ++ 0 ∷ []; addresses = s.addresses ++ a ∷ [] } in
    let q : made ≡ new = cc in
    let last : Takes t (length (s.numbers ++ 0 ∷ [])) a = rw (length_push s.numbers 0) (omega arith, is) in
    subst (λ (x : OperandValues). More t s x) q (record {
      good = record {
        fits = fits_more t s.numbers 0 good.fits (zero_holds t (length s.numbers));
        takes = All-push (Takes t (length (s.numbers ++ 0 ∷ []))) s.addresses a (takes_all t s.numbers 0 s.addresses good.takes) last;
      };
      count = length_push s.numbers 0;
    })

more_value : (t : Target) (s new : OperandValues) (b : Base) (z : ℤ) → Good t s → with_value b (field_of t (length s.numbers)) z s ≡ Ok new → More t s new
more_value t s new Absolute z good h = on (number_in (field_of t (length s.numbers)) z) (λ n e. holds_number (field_of t (length s.numbers)) z n e) h
  where
    on : (r : Result ℕ FaultKind) → ((n : ℕ) → r ≡ Ok n → Holds (field_of t (length s.numbers)) n) → (r >>= λ n. Ok (with_number n s)) ≡ Ok new → More t s new
    on (Ok n) holds e = let q : with_number n s ≡ new = cc in subst (λ (x : OperandValues). More t s x) q (more_number t s n good (holds n refl))
    on (Err f) holds e = absurd (cc)
more_value t s new (Section n) z good h = more_address t s new (relocation_of (field_of t (length s.numbers))) (relocated.Section n) z refl good h
more_value t s new (Loaded n) z good h = more_address t s new (relocation_of (field_of t (length s.numbers))) (relocated.Loaded n) z refl good h
more_value t s new (External n) z good h = more_address t s new (relocation_of (field_of t (length s.numbers))) (relocated.External n) z refl good h

more_taken : (t : Target) (table : Table) (s new : OperandValues) (e : Tree) → Good t s → taken t table s e ≡ Ok new → More t s new
unfolding taken
more_taken t table s new e good h = on (valued table e) h
  where
    on : (r : Result Value FaultKind) → (r >>= λ v. with_value v.base (field_of t (length s.numbers)) v.offset s) ≡ Ok new → More t s new
    on (Ok v) h = more_value t s new v.base v.offset good h
    on (Err f) h = absurd (cc)

-- so many operands
record Taken (t : Target) (s new : OperandValues) (n : ℕ) : Type 0 where
  good : Good t new
  count : length new.numbers ≡ length s.numbers + n

all_taken : (t : Target) (table : Table) (es : List Tree) (s new : OperandValues) → Good t s → fold_ok (taken t table) s es ≡ Ok new → Taken t s new (length es)
all_taken t table [] s new good h = let q : s ≡ new = cc in subst (λ (x : OperandValues). Taken t s x 0) q (record { good = good; count = omega arith })
all_taken t table (e ∷ es) s new good h = on (taken t table s e) refl h (λ next. all_taken t table es next new)
  where
    on : (r : Result OperandValues FaultKind) → taken t table s e ≡ r → (r >>= λ next. fold_ok (taken t table) next es) ≡ Ok new
        → ((next : OperandValues) → Good t next → fold_ok (taken t table) next es ≡ Ok new → Taken t next new (length es)) → Taken t s new (length (e ∷ es))
    on (Ok next) was h go =
        let m = more_taken t table s next e good was in
        let a = go next m.good h in
        record { good = a.good; count = omega (arith, a.count, m.count) }
    on (Err f) was h go = absurd (cc)

no_good : (t : Target) → Good t no_operands
no_good t = record { fits = zero_holds t; takes = All-nil (Takes t 0) }

-- ---- words

word_of_addr : (a : AddrForm) (kind : RelocationKind) (k : ℕ) → relocation_of (addr_field a) ≡ Some kind → word_of (addr_field a) k < 1
word_of_addr Direct kind k h = omega arith
word_of_addr (Indirect change) kind k h = absurd (cc)

word_beside : (a : AddrForm) (limit : ℕ) (kind : RelocationKind) (k : ℕ) → relocation_of (with_number_field a limit k) ≡ Some kind → word_of (with_number_field a limit k) k < 1
word_beside Direct limit kind zero h = omega arith
word_beside Direct limit kind (suc k) h = absurd (cc)
word_beside (Indirect change) limit kind zero h = absurd (cc)
word_beside (Indirect change) limit kind (suc k) h = absurd (cc)

pub word_in_form : (f : Form) (kind : RelocationKind) (k : ℕ) → relocation_of (form_field f k) ≡ Some kind → word_of (form_field f k) k < size (form_row f)
word_in_form (form.Mem name a) kind k h = word_of_addr a kind k h
word_in_form (form.Shifted name a) kind k h = word_beside a _ kind k h
word_in_form (form.ArMem name a) kind zero h = absurd (cc)
word_in_form (form.ArMem name a) kind (suc k) h = word_of_addr a kind (suc k) h
word_in_form (form.Port name a) kind k h = word_beside a 16 kind k h
word_in_form (form.Bit name a) kind k h = word_beside a 16 kind k h
word_in_form (form.Short short.Lark) kind zero h = absurd (cc)
word_in_form (form.Short short.Lark) kind (suc k) h = absurd (cc)
word_in_form (form.Short short.Ldpk) kind k h = omega arith
word_in_form (form.Short short.Mpyk) kind k h = absurd (cc)
word_in_form (form.Short _) kind k h = absurd (cc)
word_in_form (form.Long long.Lrlk) kind zero h = absurd (cc)
word_in_form (form.Long long.Lrlk) kind (suc k) h = omega arith
word_in_form (form.Long _) kind zero h = omega arith
word_in_form (form.Long _) kind (suc k) h = absurd (cc)
word_in_form (form.LongMem name a) kind zero h = omega arith
word_in_form (form.LongMem name a) kind (suc k) h = let l = word_of_addr a kind (suc k) h in omega (arith, l)
word_in_form (form.Jump name change) kind zero h = omega arith
word_in_form (form.Jump name change) kind (suc k) h = absurd (cc)
word_in_form (form.Plain plain.Fort written) kind k h = absurd (cc)
word_in_form (form.Plain _ written) kind k h = absurd (cc)

word_within : (t : Target) (n : ℕ) (a : Address) → Takes t n a → word_of (field_of t a.operand) a.operand < target_size t n
unfolding Takes
word_within (target.Instruction f) n a h = word_in_form f a.kind a.operand h.1
word_within (target.Data width.Word) n a h = h.0
word_within (target.Data width.Byte) n a h = absurd (cc (h.1))

-- the numbers of all operands fit
pub fits_sheet : (t : Target) (table : Table) (es : List Tree) (s : OperandValues) → operand_values t table es ≡ Ok s → FitsTarget t s.numbers
fits_sheet t table es s h = (all_taken t table es no_operands s (no_good t) h).good.fits

-- the fields of all addresses are within the words of the line
pub within_sheet : (t : Target) (table : Table) (es : List Tree) (s : OperandValues) (n : ℕ) → n ≡ length es → operand_values t table es ≡ Ok s → AreWithin t (target_size t n) s.addresses
within_sheet t table es s n is h =
    let a = all_taken t table es no_operands s (no_good t) h in
    let e : length s.numbers ≡ n = omega (arith, a.count, is) in
    rw (sym e) (All-weaker (Takes t (length s.numbers)) (λ x. word_of (field_of t x.operand) x.operand < target_size t (length s.numbers)) (word_within t (length s.numbers)) s.addresses a.good.takes)
