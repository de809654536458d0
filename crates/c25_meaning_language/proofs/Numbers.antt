-- The numbers that fields hold make an instruction in range.
use Rattle.std.proofs.Common.{◌≡◌, ℕ, zero, suc, ◌+◌, ◌-◌, ◌<◌, ◌≤◌, ◌^◌, ℤ, pos, negsuc, ◌≤ℤ◌, ◌<ℤ◌, Ok, Err, Bool, true, false, cond, not, ◌||◌, int_lt, List, [], ◌∷◌, ◌++◌, length, slice_get, slice_index, IfSome, arith, rules, refl}
use Rattle.std.specs.Int.{w16, cast_signed}
use Rattle.c25_bits.specs.Cut.{cut}
use Rattle.c25_meaning_language.specs.Statement.{within, below, number_in, form_row}
use Rattle.std.proofs.lemmas.Int.{ints}
use Rattle.std.proofs.lemmas.Bool.{not-false}
use Rattle.std.proofs.lemmas.Bool.Decides.{nat_tests}
use Rattle.c25_meaning_language.specs.declared.statement.Field.{Field}
use Rattle.c25_meaning_language.specs.declared.statement.Field.TheVariants as field
use Rattle.c25_meaning_instructions.specs.Table.{InRange, AddrInRange, size, size_of}
use Rattle.c25_meaning_language.specs.Statement.{form_field, insn_of, addr_of, addr_beside, number_beside, with_number, addr_field}
use Rattle.c25_meaning_language.specs.Fits.{Holds}
use Rattle.c25_meaning_instructions.specs.declared.mnemonic.ShortName.TheVariants as short
use Rattle.c25_meaning_instructions.specs.declared.mnemonic.LongName.TheVariants as long
use Rattle.c25_meaning_instructions.specs.declared.mnemonic.ShiftedName.TheVariants as shifted
use Rattle.c25_meaning_instructions.specs.declared.mnemonic.PlainName.TheVariants as plain
use Rattle.c25_meaning_language.specs.declared.statement.AddrForm.{AddrForm}
use Rattle.c25_meaning_language.specs.declared.statement.AddrForm.TheVariants.{Direct, Indirect}
use Rattle.c25_meaning_language.specs.declared.statement.FaultKind.{FaultKind}
use Rattle.c25_meaning_language.specs.declared.statement.Form.{Form}
use Rattle.c25_meaning_language.specs.declared.statement.Form.TheVariants as form
use Rattle.c25_bits.proofs.Cuts.{cut_below}

-- what holds of each index stays true where one more number comes after the list
pub each_push : (P : ℕ → ℕ → Type 0) (ns : List ℕ) (n : ℕ) → ((k : ℕ) → P k (slice_index ns k)) → P (length ns) n → ((k : ℕ) → P k 0) → (k : ℕ) → P k (slice_index (ns ++ n ∷ []) k)
each_push P [] n each last none zero = last
each_push P [] n each last none (suc k) = none (suc k)
each_push P (x ∷ xs) n each last none zero = each 0
each_push P (x ∷ xs) n each last none (suc k) = each_push (λ k. P (suc k)) xs n (λ k. each (suc k)) last (λ k. none (suc k)) k

holds_zero-with_number : (a : AddrForm) (limit k : ℕ) → 0 < limit → Holds (with_number a limit k) 0
holds_zero-with_number Direct limit zero h = omega arith
holds_zero-with_number Direct limit (suc k) h = h
holds_zero-with_number (Indirect change) limit zero h = h
holds_zero-with_number (Indirect change) limit (suc k) h = omega arith

holds_zero-addr : (a : AddrForm) → Holds (addr_field a) 0
holds_zero-addr Direct = omega arith
holds_zero-addr (Indirect change) = omega arith

pub holds_zero-form : (f : Form) (k : ℕ) → Holds (form_field f k) 0
holds_zero-form (form.Mem name a) k = holds_zero-addr a
holds_zero-form (form.Shifted shifted.Sacl a) k = holds_zero-with_number a 8 k (omega arith)
holds_zero-form (form.Shifted shifted.Sach a) k = holds_zero-with_number a 8 k (omega arith)
holds_zero-form (form.Shifted _ a) k = holds_zero-with_number a 16 k (omega arith)
holds_zero-form (form.ArMem name a) zero = omega arith
holds_zero-form (form.ArMem name a) (suc k) = holds_zero-addr a
holds_zero-form (form.Port name a) k = holds_zero-with_number a 16 k (omega arith)
holds_zero-form (form.Bit name a) k = holds_zero-with_number a 16 k (omega arith)
holds_zero-form (form.Short short.Lark) zero = omega arith
holds_zero-form (form.Short short.Lark) (suc k) = omega arith
holds_zero-form (form.Short short.Mpyk) k = search rules
holds_zero-form (form.Short _) k = omega arith
holds_zero-form (form.Long long.Lrlk) zero = omega arith
holds_zero-form (form.Long long.Lrlk) (suc k) = omega arith
holds_zero-form (form.Long _) zero = omega arith
holds_zero-form (form.Long _) (suc k) = omega arith
holds_zero-form (form.LongMem name a) zero = omega arith
holds_zero-form (form.LongMem name a) (suc k) = holds_zero-addr a
holds_zero-form (form.Jump name change) zero = omega arith
holds_zero-form (form.Jump name change) (suc k) = omega arith
holds_zero-form (form.Plain plain.Fort written) k = omega arith
holds_zero-form (form.Plain _ written) k = omega arith

get_below : (ns : List ℕ) (k limit : ℕ) → slice_index ns k < limit → IfSome (slice_get ns k) (λ n. n < limit)
get_below [] k limit h = tt
get_below (x ∷ xs) zero limit h = h
get_below (x ∷ xs) (suc k) limit h = get_below xs k limit h

addr_fits : (a : AddrForm) (ns : List ℕ) (k : ℕ) → Holds (addr_field a) (slice_index ns k) → AddrInRange (addr_of a (slice_get ns k))
addr_fits Direct [] k h = omega arith
addr_fits Direct (x ∷ xs) zero h = h
addr_fits Direct (x ∷ xs) (suc k) h = addr_fits Direct xs k h
addr_fits (Indirect change) ns k h = get_below ns k 8 h

beside_fits : (a : AddrForm) (ns : List ℕ) (limit : ℕ) → ((k : ℕ) → Holds (with_number a limit k) (slice_index ns k)) → (number_beside a ns < limit) × AddrInRange (addr_beside a ns)
beside_fits Direct ns limit h = (h 1, h 0)
beside_fits (Indirect change) ns limit h = (h 0, get_below ns 1 8 (h 1))

-- a number far below 2 ^ 15 is the same with a sign
small : (n bound : ℕ) → n < bound + 1 → bound < 2 ^ 15 → (pos 0 ≤ℤ cast_signed w16 n) × (cast_signed w16 n ≤ℤ pos bound)
small n bound h l = omega (arith, ints)

-- what fits makes an instruction in range
pub in_range : (f : Form) (ns : List ℕ) → ((k : ℕ) → Holds (form_field f k) (slice_index ns k)) → InRange (insn_of f ns)
in_range (form.Mem name a) ns h = addr_fits a ns 0 (h 0)
in_range (form.Shifted shifted.Sacl a) ns h = beside_fits a ns 8 h
in_range (form.Shifted shifted.Sach a) ns h = beside_fits a ns 8 h
in_range (form.Shifted _ a) ns h = beside_fits a ns 16 h
in_range (form.ArMem name a) ns h = (h 0, addr_fits a ns 1 (h 1))
in_range (form.Port name a) ns h = beside_fits a ns 16 h
in_range (form.Bit name a) ns h = beside_fits a ns 16 h
in_range (form.Short short.Lark) ns h = let s = small (slice_index ns 1) 255 (h 1) (omega arith) in (h 0, s.0, s.1)
in_range (form.Short short.Mpyk) ns h = (refl, (h 0).0, (h 0).1)
in_range (form.Short short.Ldpk) ns h = let s = small (slice_index ns 0) 511 (h 0) (omega arith) in (refl, s.0, s.1)
in_range (form.Short _) ns h = let s = small (slice_index ns 0) 255 (h 0) (omega arith) in (refl, s.0, s.1)
in_range (form.Long long.Lrlk) ns h = (h 1, h 0)
in_range (form.Long _) ns h = (h 0, h 1)
in_range (form.LongMem name a) ns h = (h 0, addr_fits a ns 1 (h 1))
in_range (form.Jump name change) ns h = (h 0, get_below ns 1 8 (h 1))
in_range (form.Plain plain.Norm change) ns h = tt
in_range (form.Plain plain.Fort change) ns h = h 0
in_range (form.Plain plain.Spm change) ns h = h 0
in_range (form.Plain plain.Cmpr change) ns h = h 0
in_range (form.Plain _ change) ns h = tt

-- ---- what an operand's value gives fits

neither : (a b : Bool) (f : FaultKind) (number n : ℕ) → cond (a || b) (Err f) (Ok number) ≡ Ok n → (a ≡ false) × (b ≡ false) × (n ≡ number)
neither true b f number n h = absurd (grind (arith))
neither false true f number n h = absurd (grind (arith))
neither false false f number n h = (refl, refl, grind arith)

within_ok : (low high z : ℤ) (number n : ℕ) → within low high z number ≡ Ok n → (low ≤ℤ z) × (z ≤ℤ high) × (n ≡ number)
within_ok low high z number n h = let p = neither (int_lt z low) (int_lt high z) _ number n h in (omega (arith, ints, p.0), omega (arith, ints, p.1), p.2)

below_ok : (limit : ℕ) (z : ℤ) (number n : ℕ) → below limit z number ≡ Ok n → (pos 0 ≤ℤ z) × (z <ℤ pos limit) × (n ≡ number)
below_ok limit z number n h = let p = neither (int_lt z (pos 0)) (not (int_lt z (pos limit))) _ number n h in (omega (arith, ints, p.0), omega (arith, ints, not-false _ p.1), p.2)

at_most : (z : ℤ) (limit : ℕ) → pos 0 ≤ℤ z → z <ℤ pos limit → cut z 16 < limit
at_most (pos n) limit low high = omega (arith, ints)
at_most (negsuc n) limit low high = absurd (omega (arith, ints))

high_signed : (m : ℕ) → m < 65536 → 2 ^ 15 ≤ m → cast_signed w16 m ≡ negsuc (65535 - m)
high_signed m low high = grind (arith, nat_tests)

signed_back : (z : ℤ) → negsuc 4095 ≤ℤ z → z ≤ℤ pos 4095 → (negsuc 4095 ≤ℤ cast_signed w16 (cut z 16)) × (cast_signed w16 (cut z 16) ≤ℤ pos 4095)
signed_back (pos n) low high = omega (arith, ints)
signed_back (negsuc n) low high = let m : n ≤ 4095 = omega (arith, ints, low) in let e : cut (negsuc n) 16 ≡ 65535 - n = omega arith in rw e (rw (high_signed (65535 - n) (omega arith) (omega arith)) (omega (arith, ints)))

-- a field holds the number that a value gives it
pub holds_number : (f : Field) (z : ℤ) (n : ℕ) → number_in f z ≡ Ok n → Holds f n
unfolding number_in
holds_number field.Low7 z n h = let p = within_ok (pos 0) (pos 65535) z _ n h in rw p.2 (cut_below z 7)
holds_number field.Page9 z n h = let p = within_ok (pos 0) (pos 511) z _ n h in rw p.2 (at_most z 512 p.0 (omega (arith, ints, p.1)))
holds_number field.Word16 z n h = let p = within_ok (negsuc 32767) (pos 65535) z _ n h in rw p.2 (cut_below z 16)
holds_number (field.Number limit) z n h = let p = below_ok limit z _ n h in rw p.2 (at_most z limit p.0 p.1)
holds_number field.Signed13 z n h = let p = within_ok (negsuc 4095) (pos 4095) z _ n h in rw p.2 (signed_back z p.0 p.1)
holds_number field.Word z n h = let e : cut z 16 ≡ n = cc in rw (← e) (cut_below z 16)
holds_number field.Byte z n h = let p = within_ok (negsuc 127) (pos 255) z _ n h in rw p.2 (cut_below z 8)

-- ---- sizes

-- an instruction has as many words as the row of its form says
pub size_of_form : (f : Form) (ns : List ℕ) → size_of (insn_of f ns) ≡ size (form_row f)
size_of_form (form.Mem name a) ns = refl
size_of_form (form.Shifted name a) ns = refl
size_of_form (form.ArMem name a) ns = refl
size_of_form (form.Port name a) ns = refl
size_of_form (form.Bit name a) ns = refl
size_of_form (form.Short short.Lark) ns = refl
size_of_form (form.Short _) ns = refl
size_of_form (form.Long long.Lrlk) ns = refl
size_of_form (form.Long _) ns = refl
size_of_form (form.LongMem name a) ns = refl
size_of_form (form.Jump name change) ns = refl
size_of_form (form.Plain name change) ns = refl
