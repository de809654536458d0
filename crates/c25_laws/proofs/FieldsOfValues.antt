-- The number that a field holds of a value: that of a relocation for an address, that which was tested for a number.
use Rattle.std.proofs.Common.{◌≡◌, ℕ, ◌||◌, not, int_lt, true, false, Option, Some, Result, Ok, ℤ, pos, negsuc, ap}
use Rattle.c25_bits.specs.Cut.{cut}
use Rattle.c25_meaning_common.specs.Fields.{field_number}
use Rattle.c25_meaning_language.specs.Statement.{number_in, relocation_of}
use Rattle.c25_meaning_common.specs.declared.relocation.RelocationKind.{RelocationKind}
use Rattle.c25_meaning_common.specs.declared.relocation.RelocationKind.TheVariants as kind
use Rattle.c25_meaning_language.specs.declared.statement.FaultKind.{FaultKind}
use Rattle.c25_meaning_language.specs.declared.statement.FaultKind.TheVariants as fault
use Rattle.c25_meaning_language.specs.declared.statement.Field.{Field}
use Rattle.c25_meaning_language.specs.declared.statement.Field.TheVariants as field
use Rattle.c25_module_laws.proofs.ResultSteps.{refused}
use Rattle.c25_laws.specs.SourceValues.{field_value}

same_kind : (a b : RelocationKind) → ◌≡◌ {A = Option RelocationKind} (Some a) (Some b) → a ≡ b
same_kind a b e = let q : a ≡ b = cc in q

same_number : (m n : ℕ) → ◌≡◌ {A = Result ℕ FaultKind} (Ok m) (Ok n) → m ≡ n
same_number m n e = let q : m ≡ n = cc in q

pub address_in : (f : Field) (k : RelocationKind) (z : ℤ) → relocation_of f ≡ Some k → field_value f true z ≡ field_number k z
address_in field.Low7 k z e = ap (λ k. field_number k z) (same_kind kind.Low7 k e)
address_in field.Page9 k z e = ap (λ k. field_number k z) (same_kind kind.Page9 k e)
address_in field.Word16 k z e = ap (λ k. field_number k z) (same_kind kind.Word16 k e)
address_in (field.Number limit) k z e = absurd (cc)
address_in field.Signed13 k z e = absurd (cc)
address_in field.Word k z e = ap (λ k. field_number k z) (same_kind kind.Word16 k e)
address_in field.Byte k z e = absurd (cc)

pub tested_in : (f : Field) (z : ℤ) (n : ℕ) → number_in f z ≡ Ok n → field_value f false z ≡ n
unfolding number_in
tested_in field.Low7 z n e = (refused (int_lt z (pos 0) || int_lt (pos 65535) z) fault.FieldRange (cut z 7) n e).1
tested_in field.Page9 z n e = (refused (int_lt z (pos 0) || int_lt (pos 511) z) fault.FieldRange (cut z 16) n e).1
tested_in field.Word16 z n e = (refused (int_lt z (negsuc 32767) || int_lt (pos 65535) z) fault.FieldRange (cut z 16) n e).1
tested_in (field.Number limit) z n e = (refused (int_lt z (pos 0) || not (int_lt z (pos limit))) fault.FieldRange (cut z 16) n e).1
tested_in field.Signed13 z n e = (refused (int_lt z (negsuc 4095) || int_lt (pos 4095) z) fault.FieldRange (cut z 16) n e).1
tested_in field.Word z n e = same_number (cut z 16) n e
tested_in field.Byte z n e = (refused (int_lt z (negsuc 127) || int_lt (pos 255) z) fault.FieldRange (cut z 8) n e).1
