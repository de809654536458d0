-- The numbers of operands under a map: of numbers, and of names in their place.
use Rattle.std.proofs.Common.{◌≡◌, ℕ, zero, suc, ◌+◌, ◌^◌, ◌<◌, List, [], ◌∷◌, drop, min, Option, None, Some, ℤ, pos, ◌+ℤ◌, refl, sym, ap, ◌∙◌, arith}
use Rattle.std.specs.Fmt.{decimal}
use Rattle.std.proofs.Math.IntN.{+ℤ_idl, +ℤ_idr}
use Rattle.c25_bits.specs.Cut.{cut}
use Rattle.c25_meaning_assembly.specs.OperandFields.{field_of}
use Rattle.c25_meaning_assembly.specs.Emission.{table_at}
use Rattle.c25_meaning_assembly.specs.Sections.{Definitions}
use Rattle.c25_meaning_assembly.specs.declared.assembly.Target.{Target}
use Rattle.c25_meaning_language.specs.Constant.{constant_value}
use Rattle.c25_meaning_language.specs.Tree.{Tree}
use Rattle.c25_meaning_language.specs.Value.{defined, named_by, predefined, value_named}
use Rattle.c25_meaning_language.specs.declared.statement.Field.{Field}
use Rattle.c25_meaning_language.specs.declared.statement.Field.TheVariants as field
use Rattle.c25_meaning_language.specs.declared.value.Base.TheVariants.{Absolute}
use Rattle.c25_meaning_language.specs.declared.value.Value.{Value}
use Rattle.c25_meaning_linking.specs.Place.{Place}
use Rattle.c25_meaning_linking.specs.Words.{section_run}
use Rattle.c25_meaning_objects.specs.Module.{Contents}
use Rattle.c25_laws.proofs.NamesUnder.{base_at}
use Rattle.c25_laws.proofs.ValuesFilled.{sheet_comes}
use Rattle.c25_laws.specs.ProgramStatements.{numbers_under}
use Rattle.c25_laws.specs.SourceValues.{counted_from, counts_from_place, is_place, is_place_by, name_by, name_under, operand_number, value_under}
use Rattle.c25_print_laws.proofs.Numerals.{decimal_constant}
use Rattle.c25_print_laws.proofs.Values.{constant_tree}
use Rattle.c25_print_laws.specs.Saying.{HasNumbers}
use Rattle.c25_layout_laws.proofs.Targets.{target_tree}

module _ (modules : List Contents) (places : List Place) (number : ℕ) (m : Contents) (names : Definitions) (section offset : ℕ) where
  -- ---- numbers alone

  predefined_value : (d : List ℕ) (w : Value) → value_named (table_at [] section offset) d ≡ Some w → (n : ℕ) × (predefined d ≡ Some n) × (w ≡ record { base = Absolute; offset = pos n })
  predefined_value d w e = go (predefined d) refl e
    where
      go : (o : Option ℕ) → predefined d ≡ o → named_by o None ≡ Some w → (n : ℕ) × (predefined d ≡ Some n) × (w ≡ record { base = Absolute; offset = pos n })
      go None is e = absurd (cc)
      go (Some n) is e = (n, is, cc)

  same_value : (d : List ℕ) (w : Value) → value_named (table_at [] section offset) d ≡ Some w → name_under modules places number m names d ≡ base_at modules places number m w.base +ℤ w.offset
  same_value d w e =
      let p = predefined_value d w e in
      ap (λ (o : Option ℕ). name_by modules places number m d (named_by o (defined names d))) p.1
      ∙ sym (ap (λ (v : Value). base_at modules places number m v.base +ℤ v.offset) p.2 ∙ +ℤ_idl (pos p.0))

  same_kind : (d : List ℕ) (w : Value) → value_named (table_at [] section offset) d ≡ Some w → is_place names d ≡ counts_from_place w.base
  same_kind d w e =
      let p = predefined_value d w e in
      ap (λ (o : Option ℕ). is_place_by (named_by o (defined names d))) p.1 ∙ sym (ap (λ (v : Value). counts_from_place v.base) p.2)

  -- operands that have numbers whatever symbols there are have these under the map
  pub numbers_alone : (t : Target) (es : List Tree) (ns : List ℕ) → HasNumbers t es ns → numbers_under modules places number m names section offset t es ≡ ns
  numbers_alone t es ns h = sym (sheet_comes modules places number m names [] section offset t same_value same_kind es (record { numbers = ns; addresses = [] }) (h (table_at [] section offset)))

  -- ---- a name in place of a number

  abbrev own : Field → Tree → ℕ
  own f e = operand_number modules places number m names section offset f e

  abbrev value : List ℕ → ℤ
  value = name_under modules places number m names

  abbrev here : ℤ
  here = pos (section_run modules places number m section + offset)

  constant_under : (n : ℕ) (text : List ℕ) → constant_value text ≡ n → n < 2 ^ 31 → value_under value here (constant_tree text) ≡ pos n
  constant_under n text e small = let least : min n (2 ^ 31) ≡ n = omega (arith, small) in ap (λ (k : ℕ). pos (min k (2 ^ 31))) e ∙ ap pos least

  target_under : (text : List ℕ) (after n : ℕ) → after < 65536 → value text +ℤ pos after ≡ pos n → value_under value here (target_tree text after) ≡ pos n
  target_under text zero n small e = sym (+ℤ_idr (value text)) ∙ e
  target_under text (suc after) n small e =
      ap (λ (z : ℤ). value text +ℤ z) (constant_under (suc after) (decimal (suc after)) (decimal_constant (suc after) (omega (arith, small))).value (omega (arith, small))) ∙ e

  whole : (n : ℕ) → n < 65536 → cut (pos n) 16 ≡ n
  whole n h = omega (arith, h)

  pub target_word : (text : List ℕ) (after n : ℕ) → after < 65536 → n < 65536 → value text +ℤ pos after ≡ pos n → own field.Word16 (target_tree text after) ≡ n
  target_word text after n small fits e = ap (λ (z : ℤ). cut z 16) (target_under text after n small e) ∙ whole n fits

  pub target_data : (text : List ℕ) (after n : ℕ) → after < 65536 → n < 65536 → value text +ℤ pos after ≡ pos n → own field.Word (target_tree text after) ≡ n
  target_data text after n small fits e = ap (λ (z : ℤ). cut z 16) (target_under text after n small e) ∙ whole n fits

  pub constant_data : (n : ℕ) (text : List ℕ) → constant_value text ≡ n → n < 65536 → own field.Word (constant_tree text) ≡ n
  constant_data n text e fits = ap (λ (z : ℤ). cut z 16) (constant_under n text e (omega (arith, fits))) ∙ whole n fits

  -- the first operand replaced
  pub first_replaced : (t : Target) (e c : Tree) (es : List Tree) (n : ℕ) (ns : List ℕ) → field_of t 0 ≡ field.Word16 → own field.Word16 e ≡ n → numbers_under modules places number m names section offset t (c ∷ es) ≡ n ∷ ns
      → numbers_under modules places number m names section offset t (e ∷ es) ≡ n ∷ ns
  first_replaced t e c es n ns f is all =
      ap (λ (k : Field). own k e ∷ counted_from (λ k e. own (field_of t k) e) 1 es) f
      ∙ ap (λ (k : ℕ). k ∷ counted_from (λ k e. own (field_of t k) e) 1 es) is
      ∙ ap (λ (ks : List ℕ). n ∷ drop 1 ks) all

  -- the second of two replaced
  pub second_replaced : (t : Target) (r e c : Tree) (register n : ℕ) → field_of t 1 ≡ field.Word16 → own field.Word16 e ≡ n → numbers_under modules places number m names section offset t (r ∷ c ∷ []) ≡ register ∷ n ∷ []
      → numbers_under modules places number m names section offset t (r ∷ e ∷ []) ≡ register ∷ n ∷ []
  second_replaced t r e c register n f is all =
      let same : own (field_of t 0) r ≡ register = cc in
      ap (λ (k : Field). own (field_of t 0) r ∷ own k e ∷ []) f ∙ ap (λ (k : ℕ). own (field_of t 0) r ∷ k ∷ []) is ∙ ap (λ (k : ℕ). k ∷ n ∷ []) same
