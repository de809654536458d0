-- The numbers of a line's sheet, with those of its addresses under the map, are the numbers of its operands under the map.
use Rattle.std.proofs.Common.{◌≡◌, ℕ, ◌+◌, ◌≤◌, ◌<◌, true, List, [], ◌∷◌, ◌++◌, length, set, Option, Some, None, Ok, ℤ, pos, ◌+ℤ◌, refl, sym, ap, ◌∙◌, subst, arith}
use Rattle.std.specs.List.{AllByRecursion, fold}
use Rattle.std.proofs.Math.IntN.{+ℤ_idl}
use Rattle.std.proofs.Math.Seq.{set-append_seam}
use Rattle.std.proofs.lemmas.List.{append-nil, append_assoc, length-append, length-set, set-append_left}
use Rattle.c25_meaning_assembly.specs.Addresses.{OperandValues, no_operands, with_number, with_value, taken, operand_values}
use Rattle.c25_meaning_assembly.specs.OperandFields.{field_of}
use Rattle.c25_meaning_assembly.specs.Addresses as sheets
use Rattle.c25_meaning_assembly.specs.Emission.{table_at}
use Rattle.c25_meaning_common.specs.Fields.{field_number}
use Rattle.c25_meaning_objects.specs.Module.{Contents}
use Rattle.c25_meaning_linking.specs.Place.{Place}
use Rattle.c25_meaning_common.specs.Results.{fold_ok}
use Rattle.c25_meaning_assembly.specs.Sections.{Definitions}
use Rattle.c25_meaning_language.specs.Statement.{number_in, relocation_of, valued}
use Rattle.c25_meaning_language.specs.Tree.{Tree}
use Rattle.c25_meaning_language.specs.Value.{value_named, value_of}
use Rattle.c25_meaning_linking.specs.Words.{base_value, section_run}
use Rattle.c25_meaning_assembly.specs.declared.assembly.Address.{Address}
use Rattle.c25_meaning_assembly.specs.declared.assembly.Target.{Target}
use Rattle.c25_meaning_objects.specs.declared.object.RelocationBase.{RelocationBase}
use Rattle.c25_meaning_objects.specs.declared.object.RelocationBase.TheVariants as relocated
use Rattle.c25_meaning_common.specs.declared.relocation.RelocationKind.{RelocationKind}
use Rattle.c25_meaning_language.specs.declared.statement.Field.{Field}
use Rattle.c25_meaning_language.specs.declared.value.Base.{Base}
use Rattle.c25_meaning_language.specs.declared.value.Base.TheVariants.{Absolute, Section, Loaded, External}
use Rattle.c25_meaning_language.specs.declared.value.Value.{Value}
use Rattle.c25_laws.proofs.FieldsFilled.{numbered}
use Rattle.c25_module_laws.proofs.ResultSteps.{bound}
use Rattle.c25_laws.proofs.SheetStatements.{address_value}
use Rattle.c25_laws.proofs.FieldsOfValues.{address_in, tested_in}
use Rattle.c25_laws.proofs.NamesUnder.{base_at}
use Rattle.c25_laws.proofs.ValuesMove.{kind_stays, untold, value_moves}
use Rattle.c25_laws.specs.ProgramStatements.{numbers_under}
use Rattle.c25_laws.specs.SourceValues.{counted_from, counts_from_place, field_value, is_address, is_place, name_under, operand_number, value_under}

-- ---- numbers with those of addresses

-- the addresses are of the first so many operands
abbrev AreBelow : ℕ → List Address → Type 0
AreBelow n list = AllByRecursion (λ (a : Address). a.operand < n) list

below_more : (n l : ℕ) (list : List Address) → n ≤ l → AreBelow n list → AreBelow l list
below_more n l [] le h = tt
below_more n l (a ∷ list) le h = let b = h.0 in (omega (arith, b, le), below_more n l list le h.1)

below_push : (l : ℕ) (list : List Address) (a : Address) → AreBelow l list → a.operand < l → AreBelow l (list ++ a ∷ [])
below_push l [] a h b = (b, tt)
below_push l (x ∷ list) a h b = (h.0, below_push l list a h.1 b)

module _ (value : Address → ℕ) where
  fill_length : (ns : List ℕ) (list : List Address) → length (fold (numbered value) ns list) ≡ length ns
  fill_length ns [] = refl
  fill_length ns (a ∷ list) = fill_length (set ns a.operand (value a)) list ∙ length-set ns a.operand (value a)

  fill_push : (ns : List ℕ) (n : ℕ) (list : List Address) → AreBelow (length ns) list → fold (numbered value) (ns ++ n ∷ []) list ≡ fold (numbered value) ns list ++ n ∷ []
  fill_push ns n [] h = refl
  fill_push ns n (a ∷ list) h =
      ap (λ xs. fold (numbered value) xs list) (set-append_left ns (n ∷ []) a.operand (value a) h.0)
      ∙ fill_push (set ns a.operand (value a)) n list (subst (λ (k : ℕ). AreBelow k list) (sym (length-set ns a.operand (value a))) h.1)

  fill_behind : (ns : List ℕ) (list : List Address) (a : Address) → fold (numbered value) ns (list ++ a ∷ []) ≡ set (fold (numbered value) ns list) a.operand (value a)
  fill_behind ns [] a = refl
  fill_behind ns (b ∷ list) a = fill_behind (set ns b.operand (value b)) list a

-- a sheet with its addresses filled has these numbers
pub record ComesTo (value : Address → ℕ) (s : OperandValues) (done : List ℕ) : Type 0 where
  pub below : AreBelow (length s.numbers) s.addresses
  pub filled : fold (numbered value) s.numbers s.addresses ≡ done

module _ (value : Address → ℕ) (s : OperandValues) (done : List ℕ) (h : ComesTo value s done) where
  as_many : length s.numbers ≡ length done
  as_many = sym (fill_length value s.numbers s.addresses) ∙ ap length h.filled

  longer : (n : ℕ) → length (s.numbers ++ n ∷ []) ≡ length s.numbers + 1
  longer n = length-append s.numbers (n ∷ [])

  pushed : (n : ℕ) → fold (numbered value) (s.numbers ++ n ∷ []) s.addresses ≡ done ++ n ∷ []
  pushed n = fill_push value s.numbers n s.addresses h.below ∙ ap (λ xs. xs ++ n ∷ []) h.filled

  more_number : (n : ℕ) → ComesTo value (with_number n s) (done ++ n ∷ [])
  more_number n = let l = longer n in record { below = below_more (length s.numbers) (length (s.numbers ++ n ∷ [])) s.addresses (omega (arith, l)) h.below; filled = pushed n }

  more_address : (a : Address) → a.operand ≡ length s.numbers → ComesTo value (record { numbers = s.numbers ++ 0 ∷ []; addresses = s.addresses ++ a ∷ [] }) (done ++ value a ∷ [])
  more_address a at =
      let l = longer 0 in
      record {
        below = below_push (length (s.numbers ++ 0 ∷ [])) s.addresses a (below_more (length s.numbers) (length (s.numbers ++ 0 ∷ [])) s.addresses (omega (arith, l)) h.below) (omega (arith, at, l));
        filled = fill_behind value (s.numbers ++ 0 ∷ []) s.addresses a ∙ ap (λ xs. set xs a.operand (value a)) (pushed 0) ∙ ap (λ k. set (done ++ 0 ∷ []) k (value a)) (at ∙ as_many)
            ∙ set-append_seam done 0 [] (value a);
      }

-- ---- operands

module _ (modules : List Contents) (places : List Place) (number : ℕ) (m : Contents) (names all : Definitions) (section offset : ℕ) (t : Target)
    (each : (d : List ℕ) (w : Value) → value_named (table_at all section offset) d ≡ Some w → name_under modules places number m names d ≡ base_at modules places number m w.base +ℤ w.offset)
    (kinds : (d : List ℕ) (w : Value) → value_named (table_at all section offset) d ≡ Some w → is_place names d ≡ counts_from_place w.base) where
  -- what the field of an address holds
  abbrev value : Address → ℕ
  value a = field_number a.kind (address_value modules places number m a)

  abbrev own : Field → Tree → ℕ
  own f e = operand_number modules places number m names section offset f e

  abbrev here_under : ℤ
  here_under = pos (section_run modules places number m section + offset)

  moves : (e : Tree) (v : Value) → valued (table_at all section offset) e ≡ Ok v → value_under (name_under modules places number m names) here_under e ≡ base_at modules places number m v.base +ℤ v.offset
  moves e v is =
      value_moves (base_at modules places number m) refl (value_named (table_at all section offset)) (table_at all section offset).here (name_under modules places number m names) here_under each refl e v
      (untold (value_of (value_named (table_at all section offset)) (table_at all section offset).here e) v is)

  kind_is : (e : Tree) (v : Value) → valued (table_at all section offset) e ≡ Ok v → is_address (is_place names) e ≡ counts_from_place v.base
  kind_is e v is =
      kind_stays (value_named (table_at all section offset)) (table_at all section offset).here (is_place names) kinds refl e v
      (untold (value_of (value_named (table_at all section offset)) (table_at all section offset).here e) v is)

  -- one operand more
  record Grows (s new : OperandValues) (done : List ℕ) (n : ℕ) : Type 0 where
    comes : ComesTo value new (done ++ n ∷ [])
    more : length new.numbers ≡ length s.numbers + 1

  with_own : (s new : OperandValues) (done : List ℕ) (n k : ℕ) → n ≡ k → Grows s new done k → Grows s new done n
  with_own s new done n k e g = subst (λ (j : ℕ). Grows s new done j) (sym e) g

  grown_address : (s new : OperandValues) (done : List ℕ) (e : Tree) (o : Option RelocationKind) (base : RelocationBase) (z : ℤ) → ComesTo value s done → relocation_of (field_of t (length s.numbers)) ≡ o
      → is_address (is_place names) e ≡ true → value_under (name_under modules places number m names) here_under e ≡ base_value modules places number m base +ℤ z
      → sheets.with_address o base z s ≡ Ok new → Grows s new done (own (field_of t (length s.numbers)) e)
  grown_address s new done e None base z h rel kind is out = absurd (cc)
  grown_address s new done e (Some k) base z h rel kind is out =
      let a : Address = record { operand = length s.numbers; kind = k; base = base; addend = z } in
      let made : OperandValues = record { numbers = s.numbers ++ 0 ∷ []; addresses = s.addresses ++ a ∷ [] } in
      let q : made ≡ new = cc in
      let number_is : own (field_of t (length s.numbers)) e ≡ value a = (λ i. field_value (field_of t (length s.numbers)) (kind i) (is i)) ∙ address_in (field_of t (length s.numbers)) k (base_value modules places number m base +ℤ z) rel in
      let grown : Grows s made done (value a) = record { comes = more_address value s done h a refl; more = length-append s.numbers (0 ∷ []) } in
      with_own s new done (own (field_of t (length s.numbers)) e) (value a) number_is (subst (λ (x : OperandValues). Grows s x done (value a)) q grown)

  grown : (s new : OperandValues) (done : List ℕ) (e : Tree) → ComesTo value s done → taken t (table_at all section offset) s e ≡ Ok new → Grows s new done (own (field_of t (length s.numbers)) e)
  unfolding taken
  grown s new done e h is =
      let v = bound (valued (table_at all section offset) e) (λ v. with_value v.base (field_of t (length s.numbers)) v.offset s) new is in
      by (v.0).offset (v.0).base v.2 (moves e v.0 v.1) (kind_is e v.0 v.1)
    where
      by : (z : ℤ) (b : Base) → with_value b (field_of t (length s.numbers)) z s ≡ Ok new
          → value_under (name_under modules places number m names) here_under e ≡ base_at modules places number m b +ℤ z
          → is_address (is_place names) e ≡ counts_from_place b → Grows s new done (own (field_of t (length s.numbers)) e)
      by z Absolute out value_is kind =
          let k = bound (number_in (field_of t (length s.numbers)) z) (λ k. Ok (with_number k s)) new out in
          let q : with_number k.0 s ≡ new = let last = k.2 in cc in
          let number_is : own (field_of t (length s.numbers)) e ≡ k.0 = (λ i. field_value (field_of t (length s.numbers)) (kind i) ((value_is ∙ +ℤ_idl z) i)) ∙ tested_in (field_of t (length s.numbers)) z k.0 k.1 in
          let grown : Grows s (with_number k.0 s) done k.0 = record { comes = more_number value s done h k.0; more = length-append s.numbers (k.0 ∷ []) } in
          with_own s new done (own (field_of t (length s.numbers)) e) k.0 number_is (subst (λ (x : OperandValues). Grows s x done k.0) q grown)
      by z (Section k) out value_is kind = grown_address s new done e (relocation_of (field_of t (length s.numbers))) (relocated.Section k) z h refl kind value_is out
      by z (Loaded k) out value_is kind = grown_address s new done e (relocation_of (field_of t (length s.numbers))) (relocated.Loaded k) z h refl kind value_is out
      by z (External k) out value_is kind = grown_address s new done e (relocation_of (field_of t (length s.numbers))) (relocated.External k) z h refl kind value_is out

  all_come : (es : List Tree) (s new : OperandValues) (k : ℕ) (done : List ℕ) → length s.numbers ≡ k → ComesTo value s done → fold_ok (taken t (table_at all section offset)) s es ≡ Ok new
      → ComesTo value new (done ++ counted_from (λ k e. own (field_of t k) e) k es)
  all_come [] s new k done count h is =
      let q : s ≡ new = cc in
      subst (λ (x : OperandValues). ComesTo value x (done ++ [])) q (subst (ComesTo value s) (sym (append-nil done)) h)
  all_come (e ∷ es) s new k done count h is =
      let x = bound (taken t (table_at all section offset) s e) (λ next. fold_ok (taken t (table_at all section offset)) next es) new is in
      let g = grown s x.0 done e h x.1 in
      let n = own (field_of t k) e in
      let one : ComesTo value x.0 (done ++ n ∷ []) = subst (λ (j : ℕ). ComesTo value x.0 (done ++ own (field_of t j) e ∷ [])) count g.comes in
      let rest = all_come es x.0 new (k + 1) (done ++ n ∷ []) (g.more ∙ ap (λ j. j + 1) count) one x.2 in
      subst (ComesTo value new) (append_assoc done (n ∷ []) (counted_from (λ k e. own (field_of t k) e) (k + 1) es)) rest

  -- the numbers of the operands of a line
  pub sheet_comes : (es : List Tree) (s : OperandValues) → operand_values t (table_at all section offset) es ≡ Ok s
      → fold (numbered (λ (a : Address). field_number a.kind (address_value modules places number m a))) s.numbers s.addresses ≡ numbers_under modules places number m names section offset t es
  sheet_comes es s is = (all_come es no_operands s 0 [] refl (record { below = tt; filled = refl }) is).filled
