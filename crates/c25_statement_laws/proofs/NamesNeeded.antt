-- A name that an operand mentions and that its own source does not define is exported by a source of the program.
use Rattle.std.proofs.Common.{◌≡◌, ℕ, suc, zero, ◌+◌, Bool, true, false, cond, ◌⊎◌, inl, inr, List, [], ◌∷◌, ◌++◌, length, map, reverse, Option, Some, None, Result, Ok, ℤ, pos, refl, sym, ap, ◌∙◌, subst, arith}
use Rattle.std.specs.List.{Contains, slice_get}
use Rattle.std.specs.Option.{ok_or, option_map_or}
use Rattle.std.specs.Str.{bytes_eq}
use Rattle.std.proofs.lemmas.List.{append_assoc, length-append}
use Rattle.std.proofs.lemmas.List.Elements.{Contains-append_left, Contains-append_right}
use Rattle.std.proofs.lemmas.Slice.Eq.{bytes_eq-Decides}
use Rattle.c25_meaning_assembly.specs.Addresses.{OperandValues, in_order, ends_first, no_operands, operand_values, relocation_at, relocations_of, taken, with_address, with_number, with_value, words_of}
use Rattle.c25_meaning_assembly.specs.Emission.{all_names, module_with, numbered, symbol_of, table_at}
use Rattle.c25_meaning_assembly.specs.OperandFields.{field_of}
use Rattle.c25_meaning_assembly.specs.Sections.{Definitions, Operands, PendingItem, Progress, imports}
use Rattle.c25_meaning_assembly.specs.declared.assembly.Address.{Address}
use Rattle.c25_meaning_assembly.specs.declared.assembly.Target.{Target}
use Rattle.c25_meaning_common.specs.Results.{◌>>=◌, fold_ok}
use Rattle.c25_meaning_common.specs.declared.relocation.RelocationKind.{RelocationKind}
use Rattle.c25_meaning_expansion.specs.Files.{Files}
use Rattle.c25_meaning_language.specs.Statement.{number_in, relocation_of, valued}
use Rattle.c25_meaning_language.specs.Tree.{Constant, Name, Here, Tree, Single, Group, Unary, Binary}
use Rattle.c25_meaning_language.specs.Value.{Table, absolute_base, base_of, binary_value, defined, named_by, number_of, predefined, unary_value, value_named, value_of}
use Rattle.c25_meaning_language.specs.declared.expression.BinaryOperator.{BinaryOperator}
use Rattle.c25_meaning_language.specs.declared.expression.BinaryOperator.TheVariants as binary
use Rattle.c25_meaning_language.specs.declared.expression.UnaryOperator.{UnaryOperator}
use Rattle.c25_meaning_language.specs.declared.expression.UnaryOperator.TheVariants as unary
use Rattle.c25_meaning_language.specs.declared.statement.Field.{Field}
use Rattle.c25_meaning_language.specs.declared.value.Base.{Base}
use Rattle.c25_meaning_language.specs.declared.value.Base.TheVariants.{Absolute, Section, Loaded, External}
use Rattle.c25_meaning_language.specs.declared.value.Value.{Value}
use Rattle.c25_meaning_language.specs.declared.value.ValueFault.{ValueFault}
use Rattle.c25_meaning_language.specs.declared.value.ValueFault.TheVariants as fault
use Rattle.c25_meaning_linking.specs.Linking.{names_checked}
use Rattle.c25_meaning_linking.specs.Words.{symbol_name}
use Rattle.c25_meaning_objects.specs.Module.{Contents, SymbolData}
use Rattle.c25_meaning_objects.specs.declared.object.Relocation.{Relocation}
use Rattle.c25_meaning_objects.specs.declared.object.RelocationBase.{RelocationBase}
use Rattle.c25_meaning_objects.specs.declared.object.RelocationBase.TheVariants as relocated
use Rattle.c25_linking_laws.proofs.Members.{first_in, in_front, in_map, in_reversed, nothing_in}
use Rattle.c25_module_laws.proofs.Emitted.{Give, Made, filled_from, made_by, relocations_at}
use Rattle.c25_module_laws.proofs.KeptActs.{code_section}
use Rattle.c25_module_laws.proofs.KeptLines.{IsMade}
use Rattle.c25_module_laws.proofs.ResultSteps.{bound}
use Rattle.c25_laws.proofs.ItemsLinked.{code, stands}
use Rattle.c25_laws.proofs.StatementsOfSources.{in_module}
use Rattle.c25_laws.proofs.ValuesMove.{untold}
use Rattle.c25_laws.specs.ProgramStatements.{AreModulesOf}
use Rattle.c25_laws.specs.SourceValues.{own_name}
use Rattle.c25_statement_laws.specs.ExportedNames.{IsExported, IsImported, Mentions}
use Rattle.c25_statement_laws.proofs.NamesExported.{comes_at}
use Rattle.c25_statement_laws.proofs.NamesResolved.{resolved}

-- ---- names of other modules

-- the value of a name that another module defines, by its number
abbrev outside : ℕ → Value
outside k = record { base = External k; offset = pos 0 }

later_defined : (xs ys : Definitions) (d : List ℕ) → defined xs d ≡ None → defined (xs ++ ys) d ≡ defined ys d
later_defined [] ys d e = refl
later_defined (x ∷ xs) ys d e = on (bytes_eq d x.0) (later_defined xs ys d) e
  where
    on : (b : Bool) → (defined xs d ≡ None → defined (xs ++ ys) d ≡ defined ys d) → cond b (Some x.1) (defined xs d) ≡ None → cond b (Some x.1) (defined (xs ++ ys) d) ≡ defined ys d
    on true go e = absurd (cc)
    on false go e = go e

get_behind : {X Y : Type 0} (f : X → Y) (pre : List X) (x : X) (rest : List X) → slice_get (map f (pre ++ x ∷ rest)) (length pre) ≡ Some (f x)
get_behind f [] x rest = refl
get_behind f (p ∷ ps) x rest = get_behind f ps x rest

-- a name of another module is that of the symbol that it counts from
record IsOther (m : Contents) (name : List ℕ) (v : Value) : Type 0 where
  index : ℕ
  value_is : v ≡ outside index
  name_is : symbol_name m index ≡ name

other_found : (m : Contents) (exported : List (List ℕ)) (all pre : Definitions) (k : ℕ) (ds : List (List ℕ)) (d : List ℕ) (w : Value) → m.symbols ≡ map (symbol_of exported) all → k ≡ length pre → all ≡ pre ++ numbered k ds
    → defined (numbered k ds) d ≡ Some w → IsOther m d w
other_found m exported all pre k [] d w symbols at is e = absurd (cc)
other_found m exported all pre k (x ∷ xs) d w symbols at is e =
    on (bytes_eq d x) refl
    (λ (h : defined (numbered (k + 1) xs) d ≡ Some w). let one = length-append pre ((x, outside k) ∷ []) in other_found m exported all (pre ++ (x, outside k) ∷ []) (k + 1) xs d w symbols (omega (arith, at, one)) (is ∙ sym (append_assoc pre ((x, outside k) ∷ []) (numbered (k + 1) xs))) h)
    e
  where
    there : slice_get m.symbols k ≡ Some (symbol_of exported (x, outside k))
    there =
        ap (λ (ys : List SymbolData). slice_get ys k) symbols
        ∙ ap (λ xs. slice_get (map (symbol_of exported) xs) k) is
        ∙ ap (slice_get (map (symbol_of exported) (pre ++ (x, outside k) ∷ numbered (k + 1) xs))) at
        ∙ get_behind (symbol_of exported) pre (x, outside k) (numbered (k + 1) xs)

    on : (b : Bool) → bytes_eq d x ≡ b → (defined (numbered (k + 1) xs) d ≡ Some w → IsOther m d w) → cond b (Some (outside k)) (defined (numbered (k + 1) xs) d) ≡ Some w → IsOther m d w
    on true same go e =
        let q : outside k ≡ w = cc in
        record { index = k; value_is = sym q; name_is = ap (λ (o : Option SymbolData). option_map_or (λ y. y.name) o []) there ∙ sym ((bytes_eq-Decides d x).0 same) }
    on false same go e = go e

-- ---- expressions

found : (o : Option Value) (v : Value) → ok_or o fault.Undefined ≡ Ok v → o ≡ Some v
found None v e = absurd (cc)
found (Some w) v e = let q : w ≡ v = cc in ap Some q

same : (b c : Base) → ◌≡◌ {A = Result Base ValueFault} (Ok b) (Ok c) → b ≡ c
same b c e = cc

same_value : (v w : Value) → ◌≡◌ {A = Result Value ValueFault} (Ok v) (Ok w) → v ≡ w
same_value v w e = let q : v ≡ w = cc in q

left_base : (op : BinaryOperator) (k : ℕ) (b c : Base) → base_of op (External k) b ≡ Ok c → External k ≡ c
left_base binary.Add k Absolute c e = same (External k) c e
left_base binary.Subtract k Absolute c e = same (External k) c e
left_base _ k b c e = absurd (cc)

right_base : (op : BinaryOperator) (k : ℕ) (a c : Base) → base_of op a (External k) ≡ Ok c → External k ≡ c
right_base binary.Add k Absolute c e = same (External k) c e
right_base binary.Subtract k Absolute c e = absurd (cc)
right_base binary.Subtract k (Section s) c e = absurd (cc)
right_base binary.Multiply k Absolute c e = absurd (cc)
right_base binary.Divide k Absolute c e = absurd (cc)
right_base binary.Remainder k Absolute c e = absurd (cc)
right_base binary.ShiftLeft k Absolute c e = absurd (cc)
right_base binary.ShiftRight k Absolute c e = absurd (cc)
right_base binary.Less k Absolute c e = absurd (cc)
right_base binary.LessOrEqual k Absolute c e = absurd (cc)
right_base binary.Greater k Absolute c e = absurd (cc)
right_base binary.GreaterOrEqual k Absolute c e = absurd (cc)
right_base binary.Equal k Absolute c e = absurd (cc)
right_base binary.NotEqual k Absolute c e = absurd (cc)
right_base binary.And k Absolute c e = absurd (cc)
right_base binary.ExclusiveOr k Absolute c e = absurd (cc)
right_base binary.Or k Absolute c e = absurd (cc)
right_base _ k a c e = absurd (cc)

not_absolute : (k : ℕ) (a : Base) → absolute_base (External k) ≡ Ok a → ⊥
not_absolute k a e = cc

module _ (names : List ℕ → Option Value) (here : Value) (text : List ℕ) where
  unary_base : (op : UnaryOperator) (k : ℕ) (x v : Value) → External k ≡ x.base → unary_value op x ≡ Ok v → External k ≡ v.base
  unary_base unary.Plus k x v is e = is ∙ ap (λ (y : Value). y.base) (same_value x v e)
  unary_base unary.Minus k x v is e = let a = bound (absolute_base x.base) _ v e in absurd {A = External k ≡ v.base} (not_absolute k a.0 (ap absolute_base is ∙ a.1))
  unary_base unary.Complement k x v is e = let a = bound (absolute_base x.base) _ v e in absurd {A = External k ≡ v.base} (not_absolute k a.0 (ap absolute_base is ∙ a.1))

  binary_base : (op : BinaryOperator) (k : ℕ) (x y v : Value) → (External k ≡ x.base) ⊎ (External k ≡ y.base) → binary_value op x y ≡ Ok v → External k ≡ v.base
  binary_base op k x y v is e =
      let a = bound (base_of op x.base y.base) _ v e in
      let b = bound (number_of op x.offset y.offset) _ v a.2 in
      let made : External k ≡ a.0 = elim is [
        | inl l ↦ left_base op k y.base a.0 (ap (λ c. base_of op c y.base) l ∙ a.1)
        | inr r ↦ right_base op k x.base a.0 (ap (base_of op x.base) r ∙ a.1)
      ] in
      made ∙ ap (λ (z : Value). z.base) (same_value (record { base = a.0; offset = b.0 }) v b.2)

  -- a name that an expression with a value mentions has a value
  known : (e : Tree) (v : Value) → Mentions e text → value_of names here e ≡ Ok v → (w : Value) × (names text ≡ Some w)
  known (Single (Constant n)) v m h = absurd m
  known (Single (Name n)) v m h = (v, ap names (sym m) ∙ found (names n) v h)
  known (Single Here) v m h = absurd m
  known (Group e) v m h = known e v m h
  known (Unary op e) v m h = let a = bound (value_of names here e) (unary_value op) v h in known e a.0 m a.1
  known (Binary op l r) v (inl m) h = let a = bound (value_of names here l) (λ x. value_of names here r >>= binary_value op x) v h in known l a.0 m a.1
  known (Binary op l r) v (inr m) h =
      let a = bound (value_of names here l) (λ x. value_of names here r >>= binary_value op x) v h in
      let b = bound (value_of names here r) (binary_value op a.0) v a.2 in
      known r b.0 m b.1

  -- an expression that mentions a name of another module counts from it
  counts : (k : ℕ) → names text ≡ Some (outside k) → (e : Tree) (v : Value) → Mentions e text → value_of names here e ≡ Ok v → External k ≡ v.base
  counts k is (Single (Constant n)) v m h = absurd m
  counts k is (Single (Name n)) v m h =
      let both : ◌≡◌ {A = Option Value} (Some (outside k)) (Some v) = sym is ∙ ap names (sym m) ∙ found (names n) v h in
      let q : outside k ≡ v = cc in
      ap (λ (z : Value). z.base) q
  counts k is (Single Here) v m h = absurd m
  counts k is (Group e) v m h = counts k is e v m h
  counts k is (Unary op e) v m h = let a = bound (value_of names here e) (unary_value op) v h in unary_base op k a.0 v (counts k is e a.0 m a.1) a.2
  counts k is (Binary op l r) v (inl m) h =
      let a = bound (value_of names here l) (λ x. value_of names here r >>= binary_value op x) v h in
      let b = bound (value_of names here r) (binary_value op a.0) v a.2 in
      binary_base op k a.0 b.0 v (inl (counts k is l a.0 m a.1)) b.2
  counts k is (Binary op l r) v (inr m) h =
      let a = bound (value_of names here l) (λ x. value_of names here r >>= binary_value op x) v h in
      let b = bound (value_of names here r) (binary_value op a.0) v a.2 in
      binary_base op k a.0 b.0 v (inr (counts k is r b.0 m b.1)) b.2

-- ---- operands

-- an address that counts from another module
abbrev HasOutside : ℕ → List Address → Type 0
HasOutside k addresses = (a : Address) × Contains addresses a × (a.base ≡ relocated.External k)

address_kept : (o : Option RelocationKind) (b : RelocationBase) (z : ℤ) (s q : OperandValues) → with_address o b z s ≡ Ok q → (a : Address) → Contains s.addresses a → Contains q.addresses a
address_kept None b z s q e a c = absurd (cc)
address_kept (Some kind) b z s q e a c =
    let new : Address = record { operand = length s.numbers; kind = kind; base = b; addend = z } in
    let made : OperandValues = record { numbers = s.numbers ++ 0 ∷ []; addresses = s.addresses ++ new ∷ [] } in
    let q_is : made ≡ q = cc in
    subst (λ (x : OperandValues). Contains x.addresses a) q_is (Contains-append_left s.addresses (new ∷ []) a c)

address_new : (k : ℕ) (o : Option RelocationKind) (z : ℤ) (s q : OperandValues) → with_address o (relocated.External k) z s ≡ Ok q → HasOutside k q.addresses
address_new k None z s q e = absurd (cc)
address_new k (Some kind) z s q e =
    let new : Address = record { operand = length s.numbers; kind = kind; base = relocated.External k; addend = z } in
    let made : OperandValues = record { numbers = s.numbers ++ 0 ∷ []; addresses = s.addresses ++ new ∷ [] } in
    let q_is : made ≡ q = cc in
    subst (λ (x : OperandValues). HasOutside k x.addresses) q_is (new, Contains-append_right s.addresses (new ∷ []) new (first_in new []), refl)

value_kept : (b : Base) (f : Field) (z : ℤ) (s q : OperandValues) → with_value b f z s ≡ Ok q → (a : Address) → Contains s.addresses a → Contains q.addresses a
value_kept Absolute f z s q e a c =
    let n = bound (number_in f z) (λ n. Ok (with_number n s)) q e in
    let q_is : with_number n.0 s ≡ q = let last = n.2 in cc in
    subst (λ (x : OperandValues). Contains x.addresses a) q_is c
value_kept (Section n) f z s q e a c = address_kept (relocation_of f) (relocated.Section n) z s q e a c
value_kept (Loaded n) f z s q e a c = address_kept (relocation_of f) (relocated.Loaded n) z s q e a c
value_kept (External n) f z s q e a c = address_kept (relocation_of f) (relocated.External n) z s q e a c

module _ (t : Target) (table : Table) (text : List ℕ) (k : ℕ) (is : value_named table text ≡ Some (outside k)) where
  taken_kept : (s q : OperandValues) (e : Tree) → taken t table s e ≡ Ok q → (a : Address) → Contains s.addresses a → Contains q.addresses a
  unfolding taken
  taken_kept s q e h a c =
      let v = bound (valued table e) (λ v. with_value v.base (field_of t (length s.numbers)) v.offset s) q h in
      value_kept (v.0).base (field_of t (length s.numbers)) (v.0).offset s q v.2 a c

  all_kept : (trees : List Tree) (s q : OperandValues) → fold_ok (taken t table) s trees ≡ Ok q → (a : Address) → Contains s.addresses a → Contains q.addresses a
  all_kept [] s q h a c = let q_is : s ≡ q = cc in subst (λ (x : OperandValues). Contains x.addresses a) q_is c
  all_kept (e ∷ es) s q h a c =
      let n = bound (taken t table s e) (λ next. fold_ok (taken t table) next es) q h in
      all_kept es n.0 q n.2 a (taken_kept s n.0 e n.1 a c)

  taken_outside : (s q : OperandValues) (e : Tree) → Mentions e text → taken t table s e ≡ Ok q → HasOutside k q.addresses
  unfolding taken
  taken_outside s q e m h =
      let v = bound (valued table e) (λ v. with_value v.base (field_of t (length s.numbers)) v.offset s) q h in
      let base = counts (value_named table) table.here text k is e v.0 m (untold (value_of (value_named table) table.here e) v.0 v.1) in
      address_new k (relocation_of (field_of t (length s.numbers))) (v.0).offset s q (ap (λ b. with_value b (field_of t (length s.numbers)) (v.0).offset s) base ∙ v.2)

  -- an operand that mentions the name has such an address
  operand_outside : (trees : List Tree) (s q : OperandValues) → fold_ok (taken t table) s trees ≡ Ok q → (e : Tree) → Contains trees e → Mentions e text → HasOutside k q.addresses
  operand_outside [] s q h e c m = absurd (nothing_in e c)
  operand_outside (x ∷ xs) s q h e c m =
      let n = bound (taken t table s x) (λ next. fold_ok (taken t table) next xs) q h in
      elim (in_front x e xs c) [
        | inl first ↦ (
            let o = taken_outside s n.0 x (subst (λ (y : Tree). Mentions y text) (sym first) m) n.1 in
            (o.0, all_kept xs n.0 q n.2 o.0 o.1, o.2)
            )
        | inr later ↦ operand_outside xs n.0 q n.2 e later m
      ]

-- an operand that mentions a name has a value for it
operand_known : (t : Target) (table : Table) (text : List ℕ) (trees : List Tree) (s q : OperandValues) → fold_ok (taken t table) s trees ≡ Ok q → (e : Tree) → Contains trees e → Mentions e text → (w : Value) × (value_named table text ≡ Some w)
unfolding taken
operand_known t table text [] s q h e c m = absurd (nothing_in e c)
operand_known t table text (x ∷ xs) s q h e c m =
    let n = bound (taken t table s x) (λ next. fold_ok (taken t table) next xs) q h in
    elim (in_front x e xs c) [
      | inl first ↦ (
          let v = bound (valued table x) (λ v. with_value v.base (field_of t (length s.numbers)) v.offset s) n.0 n.1 in
          known (value_named table) table.here text x v.0 (subst (λ (y : Tree). Mentions y text) (sym first) m) (untold (value_of (value_named table) table.here x) v.0 v.1)
          )
      | inr later ↦ operand_known t table text xs n.0 q n.2 e later m
    ]

-- ---- items

in_words : (t : Target) (addresses : List Address) (a : Address) → Contains addresses a → Contains (in_order t addresses) a
in_words t addresses a c = by (ends_first t)
  where
    by : (b : Bool) → Contains (cond b (reverse addresses) addresses) a
    by true = in_reversed addresses a c
    by false = c

module _ (all : List Contents) (p : Progress) (ms : List Made) (kept : IsMade p) (give : Give (all_names p) p.items ms) where
  abbrev m : Contents
  m = module_with (filled_from 0 p.sections ms) (all_names p) p.exported

  -- what a name is that the lines do not define
  named_other : (text : List ℕ) (w : Value) (section offset : ℕ) → own_name p.names text ≡ None → value_named (table_at (all_names p) section offset) text ≡ Some w → IsOther m text w
  named_other text w section offset none is = by (predefined text) none is
    where
      by : (o : Option ℕ) → named_by o (defined p.names text) ≡ None → named_by o (defined (all_names p) text) ≡ Some w → IsOther m text w
      by (Some n) none is = absurd (cc)
      by None none is =
          other_found m p.exported (all_names p) p.names (length p.names) (imports p.names p.declared) text w refl refl refl
          (sym (later_defined p.names (numbered (length p.names) (imports p.names p.declared)) text none) ∙ is)

  -- the module has a relocation that counts from the name
  record IsNeeded (text : List ℕ) : Type 0 where
    index : ℕ
    relocation : Relocation
    there : Contains m.relocations relocation
    base_is : relocation.base ≡ relocated.External index
    name_is : symbol_name m index ≡ text

  item_needs : (i : PendingItem) (c : Contains p.items i) (t : Target) (trees : List Tree) → i.content ≡ Operands t trees → (e : Tree) → Contains trees e → (text : List ℕ) → Mentions e text → own_name p.names text ≡ None → IsNeeded text
  item_needs i c t trees content e among text m_is none =
      let st = stands all [] 0 p ms kept give i c in
      let table = table_at (all_names p) i.section i.offset in
      let s = bound (operand_values t table trees) (λ s. Ok (record { section = i.section; offset = i.offset; words = words_of t s.numbers; relocations = relocations_of t i.section i.offset s.addresses })) st.made (ap (made_by (all_names p) i) (sym content) ∙ st.gives) in
      let made : Made = record { section = i.section; offset = i.offset; words = words_of t (s.0).numbers; relocations = relocations_of t i.section i.offset (s.0).addresses } in
      let made_is : made ≡ st.made = let last = s.2 in cc in
      let w = operand_known t table text trees no_operands s.0 s.1 e among m_is in
      let other = named_other text w.0 i.section i.offset none w.1 in
      let k = other.index in
      let has = operand_outside t table text k (w.1 ∙ ap Some other.value_is) trees no_operands s.0 s.1 e among m_is in
      let r = relocation_at t i.section i.offset has.0 in
      let own : Contains made.relocations r = in_map (relocation_at t i.section i.offset) (in_order t (s.0).addresses) has.0 (in_words t (s.0).addresses has.0 has.1) in
      let placed = st.there r (subst (λ (x : Made). Contains x.relocations r) made_is own) in
      let section = code_section p.sections i.section (code all [] 0 p ms kept give i c) in
      let z : i.section ≡ 0 + i.section = omega arith in
      record {
        index = k;
        relocation = r;
        there = in_module 0 i.section p.sections ms section.0 r section.1 (subst (λ (n : ℕ). Contains (relocations_at n ms) r) z placed);
        base_is = has.2;
        name_is = other.name_is;
      }

-- ---- all modules

owner_at : (files : Files) (names : List (List ℕ)) (all : List Contents) (number : ℕ) (name : List ℕ) → AreModulesOf files names all → slice_get names number ≡ Some name → (m : Contents) × (slice_get all number ≡ Some m)
owner_at files [] [] number name h f = absurd (cc)
owner_at files [] (x ∷ all) number name h f = absurd h
owner_at files (n ∷ names) [] number name h f = absurd h
owner_at files (n ∷ names) (x ∷ all) zero name h f = (x, refl)
owner_at files (n ∷ names) (x ∷ all) (suc number) name h f = owner_at files names all number name h.1 f

-- a name that an operand of a source mentions and that the source does not define is exported
pub imported : (files : Files) (names : List (List ℕ)) (modules : List Contents) → AreModulesOf files names modules → (entry : Option (List ℕ)) → names_checked modules entry ≡ Ok tt
    → (text : List ℕ) → IsImported files names text → IsExported files names modules text
imported files names modules of entry checked text h =
    let owner = owner_at files names modules h.number h.name of h.name_is in
    let from = comes_at files names modules h.number h.name owner.0 of h.name_is owner.1 in
    let p = from.progress in
    let need = item_needs modules p from.made from.kept from.give h.item (subst (λ (q : Progress). Contains q.items h.item) from.lines_are h.item_is) h.target h.trees h.content_is h.operand h.operand_is text h.mentioned
    (ap (λ (q : Progress). own_name q.names text) (sym from.lines_are) ∙ h.undefined) in
    let there = subst (λ (x : Contents). Contains x.relocations need.relocation) (sym from.module_is) need.there in
    let named : symbol_name owner.0 need.index ≡ text = ap (λ (x : Contents). symbol_name x need.index) from.module_is ∙ need.name_is in
    subst (IsExported files names modules) named (resolved files names modules of entry checked h.number owner.0 owner.1 need.relocation there need.index need.base_is)
