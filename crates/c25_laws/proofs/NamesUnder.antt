-- What a name stands for under the map by its module's own definitions is what its symbol counts from, and its offset.
use Rattle.std.proofs.Common.{◌≡◌, ℕ, ◌+◌, Bool, true, false, cond, List, [], ◌∷◌, ◌++◌, length, map, Option, Some, None, ℤ, pos, ◌+ℤ◌, refl, sym, ap, ◌∙◌, subst, arith}
use Rattle.std.specs.List.{AllByRecursion, slice_get}
use Rattle.std.specs.Option.{option_map_or}
use Rattle.std.specs.Str.{bytes_eq}
use Rattle.std.proofs.Math.IntN.{+ℤ_idl, +ℤ_idr}
use Rattle.std.proofs.lemmas.List.{append_assoc, length-append}
use Rattle.std.proofs.lemmas.Slice.Eq.{bytes_eq-Decides}
use Rattle.c25_meaning_assembly.specs.Emission.{names_with, numbered, symbol_of}
use Rattle.c25_meaning_objects.specs.Module.{Contents, SymbolData}
use Rattle.c25_meaning_linking.specs.Place.{Place}
use Rattle.c25_meaning_assembly.specs.Sections.{Definitions, imports}
use Rattle.c25_meaning_language.specs.Value.{defined, named_by, predefined}
use Rattle.c25_meaning_linking.specs.Words.{base_value, name_value, symbol_name}
use Rattle.c25_meaning_objects.specs.declared.object.RelocationBase.TheVariants as relocated
use Rattle.c25_meaning_language.specs.declared.value.Base.{Base}
use Rattle.c25_meaning_language.specs.declared.value.Base.TheVariants.{Absolute, Section, Loaded, External}
use Rattle.c25_meaning_language.specs.declared.value.Value.{Value}
use Rattle.c25_module_laws.proofs.Kept.{IsInside}
use Rattle.c25_module_laws.proofs.Spoken.{IsSymbol}
use Rattle.c25_module_laws.proofs.Valued.{IsGoodValue}
use Rattle.c25_laws.specs.SourceValues.{counts_from_place, is_place, is_place_by, name_by, name_under, placed}

-- where a base stands, as relocations have it
abbrev pub base_at : List Contents → List Place → ℕ → Contents → Base → ℤ
base_at modules places number m Absolute = pos 0
base_at modules places number m (Section k) = base_value modules places number m (relocated.Section k)
base_at modules places number m (Loaded k) = base_value modules places number m (relocated.Loaded k)
base_at modules places number m (External k) = base_value modules places number m (relocated.External k)

-- ---- names among others

first_defined : (xs ys : Definitions) (d : List ℕ) (v : Value) → defined xs d ≡ Some v → defined (xs ++ ys) d ≡ Some v
first_defined [] ys d v e = absurd (cc)
first_defined (x ∷ xs) ys d v e = on (bytes_eq d x.0) (first_defined xs ys d v) e
  where
    on : (b : Bool) → (defined xs d ≡ Some v → defined (xs ++ ys) d ≡ Some v) → cond b (Some x.1) (defined xs d) ≡ Some v → cond b (Some x.1) (defined (xs ++ ys) d) ≡ Some v
    on true go e = e
    on false go e = go e

later_defined : (xs ys : Definitions) (d : List ℕ) → defined xs d ≡ None → defined (xs ++ ys) d ≡ defined ys d
later_defined [] ys d e = refl
later_defined (x ∷ xs) ys d e = on (bytes_eq d x.0) (later_defined xs ys d) e
  where
    on : (b : Bool) → (defined xs d ≡ None → defined (xs ++ ys) d ≡ defined ys d) → cond b (Some x.1) (defined xs d) ≡ None → cond b (Some x.1) (defined (xs ++ ys) d) ≡ defined ys d
    on true go e = absurd (cc)
    on false go e = go e

inside : (n : ℕ) (es : Definitions) (d : List ℕ) (v : Value) → AllByRecursion (λ e. IsSymbol e.0 × IsGoodValue (IsInside n) e.1) es → defined es d ≡ Some v → IsInside n v.base
inside n [] d v h e = absurd (cc)
inside n (x ∷ xs) d v h e = on (bytes_eq d x.0) (inside n xs d v h.1) e
  where
    on : (b : Bool) → (defined xs d ≡ Some v → IsInside n v.base) → cond b (Some x.1) (defined xs d) ≡ Some v → IsInside n v.base
    on true go e = let q : x.1 ≡ v = cc in subst (λ (w : Value). IsInside n w.base) q h.0.1.0
    on false go e = go e

-- ---- names of other modules

-- a name of another module is that of the symbol that it counts from
record IsOther (m : Contents) (e : List ℕ × Value) : Type 0 where
  index : ℕ
  value_is : e.1 ≡ record { base = External index; offset = pos 0 }
  name_is : symbol_name m index ≡ e.0

get_behind : {X Y : Type 0} (f : X → Y) (pre : List X) (x : X) (rest : List X) → slice_get (map f (pre ++ x ∷ rest)) (length pre) ≡ Some (f x)
get_behind f [] x rest = refl
get_behind f (p ∷ ps) x rest = get_behind f ps x rest

others : (m : Contents) (exported : List (List ℕ)) (all pre : Definitions) (k : ℕ) (ds : List (List ℕ)) → m.symbols ≡ map (symbol_of exported) all → k ≡ length pre → all ≡ pre ++ numbered k ds
    → AllByRecursion (IsOther m) (numbered k ds)
others m exported all pre k [] symbols at is = tt
others m exported all pre k (d ∷ ds) symbols at is =
    let e : List ℕ × Value = (d, record { base = External k; offset = pos 0 }) in
    let there : slice_get m.symbols k ≡ Some (symbol_of exported e) =
    ap (λ (ys : List SymbolData). slice_get ys k) symbols
    ∙ ap (λ xs. slice_get (map (symbol_of exported) xs) k) is
    ∙ ap (slice_get (map (symbol_of exported) (pre ++ e ∷ numbered (k + 1) ds))) at
    ∙ get_behind (symbol_of exported) pre e (numbered (k + 1) ds) in
    let one = length-append pre (e ∷ []) in (
      record { index = k; value_is = refl; name_is = ap (λ (o : Option SymbolData). option_map_or (λ y. y.name) o []) there },
      others m exported all (pre ++ e ∷ []) (k + 1) ds symbols (omega (arith, at, one)) (is ∙ sym (append_assoc pre (e ∷ []) (numbered (k + 1) ds))),
    )

other_found : (m : Contents) (es : Definitions) (d : List ℕ) (w : Value) → AllByRecursion (IsOther m) es → defined es d ≡ Some w
    → (index : ℕ) × (w ≡ record { base = External index; offset = pos 0 }) × (symbol_name m index ≡ d)
other_found m [] d w h e = absurd (cc)
other_found m (x ∷ xs) d w h e = on (bytes_eq d x.0) refl (other_found m xs d w h.1) e
  where
    on : (b : Bool) → bytes_eq d x.0 ≡ b → (defined xs d ≡ Some w → (index : ℕ) × (w ≡ record { base = External index; offset = pos 0 }) × (symbol_name m index ≡ d))
        → cond b (Some x.1) (defined xs d) ≡ Some w → (index : ℕ) × (w ≡ record { base = External index; offset = pos 0 }) × (symbol_name m index ≡ d)
    on true is go e =
        let q : x.1 ≡ w = cc in
        ((h.0).index, sym q ∙ (h.0).value_is, (h.0).name_is ∙ sym ((bytes_eq-Decides d x.0).0 is))
    on false is go e = go e

-- ---- all names

module _ (modules : List Contents) (places : List Place) (number : ℕ) (m : Contents) where
  abbrev at : Value → ℤ
  at v = base_at modules places number m v.base +ℤ v.offset

  placed_is : (n : ℕ) (b : Base) (z : ℤ) → IsInside n b → placed modules places number m b z ≡ base_at modules places number m b +ℤ z
  placed_is n Absolute z h = sym (+ℤ_idl z)
  placed_is n (Section k) z h = refl
  placed_is n (Loaded k) z h = refl
  placed_is n (External k) z h = absurd h

  module _ (n : ℕ) (names : Definitions) (declared exported : List (List ℕ)) (symbols : m.symbols ≡ map (symbol_of exported) (names_with names declared))
      (good : AllByRecursion (λ e. IsSymbol e.0 × IsGoodValue (IsInside n) e.1) names) where
    both_mean : (d : List ℕ) (w : Value) → named_by (predefined d) (defined (names_with names declared) d) ≡ Some w
        → (name_under modules places number m names d ≡ at w) × (is_place names d ≡ counts_from_place w.base)
    both_mean d w e = on (predefined d) e
      where
        second : (o : Option Value) → defined names d ≡ o → defined (names_with names declared) d ≡ Some w
            → (name_by modules places number m d o ≡ at w) × (is_place_by o ≡ counts_from_place w.base)
        second (Some v) is e =
            let f = first_defined names (numbered (length names) (imports names declared)) d v is in
            let q : v ≡ w = cc in
            (placed_is n v.base v.offset (inside n names d v good is) ∙ ap at q, ap (λ (v : Value). counts_from_place v.base) q)
        second None is e =
            let f = other_found m (numbered (length names) (imports names declared)) d w (others m exported (names_with names declared) names (length names) (imports names declared) symbols refl refl)
            (sym (later_defined names (numbered (length names) (imports names declared)) d is) ∙ e) in
            (ap (name_value modules places) (sym f.2) ∙ sym (+ℤ_idr (name_value modules places (symbol_name m f.0))) ∙ ap at (sym f.1), ap (λ (v : Value). counts_from_place v.base) (sym f.1))

        on : (p : Option ℕ) → named_by p (defined (names_with names declared) d) ≡ Some w
            → (name_by modules places number m d (named_by p (defined names d)) ≡ at w) × (is_place_by (named_by p (defined names d)) ≡ counts_from_place w.base)
        on (Some k) e =
            let plain : Value = record { base = Absolute; offset = pos k } in
            let q : plain ≡ w = cc in
            (sym (+ℤ_idl (pos k)) ∙ ap at q, ap (λ (v : Value). counts_from_place v.base) q)
        on None e = second (defined names d) refl e

    -- what a name stands for
    pub name_means : (d : List ℕ) (w : Value) → named_by (predefined d) (defined (names_with names declared) d) ≡ Some w → name_under modules places number m names d ≡ base_at modules places number m w.base +ℤ w.offset
    name_means d w e = (both_mean d w e).0

    -- whether it is a place
    pub name_kind : (d : List ℕ) (w : Value) → named_by (predefined d) (defined (names_with names declared) d) ≡ Some w → is_place names d ≡ counts_from_place w.base
    name_kind d w e = (both_mean d w e).1
