-- What a line defines a name as is, under the map, the value of its expression, or the address where the line begins, as it runs or as
-- it is loaded.
use Rattle.std.proofs.Common.{◌≡◌, ℕ, ◌+◌, List, [], ◌∷◌, ◌++◌, Some, Ok, ℤ, pos, ◌+ℤ◌, refl, sym, ap, ◌∙◌}
use Rattle.std.proofs.Math.IntN.{+ℤ_idl}
use Rattle.c25_meaning_objects.specs.Module.{Contents}
use Rattle.c25_meaning_linking.specs.Place.{Place}
use Rattle.c25_meaning_common.specs.Results.{◌>>=◌}
use Rattle.c25_meaning_assembly.specs.Sections.{Progress, define, equate, here, label, loaded_here, name_loaded, size_at, stands, table}
use Rattle.c25_meaning_language.specs.Statement.{valued}
use Rattle.c25_meaning_language.specs.Tree.{Tree}
use Rattle.c25_meaning_language.specs.Value.{value_named, value_of}
use Rattle.c25_meaning_linking.specs.Words.{section_base, section_run}
use Rattle.c25_meaning_language.specs.declared.statement.FaultKind.TheVariants as fault
use Rattle.c25_meaning_language.specs.declared.value.Base.{Base}
use Rattle.c25_meaning_language.specs.declared.value.Base.TheVariants.{Absolute, Section, Loaded, External}
use Rattle.c25_meaning_language.specs.declared.value.Value.{Value}
use Rattle.c25_module_laws.proofs.ResultSteps.{bound, refused, unless}
use Rattle.c25_laws.proofs.ValuesMove.{untold, value_moves}
use Rattle.c25_laws.specs.SourceValues.{name_by, name_under, placed, value_under}

-- a name that a line defines comes last
defined_last : (name : List ℕ) (v : Value) (p q : Progress) → define name v p ≡ Ok q → q.names ≡ p.names ++ (name, v) ∷ []
unfolding define
defined_last name v p q e =
    let r = refused (stands p.names name) fault.Defined (record p { names = p.names ++ (name, v) ∷ [] }) q e in
    sym (ap (λ (x : Progress). x.names) r.1)

module _ (all : List Contents) (places : List Place) (number : ℕ) (m : Contents) where
  -- where a base of the module's own stands
  abbrev own_base : Base → ℤ
  own_base Absolute = pos 0
  own_base (Section k) = pos (section_run all places number m k)
  own_base (Loaded k) = pos (section_base all places number m k)
  own_base (External k) = pos 0

  placed_moves : (b : Base) (z : ℤ) → placed all places number m b z ≡ own_base b +ℤ z
  placed_moves Absolute z = sym (+ℤ_idl z)
  placed_moves (Section k) z = refl
  placed_moves (Loaded k) z = refl
  placed_moves (External k) z = sym (+ℤ_idl z)

  abbrev begins_at : Progress → ℤ
  begins_at p = pos (section_run all places number m p.current + size_at p.sections p.current)

  -- the value that an expression has when its line is passed is its value under the map
  pub passed_value : (p : Progress) (e : Tree) (v : Value) → valued (table p) e ≡ Ok v → placed all places number m v.base v.offset ≡ value_under (name_under all places number m p.names) (begins_at p) e
  passed_value p e v is =
      placed_moves v.base v.offset
      ∙ sym (value_moves own_base refl (value_named (table p)) (table p).here (name_under all places number m p.names) (begins_at p)
      (λ (text : List ℕ) (w : Value) at. ap (name_by all places number m text) at ∙ placed_moves w.base w.offset) refl e v (untold (value_of (value_named (table p)) (table p).here e) v is))

  pub equated : (name : List ℕ) (e : Tree) (p q : Progress) → equate name e p ≡ Ok q
      → (v : Value) × (q.names ≡ p.names ++ (name, v) ∷ []) × (placed all places number m v.base v.offset ≡ value_under (name_under all places number m p.names) (begins_at p) e)
  equated name e p q is =
      let v = bound (valued (table p) e) (λ v. define name v p) q (unless (stands p.names name) fault.Defined (valued (table p) e >>= λ v. define name v p) q is) in
      (v.0, defined_last name v.0 p q v.2, passed_value p e v.0 v.1)

  pub labelled : (name : List ℕ) (p q : Progress) → label (Some name) p ≡ Ok q
      → (v : Value) × (q.names ≡ p.names ++ (name, v) ∷ []) × (placed all places number m v.base v.offset ≡ begins_at p)
  labelled name p q is = (here p, defined_last name (here p) p q is, refl)

  pub loaded : (name : List ℕ) (p q : Progress) → name_loaded name p ≡ Ok q
      → (v : Value) × (q.names ≡ p.names ++ (name, v) ∷ []) × (placed all places number m v.base v.offset ≡ pos (section_base all places number m p.current + size_at p.sections p.current))
  loaded name p q is = (loaded_here p, defined_last name (loaded_here p) p q is, refl)
