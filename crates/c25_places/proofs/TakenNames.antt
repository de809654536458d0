-- The part of a macro whose name is taken has that name.
use Rattle.std.proofs.Common.{◌≡◌, ℕ, ◌<◌, ◌≤◌, Bool, true, false, cond, List, [], ◌∷◌, take, Option, Some, None, Result, Ok, Err, inl, inr, refl, sym, ap, ◌∙◌, arith}
use Rattle.std.specs.Prelude.{◌⊎◌}
use Rattle.std.proofs.lemmas.Bool.{cases_lt, lt-ltb}
use Rattle.c25_meaning_language.specs.Line.{is_label, label_end, label_in, label_of, without_colon}
use Rattle.c25_meaning_language.specs.declared.line.LineFault.{LineFault}
use Rattle.c25_meaning_language.specs.declared.line.LineFault.TheVariants.{BadLabel}
use Rattle.c25_places.specs.Refused.{IsNamedAt}

named_by : (b : Bool) (field name : List ℕ) → (let r : Result (Option (List ℕ)) LineFault = cond b (Ok (Some (without_colon field))) (Err BadLabel) in r) ≡ Ok (Some name) → without_colon field ≡ name
named_by true field name h = cc
named_by false field name h = absurd (cc)

-- the text of a label's field, without its colon
named : (field name : List ℕ) → label_of field ≡ Ok (Some name) → without_colon field ≡ name
named [] name h = absurd (cc)
named (b ∷ rest) name h = named_by (is_label (b ∷ rest)) (b ∷ rest) name h

pub named_at : (text name : List ℕ) → label_in text ≡ Ok (Some name) → IsNamedAt text name
named_at text name h = by (cases_lt 0 (label_end text))
  where
    by : (0 < label_end text) ⊎ (label_end text ≤ 0) → IsNamedAt text name
    by (inl l) = (rw (lt-ltb 0 (label_end text) l) refl, named (take (label_end text) text) name h)
    by (inr l) =
        let end : label_end text ≡ 0 = omega (arith, l) in
        let none : label_of (take (label_end text) text) ≡ Ok None = ap (λ (n : ℕ). label_of (take n text)) end in
        absurd (cc)
