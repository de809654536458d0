-- Names with what they stand for, in the order in which they were first defined.
use Rattle.std.specs.Prelude.{ℕ, List, [], ◌∷◌, if◌then◌else◌}
use Rattle.std.specs.Str.{bytes_eq}

-- a list of names, each with what it stands for
abbrev pub Named : Type 0 → Type 0
Named A = List (List ℕ × A)

-- names that stand for texts (SPRU018, macro language, substitution symbols)
abbrev pub SubstitutionTexts : Type 0
SubstitutionTexts = Named (List ℕ)

-- the list once a name stands for something new: at its old place in the list, or else as the last
abbrev pub with_name : {A : Type 0} → Named A → List ℕ → A → Named A
with_name [] name x = (name, x) ∷ []
with_name (n ∷ ns) name x = if bytes_eq name n.0 then (n.0, x) ∷ ns else n ∷ with_name ns name x
