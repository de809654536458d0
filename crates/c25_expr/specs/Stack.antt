-- How an expression in postfix order is valued: item by item, with a list of the values that wait, the last
-- first.
use Rattle.std.specs.Prelude.{ℕ, pos, List, [], ◌∷◌, Option, Result, Ok, Err}
use Rattle.c25_meaning_language.specs.Reading.{PostfixItem, Push, Wrap, Apply, Combine}
use Rattle.c25_meaning_language.specs.Tree.{Tree}
use Rattle.c25_meaning_common.specs.Results.{◌>>=◌}
use Rattle.c25_meaning_language.specs.Value.{leaf_value, unary_value, binary_value, value_of}
use Rattle.c25_meaning_language.specs.declared.value.ValueFault.{ValueFault}
use Rattle.c25_meaning_language.specs.declared.value.Base.TheVariants.{Absolute}
use Rattle.c25_meaning_language.specs.declared.value.Value.{Value}

-- the last value, which is the first of the list; zero where there is none
abbrev pub last_value : List Value → Value
last_value [] = record { base = Absolute; offset = pos 0 }
last_value (v ∷ vs) = v

-- the values before the last
abbrev pub other_values : List Value → List Value
other_values [] = []
other_values (v ∷ vs) = vs

-- the values that wait with one more, or the fault of that one
abbrev pub onto : Result Value ValueFault → List Value → Result (List Value) ValueFault
onto (Ok v) vs = Ok (v ∷ vs)
onto (Err f) vs = Err f

-- the values that wait after an item, or the fault of the item
abbrev pub applied : (List ℕ → Option Value) → Value → PostfixItem → List Value → Result (List Value) ValueFault
applied names here (Push l) vs = onto (leaf_value names here l) vs
applied names here Wrap vs = Ok vs
applied names here (Apply op) vs = onto (unary_value op (last_value vs)) (other_values vs)
applied names here (Combine op) vs = onto (binary_value op (last_value (other_values vs)) (last_value vs)) (other_values (other_values vs))

-- the values of trees, the last first in both lists; or the fault of the first tree that has none
abbrev pub values_of : (List ℕ → Option Value) → Value → List Tree → Result (List Value) ValueFault
values_of names here [] = Ok []
values_of names here (t ∷ ts) = values_of names here ts >>= onto (value_of names here t)
