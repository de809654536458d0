-- Frames and the trees between them.
use Rattle.std.proofs.Common.{◌≡◌, ℕ, ◌+◌, Bool, true, false, ◌≤◌, List, [], ◌∷◌, refl, ap}
use Rattle.std.specs.Option.{is_none}
use Rattle.std.proofs.lemmas.Bool.{le-leb}
use Rattle.c25_meaning_language.specs.declared.expression.BinaryOperator.{BinaryOperator}
use Rattle.c25_meaning_language.specs.Tree.{Tree, level_of}
use Rattle.c25_meaning_language.specs.Reading.{PostfixItem, Combine, reduced}
use Rattle.c25_expr.specs.Completes.{nesting, opens}
use Rattle.c25_expr.specs.Postfix.{built, last_tree, other_trees}
use Rattle.c25_expr.specs.View.{woven, operand_by}
use Rattle.c25_expr.specs.declared.builder.Frame.{Frame}
use Rattle.c25_expr.specs.declared.builder.Frame.TheVariants.{Open, Pending, After}

-- how many parentheses and unary operators are open
abbrev pub nested : List Frame → ℕ
nested [] = 0
nested (Open ∷ fs) = nested fs + 1
nested (Pending op ∷ fs) = nested fs + 1
nested (After op ∷ fs) = nested fs

-- how many parentheses are open
abbrev pub grouped : List Frame → ℕ
grouped [] = 0
grouped (Open ∷ fs) = grouped fs + 1
grouped (Pending op ∷ fs) = grouped fs
grouped (After op ∷ fs) = grouped fs

pub nesting_woven : (fs : List Frame) (ts : List Tree) → nesting (woven fs ts) ≡ nested fs
nesting_woven [] ts = refl
nesting_woven (Open ∷ fs) ts = ap (λ (n : ℕ). n + 1) (nesting_woven fs ts)
nesting_woven (Pending op ∷ fs) ts = ap (λ (n : ℕ). n + 1) (nesting_woven fs ts)
nesting_woven (After op ∷ fs) ts = nesting_woven fs (other_trees ts)

pub opens_woven : (fs : List Frame) (ts : List Tree) → opens (woven fs ts) ≡ grouped fs
opens_woven [] ts = refl
opens_woven (Open ∷ fs) ts = ap (λ (n : ℕ). n + 1) (opens_woven fs ts)
opens_woven (Pending op ∷ fs) ts = opens_woven fs ts
opens_woven (After op ∷ fs) ts = opens_woven fs (other_trees ts)

-- no operand stands after the frames where one has to come
pub is_none_operand : (b : Bool) (ts : List Tree) → is_none (operand_by b ts) ≡ b
is_none_operand true ts = refl
is_none_operand false ts = refl

-- an operator of the level takes the last operand
pub reduced_more : (n : ℕ) (op : BinaryOperator) (fs gs : List Frame) (is js : List PostfixItem) → level_of op ≤ n → fs ≡ After op ∷ gs → js ≡ Combine op ∷ is
    → reduced n (woven gs (other_trees (built js))) (last_tree (built js)) js ≡ reduced n (woven fs (other_trees (built is))) (last_tree (built is)) is
reduced_more n op fs gs is js h frames items = rw (frames, items, le-leb (level_of op) n h) refl
