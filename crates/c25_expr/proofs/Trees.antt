-- The tree that the function gives is that of the grammar.
use Rattle.std.proofs.Common.{◌≡◌, ◌<◌, ◌≤◌, Bool, true, false, cond, nat_le, List, Option, Some, None, Result, Ok, Err, refl, sym, ap, subst, ◌∙◌}
use Rattle.std.specs.Prelude.{◌↔◌}
use Rattle.std.proofs.lemmas.Bool.{le-leb, lt-leb, leb-true, leb-false}
use Rattle.c25_meaning_language.specs.Tree.{Tree, Mark, IsTreeOf, depth}
use Rattle.c25_meaning_language.specs.Reading.{Found, start, run, most_nested, tree_within, tree_in}
use Rattle.c25_meaning_language.specs.declared.expression.ExpressionFault.{ExpressionFault}
use Rattle.c25_meaning_language.specs.declared.expression.ExpressionFault.TheVariants.{BadExpression, TooDeep}
use Rattle.c25_expr.proofs.Complete.{run_complete, run_tree}
use Rattle.c25_expr.proofs.Found.{no_tree}

abbrev tree_or : Tree → Result Tree ExpressionFault → Tree
tree_or d (Ok e) = e
tree_or d (Err f) = d

ok_same : (x y : Tree) → (let r : Result Tree ExpressionFault = Ok x in r) ≡ Ok y → x ≡ y
ok_same x y h = ap (tree_or x) h

apart : (x : Tree) (f : ExpressionFault) → (let r : Result Tree ExpressionFault = Ok x in r) ≡ Err f → ⊥
apart x f h = cc

faults_apart : (let r : Result Tree ExpressionFault = Err BadExpression in r) ≡ Err TooDeep → ⊥
faults_apart h = cc

found_in : (ms : List Mark) (e : Tree) → IsTreeOf ms e → tree_in ms ≡ cond (nat_le (depth e) most_nested) (Ok e) (Err TooDeep)
found_in ms e h = ap tree_within (run_complete e ms h)

-- ---- a tree that is not too deep

read_by : (ms : List Mark) (e : Tree) (f : Found) (b : Bool) → run ms start ≡ Some f → nat_le (depth f.tree) most_nested ≡ b → cond b (Ok f.tree) (Err TooDeep) ≡ Ok e → IsTreeOf ms e × (depth e ≤ 64)
read_by ms e f true found h k =
    let same : f.tree ≡ e = ok_same f.tree e k in
    (subst (IsTreeOf ms) same (run_tree f ms found), subst (λ (t : Tree). depth t ≤ 64) same (leb-true (depth f.tree) 64 h))
read_by ms e f false found h k = absurd (apart e TooDeep (sym k))

read_from : (ms : List Mark) (e : Tree) (o : Option Found) → run ms start ≡ o → tree_within o ≡ Ok e → IsTreeOf ms e × (depth e ≤ 64)
read_from ms e None found h = absurd (apart e BadExpression (sym h))
read_from ms e (Some f) found h = read_by ms e f (nat_le (depth f.tree) most_nested) found refl h

pub tree_read : (ms : List Mark) (e : Tree) → (IsTreeOf ms e × (depth e ≤ 64)) ↔ (tree_in ms ≡ Ok e)
tree_read ms e = (
  λ h. found_in ms e h.0 ∙ ap (λ b. cond b (Ok e) (Err TooDeep)) (le-leb (depth e) 64 h.1),
  read_from ms e (run ms start) refl,
)

-- ---- no tree

none_by : (ms : List Mark) (f : Found) (b : Bool) → nat_le (depth f.tree) most_nested ≡ b → cond b (Ok f.tree) (Err TooDeep) ≡ Err BadExpression → ⊥
none_by ms f true h k = apart f.tree BadExpression k
none_by ms f false h k = faults_apart (sym k)

none_from : (ms : List Mark) (o : Option Found) → run ms start ≡ o → tree_within o ≡ Err BadExpression → (e : Tree) → IsTreeOf ms e → ⊥
none_from ms None found h e t = no_tree ms found e t
none_from ms (Some f) found h e t = none_by ms f (nat_le (depth f.tree) most_nested) refl h

none_to : (ms : List Mark) (o : Option Found) → run ms start ≡ o → ((e : Tree) → IsTreeOf ms e → ⊥) → tree_within o ≡ Err BadExpression
none_to ms None found h = refl
none_to ms (Some f) found h = absurd (h f.tree (run_tree f ms found))

pub tree_none : (ms : List Mark) → ((e : Tree) → ¬ IsTreeOf ms e) ↔ (tree_in ms ≡ Err BadExpression)
tree_none ms = (none_to ms (run ms start) refl, none_from ms (run ms start) refl)

-- ---- a tree that is too deep

deep_by : (ms : List Mark) (f : Found) (b : Bool) → run ms start ≡ Some f → nat_le (depth f.tree) most_nested ≡ b → cond b (Ok f.tree) (Err TooDeep) ≡ Err TooDeep → (e : Tree) × IsTreeOf ms e × (64 < depth e)
deep_by ms f true found h k = absurd (apart f.tree TooDeep k)
deep_by ms f false found h k = (f.tree, run_tree f ms found, leb-false (depth f.tree) 64 h)

deep_from : (ms : List Mark) (o : Option Found) → run ms start ≡ o → tree_within o ≡ Err TooDeep → (e : Tree) × IsTreeOf ms e × (64 < depth e)
deep_from ms None found h = absurd (faults_apart h)
deep_from ms (Some f) found h = deep_by ms f (nat_le (depth f.tree) most_nested) found refl h

pub tree_deep : (ms : List Mark) → ((e : Tree) × IsTreeOf ms e × (64 < depth e)) ↔ (tree_in ms ≡ Err TooDeep)
tree_deep ms = (
  λ h. found_in ms h.0 h.1 ∙ ap (λ b. cond b (Ok h.0) (Err TooDeep)) (lt-leb (depth h.0) 64 h.2),
  deep_from ms (run ms start) refl,
)
