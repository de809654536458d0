-- Tokens with a tree are read as that tree, and tokens with none are not read.
use Rattle.std.proofs.Common.{◌≡◌, ℕ, ◌<◌, ◌≤◌, true, false, cond, nat_le, List, [], ◌∷◌, map, Option, Some, None, Result, Ok, Err, refl, ◌∙◌, ap, arith, rules}
use Rattle.std.specs.Result.{IsErrOf, IfOk}
use Rattle.c25_meaning_language.specs.Tree.{Tree, Mark, IsTreeOf, depth, mark_of}
use Rattle.c25_meaning_language.specs.Reading.{Found, run, start, tree_in, tree_within}
use Rattle.c25_meaning_common.specs.Results.{Meets}
use Rattle.c25_meaning_language.specs.declared.expression.ExpressionFault.{ExpressionFault}
use Rattle.c25_meaning_language.specs.declared.expression.ExpressionFault.TheVariants.{BadExpression, TooDeep}
use Rattle.c25_meaning_common.specs.declared.failure.Failure.{Failure}
use Rattle.c25_meaning_common.specs.declared.failure.Failure.TheVariants.{NoMemory, Fault}
use Rattle.c25_text.specs.View.{piece_of}
use Rattle.c25_text.specs.declared.tokens.Token.{Token}
use Rattle.c25_expr.specs.View.{tree_of, marks_of}
use Rattle.c25_expr.specs.declared.tree.Expr.{Expr}
use Rattle.c25_expr.proofs.Complete.{run_complete, run_tree}
use Rattle.c25_expr.specs.Pieces.{pieces_of}

marks-pieces : (ts : List Token) → map mark_of (pieces_of ts) ≡ marks_of ts
marks-pieces [] = refl
marks-pieces (t ∷ ts) = ap (λ ms. mark_of (piece_of t) ∷ ms) (marks-pieces ts)

le_true : (n m : ℕ) → n ≤ m → nat_le n m ≡ true
le_true n m h = grind (arith, h)

le_false : (n m : ℕ) → m < n → nat_le n m ≡ false
le_false n m h = grind (arith, h)

whole : (ms : List Mark) (e : Tree) → IsTreeOf ms e → depth e ≤ 64 → tree_in ms ≡ Ok e
whole ms e h d = ap tree_within (run_complete e ms h) ∙ ap (λ b. cond b (Ok e) (Err TooDeep)) (le_true (depth e) 64 d)

deep : (ms : List Mark) (e : Tree) → IsTreeOf ms e → 64 < depth e → tree_in ms ≡ Err TooDeep
deep ms e h d = ap tree_within (run_complete e ms h) ∙ ap (λ b. cond b (Ok e) (Err TooDeep)) (le_false (depth e) 64 d)

bad_by : (ms : List Mark) (o : Option Found) → run ms start ≡ o → ((e : Tree) → IsTreeOf ms e → ⊥) → tree_within o ≡ Err BadExpression
bad_by ms None e none = refl
bad_by ms (Some f) e none = absurd (none f.tree (run_tree f ms e))

bad : (ms : List Mark) → ((e : Tree) → IsTreeOf ms e → ⊥) → tree_in ms ≡ Err BadExpression
bad ms none = bad_by ms (run ms start) refl none

-- what is answered to a list of tokens is what its pieces read as
pub reads_tree : (ts : List Token) (r : Result Expr (Failure ExpressionFault))
    → IfOk r (λ e. IsTreeOf (marks_of ts) (tree_of e) × (depth (tree_of e) ≤ 64))
    → (IsErrOf r (Fault BadExpression) → (e : Tree) → IsTreeOf (marks_of ts) e → ⊥)
    → (IsErrOf r (Fault TooDeep) → (e : Tree) × IsTreeOf (marks_of ts) e × (64 < depth e))
    → Meets tree_of (tree_in (map mark_of (pieces_of ts))) r
reads_tree ts (Ok e) ok none past = ap tree_in (marks-pieces ts) ∙ whole (marks_of ts) (tree_of e) ok.0 ok.1
reads_tree ts (Err (NoMemory n)) ok none past = tt
reads_tree ts (Err (Fault BadExpression)) ok none past = ap tree_in (marks-pieces ts) ∙ bad (marks_of ts) (none (search rules))
reads_tree ts (Err (Fault TooDeep)) ok none past = let p = past (search rules) in ap tree_in (marks-pieces ts) ∙ deep (marks_of ts) p.0 p.1 p.2
