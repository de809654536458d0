-- From what is found to what the grammar says.
use Rattle.std.proofs.Common.{◌≡◌, ℕ, ◌+◌, ◌<◌, ◌≤◌, true, false, List, length, get_or, drop, reverse, Option, Some, None, Result, Ok, Err, is_some, refl, sym, ap, subst, ◌∙◌, arith}
use Rattle.std.specs.Option.{is_none, ok_or, option_map, option_and_then}
use Rattle.std.specs.Result.{IfOk, IsErrOf}
use Rattle.std.proofs.lemmas.List.{at_drop_more, drop_all}
use Rattle.std.proofs.lemmas.Bool.{false≢true}
use Rattle.c25_meaning_language.specs.Tree.{Tree, Mark, mark_of, IsTreeOf, depth}
use Rattle.c25_meaning_language.specs.Reading.{ParserState, Found, start, step, finished, run}
use Rattle.c25_meaning_common.specs.Results.{Fails, Meets}
use Rattle.c25_meaning_language.specs.declared.expression.ExpressionFault.{ExpressionFault}
use Rattle.c25_meaning_language.specs.declared.expression.ExpressionFault.TheVariants.{BadExpression, TooDeep}
use Rattle.c25_meaning_common.specs.declared.failure.Failure.{Failure}
use Rattle.c25_meaning_common.specs.declared.failure.Failure.TheVariants.{NoMemory, Fault}
use Rattle.c25_text.specs.View.{piece_of}
use Rattle.c25_text.specs.declared.tokens.Token.{Token}
use Rattle.c25_expr.specs.Completes.{nesting, opens, completes}
use Rattle.c25_expr.specs.Postfix.{runs}
use Rattle.c25_expr.specs.View.{marks_of}
use Rattle.c25_expr.proofs.Complete.{run_complete, run_tree, run_items}
use Rattle.c25_expr.proofs.Reach.{reach, reach-depth, nesting-reach, depth_ended}
use Rattle.c25_expr.proofs.Accepts.{HasShape, HasShape-step, is_some-run}
use Rattle.c25_expr.proofs.Rooms.{runs_postfix}

-- one token more
pub run_more : (ts : List Token) (i : ℕ) (d : Token) (s : ParserState) (o : Option ParserState) → i < length ts → step s (mark_of (piece_of (get_or ts i d))) ≡ o → run (marks_of (drop i ts)) s ≡ option_and_then (run (marks_of (drop (i + 1) ts))) o
run_more ts i d s o l e =
    at_drop_more (λ us. run (marks_of us) s) ts i d l
    ∙ ap (option_and_then (run (marks_of (drop (i + 1) ts)))) e

-- what is answered is there
pub some_of : {A : Type 0} (o : Option A) (x : A) → ok_or o BadExpression ≡ Ok x → o ≡ Some x
some_of None x h = absurd (cc)
some_of (Some y) x h = cc

-- after one token more the state has its shape, and what is found from there on is what was to be found
pub one_more : (ts : List Token) (i : ℕ) (d : Token) (s t : ParserState) → i < length ts → HasShape s → run (marks_of (drop i ts)) s ≡ run (marks_of ts) start → ok_or (step s (mark_of (piece_of (get_or ts i d)))) BadExpression ≡ Ok t
    → HasShape t × (run (marks_of (drop (i + 1) ts)) t ≡ run (marks_of ts) start)
one_more ts i d s t l shape told h = let e = some_of _ t h in (HasShape-step s t _ shape e, sym (run_more ts i d s _ l e) ∙ told)

-- where nothing is found there is no tree
pub no_tree : (ms : List Mark) → run ms start ≡ None → (e : Tree) → IsTreeOf ms e → ⊥
no_tree ms h e t = absurd (apart _ (sym h ∙ run_complete e ms t))
  where
    apart : (f : Found) → None ≡ Some f → ⊥
    apart f h = cc

none_from : (o : Option Found) → is_some o ≡ false → o ≡ None
none_from None h = refl
none_from (Some f) h = absurd (false≢true (sym h))

some_from : (o : Option Found) → is_some o ≡ true → (f : Found) × (o ≡ Some f)
some_from None h = absurd (false≢true h)
some_from (Some f) h = (f, refl)

-- where the rest does not complete what was read nothing is found
pub not_completed : (ms rest : List Mark) (s : ParserState) → HasShape s → run rest s ≡ run ms start → completes rest (is_none s.current) (opens s.frames) ≡ false → run ms start ≡ None
not_completed ms rest s shape told h = sym told ∙ none_from (run rest s) (is_some-run rest s shape ∙ h)

-- where it completes it, the tree is as deep as what is open
pub completed : (ms rest : List Mark) (s : ParserState) (n : ℕ) → HasShape s → run rest s ≡ run ms start → n ≡ nesting s.frames → 64 < n → completes rest (is_none s.current) (opens s.frames) ≡ true → (e : Tree) × IsTreeOf ms e × (64 < depth e)
completed ms rest s n shape told same more h =
    let found = some_from (run rest s) (is_some-run rest s shape ∙ h) in
    let f : Found = found.0 in
    (f.tree, run_tree f ms (sym told ∙ found.1), omega (arith, reach-depth rest s f found.1, nesting-reach s))

-- after the last token
pub run_end : (ts : List Token) (i : ℕ) (s : ParserState) → length ts ≤ i → run (marks_of (drop i ts)) s ≡ finished s
run_end ts i s l = ap (λ us. run (marks_of us) s) (drop_all i ts l)

tree_same : (x y : Tree) → Some x ≡ Some y → x ≡ y
tree_same x y h = cc

-- what is found at the end is the tree of the tokens, and not too deep
pub ended : (ms : List Mark) (s : ParserState) (e : Tree) → run ms start ≡ finished s → option_map (λ (f : Found). f.tree) (finished s) ≡ Some e → reach s ≤ 64 → IsTreeOf ms e × (depth e ≤ 64)
ended ms s e told h shallow = by_found (finished s) refl h
  where
    by_found : (o : Option Found) → finished s ≡ o → option_map (λ (f : Found). f.tree) o ≡ Some e → IsTreeOf ms e × (depth e ≤ 64)
    by_found None is h = cc
    by_found (Some f) is h =
        let same : f.tree ≡ e = tree_same f.tree e h in
        (subst (IsTreeOf ms) same (run_tree f ms (told ∙ is)), omega (arith, depth_ended s.frames s.current s.items f is, ap depth same, shallow))

-- the items of what is found run
pub ended_runs : (ms : List Mark) (s : ParserState) (f : Found) → run ms start ≡ finished s → reach s ≤ 64 → finished s ≡ Some f → runs (reverse f.items) 0 ≡ true
ended_runs ms s f told shallow h =
    let tree = run_tree f ms (told ∙ h) in
    runs_postfix f.tree f.items tree.grouped (omega (arith, depth_ended s.frames s.current s.items f h, shallow)) (run_items f ms (told ∙ h))

-- the error of a result
abbrev error_of : {T : Type 0} → Result T (Failure ExpressionFault) → Option (Failure ExpressionFault)
error_of (Ok x) = None
error_of (Err f) = Some f

err_same : {T : Type 0} (f g : Failure ExpressionFault) → IsErrOf {T = T} (Err f) g → f ≡ g
err_same f g h = let e : Some f ≡ Some g = ap error_of h in cc

pub fault_same : {T : Type 0} (f g : ExpressionFault) → IsErrOf {T = T} (Err (Fault f)) (Fault g) → f ≡ g
fault_same f g h = let e : Fault f ≡ Fault g = err_same (Fault f) (Fault g) h in cc

pub as_unit : {T : Type 0} (f g : Failure ExpressionFault) → IsErrOf {T = T} (Err f) g → IsErrOf {T = Unit {0}} (Err f) g
as_unit f g h = ap (λ (x : Failure ExpressionFault). Err x) (err_same f g h)

-- a fault is that nothing is there
pub failed : {A : Type 0} (o : Option A) (f : Failure ExpressionFault) → Fails (ok_or o BadExpression) f
    → (IsErrOf {T = Unit {0}} (Err f) (Fault BadExpression) → o ≡ None) × (IsErrOf {T = Unit {0}} (Err f) (Fault TooDeep) → ⊥)
failed None (NoMemory n) h = (λ bad. refl, λ deep. let e = err_same _ _ deep in cc)
failed (Some y) (NoMemory n) h = (λ bad. let e = err_same _ _ bad in absurd (cc), λ deep. let e = err_same _ _ deep in cc)
failed None (Fault f) h = (λ bad. refl, λ deep. let e = fault_same _ _ deep in cc)
failed (Some y) (Fault f) h = absurd (cc)

-- an answer is what is there; a fault says that nothing is there
pub record Answered {A T : Type 0} (view : T → A) (o : Option A) (r : Result T (Failure ExpressionFault)) : Type 0 where
  pub ok : IfOk r (λ x. o ≡ Some (view x))
  pub bad : IsErrOf r (Fault BadExpression) → o ≡ None
  pub deep : IsErrOf r (Fault TooDeep) → ⊥

pub answered : {A T : Type 0} (view : T → A) (o : Option A) (r : Result T (Failure ExpressionFault)) → Meets view (ok_or o BadExpression) r → Answered view o r
answered view o (Ok x) h = record { ok = some_of o (view x) h; bad = λ bad. absurd (cc); deep = λ deep. cc }
answered view o (Err f) h = let p = failed o f h in record { ok = tt; bad = λ bad. p.0 (as_unit _ _ bad); deep = λ deep. p.1 (as_unit _ _ deep) }

-- the tree that is found at the end
abbrev pub tree_found : ParserState → Option Tree
tree_found s = option_map (λ (f : Found). f.tree) (finished s)

pub none_found : (o : Option Found) → option_map (λ (f : Found). f.tree) o ≡ None → o ≡ None
none_found None h = refl
none_found (Some f) h = absurd (cc)
