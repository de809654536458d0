-- How deep a tree gets.
use Rattle.std.proofs.Common.{◌≡◌, ℕ, ◌+◌, ◌≤◌, max, Bool, true, false, nat_le, List, [], ◌∷◌, Option, Some, None, refl, ap, sym, subst, ◌∙◌, arith}
use Rattle.std.specs.Option.{option_and_then}
use Rattle.std.proofs.lemmas.Bool.{cond_both}
use Rattle.c25_meaning_language.specs.declared.expression.BinaryOperator.{BinaryOperator}
use Rattle.c25_meaning_language.specs.declared.expression.UnaryOperator.{UnaryOperator}
use Rattle.c25_meaning_language.specs.Tree.{Tree, Single, Group, Unary, Binary, Mark, Operand, Signed, Stray, depth, level_of}
use Rattle.c25_meaning_language.specs.Reading.{PostfixItem, Push, Wrap, Apply, Combine, Frame, Open, Pending, After, ParserState, Found, settle, reduced, loosest, step, step_by, operand_begun, waiting_by, closed_by, followed, finished_by, whole_by, run}
use Rattle.c25_expr.specs.Completes.{nesting}

-- how deep the frames, and the trees in them, nest
abbrev pub height : List Frame → ℕ
height [] = 0
height (Open ∷ fs) = max (nesting fs + 1) (height fs)
height (Pending op ∷ fs) = max (nesting fs + 1) (height fs)
height (After l op ∷ fs) = max (nesting fs + depth l) (height fs)

-- how deep the frames nest with the operand after them
abbrev pub reach_by : List Frame → Option Tree → ℕ
reach_by fs None = height fs
reach_by fs (Some e) = max (height fs) (nesting fs + depth e)

-- how deep what was read nests
abbrev pub reach : ParserState → ℕ
reach s = reach_by s.frames s.current

found_same : (f g : Found) → Some f ≡ Some g → f ≡ g
found_same f g h = cc

reach-settle : (fs : List Frame) (e : Tree) (is : List PostfixItem) → reach (settle fs e is) ≡ max (height fs) (nesting fs + depth e)
reach-settle [] e is = refl
reach-settle (Open ∷ fs) e is = refl
reach-settle (Pending op ∷ fs) e is = omega (arith, reach-settle fs (Unary op e) (Apply op ∷ is))
reach-settle (After l op ∷ fs) e is = refl

reach-reduced : (n : ℕ) (fs : List Frame) (e : Tree) (is : List PostfixItem) → reach (reduced n fs e is) ≡ max (height fs) (nesting fs + depth e)
reach-reduced n [] e is = refl
reach-reduced n (Open ∷ fs) e is = refl
reach-reduced n (Pending op ∷ fs) e is = refl
reach-reduced n (After l op ∷ fs) e is = cond_both (nat_le (level_of op) n) (reduced n fs (Binary op l e) (Combine op ∷ is)) (record { frames = After l op ∷ fs; current = Some e; items = is })
    (λ (s : ParserState). reach s ≡ max (max (nesting fs + depth l) (height fs)) (nesting fs + depth e))
    (λ _. omega (arith, reach-reduced n fs (Binary op l e) (Combine op ∷ is)))
    (λ _. refl)

reach-waiting : (op : BinaryOperator) (fs : List Frame) (c : Option Tree) (is : List PostfixItem) → reach (waiting_by op fs c is) ≡ reach_by fs c
reach-waiting op fs None is = refl
reach-waiting op fs (Some e) is = omega arith

nesting-height : (fs : List Frame) → nesting fs ≤ height fs
nesting-height [] = omega arith
nesting-height (Open ∷ fs) = omega arith
nesting-height (Pending op ∷ fs) = omega arith
nesting-height (After l op ∷ fs) = omega (arith, nesting-height fs)

-- a step makes nothing less deep, and opens at most one more
record Nears (n : ℕ) (s : ParserState) : Type 0 where
  least : n ≤ reach s
  most : reach s ≤ max n (nesting s.frames)

abbrev Deepens : ℕ → Option ParserState → Type 0
Deepens n None = Unit {0}
Deepens n (Some s) = Nears n s

deepens_settle : (fs : List Frame) (e : Tree) (is : List PostfixItem) (n : ℕ) → n ≡ max (height fs) (nesting fs + depth e) → Nears n (settle fs e is)
deepens_settle fs e is n h = record { least = omega (arith, h, reach-settle fs e is); most = omega (arith, h, reach-settle fs e is) }

deepens_opened : (fs : List Frame) (is : List PostfixItem) (o : Option UnaryOperator) (b : Bool) → Deepens (height fs) (operand_begun fs is o b)
deepens_opened fs is (Some op) b = record { least = omega arith; most = omega arith }
deepens_opened fs is None true = record { least = omega arith; most = omega arith }
deepens_opened fs is None false = tt

deepens_waiting : (op : BinaryOperator) (fs : List Frame) (c : Option Tree) (is : List PostfixItem) (n : ℕ) → reach_by fs c ≡ n → Nears n (waiting_by op fs c is)
deepens_waiting op fs c is n h = record { least = omega (arith, h, reach-waiting op fs c is); most = omega (arith, h, reach-waiting op fs c is) }

deepens_closed : (fs : List Frame) (c : Option Tree) (is : List PostfixItem) (n : ℕ) → reach_by fs c ≡ n → Deepens n (closed_by fs c is)
deepens_closed [] None is n h = tt
deepens_closed [] (Some e) is n h = tt
deepens_closed (Pending op ∷ fs) None is n h = tt
deepens_closed (Pending op ∷ fs) (Some e) is n h = tt
deepens_closed (After l op ∷ fs) None is n h = tt
deepens_closed (After l op ∷ fs) (Some e) is n h = tt
deepens_closed (Open ∷ fs) None is n h = tt
deepens_closed (Open ∷ fs) (Some e) is n h =
    record { least = omega (arith, h, reach-settle fs (Group e) (Wrap ∷ is)); most = omega (arith, h, reach-settle fs (Group e) (Wrap ∷ is)) }

deepens_followed : (fs : List Frame) (e : Tree) (is : List PostfixItem) (o : Option BinaryOperator) (b : Bool) → Deepens (max (height fs) (nesting fs + depth e)) (followed fs e is o b)
deepens_followed fs e is (Some op) b =
    let t : ParserState = reduced (level_of op) fs e is in
    deepens_waiting op t.frames t.current t.items (max (height fs) (nesting fs + depth e)) (reach-reduced (level_of op) fs e is)
deepens_followed fs e is None true =
    let t : ParserState = reduced loosest fs e is in
    deepens_closed t.frames t.current t.items (max (height fs) (nesting fs + depth e)) (reach-reduced loosest fs e is)
deepens_followed fs e is None false = tt

deepens : (fs : List Frame) (c : Option Tree) (is : List PostfixItem) (m : Mark) → Deepens (reach_by fs c) (step_by fs c is m)
deepens fs None is (Operand l) = deepens_settle fs (Single l) (Push l ∷ is) (height fs) (omega (arith, nesting-height fs))
deepens fs None is (Signed s) = deepens_opened fs is _ _
deepens fs None is Stray = tt
deepens fs (Some e) is (Operand l) = tt
deepens fs (Some e) is (Signed s) = deepens_followed fs e is _ _
deepens fs (Some e) is Stray = tt

depth_whole : (fs : List Frame) (c : Option Tree) (is : List PostfixItem) (f : Found) → whole_by fs c is ≡ Some f → reach_by fs c ≡ depth f.tree
depth_whole [] None is f h = cc
depth_whole [] (Some e) is f h = omega (arith, ap (λ (g : Found). depth g.tree) (found_same (record { tree = e; items = is }) f h))
depth_whole (g ∷ fs) None is f h = cc
depth_whole (g ∷ fs) (Some e) is f h = cc

-- what is found is as deep as what was read
pub depth_ended : (fs : List Frame) (c : Option Tree) (is : List PostfixItem) (f : Found) → finished_by fs c is ≡ Some f → reach_by fs c ≡ depth f.tree
depth_ended fs None is f h = cc
depth_ended fs (Some e) is f h =
    let t : ParserState = reduced loosest fs e is in
    sym (reach-reduced loosest fs e is) ∙ depth_whole t.frames t.current t.items f h

depth_behind : (ms : List Mark) (n : ℕ) (o : Option ParserState) (f : Found) → ((t : ParserState) → run ms t ≡ Some f → reach t ≤ depth f.tree) → Deepens n o → option_and_then (run ms) o ≡ Some f → n ≤ depth f.tree
depth_behind ms n None f more d h = cc
depth_behind ms n (Some t) f more d h = omega (arith, more t h, d.least)

-- a tree is as deep as what was open
pub reach-depth : (ms : List Mark) (s : ParserState) (f : Found) → run ms s ≡ Some f → reach s ≤ depth f.tree
reach-depth [] s f h = omega (arith, depth_ended s.frames s.current s.items f h)
reach-depth (m ∷ ms) s f h = depth_behind ms (reach s) (step s m) f (λ t. reach-depth ms t f) (deepens s.frames s.current s.items m) h

-- a step opens at most one more
pub reach-step : (s t : ParserState) (m : Mark) → step s m ≡ Some t → reach t ≤ max (reach s) (nesting t.frames)
reach-step s t m e = (subst (Deepens (reach s)) e (deepens s.frames s.current s.items m)).most

-- what is open now
pub nesting-reach : (s : ParserState) → nesting s.frames ≤ reach s
nesting-reach s = by_current s.frames s.current
  where
    by_current : (fs : List Frame) (c : Option Tree) → nesting fs ≤ reach_by fs c
    by_current fs None = nesting-height fs
    by_current fs (Some e) = omega (arith, nesting-height fs)
