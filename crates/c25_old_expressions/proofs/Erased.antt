-- A reading without trees gives the items of the tree.
use Rattle.std.proofs.Common.{◌≡◌, ℕ, Bool, true, false, cond, nat_le, List, [], ◌∷◌, ◌++◌, Option, Some, None, refl, ap, sym, ◌∙◌, append_assoc, append-nil}
use Rattle.std.specs.Option.{is_none, option_map, option_and_then}
use Rattle.c25_meaning_language.specs.declared.expression.BinaryOperator.{BinaryOperator}
use Rattle.c25_meaning_language.specs.declared.expression.UnaryOperator.{UnaryOperator}
use Rattle.c25_meaning_language.specs.Tree.{Tree, Single, Group, Unary, Binary, Mark, Operand, Signed, Stray, level_of}
use Rattle.c25_meaning_language.specs.Reading as reading
use Rattle.c25_meaning_language.specs.Reading.{PostfixItem, Push, Wrap, Apply, Combine, ParserState, Found, settle, unary_of, binary_of, is_open, is_close, loosest}
use Rattle.c25_old_expressions.specs.declared.order.Order.{Order}
use Rattle.c25_old_expressions.specs.declared.order.Order.TheVariants.{ByLevel}
use Rattle.c25_old_expressions.specs.declared.reader.Frame.{Frame}
use Rattle.c25_old_expressions.specs.declared.reader.Frame.TheVariants.{Open, Pending, After}
use Rattle.c25_old_expressions.specs.OldReading as old
use Rattle.c25_old_expressions.specs.OldReading.{level_before}
use Rattle.c25_old_expressions.specs.Reader.{State, settled, reduced, waiting, closed, begun, followed, step, whole, finished, run, start}

-- the items of a tree without its parentheses, the last first
abbrev pub postfix : Tree → List PostfixItem
postfix (Single l) = Push l ∷ []
postfix (Group e) = postfix e
postfix (Unary op e) = Apply op ∷ postfix e
postfix (Binary op l r) = Combine op ∷ (postfix r ++ postfix l)

-- the frames without their trees
abbrev pub shapes : List reading.Frame → List Frame
shapes [] = []
shapes (reading.Open ∷ fs) = Open ∷ shapes fs
shapes (reading.Pending op ∷ fs) = Pending op ∷ shapes fs
shapes (reading.After l op ∷ fs) = After op ∷ shapes fs

-- the items of the trees in frames
abbrev pub below : List reading.Frame → List PostfixItem
below [] = []
below (reading.Open ∷ fs) = below fs
below (reading.Pending op ∷ fs) = below fs
below (reading.After l op ∷ fs) = postfix l ++ below fs

-- the items of an operand
abbrev pub above : Option Tree → List PostfixItem
above None = []
above (Some e) = postfix e

abbrev pub erase_by : List reading.Frame → Option Tree → State
erase_by fs c = record { frames = shapes fs; expects = is_none c; items = above c ++ below fs }

-- a state without its trees
abbrev pub erase : ParserState → State
erase s = erase_by s.frames s.current

erase-settle : (fs : List reading.Frame) (e : Tree) (is : List PostfixItem) → erase (settle fs e is) ≡ settled (shapes fs) (postfix e ++ below fs)
erase-settle [] e is = refl
erase-settle (reading.Open ∷ fs) e is = refl
erase-settle (reading.Pending op ∷ fs) e is = erase-settle fs (Unary op e) (Apply op ∷ is)
erase-settle (reading.After l op ∷ fs) e is = refl

erase-cond : (b : Bool) (s t : ParserState) (x y : State) → erase s ≡ x → erase t ≡ y → erase (cond b s t) ≡ cond b x y
erase-cond true s t x y h k = h
erase-cond false s t x y h k = k

erase-reduced : (n : ℕ) (fs : List reading.Frame) (e : Tree) (is : List PostfixItem) → erase (reading.reduced n fs e is) ≡ reduced n (shapes fs) (postfix e ++ below fs)
erase-reduced n [] e is = refl
erase-reduced n (reading.Open ∷ fs) e is = refl
erase-reduced n (reading.Pending op ∷ fs) e is = refl
erase-reduced n (reading.After l op ∷ fs) e is = erase-cond (nat_le (level_of op) n) _ _ _ _
    (erase-reduced n fs (Binary op l e) (Combine op ∷ is) ∙ ap (λ (js : List PostfixItem). reduced n (shapes fs) (Combine op ∷ js)) (append_assoc (postfix e) (postfix l) (below fs)))
    refl

erase-waiting : (op : BinaryOperator) (fs : List reading.Frame) (c : Option Tree) (is : List PostfixItem) → erase (reading.waiting_by op fs c is) ≡ waiting op (erase_by fs c)
erase-waiting op fs None is = refl
erase-waiting op fs (Some e) is = refl

erase-closed : (fs : List reading.Frame) (c : Option Tree) (is : List PostfixItem) → option_map erase (reading.closed_by fs c is) ≡ closed (erase_by fs c)
erase-closed [] None is = refl
erase-closed [] (Some e) is = refl
erase-closed (reading.Pending op ∷ fs) None is = refl
erase-closed (reading.Pending op ∷ fs) (Some e) is = refl
erase-closed (reading.After l op ∷ fs) None is = refl
erase-closed (reading.After l op ∷ fs) (Some e) is = refl
erase-closed (reading.Open ∷ fs) None is = refl
erase-closed (reading.Open ∷ fs) (Some e) is = ap (λ (s : State). Some s) (erase-settle fs (Group e) (Wrap ∷ is))

erase-begun : (fs : List reading.Frame) (is : List PostfixItem) (o : Option UnaryOperator) (b : Bool) → option_map erase (reading.operand_begun fs is o b) ≡ begun (shapes fs) (below fs) o b
erase-begun fs is (Some op) b = refl
erase-begun fs is None true = refl
erase-begun fs is None false = refl

erase-followed : (order : Order) (fs : List reading.Frame) (e : Tree) (is : List PostfixItem) (o : Option BinaryOperator) (b : Bool)
    → option_map erase (old.followed order fs e is o b) ≡ followed order (shapes fs) (postfix e ++ below fs) o b
erase-followed order fs e is (Some op) b =
    let t : ParserState = reading.reduced (level_before order op) fs e is in
    ap (λ (s : State). Some s) (erase-waiting op t.frames t.current t.items ∙ ap (waiting op) (erase-reduced (level_before order op) fs e is))
erase-followed order fs e is None true =
    let t : ParserState = reading.reduced loosest fs e is in
    erase-closed t.frames t.current t.items ∙ ap closed (erase-reduced loosest fs e is)
erase-followed order fs e is None false = refl

erase-step : (order : Order) (fs : List reading.Frame) (c : Option Tree) (is : List PostfixItem) (m : Mark) → option_map erase (old.step_by order fs c is m) ≡ step order (erase_by fs c) m
erase-step order fs None is (Operand l) = ap (λ (s : State). Some s) (erase-settle fs (Single l) (Push l ∷ is))
erase-step order fs None is (Signed s) = erase-begun fs is (unary_of s) (is_open s)
erase-step order fs None is Stray = refl
erase-step order fs (Some e) is (Operand l) = refl
erase-step order fs (Some e) is (Signed s) = erase-followed order fs e is (binary_of s) (is_close s)
erase-step order fs (Some e) is Stray = refl

-- the items of what is found
abbrev pub found_items : Option Found → Option (List PostfixItem)
found_items o = option_map (λ (f : Found). postfix f.tree) o

erase-whole : (fs : List reading.Frame) (c : Option Tree) (is : List PostfixItem) → found_items (reading.whole_by fs c is) ≡ whole (erase_by fs c)
erase-whole [] None is = refl
erase-whole [] (Some e) is = ap (λ (js : List PostfixItem). Some js) (sym (append-nil (postfix e)))
erase-whole (reading.Open ∷ fs) None is = refl
erase-whole (reading.Open ∷ fs) (Some e) is = refl
erase-whole (reading.Pending op ∷ fs) None is = refl
erase-whole (reading.Pending op ∷ fs) (Some e) is = refl
erase-whole (reading.After l op ∷ fs) None is = refl
erase-whole (reading.After l op ∷ fs) (Some e) is = refl

erase-finished : (fs : List reading.Frame) (c : Option Tree) (is : List PostfixItem) → found_items (reading.finished_by fs c is) ≡ finished (erase_by fs c)
erase-finished fs None is = refl
erase-finished fs (Some e) is =
    let t : ParserState = reading.reduced loosest fs e is in
    erase-whole t.frames t.current t.items ∙ ap whole (erase-reduced loosest fs e is)

run_on : (order : Order) (ms : List Mark) (o : Option ParserState) (p : Option State) → option_map erase o ≡ p → ((s : ParserState) → found_items (old.run order ms s) ≡ run order ms (erase s))
    → found_items (option_and_then (old.run order ms) o) ≡ option_and_then (run order ms) p
run_on order ms None p h more = ap (option_and_then (run order ms)) h
run_on order ms (Some s) p h more = more s ∙ ap (option_and_then (run order ms)) h

erase-run : (order : Order) (ms : List Mark) (s : ParserState) → found_items (old.run order ms s) ≡ run order ms (erase s)
erase-run order [] s = erase-finished s.frames s.current s.items
erase-run order (m ∷ ms) s = run_on order ms (old.step order s m) _ (erase-step order s.frames s.current s.items m) (erase-run order ms)

-- the items that are read are those of the tree
pub items_found : (order : Order) (ms : List Mark) → found_items (old.run order ms reading.start) ≡ run order ms start
items_found order ms = erase-run order ms reading.start

-- by the levels the assembler itself reads
same_followed : (fs : List reading.Frame) (e : Tree) (is : List PostfixItem) (o : Option BinaryOperator) (b : Bool) → old.followed ByLevel fs e is o b ≡ reading.followed fs e is o b
same_followed fs e is (Some op) b = refl
same_followed fs e is None b = refl

same_step : (fs : List reading.Frame) (c : Option Tree) (is : List PostfixItem) (m : Mark) → old.step_by ByLevel fs c is m ≡ reading.step_by fs c is m
same_step fs None is m = refl
same_step fs (Some e) is (Operand l) = refl
same_step fs (Some e) is (Signed s) = same_followed fs e is (binary_of s) (is_close s)
same_step fs (Some e) is Stray = refl

run_same : (ms : List Mark) (o p : Option ParserState) → o ≡ p → ((s : ParserState) → old.run ByLevel ms s ≡ reading.run ms s) → option_and_then (old.run ByLevel ms) o ≡ option_and_then (reading.run ms) p
run_same ms None p h more = ap (option_and_then (reading.run ms)) h
run_same ms (Some s) p h more = more s ∙ ap (option_and_then (reading.run ms)) h

-- by the levels the assembler itself reads
pub by_level : (ms : List Mark) (s : ParserState) → old.run ByLevel ms s ≡ reading.run ms s
by_level [] s = refl
by_level (m ∷ ms) s = run_same ms (old.step ByLevel s m) (reading.step s m) (same_step s.frames s.current s.items m) (by_level ms)
