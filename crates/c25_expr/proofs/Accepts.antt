-- Whether tokens complete an expression shows without its tree.
use Rattle.std.proofs.Common.{◌≡◌, ℕ, suc, ◌+◌, Bool, true, false, cond, nat_le, List, [], ◌∷◌, Option, Some, None, is_some, refl, sym, ap, subst, ◌∙◌, arith}
use Rattle.std.specs.Option.{is_none, option_and_then}
use Rattle.std.proofs.lemmas.Bool.{ne_eqb, cond_both, le-leb}
use Rattle.c25_meaning_language.specs.declared.expression.BinaryOperator.{BinaryOperator}
use Rattle.c25_meaning_language.specs.declared.expression.UnaryOperator.{UnaryOperator}
use Rattle.c25_meaning_language.specs.Tree.{Tree, Single, Group, Unary, Binary, Mark, Operand, Signed, Stray, level_of}
use Rattle.c25_meaning_language.specs.Reading.{PostfixItem, Push, Wrap, Apply, Combine, Frame, Open, Pending, After, ParserState, settle, reduced, loosest, step, step_by, operand_begun, waiting_by, closed, followed, finished_by, whole, run, unary_of, binary_of, is_open, is_close}
use Rattle.c25_expr.specs.Completes.{opens, completes, completes_on, behind_open, behind_close, behind_follow}
use Rattle.c25_expr.proofs.Sound.{level_loosest}

-- no operator before an operand waits
abbrev IsSettled : List Frame → Type 0
IsSettled [] = Unit {0}
IsSettled (Open ∷ fs) = Unit {0}
IsSettled (Pending op ∷ fs) = ⊥
IsSettled (After l op ∷ fs) = Unit {0}

-- none waits before a left operand
abbrev IsShaped : List Frame → Type 0
IsShaped [] = Unit {0}
IsShaped (Open ∷ fs) = IsShaped fs
IsShaped (Pending op ∷ fs) = IsShaped fs
IsShaped (After l op ∷ fs) = IsSettled fs × IsShaped fs

abbrev SettledBehind : List Frame → Option Tree → Type 0
SettledBehind fs None = Unit {0}
SettledBehind fs (Some e) = IsSettled fs

-- none waits before an operand that is whole
abbrev pub HasShape : ParserState → Type 0
HasShape s = IsShaped s.frames × SettledBehind s.frames s.current

-- a state with an operand, with so many parentheses open
record Stands (n : ℕ) (fs : List Frame) (c : Option Tree) : Type 0 where
  shaped : IsShaped fs
  settled : SettledBehind fs c
  some : is_none c ≡ false
  same : opens fs ≡ n

abbrev StandsIn : ℕ → ParserState → Type 0
StandsIn n s = Stands n s.frames s.current

settles : (fs : List Frame) (e : Tree) (is : List PostfixItem) → IsShaped fs → StandsIn (opens fs) (settle fs e is)
settles [] e is h = record { shaped = tt; settled = tt; some = refl; same = refl }
settles (Open ∷ fs) e is h = record { shaped = h; settled = tt; some = refl; same = refl }
settles (Pending op ∷ fs) e is h = settles fs (Unary op e) (Apply op ∷ is) h
settles (After l op ∷ fs) e is h = record { shaped = h; settled = tt; some = refl; same = refl }

reduces : (n : ℕ) (fs : List Frame) (e : Tree) (is : List PostfixItem) → IsShaped fs → IsSettled fs → StandsIn (opens fs) (reduced n fs e is)
reduces n [] e is h g = record { shaped = tt; settled = tt; some = refl; same = refl }
reduces n (Open ∷ fs) e is h g = record { shaped = h; settled = tt; some = refl; same = refl }
reduces n (Pending op ∷ fs) e is h g = absurd g
reduces n (After l op ∷ fs) e is h g = cond_both (nat_le (level_of op) n) (reduced n fs (Binary op l e) (Combine op ∷ is)) (record { frames = After l op ∷ fs; current = Some e; items = is })
    (StandsIn (opens fs))
    (λ _. reduces n fs (Binary op l e) (Combine op ∷ is) h.1 h.0)
    (λ _. record { shaped = h; settled = tt; some = refl; same = refl })

-- what is answered to the rest, if it goes on
abbrev Answers : List Mark → Type 0
Answers ms = (s : ParserState) → HasShape s → is_some (run ms s) ≡ completes ms (is_none s.current) (opens s.frames)

answers_settled : (ms : List Mark) → Answers ms → (fs : List Frame) (e : Tree) (is : List PostfixItem) → IsShaped fs → is_some (run ms (settle fs e is)) ≡ completes ms false (opens fs)
answers_settled ms more fs e is h =
    let s = settles fs e is h in
    more (settle fs e is) (s.shaped, s.settled) ∙ ap (λ b. completes ms b (opens (settle fs e is).frames)) s.some ∙ ap (completes ms false) s.same

answers_opened : (ms : List Mark) → Answers ms → (fs : List Frame) (is : List PostfixItem) (o : Option UnaryOperator) (b : Bool) → IsShaped fs → is_some (option_and_then (run ms) (operand_begun fs is o b)) ≡ completes_on (completes ms) (behind_open (opens fs) (is_some o) b)
answers_opened ms more fs is (Some op) b h = more (record { frames = Pending op ∷ fs; current = None; items = is }) (h, tt)
answers_opened ms more fs is None true h = more (record { frames = Open ∷ fs; current = None; items = is }) (h, tt)
answers_opened ms more fs is None false h = refl

answers_waiting : (ms : List Mark) → Answers ms → (op : BinaryOperator) (n : ℕ) (fs : List Frame) (c : Option Tree) (is : List PostfixItem) → Stands n fs c → is_some (run ms (waiting_by op fs c is)) ≡ completes ms true n
answers_waiting ms more op n fs None is s = absurd (some_none s.some)
  where
    some_none : true ≡ false → ⊥
    some_none h = cc
answers_waiting ms more op n fs (Some e) is s = more (record { frames = After e op ∷ fs; current = None; items = is }) ((s.settled, s.shaped), tt) ∙ ap (completes ms true) s.same

-- the operators of all levels take the operand
loose : (op : BinaryOperator) (l e : Tree) (fs : List Frame) (is : List PostfixItem) → reduced loosest (After l op ∷ fs) e is ≡ reduced loosest fs (Binary op l e) (Combine op ∷ is)
loose op l e fs is = ap (λ b. cond b (reduced loosest fs (Binary op l e) (Combine op ∷ is)) (record { frames = After l op ∷ fs; current = Some e; items = is })) (le-leb (level_of op) 8 (level_loosest op))

answers_closed : (ms : List Mark) → Answers ms → (fs : List Frame) (e : Tree) (is : List PostfixItem) → IsShaped fs → IsSettled fs → is_some (option_and_then (run ms) (closed (reduced loosest fs e is))) ≡ completes_on (completes ms) (behind_close (opens fs))
answers_closed ms more [] e is h g = refl
answers_closed ms more (Open ∷ fs) e is h g =
    let next : opens fs + 1 ≡ suc (opens fs) = omega arith in
    answers_settled ms more fs (Group e) (Wrap ∷ is) h ∙ sym (ap (λ n. completes_on (completes ms) (behind_close n)) next)
answers_closed ms more (Pending op ∷ fs) e is h g = absurd g
answers_closed ms more (After l op ∷ fs) e is h g =
    ap (λ (s : ParserState). is_some (option_and_then (run ms) (closed s))) (loose op l e fs is) ∙ answers_closed ms more fs (Binary op l e) (Combine op ∷ is) h.1 h.0

answers_followed : (ms : List Mark) → Answers ms → (fs : List Frame) (e : Tree) (is : List PostfixItem) (o : Option BinaryOperator) (b : Bool) → IsShaped fs → IsSettled fs → is_some (option_and_then (run ms) (followed fs e is o b)) ≡ completes_on (completes ms) (behind_follow (opens fs) (is_some o) b)
answers_followed ms more fs e is (Some op) b h g =
    let t : ParserState = reduced (level_of op) fs e is in
    answers_waiting ms more op (opens fs) t.frames t.current t.items (reduces (level_of op) fs e is h g)
answers_followed ms more fs e is None true h g = answers_closed ms more fs e is h g
answers_followed ms more fs e is None false h g = refl

answers_step : (ms : List Mark) → Answers ms → (fs : List Frame) (c : Option Tree) (is : List PostfixItem) (m : Mark) → IsShaped fs → SettledBehind fs c → is_some (option_and_then (run ms) (step_by fs c is m)) ≡ completes (m ∷ ms) (is_none c) (opens fs)
answers_step ms more fs None is (Operand l) h g = answers_settled ms more fs (Single l) (Push l ∷ is) h
answers_step ms more fs None is (Signed s) h g = answers_opened ms more fs is (unary_of s) (is_open s) h
answers_step ms more fs None is Stray h g = refl
answers_step ms more fs (Some e) is (Operand l) h g = refl
answers_step ms more fs (Some e) is (Signed s) h g = answers_followed ms more fs e is (binary_of s) (is_close s) h g
answers_step ms more fs (Some e) is Stray h g = refl

answers_whole : (fs : List Frame) (e : Tree) (is : List PostfixItem) → IsShaped fs → IsSettled fs → is_some (whole (reduced loosest fs e is)) ≡ completes [] false (opens fs)
answers_whole [] e is h g = refl
answers_whole (Open ∷ fs) e is h g = sym (ne_eqb (opens fs + 1) 0 (λ h. absurd (omega arith)))
answers_whole (Pending op ∷ fs) e is h g = absurd g
answers_whole (After l op ∷ fs) e is h g = ap (λ (s : ParserState). is_some (whole s)) (loose op l e fs is) ∙ answers_whole fs (Binary op l e) (Combine op ∷ is) h.1 h.0

answers_end : (fs : List Frame) (c : Option Tree) (is : List PostfixItem) → IsShaped fs → SettledBehind fs c → is_some (finished_by fs c is) ≡ completes [] (is_none c) (opens fs)
answers_end fs None is h g = refl
answers_end fs (Some e) is h g = answers_whole fs e is h g

-- a tree is found where the tokens complete one
pub is_some-run : (ms : List Mark) (s : ParserState) → HasShape s → is_some (run ms s) ≡ completes ms (is_none s.current) (opens s.frames)
is_some-run [] s h = answers_end s.frames s.current s.items h.0 h.1
is_some-run (m ∷ ms) s h = answers_step ms (is_some-run ms) s.frames s.current s.items m h.0 h.1

abbrev StepShaped : Option ParserState → Type 0
StepShaped None = Unit {0}
StepShaped (Some s) = HasShape s

shaped_opened : (fs : List Frame) (is : List PostfixItem) (o : Option UnaryOperator) (b : Bool) → IsShaped fs → StepShaped (operand_begun fs is o b)
shaped_opened fs is (Some op) b h = (h, tt)
shaped_opened fs is None true h = (h, tt)
shaped_opened fs is None false h = tt

shaped_waiting : (op : BinaryOperator) (n : ℕ) (fs : List Frame) (c : Option Tree) (is : List PostfixItem) → Stands n fs c → HasShape (waiting_by op fs c is)
shaped_waiting op n fs None is s = (s.shaped, tt)
shaped_waiting op n fs (Some e) is s = ((s.settled, s.shaped), tt)

shaped_settle : (fs : List Frame) (e : Tree) (is : List PostfixItem) → IsShaped fs → HasShape (settle fs e is)
shaped_settle fs e is h = let s = settles fs e is h in (s.shaped, s.settled)

shaped_closed : (fs : List Frame) (e : Tree) (is : List PostfixItem) → IsShaped fs → IsSettled fs → StepShaped (closed (reduced loosest fs e is))
shaped_closed [] e is h g = tt
shaped_closed (Open ∷ fs) e is h g = shaped_settle fs (Group e) (Wrap ∷ is) h
shaped_closed (Pending op ∷ fs) e is h g = absurd g
shaped_closed (After l op ∷ fs) e is h g = subst (λ (s : ParserState). StepShaped (closed s)) (sym (loose op l e fs is)) (shaped_closed fs (Binary op l e) (Combine op ∷ is) h.1 h.0)

shaped_followed : (fs : List Frame) (e : Tree) (is : List PostfixItem) (o : Option BinaryOperator) (b : Bool) → IsShaped fs → IsSettled fs → StepShaped (followed fs e is o b)
shaped_followed fs e is (Some op) b h g =
    let t : ParserState = reduced (level_of op) fs e is in
    shaped_waiting op (opens fs) t.frames t.current t.items (reduces (level_of op) fs e is h g)
shaped_followed fs e is None true h g = shaped_closed fs e is h g
shaped_followed fs e is None false h g = tt

shaped_step : (fs : List Frame) (c : Option Tree) (is : List PostfixItem) (m : Mark) → IsShaped fs → SettledBehind fs c → StepShaped (step_by fs c is m)
shaped_step fs None is (Operand l) h g = shaped_settle fs (Single l) (Push l ∷ is) h
shaped_step fs None is (Signed s) h g = shaped_opened fs is (unary_of s) (is_open s) h
shaped_step fs None is Stray h g = tt
shaped_step fs (Some e) is (Operand l) h g = tt
shaped_step fs (Some e) is (Signed s) h g = shaped_followed fs e is (binary_of s) (is_close s) h g
shaped_step fs (Some e) is Stray h g = tt

-- a step keeps the shape
pub HasShape-step : (s t : ParserState) (m : Mark) → HasShape s → step s m ≡ Some t → HasShape t
HasShape-step s t m h e = subst StepShaped e (shaped_step s.frames s.current s.items m h.0 h.1)
