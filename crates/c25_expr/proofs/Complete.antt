-- Each grouped tree is read, so its tokens have no other.
use Rattle.std.proofs.Common.{◌≡◌, ℕ, ◌<◌, ◌≤◌, true, cond, nat_le, List, [], ◌∷◌, ◌++◌, Option, Some, None, refl, sym, ap, ◌∙◌, arith, append_assoc}
use Rattle.std.specs.Option.{option_and_then}
use Rattle.std.proofs.lemmas.List.{append-nil}
use Rattle.std.proofs.lemmas.Bool.{le-leb, lt-leb}
use Rattle.c25_meaning_language.specs.declared.line.Sign.TheVariants as sign
use Rattle.c25_meaning_language.specs.declared.expression.BinaryOperator.{BinaryOperator}
use Rattle.c25_meaning_language.specs.declared.expression.BinaryOperator.TheVariants as binary
use Rattle.c25_meaning_language.specs.declared.expression.UnaryOperator.{UnaryOperator}
use Rattle.c25_meaning_language.specs.declared.expression.UnaryOperator.TheVariants as unary
use Rattle.c25_meaning_language.specs.Tree.{Tree, Single, Group, Unary, Binary, Mark, Signed, level_of, level, spelling, binary_sign, unary_sign, IsGrouped, IsTreeOf}
use Rattle.c25_meaning_language.specs.Reading.{PostfixItem, Push, Wrap, Apply, Combine, Frame, Open, Pending, After, ParserState, Found, start, settle, reduced, loosest, operand_begun, waiting, closed, followed, step_by, finished_by, whole, run, unary_of, binary_of, is_open, is_close}
use Rattle.c25_expr.proofs.Sound.{IsReady, level_positive, level_loosest, run_sound}

-- a tree in postfix order, the last item first
abbrev pub postfix : Tree → List PostfixItem
postfix (Single l) = Push l ∷ []
postfix (Group e) = Wrap ∷ postfix e
postfix (Unary op e) = Apply op ∷ postfix e
postfix (Binary op l r) = Combine op ∷ (postfix r ++ postfix l)

unary_sign-of : (op : UnaryOperator) → unary_of (unary_sign op) ≡ Some op
unary_sign-of unary.Plus = refl
unary_sign-of _ = refl

binary_sign-of : (op : BinaryOperator) → binary_of (binary_sign op) ≡ Some op
binary_sign-of binary.Multiply = refl
binary_sign-of _ = refl

-- the tree may come as one operand after these frames
abbrev Fits : List Frame → Tree → Type 0
Fits [] e = Unit {0}
Fits (Open ∷ fs) e = Unit {0}
Fits (Pending op ∷ fs) e = level e ≡ 0
Fits (After l op ∷ fs) e = level e < level_of op

abbrev reading : List Frame → List PostfixItem → ParserState
reading fs is = record { frames = fs; current = None; items = is }

-- the state after a tree: the operators of its right spine wait
abbrev pub spread : List Frame → Tree → List PostfixItem → ParserState
spread fs (Single l) is = settle fs (Single l) (Push l ∷ is)
spread fs (Group e) is = settle fs (Group e) (Wrap ∷ (postfix e ++ is))
spread fs (Unary op e) is = settle fs (Unary op e) (Apply op ∷ (postfix e ++ is))
spread fs (Binary op l r) is = spread (After l op ∷ fs) r (postfix l ++ is)

-- no operator before an operand waits
abbrev IsSettled : List Frame → Type 0
IsSettled [] = Unit {0}
IsSettled (Open ∷ fs) = Unit {0}
IsSettled (Pending op ∷ fs) = ⊥
IsSettled (After l op ∷ fs) = Unit {0}

settle_none : (fs : List Frame) (e : Tree) (is : List PostfixItem) → IsSettled fs → settle fs e is ≡ record { frames = fs; current = Some e; items = is }
settle_none [] e is h = refl
settle_none (Open ∷ fs) e is h = refl
settle_none (Pending op ∷ fs) e is h = absurd h
settle_none (After l op ∷ fs) e is h = refl

-- the operators of a level take the operand of a state
abbrev reduced_by : ℕ → List Frame → Option Tree → List PostfixItem → ParserState
reduced_by n fs None is = record { frames = fs; current = None; items = is }
reduced_by n fs (Some e) is = reduced n fs e is

abbrev reduce : ℕ → ParserState → ParserState
reduce n s = reduced_by n s.frames s.current s.items

settle_reduce : (n : ℕ) (fs : List Frame) (e : Tree) (is : List PostfixItem) → IsSettled fs → reduce n (settle fs e is) ≡ reduced n fs e is
settle_reduce n fs e is h = ap (reduce n) (settle_none fs e is h)

-- once they have taken it, the tree is whole again
spread_reduce : (n : ℕ) (fs : List Frame) (e : Tree) (is : List PostfixItem) → IsSettled fs → IsGrouped e → level e ≤ n → reduce n (spread fs e is) ≡ reduced n fs e (postfix e ++ is)
spread_reduce n fs (Single l) is s g h = settle_reduce n fs (Single l) (Push l ∷ is) s
spread_reduce n fs (Group e) is s g h = settle_reduce n fs (Group e) (Wrap ∷ (postfix e ++ is)) s
spread_reduce n fs (Unary op e) is s g h = settle_reduce n fs (Unary op e) (Apply op ∷ (postfix e ++ is)) s
spread_reduce n fs (Binary op l r) is s g h =
    let loose : nat_le (level_of op) n ≡ true = le-leb (level_of op) n h in
    spread_reduce n (After l op ∷ fs) r (postfix l ++ is) tt g.3 (omega (arith, g.1, h))
    ∙ ap (λ b. cond b (reduced n fs (Binary op l r) (Combine op ∷ (postfix r ++ (postfix l ++ is)))) (record { frames = After l op ∷ fs; current = Some r; items = postfix r ++ (postfix l ++ is) })) loose
    ∙ ap (λ js. reduced n fs (Binary op l r) (Combine op ∷ js)) (sym (append_assoc (postfix r) (postfix l) is))

-- no operator that is open takes the operand
reduced_none : (n : ℕ) (fs : List Frame) (e : Tree) (is : List PostfixItem) → IsReady fs n → reduced n fs e is ≡ record { frames = fs; current = Some e; items = is }
reduced_none n [] e is h = refl
reduced_none n (Open ∷ fs) e is h = refl
reduced_none n (Pending op ∷ fs) e is h = absurd h
reduced_none n (After l op ∷ fs) e is h = rw (lt-leb (level_of op) n h) refl

fits_ready : (fs : List Frame) (op : BinaryOperator) (l r : Tree) → Fits fs (Binary op l r) → IsReady fs (level_of op)
fits_ready [] op l r f = tt
fits_ready (Open ∷ fs) op l r f = tt
fits_ready (Pending o ∷ fs) op l r f = absurd (omega (arith, f, level_positive op))
fits_ready (After x o ∷ fs) op l r f = f

ready_settled : (fs : List Frame) (n : ℕ) → IsReady fs n → IsSettled fs
ready_settled [] n h = tt
ready_settled (Open ∷ fs) n h = tt
ready_settled (Pending op ∷ fs) n h = absurd h
ready_settled (After l op ∷ fs) n h = tt

fits_left : (fs : List Frame) (op : BinaryOperator) (l r : Tree) → Fits fs (Binary op l r) → level l ≤ level_of op → Fits fs l
fits_left [] op l r f h = tt
fits_left (Open ∷ fs) op l r f h = tt
fits_left (Pending o ∷ fs) op l r f h = absurd (omega (arith, f, level_positive op))
fits_left (After x o ∷ fs) op l r f h = omega arith

none_some : (x : Tree) → (let o : Option Tree = None in o) ≡ Some x → ⊥
none_some x h = cc

-- after a tree that is whole again, an operator waits
after_operator : (op : BinaryOperator) (fs : List Frame) (c : Option Tree) (is : List PostfixItem) (gs : List Frame) (l : Tree) (js : List PostfixItem)
    → reduced_by (level_of op) fs c is ≡ record { frames = gs; current = Some l; items = js }
    → step_by fs c is (Signed (binary_sign op)) ≡ Some (record { frames = After l op ∷ gs; current = None; items = js })
after_operator op fs None is gs l js h = absurd (none_some l (ap (λ (s : ParserState). s.current) h))
after_operator op fs (Some x) is gs l js h =
    ap (λ (o : Option BinaryOperator). followed fs x is o (is_close (binary_sign op))) (binary_sign-of op) ∙ ap (λ (s : ParserState). Some (waiting op s)) h

-- a group ends
after_close : (fs : List Frame) (c : Option Tree) (is : List PostfixItem) (gs : List Frame) (e : Tree) (js : List PostfixItem)
    → reduced_by loosest fs c is ≡ record { frames = Open ∷ gs; current = Some e; items = js }
    → step_by fs c is (Signed sign.CloseParenthesis) ≡ Some (settle gs (Group e) (Wrap ∷ js))
after_close fs None is gs e js h = absurd (none_some e (ap (λ (s : ParserState). s.current) h))
after_close fs (Some x) is gs e js h = ap closed h

-- the tokens end
after_all : (fs : List Frame) (c : Option Tree) (is : List PostfixItem) (e : Tree) (js : List PostfixItem)
    → reduced_by loosest fs c is ≡ record { frames = []; current = Some e; items = js }
    → finished_by fs c is ≡ Some (record { tree = e; items = js })
after_all fs None is e js h = absurd (none_some e (ap (λ (s : ParserState). s.current) h))
after_all fs (Some x) is e js h = ap whole h

pub level_most : (e : Tree) → level e ≤ 8
level_most (Single l) = omega arith
level_most (Group e) = omega arith
level_most (Unary op e) = omega arith
level_most (Binary op l r) = level_loosest op

pending_spread : (op : UnaryOperator) (fs : List Frame) (e : Tree) (is : List PostfixItem) → level e ≡ 0 → spread (Pending op ∷ fs) e is ≡ spread fs (Unary op e) is
pending_spread op fs (Single l) is h = refl
pending_spread op fs (Group e) is h = refl
pending_spread op fs (Unary o e) is h = refl
pending_spread op fs (Binary o l r) is h = absurd (omega (arith, h, level_positive o))

-- a tree is read as one operand
pub reads : (e : Tree) (fs : List Frame) (is : List PostfixItem) (rest : List Mark) → IsGrouped e → Fits fs e → run (spelling e ++ rest) (reading fs is) ≡ run rest (spread fs e is)
reads (Single l) fs is rest g f = refl
reads (Group e) fs is rest g f =
    let s : ParserState = spread (Open ∷ fs) e is in
    ap (λ (ms : List Mark). run ms (reading (Open ∷ fs) is)) (append_assoc (spelling e) (Signed sign.CloseParenthesis ∷ []) rest)
    ∙ reads e (Open ∷ fs) is (Signed sign.CloseParenthesis ∷ rest) g tt
    ∙ ap (option_and_then (run rest)) (after_close s.frames s.current s.items fs e (postfix e ++ is) (spread_reduce loosest (Open ∷ fs) e is tt g (level_most e)))
reads (Unary op e) fs is rest g f =
    ap (λ (o : Option UnaryOperator). option_and_then (run (spelling e ++ rest)) (operand_begun fs is o (is_open (unary_sign op)))) (unary_sign-of op)
    ∙ reads e (Pending op ∷ fs) is rest g.1 g.0
    ∙ ap (run rest) (pending_spread op fs e is g.0)
reads (Binary op l r) fs is rest g f =
    let s : ParserState = spread fs l is in
    let ready = fits_ready fs op l r f in
    ap (λ (ms : List Mark). run ms (reading fs is)) (append_assoc (spelling l) (Signed (binary_sign op) ∷ spelling r) rest)
    ∙ reads l fs is (Signed (binary_sign op) ∷ (spelling r ++ rest)) g.2 (fits_left fs op l r f g.0)
    ∙ ap (option_and_then (run (spelling r ++ rest))) (after_operator op s.frames s.current s.items fs l (postfix l ++ is)
    (spread_reduce (level_of op) fs l is (ready_settled fs (level_of op) ready) g.2 g.0 ∙ reduced_none (level_of op) fs l (postfix l ++ is) ready))
    ∙ reads r (After l op ∷ fs) (postfix l ++ is) rest g.3 g.1

-- from the tokens of a tree it is found, with its items in postfix order
pub run_complete : (e : Tree) (ms : List Mark) → IsTreeOf ms e → run ms start ≡ Some (record { tree = e; items = postfix e ++ [] })
run_complete e ms h =
    let s : ParserState = spread [] e [] in
    ap (λ (xs : List Mark). run xs start) (sym h.spelled ∙ sym (append-nil (spelling e))) ∙ reads e [] [] [] h.grouped tt
    ∙ after_all s.frames s.current s.items e (postfix e ++ []) (spread_reduce loosest [] e [] tt h.grouped (level_most e))

-- what is found is the tree of the tokens
pub run_tree : (f : Found) (ms : List Mark) → run ms start ≡ Some f → IsTreeOf ms f.tree
run_tree f ms h = let r = run_sound ms start f (tt, tt) h in record { spelled = r.0; grouped = r.1 }

found_same : (f g : Found) → Some f ≡ Some g → f ≡ g
found_same f g h = cc

-- what is found has the items of its tree
pub run_items : (f : Found) (ms : List Mark) → run ms start ≡ Some f → f.items ≡ postfix f.tree ++ []
run_items f ms h = ap (λ (g : Found). g.items) (found_same f (record { tree = f.tree; items = postfix f.tree ++ [] }) (sym h ∙ run_complete f.tree ms (run_tree f ms h)))

-- tokens have one tree at most
pub tree_same : (ms : List Mark) (e f : Tree) → IsTreeOf ms e → IsTreeOf ms f → e ≡ f
tree_same ms e f h k =
    ap (λ (g : Found). g.tree) (found_same (record { tree = e; items = postfix e ++ [] }) (record { tree = f; items = postfix f ++ [] }) (sym (run_complete e ms h) ∙ run_complete f ms k))
