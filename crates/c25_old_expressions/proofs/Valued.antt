-- Trees with the same items have the same value.
use Rattle.std.proofs.Common.{◌≡◌, ℕ, List, [], ◌∷◌, ◌++◌, map, reverse, Option, Some, None, Result, Ok, Err, refl, ap, sym, subst, ◌∙◌, append_assoc, append-nil}
use Rattle.std.proofs.lemmas.List.{map-append, reverse-append}
use Rattle.std.specs.Option.{ok_or, option_map}
use Rattle.c25_meaning_common.specs.Results.{◌>>=◌, Fails}
use Rattle.c25_meaning_common.specs.declared.failure.Failure.{Failure}
use Rattle.c25_meaning_common.specs.declared.failure.Failure.TheVariants.{Fault}
use Rattle.c25_meaning_language.specs.declared.value.Value.{Value}
use Rattle.c25_meaning_language.specs.declared.value.ValueFault.{ValueFault}
use Rattle.c25_meaning_language.specs.declared.expression.UnaryOperator.{UnaryOperator}
use Rattle.c25_meaning_language.specs.declared.expression.BinaryOperator.{BinaryOperator}
use Rattle.c25_meaning_language.specs.Tree.{Tree, Leaf, Constant, Name, Here, Single, Group, Unary, Binary, Mark, IsTreeOf}
use Rattle.c25_meaning_language.specs.Reading as reading
use Rattle.c25_meaning_language.specs.Reading.{PostfixItem, Push, Wrap, Apply, Combine, Found}
use Rattle.c25_meaning_language.specs.Value.{leaf_value, unary_value, binary_value, value_of}
use Rattle.c25_expr.specs.Stack.{onto, applied}
use Rattle.c25_expr.proofs.Complete.{run_complete, run_tree, tree_same as one_tree}
use Rattle.c25_old_expressions.specs.declared.order.Order.{Order}
use Rattle.c25_old_expressions.specs.declared.order.Order.TheVariants.{ByLevel}
use Rattle.c25_old_expressions.specs.OldReading as old
use Rattle.c25_old_expressions.specs.OldReading.{old_tree}
use Rattle.c25_meaning_language.specs.declared.expression.ExpressionFault.{ExpressionFault}
use Rattle.c25_meaning_language.specs.declared.expression.ExpressionFault.TheVariants.{BadExpression}
use Rattle.c25_old_expressions.specs.declared.item.Item.{Item}
use Rattle.c25_old_expressions.specs.declared.symbol.Symbol.{Symbol}
use Rattle.c25_old_expressions.specs.Labels.{renamed, renamed_item}
use Rattle.c25_old_expressions.specs.Marks.{marks_of, sym_of}
use Rattle.c25_old_expressions.specs.Reader.{run, start, item_of}
use Rattle.c25_old_expressions.proofs.Steps.{some_of}
use Rattle.c25_old_expressions.specs.SameValue.{HaveOneValue, IsOfOneValue}
use Rattle.c25_old_expressions.proofs.Erased.{postfix, found_items, items_found, by_level}

abbrev Names : Type 0
Names = List ℕ → Option Value

-- where each local label stands for what its new name stands for
abbrev under : (labels : List (List ℕ)) → Names → Names
under labels names = λ name. names (renamed labels name)

-- the values that wait after items, the last first in both lists
abbrev values : Names → Value → List PostfixItem → Result (List Value) ValueFault
values names here [] = Ok []
values names here (i ∷ is) = values names here is >>= applied names here i

pushed : (names : Names) (here : Value) (l : Leaf) (r : Result (List Value) ValueFault) → (r >>= applied names here (Push l)) ≡ (r >>= onto (leaf_value names here l))
pushed names here l (Ok vs) = refl
pushed names here l (Err f) = refl

made_unary : (names : Names) (here : Value) (op : UnaryOperator) (r : Result (List Value) ValueFault) (v : Result Value ValueFault)
    → ((r >>= onto v) >>= applied names here (Apply op)) ≡ (r >>= onto (v >>= unary_value op))
made_unary names here op (Ok vs) (Ok x) = refl
made_unary names here op (Ok vs) (Err f) = refl
made_unary names here op (Err f) v = refl

made_binary : (names : Names) (here : Value) (op : BinaryOperator) (r : Result (List Value) ValueFault) (v w : Result Value ValueFault)
    → (((r >>= onto v) >>= onto w) >>= applied names here (Combine op)) ≡ (r >>= onto (v >>= λ x. w >>= binary_value op x))
made_binary names here op (Ok vs) (Ok x) (Ok y) = refl
made_binary names here op (Ok vs) (Ok x) (Err f) = refl
made_binary names here op (Ok vs) (Err f) w = refl
made_binary names here op (Err f) v w = refl

-- the items of a tree put its value after those that wait
values_postfix : (names : Names) (here : Value) (e : Tree) (is : List PostfixItem) → values names here (postfix e ++ is) ≡ (values names here is >>= onto (value_of names here e))
values_postfix names here (Single l) is = pushed names here l (values names here is)
values_postfix names here (Group e) is = values_postfix names here e is
values_postfix names here (Unary op e) is =
    ap (λ (r : Result (List Value) ValueFault). r >>= applied names here (Apply op)) (values_postfix names here e is)
    ∙ made_unary names here op (values names here is) (value_of names here e)
values_postfix names here (Binary op l r) is =
    ap (λ (js : List PostfixItem). values names here js >>= applied names here (Combine op)) (append_assoc (postfix r) (postfix l) is)
    ∙ ap (λ (q : Result (List Value) ValueFault). q >>= applied names here (Combine op))
    (values_postfix names here r (postfix l ++ is) ∙ ap (λ (q : Result (List Value) ValueFault). q >>= onto (value_of names here r)) (values_postfix names here l is))
    ∙ made_binary names here op (values names here is) (value_of names here l) (value_of names here r)

onto_same : (v w : Result Value ValueFault) → onto v [] ≡ onto w [] → v ≡ w
onto_same (Ok x) (Ok y) h = cc
onto_same (Ok x) (Err f) h = absurd (cc)
onto_same (Err f) (Ok x) h = absurd (cc)
onto_same (Err f) (Err g) h = cc

-- a name stands for what its new name stands for
leaf_renamed : (names : Names) (here : Value) (labels : List (List ℕ)) (i : PostfixItem) (vs : List Value) → applied (under labels names) here i vs ≡ applied names here (renamed_item labels i) vs
leaf_renamed names here labels (Push (Constant n)) vs = refl
leaf_renamed names here labels (Push (Name name)) vs = refl
leaf_renamed names here labels (Push Here) vs = refl
leaf_renamed names here labels Wrap vs = refl
leaf_renamed names here labels (Apply op) vs = refl
leaf_renamed names here labels (Combine op) vs = refl

then_same : (r : Result (List Value) ValueFault) (f g : List Value → Result (List Value) ValueFault) → ((vs : List Value) → f vs ≡ g vs) → (r >>= f) ≡ (r >>= g)
then_same (Ok vs) f g h = h vs
then_same (Err e) f g h = refl

values_renamed : (names : Names) (here : Value) (labels : List (List ℕ)) (is : List PostfixItem) → values (under labels names) here is ≡ values names here (map (renamed_item labels) is)
values_renamed names here labels [] = refl
values_renamed names here labels (i ∷ is) =
    then_same (values (under labels names) here is) (applied (under labels names) here i) (applied names here (renamed_item labels i)) (leaf_renamed names here labels i)
    ∙ ap (λ (r : Result (List Value) ValueFault). r >>= applied names here (renamed_item labels i)) (values_renamed names here labels is)

-- trees whose items are the same but for the names of local labels have the same value
same_renamed : (names : Names) (here : Value) (labels : List (List ℕ)) (d e : Tree) → map (renamed_item labels) (postfix d) ≡ postfix e → value_of (under labels names) here d ≡ value_of names here e
same_renamed names here labels d e h = onto_same (value_of (under labels names) here d) (value_of names here e)
    (sym (values_postfix (under labels names) here d [])
    ∙ ap (values (under labels names) here) (append-nil (postfix d))
    ∙ values_renamed names here labels (postfix d) ∙ ap (values names here) (h ∙ sym (append-nil (postfix e))) ∙ values_postfix names here e [])

map_reverse : (f : PostfixItem → PostfixItem) (xs : List PostfixItem) → map f (reverse xs) ≡ reverse (map f xs)
map_reverse f [] = refl
map_reverse f (x ∷ xs) =
    ap (map f) (reverse-append (x ∷ []) xs)
    ∙ map-append f (reverse xs) (x ∷ [])
    ∙ ap (λ (ys : List PostfixItem). ys ++ f x ∷ []) (map_reverse f xs)
    ∙ sym (reverse-append (f x ∷ []) (map f xs))

some_same : (xs ys : List PostfixItem) → Some xs ≡ Some ys → xs ≡ ys
some_same xs ys h = cc

not_some : (xs : List PostfixItem) → None ≡ Some xs → ⊥
not_some xs h = cc

found_same : (order : Order) (labels : List (List ℕ)) (ms ns : List Mark) (o p : Option Found) (xs ys : List PostfixItem) → old.run order ms reading.start ≡ o → reading.run ns reading.start ≡ p
    → found_items o ≡ Some xs → found_items p ≡ Some ys → map (renamed_item labels) xs ≡ ys → HaveOneValue order labels ms ns
found_same order labels ms ns None p xs ys ho hp ko kp same = absurd (not_some xs ko)
found_same order labels ms ns (Some f) None xs ys ho hp ko kp same = absurd (not_some ys kp)
found_same order labels ms ns (Some f) (Some g) xs ys ho hp ko kp same = record {
  before = f.tree;
  after = g.tree;
  is_before = ap (option_map (λ (f : Found). f.tree)) ho;
  is_after = run_tree g ns hp;
  same = λ names here. same_renamed names here labels f.tree g.tree (ap (map (renamed_item labels)) (some_same (postfix f.tree) xs ko) ∙ same ∙ sym (some_same (postfix g.tree) ys kp));
}

-- two readings with the same items are of one value
pub one_value : (order : Order) (labels : List (List ℕ)) (ms ns : List Mark) (xs ys : List PostfixItem) → run order ms start ≡ Some xs → run ByLevel ns start ≡ Some ys → map (renamed_item labels) xs ≡ ys → HaveOneValue order labels ms ns
one_value order labels ms ns xs ys h k same = found_same order labels ms ns (old.run order ms reading.start) (reading.run ns reading.start) xs ys refl refl
    (items_found order ms ∙ h)
    (ap found_items (sym (by_level ns reading.start)) ∙ items_found ByLevel ns ∙ k)
    same

-- two readings that are the same item by item are of one value
pub same_read : (order : Order) (labels : List (List ℕ)) (ss ts : List Symbol) (xs ys : List Item) → ok_or (run order (marks_of ss) start) BadExpression ≡ Ok (reverse (map item_of xs)) → ok_or (run ByLevel (marks_of ts) start) BadExpression ≡ Ok (reverse (map item_of ys))
    → map (renamed_item labels) (map item_of xs) ≡ map item_of ys → HaveOneValue order labels (marks_of ss) (marks_of ts)
same_read order labels ss ts xs ys h k same =
    one_value order labels (marks_of ss) (marks_of ts) (reverse (map item_of xs)) (reverse (map item_of ys)) (some_of _ _ h) (some_of _ _ k)
    (map_reverse (renamed_item labels) (map item_of xs) ∙ ap reverse same)

none_read : (o : Option (List PostfixItem)) (f : ExpressionFault) → ok_or o BadExpression ≡ Err f → o ≡ None
none_read None f h = refl
none_read (Some xs) f h = absurd (cc)

none_found : (o : Option Found) → found_items o ≡ None → option_map (λ (f : Found). f.tree) o ≡ None
none_found None h = refl
none_found (Some f) h = absurd (cc)

-- what is not read has no tree
pub not_read : (order : Order) (ss : List Symbol) (e : Failure ExpressionFault) (f : ExpressionFault) → Fails (ok_or (run order (marks_of ss) start) BadExpression) e → e ≡ Fault f → old_tree order (marks_of ss) ≡ None
not_read order ss e f h is =
    let failed : ok_or (run order (marks_of ss) start) BadExpression ≡ Err f = subst (Fails (ok_or (run order (marks_of ss) start) BadExpression)) is h in
    none_found (old.run order (marks_of ss) reading.start) (items_found order (marks_of ss) ∙ none_read (run order (marks_of ss) start) f failed)

tree_same : (x y : Tree) → Some x ≡ Some y → x ≡ y
tree_same x y h = cc

tree_found : (ms : List Mark) (o : Option Found) (e : Tree) → reading.run ms reading.start ≡ o → option_map (λ (f : Found). f.tree) o ≡ Some e → IsTreeOf ms e
tree_found ms None e is h = absurd (cc)
tree_found ms (Some f) e is h = subst (IsTreeOf ms) (tree_same f.tree e h) (run_tree f ms is)

-- by the levels the tree is that of the assembler
pub tree_by_level : (ms : List Mark) (e : Tree) → old_tree ByLevel ms ≡ Some e → IsTreeOf ms e
tree_by_level ms e h =
    tree_found ms (reading.run ms reading.start) e refl (ap (option_map (λ (f : Found). f.tree)) (sym (by_level ms reading.start)) ∙ h)

only_tree : (ms : List Mark) (d e : Tree) → IsTreeOf ms d → IsTreeOf ms e → d ≡ e
only_tree ms d e h k = one_tree ms d e h k

none_some : (e : Tree) → None ≡ Some e → ⊥
none_some e h = cc

-- what is the assembler's tree is read
pub read_by_level : (ms : List Mark) (e : Tree) → IsTreeOf ms e → old_tree ByLevel ms ≡ Some e
read_by_level ms e h = ap (option_map (λ (f : Found). f.tree)) (by_level ms reading.start ∙ run_complete e ms h)

same_by : (ss ts : List Mark) (order : Order) (xs ys : List PostfixItem) (before after : Tree) → run order ss start ≡ Some xs → run ByLevel ts start ≡ Some ys → map (renamed_item []) xs ≡ ys → old_tree order ss ≡ Some before → IsTreeOf ts after
    → (names : Names) (here : Value) → value_of names here before ≡ value_of names here after
same_by ss ts order xs ys before after h k same old_is new_is names here =
    let one : HaveOneValue order [] ss ts = one_value order [] ss ts xs ys h k same in
    ap (value_of names here) (tree_same before one.before (sym old_is ∙ one.is_before))
    ∙ one.same names here
    ∙ ap (value_of names here) (only_tree ts one.after after one.is_after new_is)

-- two readings that are the same item by item are of one value
pub same_values : (order : Order) (ss ts : List Symbol) (xs ys : List Item) → ok_or (run order (marks_of ss) start) BadExpression ≡ Ok (reverse (map item_of xs)) → ok_or (run ByLevel (marks_of ts) start) BadExpression ≡ Ok (reverse (map item_of ys))
    → map (renamed_item []) (map item_of xs) ≡ map item_of ys → IsOfOneValue order (map sym_of ss) (map sym_of ts)
same_values order ss ts xs ys h k same = λ before after.
    same_by (marks_of ss) (marks_of ts) order (reverse (map item_of xs)) (reverse (map item_of ys)) before after (some_of _ _ h) (some_of _ _ k)
    (map_reverse (renamed_item []) (map item_of xs) ∙ ap reverse same)

-- what is not read is no expression
pub no_values : (order : Order) (ss ts : List Symbol) (e : Failure ExpressionFault) (f : ExpressionFault) → Fails (ok_or (run order (marks_of ss) start) BadExpression) e → e ≡ Fault f → IsOfOneValue order (map sym_of ss) (map sym_of ts)
no_values order ss ts e f h is = λ before after old_is. absurd (none_some before (sym (not_read order ss e f h is) ∙ old_is))

pub no_new_values : (order : Order) (ss ts : List Symbol) (e : Failure ExpressionFault) (f : ExpressionFault) → Fails (ok_or (run ByLevel (marks_of ts) start) BadExpression) e → e ≡ Fault f → IsOfOneValue order (map sym_of ss) (map sym_of ts)
no_new_values order ss ts e f h is = λ before after old_is new_is.
    absurd (none_some after (sym (not_read ByLevel ts e f h is) ∙ read_by_level (marks_of ts) after new_is))
