-- A fault of what a line does is that of one of its operands, or of their number.
use Rattle.std.proofs.Common.{◌≡◌, ℕ, ◌+◌, Bool, true, false, cond, List, [], ◌∷◌, map, ◌++◌, Result, Ok, Err, refl, sym, ap, subst, ◌∙◌, inl, inr}
use Rattle.std.specs.Prelude.{IsSome, IfErr, is_ok, ◌⊎◌}
use Rattle.std.proofs.lemmas.Bool.{false≢true}
use Rattle.c25_meaning_common.specs.Results.{◌>>=◌, fold_ok, told}
use Rattle.c25_meaning_assembly.specs.AssemblyLine.{AssemblyAct, act_of, all_expressions, as_section, entering, expressions_in, joined, joined_behind, later_in, loading, naming, reserving, reserving_in, said_in, section_in, some, some_names, stands_behind, strings_in, with_expression, without}
use Rattle.c25_meaning_assembly.specs.StatementLine.{Operation as Made, Trees, all_trees, no_trees, operation_of, trees_in, with_operand, with_tree}
use Rattle.c25_meaning_assembly.specs.declared.assembly.Directive.{Directive}
use Rattle.c25_meaning_assembly.specs.declared.assembly.Directive.TheVariants as directive
use Rattle.c25_meaning_instructions.specs.declared.mnemonic.Spelling.{Spelling}
use Rattle.c25_meaning_language.specs.DirectiveOperands.{expression_in, is_name, name_in, names_in, string_in}
use Rattle.c25_meaning_language.specs.Arguments.{string_text}
use Rattle.c25_meaning_language.specs.Forms.{form_of, is_expression}
use Rattle.c25_meaning_language.specs.Line.{Piece}
use Rattle.c25_meaning_language.specs.Operands.{is_quoted, is_string, written_of}
use Rattle.c25_meaning_language.specs.Reading.{tree_in}
use Rattle.c25_meaning_language.specs.Statement.{expression_fault}
use Rattle.c25_meaning_language.specs.Tree.{Tree, mark_of}
use Rattle.c25_meaning_language.specs.declared.expression.ExpressionFault.{ExpressionFault}
use Rattle.c25_meaning_language.specs.declared.expression.ExpressionFault.TheVariants.{BadExpression, TooDeep}
use Rattle.c25_meaning_language.specs.declared.statement.FaultKind.{FaultKind}
use Rattle.c25_meaning_language.specs.declared.statement.FaultKind.TheVariants as fault
use Rattle.c25_meaning_language.specs.declared.statement.Form.{Form}
use Rattle.c25_meaning_objects.specs.Module.{is_section_name}
use Rattle.c25_places.specs.Refused.{first_refused}
use Rattle.c25_places.specs.Wanted.{has_fault, spelling_wants, suits, takes_expression, wants}
use Rattle.c25_places.specs.declared.wanted.Operation.{Operation}
use Rattle.c25_places.specs.declared.wanted.Operation.TheVariants.{Does, Runs}
use Rattle.c25_places.specs.declared.wanted.Wanted.{Wanted}
use Rattle.c25_places.specs.declared.wanted.Wanted.TheVariants as wanted
use Rattle.c25_places.proofs.Shapes.{Agrees, AllTake, agrees, all_fit, all_take, form_some, here_some, not_fit, skip_some}

-- the fault is that of an operand from index `k` on, or of the number of operands
abbrev pub Found : Operation → ℕ → List (List Piece) → FaultKind → Type 0
Found op k os fault.OperandCount = Unit {0}
Found op k os fault.OperandForm = IsSome (first_refused fault.OperandForm op k os)
Found op k os fault.BadExpression = IsSome (first_refused fault.BadExpression op k os)
Found op k os fault.TooDeep = IsSome (first_refused fault.TooDeep op k os)
Found op k os _ = ⊥

skip_found : (op : Operation) (k : ℕ) (o : List Piece) (os : List (List Piece)) (e : FaultKind) → Found op (k + 1) os e → Found op k (o ∷ os) e
skip_found op k o os fault.OperandCount h = tt
skip_found op k o os fault.OperandForm h = skip_some fault.OperandForm op k o os h
skip_found op k o os fault.BadExpression h = skip_some fault.BadExpression op k o os h
skip_found op k o os fault.TooDeep h = skip_some fault.TooDeep op k o os h
skip_found op k o os _ h = absurd h

-- ---- results

pub if_err_map : {A : Type 0} (P Q : FaultKind → Type 0) (r : Result A FaultKind) → ((e : FaultKind) → P e → Q e) → IfErr r P → IfErr r Q
if_err_map P Q (Ok x) g h = tt
if_err_map P Q (Err e) g h = g e h

pub bound : {A B : Type 0} (P : FaultKind → Type 0) (r : Result A FaultKind) (f : A → Result B FaultKind) → IfErr r P → ((x : A) → r ≡ Ok x → IfErr (f x) P) → IfErr (r >>= f) P
bound P (Ok x) f h g = g x refl
bound P (Err e) f h g = h

skipped : {A : Type 0} (op : Operation) (k : ℕ) (o : List Piece) (os : List (List Piece)) (r : Result A FaultKind) → IfErr r (Found op (k + 1) os) → IfErr r (Found op k (o ∷ os))
skipped op k o os r h = if_err_map (Found op (k + 1) os) (Found op k (o ∷ os)) r (skip_found op k o os) h

-- an operand that is refused for its form alone
refused_here : {A : Type 0} (op : Operation) (k : ℕ) (o : List Piece) (os : List (List Piece)) (r : Result A FaultKind) → suits (wants op k) o ≡ is_ok r → IfErr r (λ e. e ≡ fault.OperandForm) → IfErr r (Found op k (o ∷ os))
refused_here op k o os (Ok x) s h = tt
refused_here op k o os (Err e) s h = subst (Found op k (o ∷ os)) (sym h) (form_some op k o os s)

-- ---- operands that are names, strings, sections

name_form : (o : List Piece) → IfErr (name_in o) (λ e. e ≡ fault.OperandForm)
name_form [] = refl
name_form (p ∷ []) = by (is_name p.kind)
  where
    by : (b : Bool) → IfErr (let r : Result (List ℕ) FaultKind = cond b (Ok p.text) (Err fault.OperandForm) in r) (λ e. e ≡ fault.OperandForm)
    by true = tt
    by false = refl
name_form (p ∷ q ∷ ps) = refl

string_form : (o : List Piece) → IfErr (string_in o) (λ e. e ≡ fault.OperandForm)
string_form [] = refl
string_form (p ∷ []) = by (is_quoted p.kind)
  where
    by : (b : Bool) → IfErr (let r : Result (List ℕ) FaultKind = cond b (Ok (string_text p.text)) (Err fault.OperandForm) in r) (λ e. e ≡ fault.OperandForm)
    by true = tt
    by false = refl
string_form (p ∷ q ∷ ps) = refl

-- a string is what its test says
string_ok : (o : List Piece) → is_string o ≡ is_ok (string_in o)
string_ok [] = refl
string_ok (p ∷ []) = by (is_quoted p.kind)
  where
    by : (b : Bool) → b ≡ is_ok (let r : Result (List ℕ) FaultKind = cond b (Ok (string_text p.text)) (Err fault.OperandForm) in r)
    by true = refl
    by false = refl
string_ok (p ∷ q ∷ ps) = refl

behind_form : (p : Piece) (qs : List Piece) → IfErr (joined_behind p qs) (λ e. e ≡ fault.OperandForm)
behind_form p [] = tt
behind_form p (q ∷ qs) = by (stands_behind p q) (behind_form q qs)
  where
    by : (b : Bool) → IfErr (joined_behind q qs) (λ e. e ≡ fault.OperandForm) → IfErr (let r : Result (List ℕ) FaultKind = cond b (joined_behind q qs >>= λ rest. Ok (q.text ++ rest)) (Err fault.OperandForm) in r) (λ e. e ≡ fault.OperandForm)
    by true h = bound (λ e. e ≡ fault.OperandForm) (joined_behind q qs) _ h (λ _ _. tt)
    by false h = refl

joined_form : (o : List Piece) → IfErr (joined o) (λ e. e ≡ fault.OperandForm)
joined_form [] = refl
joined_form (p ∷ ps) = bound (λ e. e ≡ fault.OperandForm) (joined_behind p ps) _ (behind_form p ps) (λ _ _. tt)

said_form : (o : List Piece) → IfErr (said_in o) (λ e. e ≡ fault.OperandForm)
said_form o = by (is_string o)
  where
    by : (b : Bool) → IfErr (cond b (string_in o) (joined o)) (λ e. e ≡ fault.OperandForm)
    by true = string_form o
    by false = joined_form o

as_form : (name : List ℕ) → IfErr (as_section name) (λ e. e ≡ fault.OperandForm)
as_form name = by (is_section_name name)
  where
    by : (b : Bool) → IfErr (let r : Result (List ℕ) FaultKind = cond b (Ok name) (Err fault.OperandForm) in r) (λ e. e ≡ fault.OperandForm)
    by true = tt
    by false = refl

section_form : (o : List Piece) → IfErr (section_in o) (λ e. e ≡ fault.OperandForm)
section_form o = bound (λ e. e ≡ fault.OperandForm) (said_in o) _ (said_form o) (λ name _. as_form name)

names_found : (op : Operation) (k : ℕ) (os : List (List Piece)) → ((j : ℕ) → wants op j ≡ wanted.Name) → IfErr (names_in os) (Found op k os)
names_found op k [] w = tt
names_found op k (o ∷ os) w =
    bound (Found op k (o ∷ os)) (name_in o) _ (refused_here op k o os (name_in o) (ap (λ (x : Wanted). suits x o) (w k)) (name_form o))
    (λ _ _. bound (Found op k (o ∷ os)) (names_in os) _ (skipped op k o os (names_in os) (names_found op (k + 1) os w)) (λ _ _. tt))

strings_found : (op : Operation) (k : ℕ) (os : List (List Piece)) → ((j : ℕ) → wants op j ≡ wanted.Text) → IfErr (strings_in os) (Found op k os)
strings_found op k [] w = tt
strings_found op k (o ∷ os) w =
    bound (Found op k (o ∷ os)) (string_in o) _ (refused_here op k o os (string_in o) (ap (λ (x : Wanted). suits x o) (w k) ∙ string_ok o) (string_form o))
    (λ _ _. bound (Found op k (o ∷ os)) (strings_in os) _ (skipped op k o os (strings_in os) (strings_found op (k + 1) os w)) (λ _ _. tt))

-- ---- expressions

bad_here : (op : Operation) (k : ℕ) (o : List Piece) (os : List (List Piece)) → is_expression (written_of o) ≡ true → takes_expression (wants op k) ≡ true → tree_in (map mark_of o) ≡ Err BadExpression → IsSome (first_refused fault.BadExpression op k (o ∷ os))
unfolding has_fault
bad_here op k o os e t r = here_some fault.BadExpression op k o os (rw (t, e, r) refl)

deep_here : (op : Operation) (k : ℕ) (o : List Piece) (os : List (List Piece)) → is_expression (written_of o) ≡ true → takes_expression (wants op k) ≡ true → tree_in (map mark_of o) ≡ Err TooDeep → IsSome (first_refused fault.TooDeep op k (o ∷ os))
unfolding has_fault
deep_here op k o os e t r = here_some fault.TooDeep op k o os (rw (t, e, r) refl)

abbrev TreesFound : Operation → ℕ → List (List Piece) → Bool → Result Trees FaultKind → Type 0
TreesFound op k os deep (Ok s) = s.deep ≡ true → (deep ≡ true) ⊎ IsSome (first_refused fault.TooDeep op k os)
TreesFound op k os deep (Err fault.BadExpression) = IsSome (first_refused fault.BadExpression op k os)
TreesFound op k os deep (Err _) = ⊥

skip_trees : (op : Operation) (k : ℕ) (o : List Piece) (os : List (List Piece)) (deep : Bool) (r : Result Trees FaultKind) → TreesFound op (k + 1) os deep r → TreesFound op k (o ∷ os) deep r
skip_trees op k o os deep (Ok s) h = λ d. elim (h d) [ inl a ↦ inl a | inr b ↦ inr (skip_some fault.TooDeep op k o os b) ]
skip_trees op k o os deep (Err fault.BadExpression) h = skip_some fault.BadExpression op k o os h
skip_trees op k o os deep (Err _) h = absurd h

deep_trees : (op : Operation) (k : ℕ) (o : List Piece) (os : List (List Piece)) (deep : Bool) (r : Result Trees FaultKind) → IsSome (first_refused fault.TooDeep op k (o ∷ os)) → TreesFound op (k + 1) os true r → TreesFound op k (o ∷ os) deep r
deep_trees op k o os deep (Ok s) here h = λ d. inr here
deep_trees op k o os deep (Err fault.BadExpression) here h = skip_some fault.BadExpression op k o os h
deep_trees op k o os deep (Err _) here h = absurd h

trees_step : (op : Operation) (k : ℕ) (o : List Piece) (os : List (List Piece)) (s : Trees) (b : Bool) (r : Result Tree ExpressionFault)
    → is_expression (written_of o) ≡ b → tree_in (map mark_of o) ≡ r → (is_expression (written_of o) ≡ true → takes_expression (wants op k) ≡ true)
    → ((next : Trees) → TreesFound op (k + 1) os next.deep (fold_ok with_operand next os))
    → TreesFound op k (o ∷ os) s.deep (cond b (with_tree s r) (Ok s) >>= λ next. fold_ok with_operand next os)
trees_step op k o os s false r e t takes more = skip_trees op k o os s.deep _ (more s)
trees_step op k o os s true (Ok x) e t takes more = skip_trees op k o os s.deep _ (more (record s { trees = s.trees ++ x ∷ [] }))
trees_step op k o os s true (Err TooDeep) e t takes more = deep_trees op k o os s.deep _ (deep_here op k o os e (takes e) t) (more (record s { deep = true }))
trees_step op k o os s true (Err BadExpression) e t takes more = bad_here op k o os e (takes e) t

fold_found : (op : Operation) (k : ℕ) (os : List (List Piece)) (s : Trees) → AllTake op k os → TreesFound op k os s.deep (fold_ok with_operand s os)
unfolding with_operand
fold_found op k [] s h = λ d. inl d
fold_found op k (o ∷ os) s h = trees_step op k o os s (is_expression (written_of o)) (tree_in (map mark_of o)) refl refl h.0 (λ next. fold_found op (k + 1) os next h.1)

all_trees_found : (op : Operation) (k : ℕ) (os : List (List Piece)) (r : Result Trees FaultKind) → TreesFound op k os false r → IfErr (r >>= λ s. all_trees s) (Found op k os)
all_trees_found op k os (Ok s) h = by s.deep h
  where
    by : (b : Bool) → (b ≡ true → (let d : Bool = false in d ≡ true) ⊎ IsSome (first_refused fault.TooDeep op k os)) → IfErr (let r : Result (List Tree) FaultKind = cond b (Err fault.TooDeep) (Ok s.trees) in r) (Found op k os)
    by true g = elim (g refl) [ inl never ↦ absurd (false≢true never) | inr found ↦ found ]
    by false g = tt
all_trees_found op k os (Err fault.BadExpression) h = h
all_trees_found op k os (Err _) h = absurd h

trees_found : (op : Operation) (k : ℕ) (os : List (List Piece)) → AllTake op k os → IfErr (trees_in os) (Found op k os)
trees_found op k os h = all_trees_found op k os (fold_ok with_operand no_trees os) (fold_found op k os no_trees h)

-- ---- instructions

operation_by : (s : Spelling) (os : List (List Piece)) (r : Result Form FaultKind) → Agrees (all_fit (spelling_wants s) 0 (map written_of os)) r
    → IfErr (r >>= λ f. trees_in os >>= λ es. Ok (let m : Made = record { form = f; trees = es } in m)) (Found (Runs s) 0 os)
operation_by s os (Ok f) h = bound (Found (Runs s) 0 os) (trees_in os) _ (trees_found (Runs s) 0 os (all_take s 0 os h)) (λ _ _. tt)
operation_by s os (Err fault.OperandForm) h = not_fit s 0 os h
operation_by s os (Err fault.OperandCount) h = tt
operation_by s os (Err _) h = absurd h

pub operation_found : (s : Spelling) (os : List (List Piece)) → IfErr (operation_of s os) (Found (Runs s) 0 os)
unfolding operation_of
operation_found s os = operation_by s os (form_of s (map written_of os)) (agrees s (map written_of os))

-- ---- directives

all_found : (op : Operation) (k : ℕ) (os : List (List Piece)) → ((j : ℕ) → wants op j ≡ wanted.Expression) → IfErr (all_expressions os) (Found op k os)
all_found op k [] w = tt
all_found op k (o ∷ os) w = by (is_expression (written_of o)) (ap (λ (x : Wanted). suits x o) (w k)) (all_found op (k + 1) os w)
  where
    by : (b : Bool) → suits (wants op k) o ≡ b → IfErr (all_expressions os) (Found op (k + 1) os) → IfErr (let r : Result (Unit {0}) FaultKind = cond b (all_expressions os) (Err fault.OperandForm) in r) (Found op k (o ∷ os))
    by true s h = skipped op k o os (all_expressions os) h
    by false s h = form_some op k o os s

all_expressions_take : (op : Operation) (k : ℕ) (os : List (List Piece)) → ((j : ℕ) → wants op j ≡ wanted.Expression) → AllTake op k os
all_expressions_take op k [] w = tt
all_expressions_take op k (o ∷ os) w = (λ _. ap takes_expression (w k), all_expressions_take op (k + 1) os w)

some_found : (op : Operation) (os : List (List Piece)) → IfErr (some os) (Found op 0 os)
some_found op [] = tt
some_found op (o ∷ os) = tt

expressions_found : (op : Operation) (os : List (List Piece)) → ((j : ℕ) → wants op j ≡ wanted.Expression) → IfErr (expressions_in os) (Found op 0 os)
expressions_found op os w =
    bound (Found op 0 os) (some os) _ (some_found op os)
    (λ _ _. bound (Found op 0 os) (all_expressions os) _ (all_found op 0 os w) (λ _ _. trees_found op 0 os (all_expressions_take op 0 os w)))

expression_found : (op : Operation) (k : ℕ) (o : List Piece) (os : List (List Piece)) → wants op k ≡ wanted.Expression → IfErr (expression_in o) (Found op k (o ∷ os))
expression_found op k o os w = by (is_expression (written_of o)) refl (tree_in (map mark_of o)) refl
  where
    by : (b : Bool) → is_expression (written_of o) ≡ b → (r : Result Tree ExpressionFault) → tree_in (map mark_of o) ≡ r → IfErr (let x : Result Tree FaultKind = cond b (told expression_fault r) (Err fault.OperandForm) in x) (Found op k (o ∷ os))
    by false e r t = form_some op k o os (ap (λ (x : Wanted). suits x o) w ∙ e)
    by true e (Ok x) t = tt
    by true e (Err BadExpression) t = bad_here op k o os e (ap takes_expression w) t
    by true e (Err TooDeep) t = deep_here op k o os e (ap takes_expression w) t

later_found : (op : Operation) (k : ℕ) (o : List Piece) (os : List (List Piece)) → wants op k ≡ wanted.Expression → IfErr (later_in o) (Found op k (o ∷ os))
later_found op k o os w = by (is_expression (written_of o)) refl
  where
    by : (b : Bool) → is_expression (written_of o) ≡ b → IfErr (let x : Result (Result Tree FaultKind) FaultKind = cond b (Ok (expression_in o)) (Err fault.OperandForm) in x) (Found op k (o ∷ os))
    by true e = tt
    by false e = form_some op k o os (ap (λ (x : Wanted). suits x o) w ∙ e)

without_found : (op : Operation) (act : AssemblyAct) (os : List (List Piece)) → IfErr (without act os) (Found op 0 os)
without_found op act [] = tt
without_found op act (o ∷ os) = tt

with_expression_found : (op : Operation) (act : Tree → AssemblyAct) (os : List (List Piece)) → ((j : ℕ) → wants op j ≡ wanted.Expression) → IfErr (with_expression act os) (Found op 0 os)
with_expression_found op act [] w = tt
with_expression_found op act (o ∷ []) w = bound (Found op 0 (o ∷ [])) (expression_in o) _ (expression_found op 0 o [] (w 0)) (λ _ _. tt)
with_expression_found op act (o ∷ p ∷ os) w = tt

some_names_found : (op : Operation) (os : List (List Piece)) → ((j : ℕ) → wants op j ≡ wanted.Name) → IfErr (some_names os) (Found op 0 os)
some_names_found op os w = bound (Found op 0 os) (some os) _ (some_found op os) (λ _ _. names_found op 0 os w)

loading_found : (op : Operation) (os : List (List Piece)) → ((j : ℕ) → wants op j ≡ wanted.Text) → IfErr (loading os) (Found op 0 os)
loading_found op os w =
    bound (Found op 0 os) (some os) _ (some_found op os)
    (λ _ _. bound (Found op 0 os) (strings_in os) _ (strings_found op 0 os w) (λ _ _. tt))

entering_found : (os : List (List Piece)) → IfErr (entering os) (Found (Does directive.Sect) 0 os)
entering_found [] = tt
entering_found (o ∷ []) =
    bound (Found (Does directive.Sect) 0 (o ∷ [])) (section_in o) _ (refused_here (Does directive.Sect) 0 o [] (section_in o) refl (section_form o)) (λ _ _. tt)
entering_found (o ∷ p ∷ os) = tt

naming_found : (os : List (List Piece)) → IfErr (naming os) (Found (Does directive.Label) 0 os)
naming_found [] = tt
naming_found (o ∷ []) =
    bound (Found (Does directive.Label) 0 (o ∷ [])) (name_in o) _ (refused_here (Does directive.Label) 0 o [] (name_in o) refl (name_form o)) (λ _ _. tt)
naming_found (o ∷ p ∷ os) = tt

reserving_found : (os : List (List Piece)) → IfErr (reserving os) (Found (Does directive.Bss) 0 os)
reserving_found [] = tt
reserving_found (o ∷ []) = tt
reserving_found (o ∷ p ∷ []) =
    let op : Operation = Does directive.Bss in
    let all : List (List Piece) = o ∷ p ∷ [] in
    bound (Found op 0 all) (name_in o) _ (refused_here op 0 o (p ∷ []) (name_in o) refl (name_form o))
    (λ _ _. bound (Found op 0 all) (later_in p) _ (skipped op 0 o (p ∷ []) (later_in p) (later_found op 1 p [] refl)) (λ _ _. tt))
reserving_found (o ∷ p ∷ q ∷ []) =
    let op : Operation = Does directive.Bss in
    let all : List (List Piece) = o ∷ p ∷ q ∷ [] in
    bound (Found op 0 all) (name_in o) _ (refused_here op 0 o (p ∷ q ∷ []) (name_in o) refl (name_form o))
    (λ _ _. bound (Found op 0 all) (later_in p) _ (skipped op 0 o (p ∷ q ∷ []) (later_in p) (later_found op 1 p (q ∷ []) refl))
    (λ _ _. bound (Found op 0 all) (later_in q) _ (skipped op 0 o (p ∷ q ∷ []) (later_in q) (skipped op 1 p (q ∷ []) (later_in q) (later_found op 2 q [] refl))) (λ _ _. tt)))
reserving_found (o ∷ p ∷ q ∷ r ∷ os) = tt

reserving_in_found : (label : List ℕ) (os : List (List Piece)) → IfErr (reserving_in label os) (Found (Does directive.Usect) 0 os)
reserving_in_found label [] = tt
reserving_in_found label (o ∷ []) = tt
reserving_in_found label (o ∷ p ∷ []) =
    let op : Operation = Does directive.Usect in
    let all : List (List Piece) = o ∷ p ∷ [] in
    bound (Found op 0 all) (section_in o) _ (refused_here op 0 o (p ∷ []) (section_in o) refl (section_form o))
    (λ _ _. bound (Found op 0 all) (later_in p) _ (skipped op 0 o (p ∷ []) (later_in p) (later_found op 1 p [] refl)) (λ _ _. tt))
reserving_in_found label (o ∷ p ∷ q ∷ os) = tt

words_found : (d : Directive) (act : List Tree → AssemblyAct) (os : List (List Piece)) → ((j : ℕ) → wants (Does d) j ≡ wanted.Expression) → IfErr (expressions_in os >>= λ es. Ok (act es)) (Found (Does d) 0 os)
words_found d act os w = bound (Found (Does d) 0 os) (expressions_in os) _ (expressions_found (Does d) os w) (λ _ _. tt)

some_named_found : (d : Directive) (act : List (List ℕ) → AssemblyAct) (os : List (List Piece)) → ((j : ℕ) → wants (Does d) j ≡ wanted.Name) → IfErr (some_names os >>= λ names. Ok (act names)) (Found (Does d) 0 os)
some_named_found d act os w = bound (Found (Does d) 0 os) (some_names os) _ (some_names_found (Does d) os w) (λ _ _. tt)

pub act_found : (d : Directive) (label : List ℕ) (os : List (List Piece)) → IfErr (act_of d label os) (Found (Does d) 0 os)
unfolding act_of
act_found directive.Text label os = without_found _ _ os
act_found directive.Data label os = without_found _ _ os
act_found directive.Sect label os = entering_found os
act_found directive.Bss label os = reserving_found os
act_found directive.Usect label os = reserving_in_found label os
act_found directive.Word label os = words_found directive.Word _ os (λ _. refl)
act_found directive.Byte label os = words_found directive.Byte _ os (λ _. refl)
act_found directive.Characters label os = loading_found (Does directive.Characters) os (λ _. refl)
act_found directive.Space label os = with_expression_found (Does directive.Space) _ os (λ _. refl)
act_found directive.Set label os = with_expression_found (Does directive.Set) _ os (λ _. refl)
act_found directive.Global label os = some_named_found directive.Global _ os (λ _. refl)
act_found directive.Def label os = some_named_found directive.Def _ os (λ _. refl)
act_found directive.Label label os = naming_found os
act_found directive.Registers label os = without_found _ _ os
act_found directive.Ignored label os = tt
