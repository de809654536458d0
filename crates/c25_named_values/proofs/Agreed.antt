-- The table of the names of an expression gives it the value that it has over all names.
use Rattle.std.proofs.Common.{◌≡◌, ℕ, Bool, true, false, cond, List, [], ◌∷◌, ◌++◌, map, Option, Some, None, Result, Ok, Err, refl, sym, ap, subst, inl, inr, ◌⊎◌, ◌∙◌}
use Rattle.std.proofs.lemmas.Bool.{false≢true}
use Rattle.std.proofs.lemmas.Slice.Eq.{bytes_eq-Decides}
use Rattle.std.specs.Map.{lookup}
use Rattle.std.specs.Option.{ok_or, option_map}
use Rattle.std.specs.Str.{bytes_eq}
use Rattle.c25_meaning_common.specs.Results.{◌>>=◌, told}
use Rattle.c25_meaning_language.specs.DirectiveOperands.{expression_in}
use Rattle.c25_meaning_language.specs.Forms.{is_expression}
use Rattle.c25_meaning_language.specs.Line.{Piece}
use Rattle.c25_meaning_language.specs.Operands.{written_of}
use Rattle.c25_meaning_language.specs.Reading as reading
use Rattle.c25_meaning_language.specs.Statement.{expression_fault}
use Rattle.c25_meaning_language.specs.Tree.{Binary, Constant, Group, Here, IsTreeOf, Leaf, Mark, Name, Operand, Signed, Single, Tree, Unary, mark_by, mark_of, spelling}
use Rattle.c25_meaning_language.specs.Value.{Table, binary_value, defined, leaf_value, named_by, predefined, unary_value, value_named, value_of}
use Rattle.c25_meaning_language.specs.declared.line.Sign.TheVariants as sign
use Rattle.c25_meaning_language.specs.declared.line.TokenKind.{TokenKind}
use Rattle.c25_meaning_language.specs.declared.line.TokenKind.TheVariants as kind
use Rattle.c25_meaning_language.specs.declared.statement.FaultKind.{FaultKind}
use Rattle.c25_meaning_language.specs.declared.statement.FaultKind.TheVariants.{OperandForm}
use Rattle.c25_meaning_language.specs.declared.value.Value.{Value}
use Rattle.c25_meaning_language.specs.declared.value.ValueFault.{ValueFault}
use Rattle.c25_meaning_language.specs.declared.value.ValueFault.TheVariants.{Undefined}
use Rattle.c25_named_values.specs.Known.{absolute, first_table, value_at, with_name, with_new, with_piece, with_pieces, with_token}
use Rattle.c25_named_values.specs.Values.{no_value, pieces_value, tree_in, tree_value, value_over, word_of}
use Rattle.c25_named_values.specs.declared.no_value.NoValue.{NoValue}
use Rattle.c25_named_values.specs.declared.no_value.NoValue.TheVariants.{NoExpression}

-- ---- values over names that agree where they are asked

module _ (f g : List ℕ → Option Value) (here : Value) where
  -- they agree on a token
  abbrev Agree : Mark → Type 0
  Agree (Operand (Name n)) = f n ≡ g n
  Agree _ = Unit {0}

  abbrev AgreeAll : List Mark → Type 0
  AgreeAll [] = Unit {0}
  AgreeAll (m ∷ ms) = Agree m × AgreeAll ms

  first_part : (xs ys : List Mark) → AgreeAll (xs ++ ys) → AgreeAll xs
  first_part [] ys h = tt
  first_part (x ∷ xs) ys h = (h.0, first_part xs ys h.1)

  last_part : (xs ys : List Mark) → AgreeAll (xs ++ ys) → AgreeAll ys
  last_part [] ys h = h
  last_part (x ∷ xs) ys h = last_part xs ys h.1

  leaf_same : (l : Leaf) → Agree (Operand l) → leaf_value f here l ≡ leaf_value g here l
  leaf_same (Constant n) h = refl
  leaf_same (Name n) h = ap (λ (o : Option Value). ok_or o Undefined) h
  leaf_same Here h = refl

  tree_same : (e : Tree) → AgreeAll (spelling e) → value_of f here e ≡ value_of g here e
  tree_same (Single l) h = leaf_same l h.0
  tree_same (Group e) h = tree_same e (first_part (spelling e) (Signed sign.CloseParenthesis ∷ []) h.1)
  tree_same (Unary op e) h = ap (λ (r : Result Value ValueFault). r >>= unary_value op) (tree_same e h.1)
  tree_same (Binary op l r) h =
      ap (λ (x : Result Value ValueFault). x >>= λ a. value_of f here r >>= binary_value op a) (tree_same l (first_part (spelling l) _ h))
      ∙ ap (λ (y : Result Value ValueFault). value_of g here l >>= λ a. y >>= binary_value op a) (tree_same r (last_part (spelling l) _ h).1)

-- ---- tables

some_not_none : (v : Value) → Some v ≡ None → ⊥
some_not_none v e = absurd (cc)

module _ (addresses : List ℕ → Option ℕ) where
  -- what a table says of a name is what the name stands for; where it says nothing, `None` is left open
  abbrev IsSound : Table → Type 0
  IsSound table = (n : List ℕ) (v : Value) → value_named table n ≡ Some v → value_at addresses n ≡ Some v

  -- a name of which a table says nothing stands for nothing
  abbrev Knows : Table → List ℕ → Type 0
  Knows table n = value_named table n ≡ None → value_at addresses n ≡ None

  agreed : (table : Table) (n : List ℕ) → IsSound table → Knows table n → value_named table n ≡ value_at addresses n
  agreed table n sound knows = by_cases (value_named table n) refl where
    by_cases : (o : Option Value) → value_named table n ≡ o → value_named table n ≡ value_at addresses n
    by_cases None e = e ∙ sym (knows e)
    by_cases (Some v) e = e ∙ sym (sound n v e)

  first_sound : (here : ℕ) → IsSound (first_table here)
  first_sound here n v e = by_cases (predefined n) refl e where
    by_cases : (p : Option ℕ) → predefined n ≡ p → named_by p None ≡ Some v → named_by p (option_map absolute (addresses n)) ≡ Some v
    by_cases None is h = absurd (some_not_none v (sym h))
    by_cases (Some k) is h = h

  -- a name that comes last among entries
  last_entry : (es : List (List ℕ × Value)) (name n : List ℕ) (v w : Value) → lookup (bytes_eq n) (es ++ (name, v) ∷ []) ≡ Some w → (lookup (bytes_eq n) es ≡ Some w) ⊎ ((n ≡ name) × (v ≡ w))
  last_entry [] name n v w e = by_test (bytes_eq n name) refl e where
    by_test : (b : Bool) → bytes_eq n name ≡ b → cond b (Some v) None ≡ Some w → (◌≡◌ {A = Option Value} None (Some w)) ⊎ ((n ≡ name) × (v ≡ w))
    by_test true is h = inr ((bytes_eq-Decides n name).0 is, cc)
    by_test false is h = inl h
  last_entry (x ∷ es) name n v w e = by_test (bytes_eq n x.0) e (last_entry es name n v w) where
    by_test : (b : Bool) → cond b (Some x.1) (lookup (bytes_eq n) (es ++ (name, v) ∷ [])) ≡ Some w
        → (lookup (bytes_eq n) (es ++ (name, v) ∷ []) ≡ Some w → (lookup (bytes_eq n) es ≡ Some w) ⊎ ((n ≡ name) × (v ≡ w)))
        → (cond b (Some x.1) (lookup (bytes_eq n) es) ≡ Some w) ⊎ ((n ≡ name) × (v ≡ w))
    by_test true h more = inl h
    by_test false h more = more h

  -- where nothing was found, nothing was found before
  none_before : (es : List (List ℕ × Value)) (name n : List ℕ) (v : Value) → lookup (bytes_eq n) (es ++ (name, v) ∷ []) ≡ None → lookup (bytes_eq n) es ≡ None
  none_before [] name n v e = refl
  none_before (x ∷ es) name n v e = by_test (bytes_eq n x.0) e (none_before es name n v) where
    by_test : (b : Bool) → cond b (Some x.1) (lookup (bytes_eq n) (es ++ (name, v) ∷ [])) ≡ None
        → (lookup (bytes_eq n) (es ++ (name, v) ∷ []) ≡ None → lookup (bytes_eq n) es ≡ None) → cond b (Some x.1) (lookup (bytes_eq n) es) ≡ None
    by_test true h more = absurd (some_not_none x.1 h)
    by_test false h more = more h

  -- a name that came last is found
  found_last : (es : List (List ℕ × Value)) (name : List ℕ) (v : Value) → lookup (bytes_eq name) (es ++ (name, v) ∷ []) ≡ None → ⊥
  found_last [] name v e = by_test (bytes_eq name name) refl e where
    by_test : (b : Bool) → bytes_eq name name ≡ b → cond b (Some v) None ≡ None → ⊥
    by_test true is h = some_not_none v h
    by_test false is h = absurd (false≢true (sym is ∙ (bytes_eq-Decides name name).1 refl))
  found_last (x ∷ es) name v e = by_test (bytes_eq name x.0) e (found_last es name v) where
    by_test : (b : Bool) → cond b (Some x.1) (lookup (bytes_eq name) (es ++ (name, v) ∷ [])) ≡ None → (lookup (bytes_eq name) (es ++ (name, v) ∷ []) ≡ None → ⊥) → ⊥
    by_test true h more = some_not_none x.1 h
    by_test false h more = more h

  -- ---- one name more

  module _ (table : Table) (name : List ℕ) (address : ℕ) (has : addresses name ≡ Some address) (sound : IsSound table) where
    abbrev longer : Table
    longer = record { entries = table.entries ++ (name, absolute address) ∷ []; here = table.here }

    old_or_new : (n : List ℕ) (v : Value) → predefined n ≡ None → (lookup (bytes_eq n) table.entries ≡ Some v) ⊎ ((n ≡ name) × (absolute address ≡ v)) → option_map absolute (addresses n) ≡ Some v
    old_or_new n v none (inl old) =
        sym (ap (λ (p : Option ℕ). named_by p (option_map absolute (addresses n))) none)
        ∙ sound n v (ap (λ (p : Option ℕ). named_by p (defined table.entries n)) none ∙ old)
    old_or_new n v none (inr (same, is)) =
        ap (λ (x : List ℕ). option_map absolute (addresses x)) same ∙ ap (option_map absolute) has ∙ ap (λ (x : Value). Some x) is

    longer_sound : IsSound longer
    longer_sound n v e = by_cases (predefined n) refl e where
      by_cases : (p : Option ℕ) → predefined n ≡ p → named_by p (lookup (bytes_eq n) (table.entries ++ (name, absolute address) ∷ [])) ≡ Some v
          → named_by p (option_map absolute (addresses n)) ≡ Some v
      by_cases (Some k) is h = h
      by_cases None is h = old_or_new n v is (last_entry table.entries name n (absolute address) v h)

    new_sound : (o : Option Value) → IsSound (with_new o table name address)
    new_sound None = longer_sound
    new_sound (Some known) = sound

    new_knows : (o : Option Value) → value_named table name ≡ o → Knows (with_new o table name address) name
    new_knows (Some known) is = λ none. absurd (some_not_none known (sym is ∙ none))
    new_knows None is = λ none. by_cases (predefined name) none where
      by_cases : (p : Option ℕ) → named_by p (lookup (bytes_eq name) (table.entries ++ (name, absolute address) ∷ [])) ≡ None → value_at addresses name ≡ None
      by_cases (Some k) h = absurd (some_not_none _ h)
      by_cases None h = absurd (found_last table.entries name (absolute address) h)

  new_stays : (table : Table) (name : List ℕ) (address : ℕ) (n : List ℕ) (o : Option Value) → value_named (with_new o table name address) n ≡ None → value_named table n ≡ None
  new_stays table name address n (Some known) e = e
  new_stays table name address n None e = by_cases (predefined n) e where
    by_cases : (p : Option ℕ) → named_by p (lookup (bytes_eq n) (table.entries ++ (name, absolute address) ∷ [])) ≡ None → named_by p (lookup (bytes_eq n) table.entries) ≡ None
    by_cases (Some k) h = absurd (some_not_none _ h)
    by_cases None h = none_before table.entries name n (absolute address) h

  name_sound : (table : Table) (name : List ℕ) (o : Option ℕ) → addresses name ≡ o → IsSound table → IsSound (with_name table name o)
  name_sound table name None is sound = sound
  name_sound table name (Some address) is sound = new_sound table name address is sound (value_named table name)

  name_knows : (table : Table) (name : List ℕ) (o : Option ℕ) → addresses name ≡ o → IsSound table → Knows (with_name table name o) name
  name_knows table name None is sound = λ none. by_cases (predefined name) none where
    by_cases : (p : Option ℕ) → named_by p (defined table.entries name) ≡ None → named_by p (option_map absolute (addresses name)) ≡ None
    by_cases (Some k) h = absurd (some_not_none _ h)
    by_cases None h = ap (option_map absolute) is
  name_knows table name (Some address) is sound = new_knows table name address is sound (value_named table name) refl

  name_stays : (table : Table) (name : List ℕ) (o : Option ℕ) (n : List ℕ) → Knows table n → Knows (with_name table name o) n
  name_stays table name None n knows = knows
  name_stays table name (Some address) n knows = λ none. knows (new_stays table name address n (value_named table name) none)

  name_here : (table : Table) (name : List ℕ) (o : Option ℕ) → (with_name table name o).here ≡ table.here
  name_here table name None = refl
  name_here table name (Some address) = by_cases (value_named table name) where
    by_cases : (o : Option Value) → (with_new o table name address).here ≡ table.here
    by_cases None = refl
    by_cases (Some known) = refl

  -- ---- tokens

  token_sound : (table : Table) (k : TokenKind) (text : List ℕ) → IsSound table → IsSound (with_token addresses table k text)
  token_sound table kind.Name text sound = name_sound table text (addresses text) refl sound
  token_sound table _ text sound = sound

  token_stays : (table : Table) (k : TokenKind) (text n : List ℕ) → Knows table n → Knows (with_token addresses table k text) n
  token_stays table kind.Name text n knows = name_stays table text (addresses text) n knows
  token_stays table _ text n knows = knows

  token_here : (table : Table) (k : TokenKind) (text : List ℕ) → (with_token addresses table k text).here ≡ table.here
  token_here table kind.Name text = name_here table text (addresses text)
  token_here table _ text = refl

  all_sound : (table : Table) (ps : List Piece) → IsSound table → IsSound (with_pieces addresses table ps)
  all_sound table [] sound = sound
  all_sound table (p ∷ ps) sound = all_sound (with_piece addresses table p) ps (token_sound table p.kind p.text sound)

  all_stay : (table : Table) (ps : List Piece) (n : List ℕ) → Knows table n → Knows (with_pieces addresses table ps) n
  all_stay table [] n knows = knows
  all_stay table (p ∷ ps) n knows = all_stay (with_piece addresses table p) ps n (token_stays table p.kind p.text n knows)

  all_here : (table : Table) (ps : List Piece) → (with_pieces addresses table ps).here ≡ table.here
  all_here table [] = refl
  all_here table (p ∷ ps) = all_here (with_piece addresses table p) ps ∙ token_here table p.kind p.text

  -- the table after tokens and all names agree on a token before them
  agree_token : (table : Table) (k : TokenKind) (text : List ℕ) (ps : List Piece) (here : Value) → IsSound table
      → Agree (value_named (with_pieces addresses (with_token addresses table k text) ps)) (value_at addresses) here (mark_by k text)
  agree_token table kind.Name text ps here sound =
      let next = with_name table text (addresses text) in
      agreed (with_pieces addresses next ps) text (all_sound next ps (name_sound table text (addresses text) refl sound))
      (all_stay next ps text (name_knows table text (addresses text) refl sound))
  agree_token table kind.Constant text ps here sound = tt
  agree_token table kind.Character text ps here sound = tt
  agree_token table kind.Quoted text ps here sound = tt
  agree_token table kind.DottedName text ps here sound = tt
  agree_token table (kind.Sign sign.Dollar) text ps here sound = tt
  agree_token table (kind.Sign _) text ps here sound = tt

  agree_all : (table : Table) (ps : List Piece) (here : Value) → IsSound table → AgreeAll (value_named (with_pieces addresses table ps)) (value_at addresses) here (map mark_of ps)
  agree_all table [] here sound = tt
  agree_all table (p ∷ ps) here sound = (
    agree_token table p.kind p.text ps here sound,
    agree_all (with_piece addresses table p) ps here (token_sound table p.kind p.text sound),
  )

  -- the value under the table of its names is that over all names
  pub same_value : (here : ℕ) (ps : List Piece) (tree : Tree) → IsTreeOf (map mark_of ps) tree → tree_value (with_pieces addresses (first_table here) ps) tree ≡ value_over (value_at addresses) (absolute here) tree
  same_value here ps tree is =
      let table = with_pieces addresses (first_table here) ps in
      ap (λ (x : Value). value_over (value_named table) x tree) (all_here (first_table here) ps)
      ∙ ap (λ (r : Result Value ValueFault). told no_value r >>= λ (v : Value). word_of v.offset)
      (tree_same (value_named table) (value_at addresses) (absolute here) tree
      (subst (λ (ms : List Mark). AgreeAll (value_named table) (value_at addresses) (absolute here) ms) (sym is.spelled) (agree_all (first_table here) ps (absolute here) (first_sound here))))

  -- the value of the expression that tokens form, by its tree and a table of its names
  pub value_told : (here : ℕ) (ps : List Piece) (tree : Tree) (table : Table) (r : Result ℕ NoValue) → tree_in ps ≡ Ok tree → IsTreeOf (map mark_of ps) tree
      → table ≡ with_pieces addresses (first_table here) ps → r ≡ tree_value table tree → pieces_value addresses here ps ≡ r
  value_told here ps tree table r read is same by_call =
      ap (λ (x : Result Tree NoValue). x >>= λ (t : Tree). value_over (value_at addresses) (absolute here) t) read
      ∙ sym (same_value here ps tree is)
      ∙ ap (λ (x : Table). tree_value x tree) (sym same)
      ∙ sym by_call

-- ---- trees

told_ok : {A E F : Type 0} (f : E → F) (r : Result A E) (x : A) → told f r ≡ Ok x → r ≡ Ok x
told_ok f (Ok y) x e = cc
told_ok f (Err y) x e = absurd (cc)

-- the tree of the tokens of an operand is that of its marks
pub tree_read : (ps : List Piece) (t : Tree) → tree_in ps ≡ Ok t → reading.tree_in (map mark_of ps) ≡ Ok t
tree_read ps t e = by_test (is_expression (written_of ps)) (told_ok (λ (fault : FaultKind). NoExpression) (expression_in ps) t e) where
  by_test : (b : Bool) → cond b (told expression_fault (reading.tree_in (map mark_of ps))) (Err OperandForm) ≡ Ok t → reading.tree_in (map mark_of ps) ≡ Ok t
  by_test true h = told_ok expression_fault (reading.tree_in (map mark_of ps)) t h
  by_test false h = absurd (cc)
