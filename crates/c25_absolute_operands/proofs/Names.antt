-- Names of other modules give no expression an absolute value: what is absolute under all names of a module is so under those that it
-- defines, and the other way round.
use Rattle.std.proofs.Common.{◌≡◌, ℕ, ◌+◌, ◌⊎◌, inl, inr, Bool, true, false, cond, List, [], ◌∷◌, ◌++◌, length, Option, Some, None, Result, Ok, Err, ℤ, refl, ap, ap₂, subst, if◌then◌else◌}
use Rattle.std.specs.List.{flat_map}
use Rattle.std.specs.Prelude.{nat_lt}
use Rattle.std.specs.Map.{lookup}
use Rattle.std.specs.Option.{ok_or}
use Rattle.std.specs.Str.{bytes_eq}
use Rattle.c25_line_warnings.specs.SourceLine.{SourceLine}
use Rattle.c25_meaning_assembly.specs.AssemblyLine.{AssemblyAct, Nothing, Enter, Reserve, Equate, Put, Load, Space, Declare, Export, Label, Registers, Statement, read_statement}
use Rattle.c25_meaning_assembly.specs.Emission.{names_with, numbered, table_at}
use Rattle.c25_meaning_assembly.specs.Sections.{Definitions, imports}
use Rattle.c25_meaning_assembly.specs.declared.assembly.Target.TheVariants as target
use Rattle.c25_meaning_common.specs.Results.{◌>>=◌}
use Rattle.c25_meaning_language.specs.Statement.{form_field}
use Rattle.c25_meaning_language.specs.Tree.{Constant, Name, Here, Leaf, Tree, Single, Group, Unary, Binary}
use Rattle.c25_meaning_language.specs.Value.{Table, base_of, binary_value, defined, leaf_value, named_by, number_of, predefined, unary_value, value_named, value_of}
use Rattle.c25_meaning_language.specs.declared.expression.BinaryOperator.{BinaryOperator}
use Rattle.c25_meaning_language.specs.declared.expression.BinaryOperator.TheVariants as binary
use Rattle.c25_meaning_language.specs.declared.expression.UnaryOperator.{UnaryOperator}
use Rattle.c25_meaning_language.specs.declared.expression.UnaryOperator.TheVariants as unary
use Rattle.c25_meaning_language.specs.declared.statement.FaultKind.{FaultKind}
use Rattle.c25_meaning_language.specs.declared.statement.Field.{Field}
use Rattle.c25_meaning_language.specs.declared.statement.Field.TheVariants as field
use Rattle.c25_meaning_language.specs.declared.statement.Form.{Form}
use Rattle.c25_meaning_language.specs.declared.value.Base.{Base}
use Rattle.c25_meaning_language.specs.declared.value.Base.TheVariants.{Absolute, Section, Loaded, External}
use Rattle.c25_meaning_language.specs.declared.value.Value.{Value}
use Rattle.c25_meaning_language.specs.declared.value.ValueFault.{ValueFault}
use Rattle.c25_meaning_language.specs.declared.value.ValueFault.TheVariants.{Undefined}
use Rattle.c25_page_reports.specs.declared.operands.AbsoluteOperand.{AbsoluteOperand}
use Rattle.c25_absolute_operands.specs.Operands.{act_operands, far_direct, far_valued, line_operands, operand_at, operands_from, statement_operands}

-- ---- values that count from another module

abbrev IsExternal : Base → Type 0
IsExternal Absolute = ⊥
IsExternal (Section n) = ⊥
IsExternal (Loaded n) = ⊥
IsExternal (External n) = Unit {0}

abbrev IsFarBase : Result Base ValueFault → Type 0
IsFarBase (Ok b) = IsExternal b
IsFarBase (Err f) = Unit {0}

-- a value that counts from another module, or none
abbrev IsFar : Result Value ValueFault → Type 0
IsFar (Ok v) = IsExternal v.base
IsFar (Err f) = Unit {0}

abbrev IsFault : Result Value ValueFault → Type 0
IsFault (Ok v) = ⊥
IsFault (Err f) = Unit {0}

far_left : (op : BinaryOperator) (n : ℕ) (c : Base) → IsFarBase (base_of op (External n) c)
far_left binary.Add n Absolute = tt
far_left binary.Subtract n Absolute = tt
far_left op n c = tt

right_absolute : (op : BinaryOperator) (n : ℕ) → IsFarBase (base_of op Absolute (External n))
right_absolute binary.Add n = tt
right_absolute op n = tt

right_section : (op : BinaryOperator) (s n : ℕ) → IsFarBase (base_of op (Section s) (External n))
right_section binary.Subtract s n = tt
right_section op s n = tt

right_loaded : (op : BinaryOperator) (s n : ℕ) → IsFarBase (base_of op (Loaded s) (External n))
right_loaded binary.Subtract s n = tt
right_loaded op s n = tt

far_right : (op : BinaryOperator) (b : Base) (n : ℕ) → IsFarBase (base_of op b (External n))
far_right op Absolute n = right_absolute op n
far_right op (Section s) n = right_section op s n
far_right op (Loaded s) n = right_loaded op s n
far_right op (External s) n = far_left op s (External n)

far_made : (r : Result Base ValueFault) (q : Result ℤ ValueFault) → IsFarBase r → IsFar (r >>= λ b. q >>= λ z. Ok (record { base = b; offset = z }))
far_made (Ok b) (Ok z) h = h
far_made (Ok b) (Err f) h = tt
far_made (Err f) q h = tt

left_value : (op : BinaryOperator) (b : Base) (z : ℤ) (y : Value) → IsExternal b → IsFar (binary_value op (record { base = b; offset = z }) y)
left_value op Absolute z y h = absurd h
left_value op (Section n) z y h = absurd h
left_value op (Loaded n) z y h = absurd h
left_value op (External n) z y h = far_made (base_of op (External n) y.base) (number_of op z y.offset) (far_left op n y.base)

right_value : (op : BinaryOperator) (x : Value) (c : Base) (z : ℤ) → IsExternal c → IsFar (binary_value op x (record { base = c; offset = z }))
right_value op x Absolute z h = absurd h
right_value op x (Section n) z h = absurd h
right_value op x (Loaded n) z h = absurd h
right_value op x (External n) z h = far_made (base_of op x.base (External n)) (number_of op x.offset z) (far_right op x.base n)

unary_far : (op : UnaryOperator) (b : Base) (z : ℤ) → IsExternal b → IsFar (unary_value op (record { base = b; offset = z }))
unary_far op Absolute z h = absurd h
unary_far op (Section n) z h = absurd h
unary_far op (Loaded n) z h = absurd h
unary_far unary.Plus (External n) z h = tt
unary_far unary.Minus (External n) z h = tt
unary_far unary.Complement (External n) z h = tt

-- ---- two values of an expression

-- they are the same, or the first counts from another module or is none, and the second is none
abbrev Alike : Result Value ValueFault → Result Value ValueFault → Type 0
Alike r q = (r ≡ q) ⊎ (IsFar r × IsFault q)

unary_alike : (op : UnaryOperator) (r q : Result Value ValueFault) → Alike r q → Alike (r >>= unary_value op) (q >>= unary_value op)
unary_alike op r q (inl e) = inl (ap (λ (x : Result Value ValueFault). x >>= unary_value op) e)
unary_alike op r (Ok w) (inr h) = absurd h.1
unary_alike op (Ok v) (Err f) (inr h) = inr (unary_far op v.base v.offset h.0, tt)
unary_alike op (Err g) (Err f) (inr h) = inr (tt, tt)

right_alike : (op : BinaryOperator) (x : Value) (r q : Result Value ValueFault) → Alike r q → Alike (r >>= binary_value op x) (q >>= binary_value op x)
right_alike op x r q (inl e) = inl (ap (λ (y : Result Value ValueFault). y >>= binary_value op x) e)
right_alike op x r (Ok w) (inr h) = absurd h.1
right_alike op x (Ok v) (Err f) (inr h) = inr (right_value op x v.base v.offset h.0, tt)
right_alike op x (Err g) (Err f) (inr h) = inr (tt, tt)

left_far : (op : BinaryOperator) (x : Value) (r : Result Value ValueFault) → IsExternal x.base → IsFar (r >>= binary_value op x)
left_far op x (Ok y) h = left_value op x.base x.offset y h
left_far op x (Err f) h = tt

-- where the left values are the same
same_left : (op : BinaryOperator) (l r q : Result Value ValueFault) → Alike r q → Alike (l >>= λ x. r >>= binary_value op x) (l >>= λ x. q >>= binary_value op x)
same_left op (Ok x) r q h = right_alike op x r q h
same_left op (Err f) r q h = inl refl

binary_alike : (op : BinaryOperator) (l m r q : Result Value ValueFault) → Alike l m → Alike r q → Alike (l >>= λ x. r >>= binary_value op x) (m >>= λ x. q >>= binary_value op x)
binary_alike op l m r q (inl e) h = subst (λ (k : Result Value ValueFault). Alike (l >>= λ x. r >>= binary_value op x) (k >>= λ x. q >>= binary_value op x)) e (same_left op l r q h)
binary_alike op l (Ok w) r q (inr g) h = absurd g.1
binary_alike op (Ok x) (Err f) r q (inr g) h = inr (left_far op x r g.0, tt)
binary_alike op (Err k) (Err f) r q (inr g) h = inr (tt, tt)

-- ---- names

abbrev IsOutside : Option Value → Type 0
IsOutside None = ⊥
IsOutside (Some v) = IsExternal v.base

-- what a name stands for under two tables: the same, or under the first a name of another module, and under the second nothing
abbrev NamesAlike : Option Value → Option Value → Type 0
NamesAlike o p = (o ≡ p) ⊎ (IsOutside o × (p ≡ None))

no_some : (v : Value) → Some v ≡ None → ⊥
no_some v e = cc

name_alike : (o p : Option Value) → NamesAlike o p → Alike (ok_or o Undefined) (ok_or p Undefined)
name_alike o p (inl e) = inl (ap (λ (x : Option Value). ok_or x Undefined) e)
name_alike None p (inr h) = absurd h.0
name_alike (Some v) (Some w) (inr h) = absurd (no_some w h.1)
name_alike (Some v) None (inr h) = inr (h.0, tt)

leaf_alike : (all own : List ℕ → Option Value) (here : Value) → ((name : List ℕ) → NamesAlike (all name) (own name)) → (l : Leaf) → Alike (leaf_value all here l) (leaf_value own here l)
leaf_alike all own here names (Constant n) = inl refl
leaf_alike all own here names (Name text) = name_alike (all text) (own text) (names text)
leaf_alike all own here names Here = inl refl

values_alike : (all own : List ℕ → Option Value) (here : Value) → ((name : List ℕ) → NamesAlike (all name) (own name)) → (e : Tree) → Alike (value_of all here e) (value_of own here e)
values_alike all own here names (Single l) = leaf_alike all own here names l
values_alike all own here names (Group e) = values_alike all own here names e
values_alike all own here names (Unary op e) = unary_alike op (value_of all here e) (value_of own here e) (values_alike all own here names e)
values_alike all own here names (Binary op l r) =
    binary_alike op (value_of all here l) (value_of own here l) (value_of all here r) (value_of own here r) (values_alike all own here names l) (values_alike all own here names r)

-- ---- the names that other modules define

either : (b : Bool) (v : Value) (o : Option Value) → IsExternal v.base → (o ≡ None) ⊎ IsOutside o → (cond b (Some v) o ≡ None) ⊎ IsOutside (cond b (Some v) o)
either true v o h rest = inr h
either false v o h rest = rest

outside : (n : ℕ) (names : List (List ℕ)) (name : List ℕ) → (lookup (bytes_eq name) (numbered n names) ≡ None) ⊎ IsOutside (lookup (bytes_eq name) (numbered n names))
outside n [] name = inl refl
outside n (first ∷ names) name = either (bytes_eq name first) _ (lookup (bytes_eq name) (numbered (n + 1) names)) tt (outside (n + 1) names name)

found : (b : Bool) (v : Value) (o p : Option Value) → NamesAlike o p → NamesAlike (cond b (Some v) o) (cond b (Some v) p)
found true v o p h = inl refl
found false v o p h = h

none_own : (o : Option Value) → (o ≡ None) ⊎ IsOutside o → NamesAlike o None
none_own o (inl e) = inl e
none_own o (inr h) = inr (h, refl)

entries_alike : (names others : Definitions) (name : List ℕ) → ((lookup (bytes_eq name) others ≡ None) ⊎ IsOutside (lookup (bytes_eq name) others)) → NamesAlike (defined (names ++ others) name) (defined names name)
entries_alike [] others name h = none_own (lookup (bytes_eq name) others) h
entries_alike (n ∷ names) others name h = found (bytes_eq name n.0) n.1 (defined (names ++ others) name) (defined names name) (entries_alike names others name h)

by_number : (p : Option ℕ) (o q : Option Value) → NamesAlike o q → NamesAlike (named_by p o) (named_by p q)
by_number (Some n) o q h = inl refl
by_number None o q h = h

all_alike : (names : Definitions) (declared : List (List ℕ)) (here : Value) (name : List ℕ) → NamesAlike (value_named (record { entries = names_with names declared; here = here }) name) (value_named (record { entries = names; here = here }) name)
all_alike names declared here name =
    by_number (predefined name) (defined (names_with names declared) name) (defined names name)
    (entries_alike names (numbered (length names) (imports names declared)) name (outside (length names) (imports names declared) name))

-- ---- operands

far_base : (b : Base) (z : ℤ) → IsExternal b → far_valued (Ok (record { base = b; offset = z })) ≡ None
far_base Absolute z h = absurd h
far_base (Section n) z h = absurd h
far_base (Loaded n) z h = absurd h
far_base (External n) z h = refl

far_alike : (r q : Result Value ValueFault) → Alike r q → far_valued r ≡ far_valued q
far_alike r q (inl e) = ap far_valued e
far_alike r (Ok w) (inr h) = absurd h.1
far_alike (Ok v) (Err f) (inr h) = far_base v.base v.offset h.0
far_alike (Err g) (Err f) (inr h) = refl

direct_same : (names : Definitions) (declared : List (List ℕ)) (section offset : ℕ) (f : Field) (e : Tree) → far_direct (table_at (names_with names declared) section offset) f e ≡ far_direct (table_at names section offset) f e
direct_same names declared section offset field.Low7 e =
    let all = table_at (names_with names declared) section offset in
    let own = table_at names section offset in
    far_alike (value_of (value_named all) own.here e) (value_of (value_named own) own.here e) (values_alike (value_named all) (value_named own) own.here (all_alike names declared own.here) e)
direct_same names declared section offset f e = refl

from_same : (names : Definitions) (declared : List (List ℕ)) (number : ℕ) (l : SourceLine) (f : Form) (k : ℕ) (es : List Tree) → operands_from (table_at (names_with names declared) l.section l.offset) number l f k es ≡ operands_from (table_at names l.section l.offset) number l f k es
from_same names declared number l f k [] = refl
from_same names declared number l f k (e ∷ es) =
    ap₂ (λ (o : Option ℕ) (rest : List AbsoluteOperand). operand_at number l o ++ rest) (direct_same names declared l.section l.offset (form_field f k) e) (from_same names declared number l f (k + 1) es)

act_same : (names : Definitions) (declared : List (List ℕ)) (number : ℕ) (l : SourceLine) (a : AssemblyAct) → act_operands (names_with names declared) number l a ≡ act_operands names number l a
act_same names declared number l (Put (target.Instruction f) trees) = from_same names declared number l f 0 trees
act_same names declared number l a = refl

statement_same : (names : Definitions) (declared : List (List ℕ)) (number : ℕ) (l : SourceLine) (r : Result Statement FaultKind) → statement_operands (names_with names declared) number l r ≡ statement_operands names number l r
statement_same names declared number l (Ok s) = act_same names declared number l s.act
statement_same names declared number l (Err f) = refl

line_same : (names : Definitions) (declared : List (List ℕ)) (number : ℕ) (l : SourceLine) → line_operands (names_with names declared) number l ≡ line_operands names number l
unfolding line_operands
line_same names declared number l = ap (λ (os : List AbsoluteOperand). if nat_lt 65535 l.offset then [] else os) (statement_same names declared number l (read_statement l.text))

-- the absolute operands of lines are the same under all names and under those that the module defines
pub lines_same : (names : Definitions) (declared : List (List ℕ)) (number : ℕ) (ls : List SourceLine) → flat_map (line_operands (names_with names declared) number) ls ≡ flat_map (line_operands names number) ls
lines_same names declared number [] = refl
lines_same names declared number (l ∷ ls) = ap₂ (λ (a b : List AbsoluteOperand). a ++ b) (line_same names declared number l) (lines_same names declared number ls)
