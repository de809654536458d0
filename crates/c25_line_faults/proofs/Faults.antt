-- Faults of what is read.
use Rattle.std.proofs.Common.{◌≡◌, ◌<◌, ◌≤◌, ◌+◌, ℕ, suc, drop, Bool, true, false, List, [], ◌∷◌, length, get_or, Option, Some, None, Result, Ok, Err, refl, sym, ap, ◌∙◌, arith}
use Rattle.std.specs.Prelude.{nat_lt, if◌then◌else◌, unwrap_or, IfOk}
use denote.Ref.{Bor}
use Rattle.c25_meaning_common.specs.declared.no_memory.NoMemory.{NoMemory}
use Rattle.c25_meaning_language.specs.Forms.{is_expression}
use Rattle.c25_meaning_language.specs.Operands.{operands_of, written_of}
use Rattle.c25_meaning_language.specs.Tree.{Tree}
use Rattle.c25_meaning_expansion.specs.declared.expansion.Directive.{Directive}
use Rattle.c25_text.specs.declared.tokens.Token.{Token}
use Rattle.c25_expr.specs.Pieces.{pieces_of, operands_view}
use Rattle.c25_meaning_common.specs.Results.{◌>>=◌}
use Rattle.c25_meaning_language.specs.Line.{Piece, Parts}
use Rattle.c25_meaning_language.specs.DirectiveOperands.{expression_in, name_in, names_in}
use Rattle.c25_meaning_language.specs.declared.statement.FaultKind.{FaultKind}
use Rattle.c25_meaning_language.specs.declared.statement.FaultKind.TheVariants as fault
use Rattle.c25_meaning_expansion.specs.Acts as acts
use Rattle.std.proofs.lemmas.List.{at_drop_more, length-map}
use Rattle.c25_line_faults.specs.Reading.{fault_of, number_fault}

-- what is made of a value that is read has the value's fault
pub fault_of_more : {A B : Type 0} (r : Result A FaultKind) (g : A → B) → fault_of (r >>= λ a. Ok (g a)) ≡ fault_of r
fault_of_more (Ok x) g = refl
fault_of_more (Err f) g = refl

first_by : (r : Result (List ℕ) FaultKind) (os : List (List Piece)) → fault_of r ≡ None → fault_of (r >>= λ name. names_in os >>= λ names. Ok (name ∷ names)) ≡ fault_of (names_in os)
first_by (Ok name) os h = fault_of_more (names_in os) (λ names. name ∷ names)
first_by (Err f) os h = absurd (let some : Some f ≡ None = h in cc some)

-- names have the fault of the first, or else that of the others
pub first_name : (o : List Piece) (os : List (List Piece)) → fault_of (name_in o) ≡ None → fault_of (names_in (o ∷ os)) ≡ fault_of (names_in os)
first_name o os h = first_by (name_in o) os h

fails_by : (r : Result (List ℕ) FaultKind) (os : List (List Piece)) (f : FaultKind) → fault_of r ≡ Some f → fault_of (r >>= λ name. names_in os >>= λ names. Ok (name ∷ names)) ≡ Some f
fails_by (Ok name) os f h = absurd (let some : None ≡ Some f = h in cc some)
fails_by (Err g) os f h = h

pub first_fails : (o : List Piece) (os : List (List Piece)) (f : FaultKind) → fault_of (name_in o) ≡ Some f → fault_of (names_in (o ∷ os)) ≡ Some f
first_fails o os f h = fails_by (name_in o) os f h

value_of : Result (List (List ℕ)) FaultKind → List (List ℕ)
value_of (Ok names) = names
value_of (Err f) = []

-- there are as many names as operands
counted_by : (r : Result (List ℕ) FaultKind) (rest : Result (List (List ℕ)) FaultKind) (n : ℕ) → ((names : List (List ℕ)) → rest ≡ Ok names → length names ≡ n) → (names : List (List ℕ)) → (r >>= λ name. rest >>= λ more. Ok (name ∷ more)) ≡ Ok names → length names ≡ suc n
unfolding value_of
counted_by (Ok name) (Ok more) n known names h =
    let same : name ∷ more ≡ names = ap value_of h in
    ap (λ (l : List (List ℕ)). length l) (sym same) ∙ ap suc (known more refl)
counted_by (Ok name) (Err f) n known names h = absurd (cc h)
counted_by (Err f) rest n known names h = absurd (cc h)

counted : (os : List (List Piece)) (names : List (List ℕ)) → names_in os ≡ Ok names → length names ≡ length os
unfolding value_of
counted [] names h =
    let same : [] ≡ names = ap value_of h in
    ap (λ (l : List (List ℕ)). length l) (sym same)
counted (o ∷ os) names h = counted_by (name_in o) (names_in os) (length os) (counted os) names h

limited_by : (parts : Parts) (r : Result (List (List ℕ)) FaultKind) (n : ℕ) → ((names : List (List ℕ)) → r ≡ Ok names → length names ≡ n) → fault_of r ≡ None
    → fault_of (r >>= λ names. if nat_lt 32 (length names) then Err fault.TooManyParameters else Ok (acts.Define (unwrap_or parts.label []) names)) ≡ (if nat_lt 32 n then Some fault.TooManyParameters else None)
limited_by parts (Ok names) n known h = rw (known names refl) (told (nat_lt 32 n) names) where
  told : (b : Bool) (names : List (List ℕ)) → fault_of (if b then Err fault.TooManyParameters else Ok (acts.Define (unwrap_or parts.label []) names)) ≡ (if b then Some fault.TooManyParameters else None)
  told true names = refl
  told false names = refl
limited_by parts (Err f) n known h = absurd (let some : Some f ≡ None = h in cc some)

-- parameters that are names have a fault only where there are more than 32
pub limited : (parts : Parts) (os : List (Bor (List Token))) → None ≡ fault_of (names_in (operands_view os)) → number_fault (length os) ≡ fault_of (acts.definition_in parts (operands_view os))
limited parts os h =
    ap number_fault (sym (length-map os (λ o. pieces_of o.now)))
    ∙ sym (limited_by parts (names_in (operands_view os)) (length (operands_view os)) (counted (operands_view os)) (sym h))

-- names up to one that is none
pub some_more : (d : Bor (List Token)) (os : List (Bor (List Token))) (i : ℕ) (f : FaultKind) → i < length os → Some f ≡ fault_of (name_in (pieces_of (get_or os i d).now))
    → fault_of (names_in (operands_view (drop i os))) ≡ fault_of (names_in (operands_view os)) → Some f ≡ fault_of (names_in (operands_view os))
some_more d os i f lt is known =
    sym (first_fails (pieces_of (get_or os i d).now) (operands_view (drop (i + 1) os)) f (sym is))
    ∙ sym (at_drop_more (λ (l : List (Bor (List Token))). fault_of (names_in (operands_view l))) os i d lt) ∙ known

-- names with one more
pub none_more : (d : Bor (List Token)) (os : List (Bor (List Token))) (i : ℕ) → i < length os → None ≡ fault_of (name_in (pieces_of (get_or os i d).now))
    → fault_of (names_in (operands_view (drop i os))) ≡ fault_of (names_in (operands_view os)) → fault_of (names_in (operands_view (drop (i + 1) os))) ≡ fault_of (names_in (operands_view os))
none_more d os i lt is known =
    sym (first_name (pieces_of (get_or os i d).now) (operands_view (drop (i + 1) os)) (sym is))
    ∙ sym (at_drop_more (λ (l : List (Bor (List Token))). fault_of (names_in (operands_view l))) os i d lt) ∙ known

defined_by : (parts : Parts) (r : Result (List (List ℕ)) FaultKind) (f : FaultKind) → fault_of r ≡ Some f
    → fault_of (r >>= λ names. if nat_lt 32 (length names) then Err fault.TooManyParameters else Ok (acts.Define (unwrap_or parts.label []) names)) ≡ Some f
defined_by parts (Ok names) f h = absurd (let some : None ≡ Some f = h in cc some)
defined_by parts (Err g) f h = h

-- parameters of which one is no name have its fault
pub parameter_fails : (parts : Parts) (os : List (List Piece)) (f : FaultKind) → fault_of (names_in os) ≡ Some f → fault_of (acts.definition_in parts os) ≡ Some f
parameter_fails parts os f h = defined_by parts (names_in os) f h

-- a fault that is another one
pub same_fault : (r : Result (Option FaultKind) NoMemory) (a b : Option FaultKind) → b ≡ a → IfOk r (λ f. f ≡ a) → IfOk r (λ f. f ≡ b)
same_fault (Ok f) a b e h = h ∙ sym e
same_fault (Err x) a b e h = tt

pub same_faults : {X : Type 0} (r : Result (Option FaultKind) NoMemory) (a : Option FaultKind) (b : X → Option FaultKind) → ((x : X) → b x ≡ a) → IfOk r (λ f. f ≡ a) → IfOk r (λ f. (x : X) → f ≡ b x)
same_faults (Ok f) a b e h = λ x. h ∙ sym (e x)
same_faults (Err y) a b e h = tt

-- one operand that is to be an expression
pub one_condition : (d : Bor (List Token)) (os : List (Bor (List Token))) → 1 ≤ length os → length os < 2 → (act : Tree → acts.ExpansionAct)
    → fault_of (acts.with_condition act (operands_view os)) ≡ fault_of (expression_in (pieces_of (get_or os 0 d).now))
one_condition d [] h l act = absurd (omega arith)
one_condition d (o ∷ []) h l act = fault_of_more (expression_in (pieces_of o.now)) act
one_condition d (o ∷ p ∷ os) h l act = absurd (omega arith)

pub one_option : (d : Bor (List Token)) (os : List (Bor (List Token))) → 1 ≤ length os → length os < 2 → (act : Option Tree → acts.ExpansionAct)
    → fault_of (acts.with_option act (operands_view os)) ≡ fault_of (expression_in (pieces_of (get_or os 0 d).now))
one_option d [] h l act = absurd (omega arith)
one_option d (o ∷ []) h l act = fault_of_more (expression_in (pieces_of o.now)) (λ e. act (Some e))
one_option d (o ∷ p ∷ os) h l act = absurd (omega arith)

named : (r : Result (List ℕ) FaultKind) (o : List Piece) → fault_of r ≡ None → fault_of (r >>= λ name. expression_in o >>= λ e. Ok (acts.Evaluate e name)) ≡ fault_of (expression_in o)
named (Ok name) o h = fault_of_more (expression_in o) (λ e. acts.Evaluate e name)
named (Err f) o h = absurd (let some : Some f ≡ None = h in cc some)

-- two operands of which the second is a name, and the first is to be an expression
pub evaluated : (o p : List Piece) → is_expression (written_of o) ≡ true → fault_of (name_in p) ≡ None → fault_of (acts.evaluation_in (o ∷ p ∷ [])) ≡ fault_of (expression_in o)
evaluated o p e n =
    ap (λ (b : Bool). fault_of (if b then (name_in p >>= λ name. expression_in o >>= λ e. Ok (acts.Evaluate e name)) else Err fault.OperandForm)) e
    ∙ named (name_in p) o n

-- a line whose parts are read has the fault of its operands
pub ordered : (d : Directive) (text : List ℕ) (parts : Parts) → acts.parts_for d text ≡ Ok parts → fault_of (acts.order_of d text) ≡ fault_of (acts.act_of d text parts (operands_of parts.pieces))
unfolding acts.order_of
ordered d text parts e =
    ap (λ (r : Result Parts FaultKind). fault_of (r >>= λ parts. acts.act_of d text parts (operands_of parts.pieces) >>= λ act. Ok (let o : acts.Order = record { label = acts.label_for d parts.label; act = act } in o))) e
    ∙ fault_of_more (acts.act_of d text parts (operands_of parts.pieces)) (λ act. let o : acts.Order = record { label = acts.label_for d parts.label; act = act } in o)
