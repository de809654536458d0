-- The operands of an instruction: its forms take what is wanted, and a refusal is that of an operand.
use Rattle.std.proofs.Common.{◌≡◌, ℕ, ◌+◌, ◌<◌, Bool, true, false, not, cond, eqb, ltb, ◌||◌, ◌&&◌, List, [], ◌∷◌, map, length, Some, Result, Ok, Err, refl, ap, subst, ◌∙◌, arith}
use Rattle.std.specs.Prelude.{IsSome, IsNone}
use Rattle.std.specs.List.{list_all}
use Rattle.std.proofs.lemmas.Bool.{ne_eqb, lt-ltb, or_right, and_parts, false≢true}
use Rattle.c25_meaning_common.specs.Results.{◌>>=◌}
use Rattle.c25_meaning_instructions.specs.declared.insn.Change.{Change}
use Rattle.c25_meaning_instructions.specs.declared.mnemonic.JumpName.{JumpName}
use Rattle.c25_meaning_instructions.specs.declared.mnemonic.Mnemonic.{Mnemonic}
use Rattle.c25_meaning_instructions.specs.declared.mnemonic.Mnemonic.TheVariants as family
use Rattle.c25_meaning_instructions.specs.declared.mnemonic.PlainName.{PlainName}
use Rattle.c25_meaning_instructions.specs.declared.mnemonic.PlainName.TheVariants as plain
use Rattle.c25_meaning_instructions.specs.declared.mnemonic.Spelling.{Spelling}
use Rattle.c25_meaning_instructions.specs.declared.mnemonic.Spelling.TheVariants as spelling
use Rattle.c25_meaning_language.specs.Forms.{addr_written, change_written, expressions, form_of, formed, is_expression, jump_change, jumping, memory, more_behind, norm, plain_change, row_form}
use Rattle.c25_meaning_language.specs.Line.{Piece}
use Rattle.c25_meaning_language.specs.Operands.{written_of}
use Rattle.c25_meaning_language.specs.declared.statement.FaultKind.{FaultKind}
use Rattle.c25_meaning_language.specs.declared.statement.FaultKind.TheVariants as fault
use Rattle.c25_meaning_language.specs.declared.statement.Form.{Form}
use Rattle.c25_meaning_language.specs.declared.statement.Written.{Written}
use Rattle.c25_meaning_language.specs.declared.statement.Written.TheVariants as written
use Rattle.c25_places.specs.Refused.{first_refused}
use Rattle.c25_places.specs.Wanted.{has_fault, is_indirect, is_quoted, only_at, plain_wants, row_wants, spelling_wants, suits, takes_expression, wants}
use Rattle.c25_places.specs.declared.wanted.Operation.{Operation}
use Rattle.c25_places.specs.declared.wanted.Operation.TheVariants.{Runs}
use Rattle.c25_places.specs.declared.wanted.Wanted.{Wanted}
use Rattle.c25_places.specs.declared.wanted.Wanted.TheVariants as wanted

-- ---- operands by what they are written as

-- whether what is written suits, where an expression or an indirect form is wanted
abbrev pub fits : Wanted → Written → Bool
fits wanted.Expression w = is_expression w
fits wanted.Memory w = not (is_quoted w)
fits wanted.Change w = is_indirect w
fits _ w = false

-- whether it is an expression or an indirect form that is wanted
abbrev pub is_written : Wanted → Bool
is_written wanted.Expression = true
is_written wanted.Memory = true
is_written wanted.Change = true
is_written _ = false

abbrev pub all_fit : (ℕ → Wanted) → ℕ → List Written → Bool
all_fit what k [] = true
all_fit what k (w ∷ ws) = fits (what k) w && all_fit what (k + 1) ws

-- a result agrees with whether the operands suit
abbrev pub Agrees : {A : Type 0} → Bool → Result A FaultKind → Type 0
Agrees b (Ok x) = b ≡ true
Agrees b (Err fault.OperandForm) = b ≡ false
Agrees b (Err fault.OperandCount) = Unit {0}
Agrees b (Err _) = ⊥

agrees_formed : {A : Type 0} (b : Bool) (x : A) → Agrees b (formed b x)
agrees_formed true x = refl
agrees_formed false x = refl

agrees_mapped : {A B : Type 0} (b : Bool) (g : A → B) (r : Result A FaultKind) → Agrees b r → Agrees b (r >>= λ a. Ok (g a))
agrees_mapped b g (Ok x) h = h
agrees_mapped b g (Err fault.OperandForm) h = h
agrees_mapped b g (Err fault.OperandCount) h = tt
agrees_mapped b g (Err _) h = absurd h

-- a count that is refused says nothing of the operands
abbrev checked : Bool → Result (Unit {0}) FaultKind
checked c = cond c (Err fault.OperandCount) (Ok tt)

agrees_counted : {A : Type 0} (b c : Bool) (r : Result A FaultKind) → Agrees b r → Agrees b (checked c >>= λ _. r)
agrees_counted b true r h = tt
agrees_counted b false r h = h

-- after the index at which something else is wanted, expressions are wanted
all_past : (place : ℕ) (what : Wanted) (k : ℕ) (ws : List Written) → place < k → all_fit (only_at place what) k ws ≡ list_all is_expression ws
all_past place what k [] l = refl
all_past place what k (w ∷ ws) l =
    let other : eqb k place ≡ false = ne_eqb k place (λ e. omega (arith, l, e)) in
    rw (other, all_past place what (k + 1) ws (omega (arith, l))) refl

all_expressions_fit : (k : ℕ) (ws : List Written) → all_fit (λ _. wanted.Expression) k ws ≡ list_all is_expression ws
all_expressions_fit k [] = refl
all_expressions_fit k (w ∷ ws) = ap (λ b. is_expression w && b) (all_expressions_fit (k + 1) ws)

-- ---- the forms

agrees_expressions : (low high : ℕ) (ws : List Written) → Agrees (all_fit (λ _. wanted.Expression) 0 ws) (expressions low high ws)
unfolding expressions
agrees_expressions low high ws =
    rw (all_expressions_fit 0 ws)
    (agrees_counted (list_all is_expression ws) (ltb (length ws) low || ltb high (length ws)) (formed (list_all is_expression ws) tt) (agrees_formed (list_all is_expression ws) tt))

agrees_addr : (w : Written) (b : Bool) → Agrees (not (is_quoted w) && b) (addr_written (Some w) >>= λ a. formed b a)
agrees_addr written.Expression b = agrees_formed b _
agrees_addr (written.Indirect c) b = agrees_formed b _
agrees_addr written.Quoted b = refl

agrees_first : (low high : ℕ) (ws : List Written) → 0 < low → Agrees (all_fit (only_at 0 wanted.Memory) 0 ws) (memory 0 low high ws)
unfolding memory
agrees_first low high [] l = rw (lt-ltb 0 low l) tt
agrees_first low high (w ∷ ws) l =
    rw (all_past 0 wanted.Memory 1 ws (omega arith))
    (agrees_counted (not (is_quoted w) && list_all is_expression ws) (ltb (length (w ∷ ws)) low || ltb (high + more_behind (Some w)) (length (w ∷ ws))) _ (agrees_addr w (list_all is_expression ws)))

and_swap : (a b c : Bool) → (b && (a && c)) ≡ (a && (b && c))
and_swap true b c = refl
and_swap false true c = refl
and_swap false false c = refl

agrees_second : (high : ℕ) (ws : List Written) → Agrees (all_fit (only_at 1 wanted.Memory) 0 ws) (memory 1 2 high ws)
unfolding memory
agrees_second high [] = tt
agrees_second high (v ∷ []) = tt
agrees_second high (v ∷ w ∷ ws) =
    rw (all_past 1 wanted.Memory 2 ws (omega arith), and_swap (not (is_quoted w)) (is_expression v) (list_all is_expression ws))
    (agrees_counted (not (is_quoted w) && (is_expression v && list_all is_expression ws)) (ltb (length (v ∷ w ∷ ws)) 2 || ltb (high + more_behind (Some w)) (length (v ∷ w ∷ ws))) _ (agrees_addr w (is_expression v && list_all is_expression ws)))

agrees_change : (default : Change) (w : Written) (b : Bool) → Agrees (is_indirect w && b) (change_written default (Some w) >>= λ a. formed b a)
agrees_change default written.Expression b = refl
agrees_change default (written.Indirect c) b = agrees_formed b _
agrees_change default written.Quoted b = refl

agrees_jump : (name : JumpName) (ws : List Written) → Agrees (all_fit (only_at 1 wanted.Change) 0 ws) (jumping name ws)
unfolding jumping
agrees_jump name [] = tt
agrees_jump name (v ∷ []) = agrees_formed (is_expression v && true) (jump_change name)
agrees_jump name (v ∷ w ∷ ws) =
    rw (all_past 1 wanted.Change 2 ws (omega arith), and_swap (is_indirect w) (is_expression v) (list_all is_expression ws))
    (agrees_counted (is_indirect w && (is_expression v && list_all is_expression ws)) (ltb (length (v ∷ w ∷ ws)) 1 || ltb (2 + more_behind (Some w)) (length (v ∷ w ∷ ws))) _ (agrees_change (jump_change name) w (is_expression v && list_all is_expression ws)))

agrees_norm : (ws : List Written) → Agrees (all_fit (only_at 0 wanted.Change) 0 ws) (norm ws)
unfolding norm
agrees_norm [] = refl
agrees_norm (written.Expression ∷ []) = refl
agrees_norm (written.Indirect c ∷ []) = refl
agrees_norm (written.Quoted ∷ []) = refl
agrees_norm (v ∷ w ∷ ws) = rw (or_right (ltb (length (v ∷ w ∷ ws)) 0) (ltb 1 (length (v ∷ w ∷ ws))) (lt-ltb 1 (length (v ∷ w ∷ ws)) (omega arith))) tt

agrees_plain : (name : PlainName) (ws : List Written) → Agrees (all_fit (plain_wants name) 0 ws) (plain_change name ws)
agrees_plain plain.Norm ws = agrees_norm ws
agrees_plain plain.Spm ws = agrees_mapped _ _ (expressions 1 1 ws) (agrees_expressions 1 1 ws)
agrees_plain plain.Fort ws = agrees_mapped _ _ (expressions 1 1 ws) (agrees_expressions 1 1 ws)
agrees_plain plain.Cmpr ws = agrees_mapped _ _ (expressions 1 1 ws) (agrees_expressions 1 1 ws)
agrees_plain _ ws = agrees_mapped _ _ (expressions 0 0 ws) (agrees_expressions 0 0 ws)

agrees_row : (m : Mnemonic) (ws : List Written) → Agrees (all_fit (row_wants m) 0 ws) (row_form m ws)
agrees_row (family.Mem name) ws = agrees_mapped _ _ (memory 0 1 1 ws) (agrees_first 1 1 ws (omega arith))
agrees_row (family.Shifted name) ws = agrees_mapped _ _ (memory 0 1 2 ws) (agrees_first 1 2 ws (omega arith))
agrees_row (family.ArMem name) ws = agrees_mapped _ _ (memory 1 2 2 ws) (agrees_second 2 ws)
agrees_row (family.Port name) ws = agrees_mapped _ _ (memory 0 2 2 ws) (agrees_first 2 2 ws (omega arith))
agrees_row (family.Bit name) ws = agrees_mapped _ _ (memory 0 2 2 ws) (agrees_first 2 2 ws (omega arith))
agrees_row (family.Short name) ws = agrees_mapped _ _ (expressions _ _ ws) (agrees_expressions _ _ ws)
agrees_row (family.Long name) ws = agrees_mapped _ _ (expressions _ 2 ws) (agrees_expressions _ 2 ws)
agrees_row (family.LongMem name) ws = agrees_mapped _ _ (memory 1 2 2 ws) (agrees_second 2 ws)
agrees_row (family.Jump name) ws = agrees_mapped _ _ (jumping name ws) (agrees_jump name ws)
agrees_row (family.Plain name) ws = agrees_mapped _ _ (plain_change name ws) (agrees_plain name ws)

pub agrees : (s : Spelling) (ws : List Written) → Agrees (all_fit (spelling_wants s) 0 ws) (form_of s ws)
agrees (spelling.Row m) ws = agrees_row m ws
agrees spelling.Zac ws = agrees_mapped _ _ (expressions 0 0 ws) (agrees_expressions 0 0 ws)
agrees spelling.Nop ws = agrees_mapped _ _ (expressions 0 0 ws) (agrees_expressions 0 0 ws)
agrees spelling.Larp ws = agrees_mapped _ _ (expressions 1 1 ws) (agrees_expressions 1 1 ws)

-- ---- the first operand that is refused

pub skip_some : (kind : FaultKind) (op : Operation) (k : ℕ) (o : List Piece) (os : List (List Piece)) → IsSome (first_refused kind op (k + 1) os) → IsSome (first_refused kind op k (o ∷ os))
unfolding first_refused
skip_some kind op k o os h = by (has_fault kind (wants op k) o)
  where
    by : (b : Bool) → IsSome (cond b (Some (let q : ℕ × List Piece = (k, o) in q)) (first_refused kind op (k + 1) os))
    by true = refl
    by false = h

pub here_some : (kind : FaultKind) (op : Operation) (k : ℕ) (o : List Piece) (os : List (List Piece)) → has_fault kind (wants op k) o ≡ true → IsSome (first_refused kind op k (o ∷ os))
unfolding first_refused
here_some kind op k o os h = rw h refl

-- one that is not what it has to be
pub form_some : (op : Operation) (k : ℕ) (o : List Piece) (os : List (List Piece)) → suits (wants op k) o ≡ false → IsSome (first_refused fault.OperandForm op k (o ∷ os))
unfolding has_fault
form_some op k o os h = here_some fault.OperandForm op k o os (rw h refl)

suits_fit : (what : Wanted) (o : List Piece) → is_written what ≡ true → suits what o ≡ fits what (written_of o)
suits_fit wanted.Expression o h = refl
suits_fit wanted.Memory o h = refl
suits_fit wanted.Change o h = refl
suits_fit wanted.Name o h = absurd (false≢true h)
suits_fit wanted.Text o h = absurd (false≢true h)
suits_fit wanted.Section o h = absurd (false≢true h)

only_written : (place : ℕ) (what : Wanted) (k : ℕ) → is_written what ≡ true → is_written (only_at place what k) ≡ true
only_written place what k h = by (eqb k place)
  where
    by : (b : Bool) → is_written (cond b what wanted.Expression) ≡ true
    by true = h
    by false = refl

plain_written : (name : PlainName) (k : ℕ) → is_written (plain_wants name k) ≡ true
plain_written plain.Norm k = only_written 0 wanted.Change k refl
plain_written _ k = refl

row_written : (m : Mnemonic) (k : ℕ) → is_written (row_wants m k) ≡ true
row_written (family.Mem name) k = only_written 0 wanted.Memory k refl
row_written (family.Shifted name) k = only_written 0 wanted.Memory k refl
row_written (family.ArMem name) k = only_written 1 wanted.Memory k refl
row_written (family.Port name) k = only_written 0 wanted.Memory k refl
row_written (family.Bit name) k = only_written 0 wanted.Memory k refl
row_written (family.Short name) k = refl
row_written (family.Long name) k = refl
row_written (family.LongMem name) k = only_written 1 wanted.Memory k refl
row_written (family.Jump name) k = only_written 1 wanted.Change k refl
row_written (family.Plain name) k = plain_written name k

spelling_written : (s : Spelling) (k : ℕ) → is_written (spelling_wants s k) ≡ true
spelling_written (spelling.Row m) k = row_written m k
spelling_written spelling.Zac k = refl
spelling_written spelling.Nop k = refl
spelling_written spelling.Larp k = refl

pub not_fit : (s : Spelling) (k : ℕ) (os : List (List Piece)) → all_fit (spelling_wants s) k (map written_of os) ≡ false → IsSome (first_refused fault.OperandForm (Runs s) k os)
not_fit s k [] h = absurd (cc)
not_fit s k (o ∷ os) h = by (fits (spelling_wants s k) (written_of o)) (suits_fit (spelling_wants s k) o (spelling_written s k)) (not_fit s (k + 1) os) h
  where
    by : (b : Bool) → suits (spelling_wants s k) o ≡ b → (all_fit (spelling_wants s) (k + 1) (map written_of os) ≡ false → IsSome (first_refused fault.OperandForm (Runs s) (k + 1) os))
        → (b && all_fit (spelling_wants s) (k + 1) (map written_of os)) ≡ false → IsSome (first_refused fault.OperandForm (Runs s) k (o ∷ os))
    by true e more h = skip_some fault.OperandForm (Runs s) k o os (more h)
    by false e more h = form_some (Runs s) k o os e

all_fit_none : (s : Spelling) (k : ℕ) (os : List (List Piece)) → all_fit (spelling_wants s) k (map written_of os) ≡ true → IsNone (first_refused fault.OperandForm (Runs s) k os)
unfolding first_refused has_fault
all_fit_none s k [] h = refl
all_fit_none s k (o ∷ os) h =
    let both = and_parts (fits (spelling_wants s k) (written_of o)) (all_fit (spelling_wants s) (k + 1) (map written_of os)) h in
    let e : suits (spelling_wants s k) o ≡ true = suits_fit (spelling_wants s k) o (spelling_written s k) ∙ both.0 in
    rw e (all_fit_none s (k + 1) os both.1)

-- the two laws of forms
taken_by : {A : Type 0} (b : Bool) (r : Result A FaultKind) (x : A) → Agrees b r → r ≡ Ok x → b ≡ true
taken_by {A = X} b r x h e = subst (λ (s : Result X FaultKind). Agrees b s) e h

refused_by : {A : Type 0} (b : Bool) (r : Result A FaultKind) → Agrees b r → r ≡ Err fault.OperandForm → b ≡ false
refused_by {A = X} b r h e = subst (λ (s : Result X FaultKind). Agrees b s) e h

pub form_taken : (s : Spelling) (os : List (List Piece)) (f : Form) → form_of s (map written_of os) ≡ Ok f → IsNone (first_refused fault.OperandForm (Runs s) 0 os)
form_taken s os f h = all_fit_none s 0 os (taken_by _ (form_of s (map written_of os)) f (agrees s (map written_of os)) h)

pub form_refused : (s : Spelling) (os : List (List Piece)) → form_of s (map written_of os) ≡ Err fault.OperandForm → IsSome (first_refused fault.OperandForm (Runs s) 0 os)
form_refused s os h = not_fit s 0 os (refused_by _ (form_of s (map written_of os)) (agrees s (map written_of os)) h)

-- ---- which operands may be expressions

-- each operand that is written as an expression may be one
abbrev pub AllTake : Operation → ℕ → List (List Piece) → Type 0
AllTake op k [] = Unit {0}
AllTake op k (o ∷ os) = (is_expression (written_of o) ≡ true → takes_expression (wants op k) ≡ true) × AllTake op (k + 1) os

take_one : (what : Wanted) (w : Written) → fits what w ≡ true → is_expression w ≡ true → takes_expression what ≡ true
take_one wanted.Expression w h e = refl
take_one wanted.Memory w h e = refl
take_one wanted.Change written.Expression h e = absurd (false≢true h)
take_one wanted.Change (written.Indirect c) h e = absurd (false≢true e)
take_one wanted.Change written.Quoted h e = absurd (false≢true e)
take_one wanted.Name w h e = absurd (false≢true h)
take_one wanted.Text w h e = absurd (false≢true h)
take_one wanted.Section w h e = absurd (false≢true h)

pub all_take : (s : Spelling) (k : ℕ) (os : List (List Piece)) → all_fit (spelling_wants s) k (map written_of os) ≡ true → AllTake (Runs s) k os
all_take s k [] h = tt
all_take s k (o ∷ os) h =
    let both = and_parts (fits (spelling_wants s k) (written_of o)) (all_fit (spelling_wants s) (k + 1) (map written_of os)) h in
    (take_one (spelling_wants s k) (written_of o) both.0, all_take s (k + 1) os both.1)
