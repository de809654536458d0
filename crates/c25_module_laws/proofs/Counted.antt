-- An instruction is written with no more expressions than it has fields.
use Rattle.std.proofs.Common.{◌≡◌, ℕ, zero, suc, ◌+◌, ◌≤◌, Bool, true, false, cond, ◌||◌, ltb, List, [], ◌∷◌, ◌++◌, length, map, Option, Some, None, Result, Ok, Err, refl, ap, subst, arith}
use Rattle.std.specs.List.{slice_get, list_all}
use Rattle.std.proofs.lemmas.Bool.Decides.{nat_tests}
use Rattle.std.proofs.lemmas.List.{length-append}
use Rattle.c25_meaning_language.specs.Forms.{is_expression, counted, others, more_behind, addr_written, formed, memory, expressions, change_written, jump_change, jumping, short_count, long_least, plain_change, row_form, form_of}
use Rattle.c25_meaning_language.specs.Line.{Piece}
use Rattle.c25_meaning_language.specs.Operands.{written_of}
use Rattle.c25_meaning_language.specs.Reading.{tree_in}
use Rattle.c25_meaning_common.specs.Results.{◌>>=◌, fold_ok}
use Rattle.c25_meaning_assembly.specs.StatementLine.{Operation, Trees, no_trees, with_tree, with_operand, all_trees, trees_in, operation_of}
use Rattle.c25_meaning_language.specs.Tree.{Tree, mark_of}
use Rattle.c25_meaning_assembly.specs.declared.assembly.Target.{Target}
use Rattle.c25_meaning_assembly.specs.declared.assembly.Target.TheVariants as target
use Rattle.c25_meaning_language.specs.declared.expression.ExpressionFault.{ExpressionFault}
use Rattle.c25_meaning_language.specs.declared.expression.ExpressionFault.TheVariants as expression
use Rattle.c25_meaning_instructions.specs.declared.insn.Change.{Change}
use Rattle.c25_meaning_instructions.specs.declared.mnemonic.Mnemonic.{Mnemonic}
use Rattle.c25_meaning_instructions.specs.declared.mnemonic.Mnemonic.TheVariants as family
use Rattle.c25_meaning_instructions.specs.declared.mnemonic.Spelling.{Spelling}
use Rattle.c25_meaning_instructions.specs.declared.mnemonic.Spelling.TheVariants as spelling
use Rattle.c25_meaning_language.specs.declared.statement.AddrForm.{AddrForm}
use Rattle.c25_meaning_language.specs.declared.statement.FaultKind.{FaultKind}
use Rattle.c25_meaning_language.specs.declared.statement.FaultKind.TheVariants as fault
use Rattle.c25_meaning_language.specs.declared.statement.Form.{Form}
use Rattle.c25_meaning_language.specs.declared.statement.Form.TheVariants as form
use Rattle.c25_meaning_language.specs.declared.statement.Written.{Written}
use Rattle.c25_meaning_language.specs.declared.statement.Written.TheVariants as written
use Rattle.c25_module_laws.proofs.ResultSteps.{bound}

-- so many expressions are no more than a form has fields; that of a plain instruction takes no address
abbrev pub FitForm : Form → ℕ → Type 0
FitForm (form.Mem name a) n = n ≤ 1
FitForm (form.Shifted name a) n = n ≤ 2
FitForm (form.ArMem name a) n = n ≤ 2
FitForm (form.Port name a) n = n ≤ 2
FitForm (form.Bit name a) n = n ≤ 2
FitForm (form.Short name) n = n ≤ short_count name
FitForm (form.Long name) n = n ≤ 2
FitForm (form.LongMem name a) n = n ≤ 2
FitForm (form.Jump name change) n = n ≤ 2
FitForm (form.Plain name change) n = Unit {0}

-- so many expressions are no more than a line has fields
abbrev pub IsCount : Target → ℕ → Type 0
IsCount (target.Instruction f) n = FitForm f n
IsCount (target.Data w) n = Unit {0}

-- ---- expressions among operands

one_if : Bool → ℕ
one_if b = cond b 1 0

count : List Written → ℕ
count [] = 0
count (w ∷ ws) = one_if (is_expression w) + count ws

one_at_most : (b : Bool) → one_if b ≤ 1
unfolding one_if
one_at_most true = omega arith
one_at_most false = omega arith

count_within : (ws : List Written) → count ws ≤ length ws
unfolding count
count_within [] = omega arith
count_within (w ∷ ws) = omega (arith, count_within ws, one_at_most (is_expression w))

beside_indirect : (ws : List Written) (at : ℕ) (c : Change) → slice_get ws at ≡ Some (written.Indirect c) → count ws + 1 ≤ length ws
unfolding count one_if
beside_indirect [] at c h = absurd (cc)
beside_indirect (w ∷ ws) zero c h =
    let q : w ≡ written.Indirect c = cc in
    let none : one_if (is_expression w) ≡ 0 = ap (λ x. one_if (is_expression x)) q in
    omega (arith, none, count_within ws)
beside_indirect (w ∷ ws) (suc at) c h = omega (arith, beside_indirect ws at c h, one_at_most (is_expression w))

few_behind : (ws : List Written) (at high : ℕ) → length ws ≤ high + more_behind (slice_get ws at) → count ws ≤ high
few_behind ws at high h = on (slice_get ws at) refl h
  where
    on : (o : Option Written) → slice_get ws at ≡ o → length ws ≤ high + more_behind o → count ws ≤ high
    on None is h = omega (arith, count_within ws, h)
    on (Some (written.Indirect c)) is h = omega (arith, beside_indirect ws at c is, h)
    on (Some written.Expression) is h = omega (arith, count_within ws, h)
    on (Some written.Quoted) is h = omega (arith, count_within ws, h)

few_counted : (low high : ℕ) (ws : List Written) (u : Unit {0}) → counted low high ws ≡ Ok u → length ws ≤ high
few_counted low high ws u h = on (ltb (length ws) low) (ltb high (length ws)) refl h
  where
    on : (a b : Bool) → ltb high (length ws) ≡ b → cond (a || b) (Err fault.OperandCount) (Ok tt) ≡ Ok u → length ws ≤ high
    on true b is h = absurd (cc)
    on false true is h = absurd (cc)
    on false false is h = grind (arith, nat_tests)

few_memory : (at low high : ℕ) (ws : List Written) (a : AddrForm) → memory at low high ws ≡ Ok a → count ws ≤ high
unfolding memory
few_memory at low high ws a h =
    let c = bound (counted low (high + more_behind (slice_get ws at)) ws) (λ _. addr_written (slice_get ws at) >>= λ a. formed (others at ws) a) a h in
    few_behind ws at high (few_counted low (high + more_behind (slice_get ws at)) ws c.0 c.1)

few_expressions : (low high : ℕ) (ws : List Written) (u : Unit {0}) → expressions low high ws ≡ Ok u → count ws ≤ high
unfolding expressions
few_expressions low high ws u h =
    let c = bound (counted low high ws) (λ _. formed (list_all is_expression ws) tt) u h in
    omega (arith, count_within ws, few_counted low high ws c.0 c.1)

few_jumping : (name : _) (ws : List Written) (c : Change) → jumping name ws ≡ Ok c → count ws ≤ 2
unfolding jumping
few_jumping name ws c h =
    let b = bound (counted 1 (2 + more_behind (slice_get ws 1)) ws) (λ _. change_written (jump_change name) (slice_get ws 1) >>= λ c. formed (others 1 ws) c) c h in
    few_behind ws 1 2 (few_counted 1 (2 + more_behind (slice_get ws 1)) ws b.0 b.1)

-- ---- forms

at_form : (f g : Form) (n : ℕ) → ◌≡◌ {A = Result Form FaultKind} (Ok f) (Ok g) → FitForm f n → FitForm g n
at_form f g n e h = let q : f ≡ g = cc in subst (λ x. FitForm x n) q h

row_counted : (m : Mnemonic) (ws : List Written) (f : Form) → row_form m ws ≡ Ok f → FitForm f (count ws)
row_counted (family.Mem name) ws f h = let b = bound (memory 0 1 1 ws) (λ a. Ok (form.Mem name a)) f h in at_form (form.Mem name b.0) f _ b.2 (few_memory 0 1 1 ws b.0 b.1)
row_counted (family.Shifted name) ws f h = let b = bound (memory 0 1 2 ws) (λ a. Ok (form.Shifted name a)) f h in at_form (form.Shifted name b.0) f _ b.2 (few_memory 0 1 2 ws b.0 b.1)
row_counted (family.ArMem name) ws f h = let b = bound (memory 1 2 2 ws) (λ a. Ok (form.ArMem name a)) f h in at_form (form.ArMem name b.0) f _ b.2 (few_memory 1 2 2 ws b.0 b.1)
row_counted (family.Port name) ws f h = let b = bound (memory 0 2 2 ws) (λ a. Ok (form.Port name a)) f h in at_form (form.Port name b.0) f _ b.2 (few_memory 0 2 2 ws b.0 b.1)
row_counted (family.Bit name) ws f h = let b = bound (memory 0 2 2 ws) (λ a. Ok (form.Bit name a)) f h in at_form (form.Bit name b.0) f _ b.2 (few_memory 0 2 2 ws b.0 b.1)
row_counted (family.Short name) ws f h = let b = bound (expressions (short_count name) (short_count name) ws) (λ _. Ok (form.Short name)) f h in at_form (form.Short name) f _ b.2 (few_expressions (short_count name) (short_count name) ws b.0 b.1)
row_counted (family.Long name) ws f h = let b = bound (expressions (long_least name) 2 ws) (λ _. Ok (form.Long name)) f h in at_form (form.Long name) f _ b.2 (few_expressions (long_least name) 2 ws b.0 b.1)
row_counted (family.LongMem name) ws f h = let b = bound (memory 1 2 2 ws) (λ a. Ok (form.LongMem name a)) f h in at_form (form.LongMem name b.0) f _ b.2 (few_memory 1 2 2 ws b.0 b.1)
row_counted (family.Jump name) ws f h = let b = bound (jumping name ws) (λ c. Ok (form.Jump name c)) f h in at_form (form.Jump name b.0) f _ b.2 (few_jumping name ws b.0 b.1)
row_counted (family.Plain name) ws f h = let b = bound (plain_change name ws) (λ c. Ok (form.Plain name c)) f h in at_form (form.Plain name b.0) f _ b.2 tt

form_counted : (s : Spelling) (ws : List Written) (f : Form) → form_of s ws ≡ Ok f → FitForm f (count ws)
form_counted (spelling.Row m) ws f h = row_counted m ws f h
form_counted spelling.Zac ws f h = let b = bound (expressions 0 0 ws) _ f h in let few = few_expressions 0 0 ws b.0 b.1 in at_form _ f _ b.2 (omega (arith, few))
form_counted spelling.Nop ws f h = let b = bound (expressions 0 0 ws) _ f h in let few = few_expressions 0 0 ws b.0 b.1 in at_form _ f _ b.2 (omega (arith, few))
form_counted spelling.Larp ws f h = let b = bound (expressions 1 1 ws) _ f h in at_form _ f _ b.2 (few_expressions 1 1 ws b.0 b.1)

-- ---- trees

tree_more : (s new : Trees) (r : Result Tree ExpressionFault) → with_tree s r ≡ Ok new → length new.trees ≤ length s.trees + 1
tree_more s new (Ok e) h =
    let made : Trees = record s { trees = s.trees ++ e ∷ [] } in
    let q : made ≡ new = cc in
    omega (arith, ap (λ (x : Trees). length x.trees) q, length-append s.trees (e ∷ []))
tree_more s new (Err expression.TooDeep) h =
    let made : Trees = record s { deep = true } in
    let q : made ≡ new = cc in
    omega (arith, ap (λ (x : Trees). length x.trees) q)
tree_more s new (Err expression.BadExpression) h = absurd (cc)

operand_more : (s new : Trees) (ps : List Piece) → with_operand s ps ≡ Ok new → length new.trees ≤ length s.trees + one_if (is_expression (written_of ps))
unfolding with_operand one_if
operand_more s new ps h = on (is_expression (written_of ps)) h
  where
    on : (b : Bool) → cond b (with_tree s (tree_in (map mark_of ps))) (Ok s) ≡ Ok new → length new.trees ≤ length s.trees + cond b 1 0
    on true h = tree_more s new (tree_in (map mark_of ps)) h
    on false h = let q : s ≡ new = cc in omega (arith, ap (λ (x : Trees). length x.trees) q)

trees_more : (os : List (List Piece)) (s new : Trees) → fold_ok with_operand s os ≡ Ok new → length new.trees ≤ length s.trees + count (map written_of os)
unfolding count
trees_more [] s new h = let q : s ≡ new = cc in omega (arith, ap (λ (x : Trees). length x.trees) q)
trees_more (o ∷ os) s new h =
    let b = bound (with_operand s o) (λ next. fold_ok with_operand next os) new h in
    omega (arith, operand_more s b.0 o b.1, trees_more os b.0 new b.2)

all_more : (s : Trees) (es : List Tree) → all_trees s ≡ Ok es → es ≡ s.trees
all_more s es h = on s.deep h
  where
    on : (b : Bool) → cond b (Err fault.TooDeep) (Ok s.trees) ≡ Ok es → es ≡ s.trees
    on true h = absurd (cc)
    on false h = cc

fewer : (f : Form) (n m : ℕ) → n ≤ m → FitForm f m → FitForm f n
fewer (form.Mem name a) n m le h = omega (arith, h)
fewer (form.Shifted name a) n m le h = omega (arith, h)
fewer (form.ArMem name a) n m le h = omega (arith, h)
fewer (form.Port name a) n m le h = omega (arith, h)
fewer (form.Bit name a) n m le h = omega (arith, h)
fewer (form.Short name) n m le h = omega (arith, h)
fewer (form.Long name) n m le h = omega (arith, h)
fewer (form.LongMem name a) n m le h = omega (arith, h)
fewer (form.Jump name change) n m le h = omega (arith, h)
fewer (form.Plain name change) n m le h = tt

-- an instruction's expressions are as many as its form has room for
pub operation_counted : (s : Spelling) (os : List (List Piece)) (o : Operation) → operation_of s os ≡ Ok o → FitForm o.form (length o.trees)
unfolding operation_of
operation_counted s os o h =
    let a = bound (form_of s (map written_of os)) (λ f. trees_in os >>= λ es. Ok (record { form = f; trees = es })) o h in
    let b = bound (trees_in os) (λ es. Ok (record { form = a.0; trees = es })) o a.2 in
    let c = bound (fold_ok with_operand no_trees os) (λ s. all_trees s) b.0 b.1 in
    let made : Operation = record { form = a.0; trees = b.0 } in
    let q : made ≡ o = let last = b.2 in cc in
    let same : b.0 ≡ c.0.trees = all_more c.0 b.0 c.2 in
    let more : length c.0.trees ≤ 0 + count (map written_of os) = trees_more os no_trees c.0 c.1 in
    let few : length b.0 ≤ count (map written_of os) = omega (arith, ap (λ (x : List Tree). length x) same, more) in
    subst (λ (x : Operation). FitForm x.form (length x.trees)) q (fewer a.0 (length b.0) (count (map written_of os)) few (form_counted s (map written_of os) a.0 a.1))
