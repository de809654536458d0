-- Operands with a name, or a name and a number after it, in place of a number.
use Rattle.std.proofs.Common.{◌≡◌, ℕ, zero, suc, ◌<◌, ◌≤◌, ◌==◌, true, false, List, [], ◌∷◌, ◌++◌, length, nat_le, Option, Some, None, refl, ap, ◌∙◌, arith}
use Rattle.std.specs.Fmt.{decimal}
use Rattle.std.specs.List.{list_all, prefix_len}
use Rattle.std.proofs.lemmas.Bool.{and_parts}
use Rattle.std.proofs.lemmas.Bool.Decides.{nat_tests}
use Rattle.c25_meaning_common.specs.Bytes.{begins_name, goes_on_name, is_blank, is_letter_or_digit}
use Rattle.c25_meaning_language.specs.Lexeme.{lexeme, name_of}
use Rattle.c25_meaning_language.specs.declared.line.TokenKind.TheVariants as kind
use Rattle.c25_meaning_language.specs.declared.line.Lexeme.TheVariants.{Token}
use Rattle.c25_meaning_language.specs.Forms.{memory, expressions, jumping, norm}
use Rattle.c25_meaning_language.specs.Tree.{Tree, Single, Binary, Name}
use Rattle.c25_meaning_language.specs.declared.expression.BinaryOperator.TheVariants as binary
use Rattle.c25_meaning_language.specs.declared.statement.AddrForm.{AddrForm}
use Rattle.c25_meaning_language.specs.declared.statement.AddrForm.TheVariants.{Direct, Indirect}
use Rattle.c25_meaning_language.specs.declared.statement.Form.TheVariants as form
use Rattle.c25_meaning_instructions.specs.declared.insn.Change.{Change}
use Rattle.c25_meaning_instructions.specs.declared.insn.Change.TheVariants as change
use Rattle.c25_meaning_instructions.specs.declared.mnemonic.Mnemonic.TheVariants as family
use Rattle.c25_meaning_instructions.specs.declared.mnemonic.LongName.{LongName}
use Rattle.c25_meaning_instructions.specs.declared.mnemonic.LongName.TheVariants as long
use Rattle.c25_meaning_instructions.specs.declared.mnemonic.LongMemName.{LongMemName}
use Rattle.c25_meaning_instructions.specs.declared.mnemonic.JumpName.{JumpName}
use Rattle.c25_meaning_assembly.specs.StatementLine.{operation_of, with_operand}
use Rattle.c25_print_laws.proofs.Numerals.{all_of, decimal_constant, front_passes}
use Rattle.c25_print_laws.proofs.Operations.{AreOperands, back_trees, front_trees, next_trees}
use Rattle.c25_print_laws.proofs.Tokens.{Word, is_quiet, texts}
use Rattle.c25_print_laws.proofs.Values.{constant_tree}
use Rattle.c25_print_laws.proofs.Words.{changing, comma, constant, name, next, place, plus, tail}
use Rattle.c25_layout.specs.Hints.{is_name}
use Rattle.c25_layout_laws.proofs.Remarked.{IsLexed}

-- ---- names

no_blank : (a : ℕ) → begins_name a ≡ true → is_blank a ≡ false
no_blank a h = grind (arith, nat_tests)

no_comment : (a : ℕ) → begins_name a ≡ true → (a == 59) ≡ false
no_comment a h = grind (arith, nat_tests)

begins_goes_on : (a : ℕ) → begins_name a ≡ true → goes_on_name a ≡ true
begins_goes_on a h = grind (arith, nat_tests)

quiet_name : (b : ℕ) → goes_on_name b ≡ true → is_quiet b ≡ true
quiet_name b h = grind (arith, nat_tests)

few : (n : ℕ) → n ≤ 128 → nat_le n 128 ≡ true
few n h = grind (arith, nat_tests)

-- all bytes of a name go on with one
pub name_bytes : (text : List ℕ) → is_name text ≡ true → list_all goes_on_name text ≡ true
name_bytes [] is = absurd (cc)
name_bytes (a ∷ text) is =
    let parts = and_parts (begins_name a) (list_all goes_on_name text) is in
    rw (begins_goes_on a parts.0) parts.1

first_name : (a : ℕ) (more : List ℕ) → begins_name a ≡ true → lexeme (a ∷ more) ≡ name_of (prefix_len goes_on_name (a ∷ more))
unfolding lexeme
first_name a more begins = rw (no_blank a begins, no_comment a begins, begins) refl

of_length : (n : ℕ) → n ≤ 128 → name_of n ≡ Token kind.Name n
of_length n h = rw (few n h) refl

pub name_lexed : (text : List ℕ) (ws : List Word) → is_name text ≡ true → length text ≤ 128 → prefix_len goes_on_name (texts ws) ≡ 0 → IsLexed ws → IsLexed (name text ∷ ws)
name_lexed [] ws is short ends h = absurd (cc)
name_lexed (a ∷ text) ws is short ends h =
    let all = name_bytes (a ∷ text) is in
    let begins = (and_parts (begins_name a) (list_all goes_on_name text) is).0 in (
      first_name a (text ++ texts ws) begins ∙ ap name_of (front_passes goes_on_name (a ∷ text) (texts ws) all ends) ∙ of_length (length (a ∷ text)) short,
      omega arith,
      all_of goes_on_name is_quiet (a ∷ text) quiet_name all,
      short,
      h,
    )

-- ---- a name, and a number after it

-- the tokens in front of others
abbrev pub target_words : List ℕ → ℕ → List Word → List Word
target_words text zero ws = name text ∷ ws
target_words text (suc after) ws = name text ∷ plus ∷ constant (decimal (suc after)) ∷ ws

-- the tree
abbrev pub target_tree : List ℕ → ℕ → Tree
target_tree text zero = Single (Name text)
target_tree text (suc after) = Binary binary.Add (Single (Name text)) (constant_tree (decimal (suc after)))

plus_lexed : (ws : List Word) → IsLexed ws → IsLexed (plus ∷ ws)
unfolding lexeme
plus_lexed ws h = (refl, omega arith, refl, omega arith, h)

pub target_lexed : (text : List ℕ) (after : ℕ) (ws : List Word) → is_name text ≡ true → length text ≤ 128 → after < 65536 → prefix_len goes_on_name (texts ws) ≡ 0 → prefix_len is_letter_or_digit (texts ws) ≡ 0 → IsLexed ws → IsLexed (target_words text after ws)
target_lexed text zero ws is short small ends digits h = name_lexed text ws is short ends h
target_lexed text (suc after) ws is short small ends digits h =
    let number = decimal_constant (suc after) (omega (arith, small)) in
    let few = number.short in
    name_lexed text (plus ∷ constant (decimal (suc after)) ∷ ws) is short refl
    (plus_lexed (constant (decimal (suc after)) ∷ ws) (number.lexed (texts ws) digits, number.some, number.quiet, omega (arith, few), h))

-- ---- instructions with one

pub long_target : (n : LongName) (text : List ℕ) (after : ℕ) (shift : List ℕ) → (n ≡ long.Lrlk → ⊥) → AreOperands (family.Long n) (target_words text after (comma ∷ constant shift ∷ [])) (form.Long n) (target_tree text after ∷ constant_tree shift ∷ [])
unfolding operation_of with_operand memory expressions jumping norm
long_target long.Lrlk text after shift other at = absurd (other refl)
long_target _ text zero shift other at = refl
long_target _ text (suc after) shift other at = refl

pub lrlk_target : (register text : List ℕ) (after : ℕ) → AreOperands (family.Long long.Lrlk) (name register ∷ comma ∷ target_words text after []) (form.Long long.Lrlk) (Single (Name register) ∷ target_tree text after ∷ [])
unfolding operation_of with_operand memory expressions jumping norm
lrlk_target register text zero at = refl
lrlk_target register text (suc after) at = refl

pub long_mem_target : (n : LongMemName) (f : AddrForm) (low : List ℕ) (o : Option (List ℕ)) (text : List ℕ) (after : ℕ) → AreOperands (family.LongMem n) (target_words text after (comma ∷ place f low (tail f o))) (form.LongMem n f) (target_tree text after ∷ front_trees f low (back_trees f o))
unfolding operation_of with_operand memory expressions jumping norm
long_mem_target n Direct low o text zero at = refl
long_mem_target n (Indirect change.Keep) low None text zero at = refl
long_mem_target n (Indirect _) low None text zero at = refl
long_mem_target n (Indirect change.Keep) low (Some r) text zero at = refl
long_mem_target n (Indirect _) low (Some r) text zero at = refl
long_mem_target n Direct low o text (suc after) at = refl
long_mem_target n (Indirect change.Keep) low None text (suc after) at = refl
long_mem_target n (Indirect _) low None text (suc after) at = refl
long_mem_target n (Indirect change.Keep) low (Some r) text (suc after) at = refl
long_mem_target n (Indirect _) low (Some r) text (suc after) at = refl

pub jump_target : (n : JumpName) (c : Change) (o : Option (List ℕ)) (text : List ℕ) (after : ℕ) → AreOperands (family.Jump n) (target_words text after (comma ∷ changing c (next o))) (form.Jump n c) (target_tree text after ∷ next_trees o)
unfolding operation_of with_operand memory expressions jumping norm
jump_target n change.Keep None text zero at = refl
jump_target n _ None text zero at = refl
jump_target n change.Keep (Some r) text zero at = refl
jump_target n _ (Some r) text zero at = refl
jump_target n change.Keep None text (suc after) at = refl
jump_target n _ None text (suc after) at = refl
jump_target n change.Keep (Some r) text (suc after) at = refl
jump_target n _ (Some r) text (suc after) at = refl
