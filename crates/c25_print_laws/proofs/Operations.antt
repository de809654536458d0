-- What the operands of each family are read as, whatever their texts are.
use Rattle.std.proofs.Common.{◌≡◌, ℕ, arith, List, [], ◌∷◌, Option, Some, None, Ok, refl}
use Rattle.c25_meaning_language.specs.Operands.{operands_of}
use Rattle.c25_meaning_language.specs.Forms.{short_count, memory, expressions, jumping, norm}
use Rattle.c25_meaning_language.specs.Tree.{Tree, Single, Unary, Name}
use Rattle.c25_meaning_language.specs.declared.expression.UnaryOperator.TheVariants as unary
use Rattle.c25_meaning_language.specs.declared.statement.AddrForm.{AddrForm}
use Rattle.c25_meaning_language.specs.declared.statement.AddrForm.TheVariants.{Direct, Indirect}
use Rattle.c25_meaning_language.specs.declared.statement.Form.{Form}
use Rattle.c25_meaning_language.specs.declared.statement.Form.TheVariants as form
use Rattle.c25_meaning_instructions.specs.declared.insn.Change.{Change}
use Rattle.c25_meaning_instructions.specs.declared.insn.Change.TheVariants as change
use Rattle.c25_meaning_instructions.specs.declared.mnemonic.Mnemonic.{Mnemonic}
use Rattle.c25_meaning_instructions.specs.declared.mnemonic.Mnemonic.TheVariants as family
use Rattle.c25_meaning_instructions.specs.declared.mnemonic.Spelling.TheVariants.{Row}
use Rattle.c25_meaning_instructions.specs.declared.mnemonic.MemName.{MemName}
use Rattle.c25_meaning_instructions.specs.declared.mnemonic.ShiftedName.{ShiftedName}
use Rattle.c25_meaning_instructions.specs.declared.mnemonic.ArMemName.{ArMemName}
use Rattle.c25_meaning_instructions.specs.declared.mnemonic.PortName.{PortName}
use Rattle.c25_meaning_instructions.specs.declared.mnemonic.BitName.{BitName}
use Rattle.c25_meaning_instructions.specs.declared.mnemonic.ShortName.{ShortName}
use Rattle.c25_meaning_instructions.specs.declared.mnemonic.ShortName.TheVariants as short
use Rattle.c25_meaning_instructions.specs.declared.mnemonic.LongName.{LongName}
use Rattle.c25_meaning_instructions.specs.declared.mnemonic.LongName.TheVariants as long
use Rattle.c25_meaning_instructions.specs.declared.mnemonic.LongMemName.{LongMemName}
use Rattle.c25_meaning_instructions.specs.declared.mnemonic.JumpName.{JumpName}
use Rattle.c25_meaning_instructions.specs.declared.mnemonic.PlainName.TheVariants as plain
use Rattle.c25_meaning_assembly.specs.StatementLine.{operation_of, with_operand}
use Rattle.c25_print_laws.proofs.Tokens.{Word, placed}
use Rattle.c25_print_laws.proofs.Values.{constant_tree}
use Rattle.c25_print_laws.proofs.Words.{constant, name, comma, minus, changing, place, next, tail}

-- words are the operands of a row's instruction, with this form and these trees, wherever they stand
abbrev pub AreOperands : Mnemonic → List Word → Form → List Tree → Type 0
AreOperands row ws f es = (at : ℕ) → operation_of (Row row) (operands_of (placed at ws)) ≡ Ok (record { form = f; trees = es })

-- the trees of a memory operand: in front of others, and after them
abbrev pub front_trees : AddrForm → List ℕ → List Tree → List Tree
front_trees Direct low es = constant_tree low ∷ es
front_trees (Indirect c) low es = es

abbrev pub next_trees : Option (List ℕ) → List Tree
next_trees None = []
next_trees (Some text) = Single (Name text) ∷ []

abbrev pub back_trees : AddrForm → Option (List ℕ) → List Tree
back_trees Direct o = []
back_trees (Indirect c) o = next_trees o

pub mem_operands : (n : MemName) (f : AddrForm) (low : List ℕ) (o : Option (List ℕ)) → AreOperands (family.Mem n) (place f low (tail f o)) (form.Mem n f) (front_trees f low (back_trees f o))
unfolding operation_of with_operand memory expressions jumping norm
mem_operands n Direct low o at = refl
mem_operands n (Indirect change.Keep) low None at = refl
mem_operands n (Indirect _) low None at = refl
mem_operands n (Indirect change.Keep) low (Some text) at = refl
mem_operands n (Indirect _) low (Some text) at = refl

pub shifted_operands : (n : ShiftedName) (f : AddrForm) (low : List ℕ) (o : Option (List ℕ)) (shift : List ℕ) → AreOperands (family.Shifted n) (place f low (comma ∷ constant shift ∷ tail f o)) (form.Shifted n f) (front_trees f low (constant_tree shift ∷ back_trees f o))
unfolding operation_of with_operand memory expressions jumping norm
shifted_operands n Direct low o shift at = refl
shifted_operands n (Indirect change.Keep) low None shift at = refl
shifted_operands n (Indirect _) low None shift at = refl
shifted_operands n (Indirect change.Keep) low (Some text) shift at = refl
shifted_operands n (Indirect _) low (Some text) shift at = refl

pub ar_mem_operands : (n : ArMemName) (f : AddrForm) (low : List ℕ) (o : Option (List ℕ)) (register : List ℕ) → AreOperands (family.ArMem n) (name register ∷ comma ∷ place f low (tail f o)) (form.ArMem n f) (Single (Name register) ∷ front_trees f low (back_trees f o))
unfolding operation_of with_operand memory expressions jumping norm
ar_mem_operands n Direct low o register at = refl
ar_mem_operands n (Indirect change.Keep) low None register at = refl
ar_mem_operands n (Indirect _) low None register at = refl
ar_mem_operands n (Indirect change.Keep) low (Some text) register at = refl
ar_mem_operands n (Indirect _) low (Some text) register at = refl

pub port_operands : (n : PortName) (f : AddrForm) (low : List ℕ) (o : Option (List ℕ)) (port : List ℕ) → AreOperands (family.Port n) (place f low (comma ∷ name port ∷ tail f o)) (form.Port n f) (front_trees f low (Single (Name port) ∷ back_trees f o))
unfolding operation_of with_operand memory expressions jumping norm
port_operands n Direct low o port at = refl
port_operands n (Indirect change.Keep) low None port at = refl
port_operands n (Indirect _) low None port at = refl
port_operands n (Indirect change.Keep) low (Some text) port at = refl
port_operands n (Indirect _) low (Some text) port at = refl

pub bit_operands : (n : BitName) (f : AddrForm) (low : List ℕ) (o : Option (List ℕ)) (code : List ℕ) → AreOperands (family.Bit n) (place f low (comma ∷ constant code ∷ tail f o)) (form.Bit n f) (front_trees f low (constant_tree code ∷ back_trees f o))
unfolding operation_of with_operand memory expressions jumping norm
bit_operands n Direct low o code at = refl
bit_operands n (Indirect change.Keep) low None code at = refl
bit_operands n (Indirect _) low None code at = refl
bit_operands n (Indirect change.Keep) low (Some text) code at = refl
bit_operands n (Indirect _) low (Some text) code at = refl

pub long_mem_operands : (n : LongMemName) (f : AddrForm) (low : List ℕ) (o : Option (List ℕ)) (word : List ℕ) → AreOperands (family.LongMem n) (constant word ∷ comma ∷ place f low (tail f o)) (form.LongMem n f) (constant_tree word ∷ front_trees f low (back_trees f o))
unfolding operation_of with_operand memory expressions jumping norm
long_mem_operands n Direct low o word at = refl
long_mem_operands n (Indirect change.Keep) low None word at = refl
long_mem_operands n (Indirect _) low None word at = refl
long_mem_operands n (Indirect change.Keep) low (Some text) word at = refl
long_mem_operands n (Indirect _) low (Some text) word at = refl

pub jump_operands : (n : JumpName) (c : Change) (o : Option (List ℕ)) (word : List ℕ) → AreOperands (family.Jump n) (constant word ∷ comma ∷ changing c (next o)) (form.Jump n c) (constant_tree word ∷ next_trees o)
unfolding operation_of with_operand memory expressions jumping norm
jump_operands n change.Keep None word at = refl
jump_operands n _ None word at = refl
jump_operands n change.Keep (Some text) word at = refl
jump_operands n _ (Some text) word at = refl

pub lark_operands : (register text : List ℕ) → AreOperands (family.Short short.Lark) (name register ∷ comma ∷ constant text ∷ []) (form.Short short.Lark) (Single (Name register) ∷ constant_tree text ∷ [])
unfolding operation_of with_operand memory expressions jumping norm
lark_operands register text at = refl

pub short_operands : (m : ShortName) (text : List ℕ) → short_count m ≡ 1 → AreOperands (family.Short m) (constant text ∷ []) (form.Short m) (constant_tree text ∷ [])
unfolding operation_of with_operand expressions
short_operands short.Lark text one at = absurd (omega (arith, one))
short_operands _ text one at = refl

pub negative_operands : (text : List ℕ) → AreOperands (family.Short short.Mpyk) (minus ∷ constant text ∷ []) (form.Short short.Mpyk) (Unary unary.Minus (constant_tree text) ∷ [])
unfolding operation_of with_operand memory expressions jumping norm
negative_operands text at = refl

pub lrlk_operands : (register word : List ℕ) → AreOperands (family.Long long.Lrlk) (name register ∷ comma ∷ constant word ∷ []) (form.Long long.Lrlk) (Single (Name register) ∷ constant_tree word ∷ [])
unfolding operation_of with_operand memory expressions jumping norm
lrlk_operands register word at = refl

pub long_operands : (n : LongName) (word shift : List ℕ) → AreOperands (family.Long n) (constant word ∷ comma ∷ constant shift ∷ []) (form.Long n) (constant_tree word ∷ constant_tree shift ∷ [])
unfolding operation_of with_operand memory expressions jumping norm
long_operands long.Lrlk word shift at = refl
long_operands _ word shift at = refl

pub norm_operands : (c : Change) → AreOperands (family.Plain plain.Norm) (changing c []) (form.Plain plain.Norm c) []
unfolding operation_of with_operand memory expressions jumping norm
norm_operands change.Keep at = refl
norm_operands _ at = refl

pub number_operands : (text : List ℕ) → ((AreOperands (family.Plain plain.Spm) (constant text ∷ []) (form.Plain plain.Spm change.Keep) (constant_tree text ∷ []))
    × (AreOperands (family.Plain plain.Fort) (constant text ∷ []) (form.Plain plain.Fort change.Keep) (constant_tree text ∷ []))
    × (AreOperands (family.Plain plain.Cmpr) (constant text ∷ []) (form.Plain plain.Cmpr change.Keep) (constant_tree text ∷ [])))
unfolding operation_of with_operand memory expressions jumping norm
number_operands text = ((λ at. refl), (λ at. refl), (λ at. refl))
