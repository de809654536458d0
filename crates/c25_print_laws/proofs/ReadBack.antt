-- A line says an instruction, where its words are the text that is printed, are read as its operands, and have its numbers.
use Rattle.std.proofs.Common.{◌≡◌, ℕ, suc, ◌+◌, ◌<◌, ◌≤◌, pos, true, List, [], ◌∷◌, ◌++◌, length, Option, Some, None, Ok, refl, ap, ◌∙◌, arith, sym, subst}
use Rattle.std.specs.Fmt.{decimal}
use mathlib.Core.List.{append_assoc}
use Rattle.c25_meaning_instructions.specs.Show.{show, long_text, place_text}
use Rattle.c25_meaning_instructions.specs.Table.{AddrInRange, row_of}
use Rattle.c25_meaning_instructions.specs.declared.insn.Insn.{Insn}
use Rattle.c25_meaning_instructions.specs.declared.insn.Addr.{Addr}
use Rattle.c25_meaning_instructions.specs.declared.insn.Addr.TheVariants as addr
use Rattle.c25_meaning_instructions.specs.declared.insn.Change.TheVariants as change
use Rattle.c25_meaning_instructions.specs.declared.mnemonic.Mnemonic.{Mnemonic}
use Rattle.c25_meaning_instructions.specs.declared.mnemonic.Spelling.TheVariants.{Row}
use Rattle.c25_meaning_language.specs.Statement.{addr_field, insn_of, number_in, with_number}
use Rattle.c25_meaning_language.specs.Tree.{Tree, Single, Name}
use Rattle.c25_meaning_language.specs.declared.statement.Form.{Form}
use Rattle.c25_meaning_assembly.specs.AssemblyLine.{read_statement}
use Rattle.c25_meaning_assembly.specs.OperandFields.{field_of}
use Rattle.c25_meaning_assembly.specs.declared.assembly.Target.{Target}
use Rattle.c25_meaning_assembly.specs.declared.assembly.Target.TheVariants.{Instruction}
use Rattle.c25_print_laws.specs.Saying.{HasNumbers, Says}
use Rattle.c25_print_laws.proofs.Lines.{IsQuiet, is_mnemonic, quiet_mnemonic, read_line, spaced}
use Rattle.c25_print_laws.proofs.Mnemonics.{spells}
use Rattle.c25_print_laws.proofs.Names.{register_name, port_name}
use Rattle.c25_print_laws.proofs.Numerals.{byte_constant, word_constant, decimal_constant}
use Rattle.c25_print_laws.proofs.Operations.{AreOperands, front_trees, back_trees}
use Rattle.c25_print_laws.proofs.Tokens.{Word, texts, AreLexed}
use Rattle.c25_print_laws.proofs.Values.{IsNumber, constant_tree, constant_number, name_number, low7, number, no_numbers, one_number, two_numbers}
use Rattle.c25_print_laws.proofs.Words.{front, front_text, low_text, register_text, form_of, low_of, next_of}

-- ---- what a line says

-- what is printed of an instruction: a mnemonic and tokens, which are its operands wherever they stand
pub record IsPrinted (i : Insn) : Type 0 where
  pub row : Mnemonic
  pub tokens : List Word
  pub form : Form
  pub trees : List Tree
  pub numbers : List ℕ
  pub mnemonic : is_mnemonic (row_of row).name ≡ true
  pub few : length tokens ≤ 20
  pub lexed : AreLexed tokens
  pub shown : show i ≡ (row_of row).name ++ spaced tokens
  pub operands : AreOperands row tokens form trees
  pub valued : HasNumbers (Instruction form) trees numbers
  pub insn : insn_of form numbers ≡ i

-- what is printed of an instruction says it, and expansion leaves it alone
pub record ReadsBack (i : Insn) : Type 0 where
  pub says : Says (32 ∷ show i) i
  pub quiet : IsQuiet (32 ∷ show i)
  pub printed : IsPrinted i

pub read_as : (row : Mnemonic) (ws : List Word) (f : Form) (es : List Tree) (ns : List ℕ) (i : Insn)
    → is_mnemonic (row_of row).name ≡ true → length ws ≤ 20 → AreLexed ws → show i ≡ (row_of row).name ++ spaced ws → AreOperands row ws f es
    → HasNumbers (Instruction f) es ns → insn_of f ns ≡ i → ReadsBack i
read_as row ws f es ns i is few lexed shown are sheet same = record {
  says = record {
    form = f;
    numbers = ns;
    puts = record {
      trees = es;
      read = ap (λ t. read_statement (32 ∷ t)) shown ∙ read_line (row_of row).name ws is lexed ∙ rw (spells (Row row), are (suc (length (row_of row).name) + 1)) refl;
      valued = sheet;
    };
    insn = same;
  };
  quiet = subst (λ t. IsQuiet (32 ∷ t)) (sym shown) (quiet_mnemonic (row_of row).name ws is lexed few);
  printed = record {
    row = row;
    tokens = ws;
    form = f;
    trees = es;
    numbers = ns;
    mnemonic = is;
    few = few;
    lexed = lexed;
    shown = shown;
    operands = are;
    valued = sheet;
    insn = same;
  };
}

-- ---- texts grouped from the end

pub four : (a b c d : List ℕ) → a ++ b ++ c ++ d ≡ a ++ (b ++ (c ++ d))
four a b c d = append_assoc (a ++ b) c d ∙ append_assoc a b (c ++ d)

pub five : (a b c d e : List ℕ) → a ++ b ++ c ++ d ++ e ≡ a ++ (b ++ (c ++ (d ++ e)))
five a b c d e = append_assoc (a ++ b ++ c) d e ∙ four a b c (d ++ e)

pub six : (a b c d e f : List ℕ) → a ++ b ++ c ++ d ++ e ++ f ≡ a ++ (b ++ (c ++ (d ++ (e ++ f))))
six a b c d e f = append_assoc (a ++ b ++ c ++ d) e f ∙ five a b c d (e ++ f)

-- a memory operand after a mnemonic
spaced_front : (a : Addr) (ws : List Word) → spaced (front a ws) ≡ 32 ∷ texts (front a ws)
spaced_front (addr.Direct low) ws = refl
spaced_front (addr.Indirect change.Keep n) ws = refl
spaced_front (addr.Indirect _ n) ws = refl

pub first_text : (a : Addr) (ws : List Word) (text : List ℕ) → texts ws ≡ text → spaced (front a ws) ≡ 32 ∷ (place_text a ++ text)
first_text a ws text e = spaced_front a ws ∙ ap (λ (t : List ℕ). 32 ∷ t) (front_text a ws) ∙ ap (λ (t : List ℕ). 32 ∷ (place_text a ++ t)) e

-- ---- numbers

low_number : (n : ℕ) → n < 128 → IsNumber (constant_tree (low_text n)) (pos n)
low_number n h = constant_number n (low_text n) (byte_constant n (omega arith)).value (omega arith)

pub word_number : (n : ℕ) → n < 65536 → IsNumber (constant_tree (long_text n)) (pos n)
word_number n h = constant_number n (long_text n) (word_constant n h).value (omega arith)

pub decimal_number : (n : ℕ) → n < 65536 → IsNumber (constant_tree (decimal n)) (pos n)
decimal_number n h = constant_number n (decimal n) (decimal_constant n (omega arith)).value (omega arith)

pub register_number : (n : ℕ) → n < 8 → IsNumber (Single (Name (register_text n))) (pos n)
register_number n h = name_number n (register_text n) (register_name n h).value

pub port_number : (n : ℕ) → n < 16 → IsNumber (Single (Name (80 ∷ 65 ∷ decimal n))) (pos n)
port_number n h = name_number n (80 ∷ 65 ∷ decimal n) (port_name n h).value

-- the numbers of a memory operand: in front of others, and after them
abbrev pub front_numbers : Addr → List ℕ → List ℕ
front_numbers (addr.Direct low) ns = low ∷ ns
front_numbers (addr.Indirect c n) ns = ns

abbrev pub next_numbers : Option ℕ → List ℕ
next_numbers None = []
next_numbers (Some n) = n ∷ []

abbrev pub back_numbers : Addr → List ℕ
back_numbers (addr.Direct low) = []
back_numbers (addr.Indirect c n) = next_numbers n

-- ---- the numbers of a line with a memory operand: alone, after a number, and round a number

pub alone : (t : Target) (a : Addr) → field_of t 0 ≡ addr_field (form_of a) → AddrInRange a
    → HasNumbers t (front_trees (form_of a) (low_of a) (back_trees (form_of a) (next_of a))) (front_numbers a (back_numbers a))
alone t (addr.Direct low) f h = one_number t (constant_tree (low_text low)) (pos low) low (low_number low h) (ap (λ f. number_in f (pos low)) f ∙ low7 low h)
alone t (addr.Indirect c None) f h = no_numbers t
alone t (addr.Indirect c (Some n)) f h = one_number t (Single (Name (register_text n))) (pos n) n (register_number n h) (ap (λ f. number_in f (pos n)) f ∙ number 8 n h (omega arith))

pub following : (t : Target) (a : Addr) (d : Tree) (m : ℕ) → IsNumber d (pos m) → number_in (field_of t 0) (pos m) ≡ Ok m → field_of t 1 ≡ addr_field (form_of a) → AddrInRange a
    → HasNumbers t (d ∷ front_trees (form_of a) (low_of a) (back_trees (form_of a) (next_of a))) (m ∷ front_numbers a (back_numbers a))
following t (addr.Direct low) d m v g f h = two_numbers t d (constant_tree (low_text low)) (pos m) (pos low) m low v g (low_number low h) (ap (λ f. number_in f (pos low)) f ∙ low7 low h)
following t (addr.Indirect c None) d m v g f h = one_number t d (pos m) m v g
following t (addr.Indirect c (Some n)) d m v g f h = two_numbers t d (Single (Name (register_text n))) (pos m) (pos n) m n v g (register_number n h) (ap (λ f. number_in f (pos n)) f ∙ number 8 n h (omega arith))

pub around : (t : Target) (a : Addr) (d : Tree) (m limit : ℕ) → IsNumber d (pos m) → m < limit → limit ≤ 65536 → field_of t 0 ≡ with_number (form_of a) limit 0 → field_of t 1 ≡ with_number (form_of a) limit 1 → AddrInRange a
    → HasNumbers t (front_trees (form_of a) (low_of a) (d ∷ back_trees (form_of a) (next_of a))) (front_numbers a (m ∷ back_numbers a))
around t (addr.Direct low) d m limit v small few f g h =
    two_numbers t (constant_tree (low_text low)) d (pos low) (pos m) low m (low_number low h) (ap (λ f. number_in f (pos low)) f ∙ low7 low h) v (ap (λ f. number_in f (pos m)) g ∙ number limit m small few)
around t (addr.Indirect c None) d m limit v small few f g h = one_number t d (pos m) m v (ap (λ f. number_in f (pos m)) f ∙ number limit m small few)
around t (addr.Indirect c (Some n)) d m limit v small few f g h =
    two_numbers t d (Single (Name (register_text n))) (pos m) (pos n) m n v (ap (λ f. number_in f (pos m)) f ∙ number limit m small few) (register_number n h) (ap (λ f. number_in f (pos n)) g ∙ number 8 n h (omega arith))
