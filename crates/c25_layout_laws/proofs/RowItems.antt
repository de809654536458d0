-- What the text of a row is read as.
use Rattle.std.proofs.Common.{◌≡◌, ℕ, zero, suc, ◌<◌, ◌≤◌, ◌==◌, ◌&&◌, Bool, true, false, List, [], ◌∷◌, ◌++◌, length, codes, Option, Some, None, ℤ, pos, ◌+ℤ◌, refl, sym, ap, ◌∙◌, arith, append_assoc, append-nil}
use Rattle.std.specs.Prelude.{string_bytes}
use Rattle.std.specs.Fmt.{decimal}
use Rattle.std.proofs.lemmas.Bool.{and_parts}
use Rattle.std.proofs.lemmas.Bool.Decides.{nat_tests}
use Rattle.std.proofs.lemmas.List.{length-append}
use Rattle.c25_layout.specs.Flow.{long_word}
use Rattle.c25_layout.specs.Layout.{item_words}
use Rattle.c25_layout.specs.SourceText.{after_text, item_text, show_with, target_text}
use Rattle.c25_layout.specs.declared.layout.Item.{Item}
use Rattle.c25_layout.specs.declared.layout.Item.TheVariants as item
use Rattle.c25_layout.specs.declared.layout.Target as names
use Rattle.c25_meaning_assembly.specs.AssemblyLine.{Put, directive_of}
use Rattle.c25_meaning_assembly.specs.OperandFields.{field_of, target_size}
use Rattle.c25_meaning_assembly.specs.Addresses.{no_operands, words_of}
use Rattle.c25_meaning_assembly.specs.Sections.{Definitions}
use Rattle.c25_meaning_assembly.specs.declared.assembly.Target.{Target}
use Rattle.c25_meaning_assembly.specs.declared.assembly.Target.TheVariants as target
use Rattle.c25_meaning_instructions.specs.Show.{change_text, long_text, next_text, place_text, tail_text}
use Rattle.c25_meaning_instructions.specs.Table.{AddrInRange, InRange, NextInRange, jump_row, long_mem_row, long_row, row_of, size_of, words}
use Rattle.c25_meaning_instructions.specs.declared.insn.Addr.{Addr}
use Rattle.c25_meaning_instructions.specs.declared.insn.Addr.TheVariants as addr
use Rattle.c25_meaning_instructions.specs.declared.insn.Change.{Change}
use Rattle.c25_meaning_instructions.specs.declared.insn.Insn.{Insn}
use Rattle.c25_meaning_instructions.specs.declared.insn.Insn.TheVariants as insn
use Rattle.c25_meaning_instructions.specs.declared.mnemonic.JumpName.{JumpName}
use Rattle.c25_meaning_instructions.specs.declared.mnemonic.LongMemName.{LongMemName}
use Rattle.c25_meaning_instructions.specs.declared.mnemonic.LongName.{LongName}
use Rattle.c25_meaning_instructions.specs.declared.mnemonic.LongName.TheVariants as long
use Rattle.c25_meaning_instructions.specs.declared.mnemonic.Mnemonic.TheVariants as family
use Rattle.c25_meaning_language.proofs.Numbers.{size_of_form}
use Rattle.c25_meaning_language.specs.Lexeme.{lexeme}
use Rattle.c25_meaning_language.specs.Statement.{insn_of}
use Rattle.c25_meaning_language.specs.Tree.{Tree, Single, Name}
use Rattle.c25_meaning_language.specs.Value.{Table}
use Rattle.c25_meaning_language.specs.declared.statement.Field.TheVariants as field
use Rattle.c25_meaning_language.specs.declared.statement.Form.TheVariants as form
use Rattle.c25_meaning_language.specs.Statement.{relocation_of}
use Rattle.c25_meaning_language.specs.declared.statement.Field.{Field}
use Rattle.c25_meaning_linking.specs.Place.{Place}
use Rattle.c25_meaning_objects.specs.Module.{Contents}
use Rattle.c25_laws.specs.ProgramStatements.{numbers_under}
use Rattle.c25_laws.specs.SourceValues.{name_under}
use Rattle.c25_print_laws.proofs.Families.{read_back}
use Rattle.c25_print_laws.proofs.Lines.{is_free, is_mnemonic, is_none, is_word, spaced}
use Rattle.c25_print_laws.proofs.Mnemonics.{jump_mnemonic, long_mem_mnemonic, long_mnemonic}
use Rattle.c25_print_laws.proofs.Names.{register_name}
use Rattle.c25_print_laws.proofs.Numerals.{decimal_constant}
use Rattle.c25_print_laws.proofs.Operations.{back_trees, front_trees, next_trees}
use Rattle.c25_print_laws.proofs.ReadBack.{IsPrinted, back_numbers, decimal_number, five, following, four, six, front_numbers, next_numbers, register_number, word_number}
use Rattle.c25_print_laws.proofs.SourcePassed.{size_words}
use Rattle.c25_print_laws.proofs.Tokens.{AreLexed, Word, texts, texts_short}
use Rattle.c25_print_laws.proofs.Values.{constant_tree, number, two_numbers, word16}
use Rattle.c25_print_laws.proofs.Words.{back, back_ends, back_few, back_lexed, back_text, changing, changing_lexed, changing_text, comma, comma_lexed, constant, constant_lexed, form_of, front, front_few, front_lexed, front_text, low_of, name, next, next_lexed, next_of, next_printed, register_of, register_text}
use Rattle.c25_print_laws.specs.Saying.{HasNumbers}
use Rattle.c25_layout_laws.proofs.Numbers.{first_replaced, numbers_alone, second_replaced, target_word}
use Rattle.c25_layout_laws.proofs.Remarked.{IsLexed, lexed_of}
use Rattle.c25_layout_laws.proofs.Shown.{Says, mnemonic_says}
use Rattle.c25_layout_laws.proofs.Taken.{AreAddresses, ArePlaced, Taken, first_taken, second_taken}
use Rattle.c25_layout_laws.proofs.Targets.{jump_target, long_mem_target, long_target, lrlk_target, target_lexed, target_tree, target_words}
use Rattle.c25_layout_laws.specs.Layouts.{is_code}
use Rattle.c25_layout.specs.Names.{IsLabelName, IsNamed}

-- the names of an item stand for its number, by these values of names
abbrev pub IsGiven : (List ℕ → ℤ) → Item → Type 0
IsGiven value (item.Named i t) = (n : ℕ) × (long_word i ≡ Some n) × (value (string_bytes t.name) +ℤ pos t.after ≡ pos n)
IsGiven value (item.Address n t) = value (string_bytes t.name) +ℤ pos t.after ≡ pos n
IsGiven value _ = Unit {0}

-- whether an instruction is put
abbrev pub puts_code : Target → Bool
puts_code (target.Instruction f) = true
puts_code (target.Data w) = false

-- the text of an item is a first word and tokens, which say that operands are put; these make the words of the item under each map in
-- which its names stand for its number, and are taken where its names stand for places
pub record ReadsItem (i : Item) : Type 0 where
  pub word : List ℕ
  pub tokens : List Word
  pub put : Target
  pub trees : List Tree
  pub is_first : is_word word ≡ true
  pub free : is_free word ≡ true
  pub lexed : IsLexed tokens
  pub short : length (spaced tokens) ≤ 700
  pub shown : item_text i ≡ word ++ spaced tokens
  pub says : Says word tokens (Put put trees)
  pub sized : target_size put (length trees) ≡ length (item_words i)
  pub coded : puts_code put ≡ is_code i
  pub means : (modules : List Contents) (places : List Place) (number : ℕ) (m : Contents) (names : Definitions) (section offset : ℕ) → IsGiven (name_under modules places number m names) i
      → words_of put (numbers_under modules places number m names section offset put trees) ≡ item_words i
  pub takes : (table : Table) → ArePlaced table i → Taken put table (AreAddresses table i) no_operands trees

mnemonic_parts : (w : List ℕ) → is_mnemonic w ≡ true → (is_word w ≡ true) × (is_free w ≡ true)
mnemonic_parts w is = let all = and_parts (is_word w && is_none (directive_of w)) (is_free w) is in ((and_parts (is_word w) (is_none (directive_of w)) all.0).0, all.1)

spaced_short : (ws : List Word) → AreLexed ws → length ws ≤ 20 → length (spaced ws) ≤ 700
spaced_short [] h few = omega arith
spaced_short (w ∷ ws) h few = let short = texts_short (w ∷ ws) h in omega (arith, short, few)

-- ---- instructions as they are printed

pub plain_read : (i : Insn) → InRange i → ReadsItem (item.Plain i)
plain_read i h =
    let p : IsPrinted i = (read_back i h).printed in
    let parts = mnemonic_parts (row_of p.row).name p.mnemonic in
    record {
      word = (row_of p.row).name;
      tokens = p.tokens;
      put = target.Instruction p.form;
      trees = p.trees;
      is_first = parts.0;
      free = parts.1;
      lexed = lexed_of p.tokens p.lexed;
      short = spaced_short p.tokens p.lexed p.few;
      shown = p.shown;
      says = mnemonic_says p.row p.tokens p.form p.trees p.mnemonic p.operands;
      sized = sym (size_of_form p.form p.numbers) ∙ ap size_of p.insn ∙ size_words i;
      coded = refl;
      means = λ modules places number m names section offset given.
          ap (λ (ns : List ℕ). words (insn_of p.form ns)) (numbers_alone modules places number m names section offset (target.Instruction p.form) p.trees p.numbers p.valued) ∙ ap words p.insn;
      takes = λ table placed. (_, p.valued table, refl);
    }

-- ---- instructions with a name in place of their second word

pub spaced_target : (text : List ℕ) (after : ℕ) (ws : List Word) → spaced (target_words text after ws) ≡ 32 ∷ texts (target_words text after ws)
spaced_target text zero ws = refl
spaced_target text (suc after) ws = refl

not_zero : (n : ℕ) → (suc n == 0) ≡ false
not_zero n = grind (arith, nat_tests)

some_after : (n : ℕ) → after_text (suc n) ≡ 43 ∷ decimal (suc n)
some_after n = rw (not_zero n) refl

pub texts_target : (text : List ℕ) (after : ℕ) (ws : List Word) → texts (target_words text after ws) ≡ (text ++ after_text after) ++ texts ws
texts_target text zero ws = ap (λ (xs : List ℕ). xs ++ texts ws) (sym (append-nil text))
texts_target text (suc after) ws = sym (append_assoc text (43 ∷ decimal (suc after)) (texts ws)) ∙ ap (λ (xs : List ℕ). (text ++ xs) ++ texts ws) (sym (some_after after))

few_after : (after : ℕ) → after < 65536 → length (after_text after) ≤ 21
few_after zero small = omega arith
few_after (suc after) small = let short = (decimal_constant (suc after) (omega (arith, small))).short in let same = ap length (some_after after) in omega (arith, short, same)

pub target_short : (text : List ℕ) (after : ℕ) (ws : List Word) → length text ≤ 128 → after < 65536 → AreLexed ws → length ws ≤ 10 → length (spaced (target_words text after ws)) ≤ 700
target_short text after ws few small lexed count =
    let same = ap length (spaced_target text after ws ∙ ap (λ (xs : List ℕ). 32 ∷ xs) (texts_target text after ws)) in
    let all = length-append (text ++ after_text after) (texts ws) in
    let both = length-append text (after_text after) in
    let short = few_after after small in
    let rest = texts_short ws lexed in
    omega (arith, same, all, both, short, rest, few, count)

same_number : (m n : ℕ) → ◌≡◌ {A = Option ℕ} (Some m) (Some n) → m ≡ n
same_number m n e = cc

comma_before : (ws : List Word) → IsLexed ws → IsLexed (comma ∷ ws)
unfolding lexeme
comma_before ws h = (refl, omega arith, refl, omega arith, h)

module _ (value : List ℕ → Option ℕ) (t : names.Target) where
  abbrev text : List ℕ
  text = string_bytes t.name

  -- a memory operand or a number after the name
  lexed_after : (ws : List Word) → IsLabelName text → t.after < 65536 → AreLexed (comma ∷ ws) → IsLexed (target_words text t.after (comma ∷ ws))
  lexed_after ws is small lexed = target_lexed text t.after (comma ∷ ws) is.0 is.1 small refl refl (lexed_of (comma ∷ ws) lexed)

  shown_after : (mnemonic rest : List ℕ) (ws : List Word) → texts ws ≡ rest → mnemonic ++ (codes " " ++ (target_text t ++ (codes "," ++ rest))) ≡ mnemonic ++ spaced (target_words text t.after (comma ∷ ws))
  shown_after mnemonic rest ws e =
      ap (λ (xs : List ℕ). mnemonic ++ xs) (sym (spaced_target text t.after (comma ∷ ws) ∙ ap (λ (xs : List ℕ). 32 ∷ xs) (texts_target text t.after (comma ∷ ws)) ∙ ap (λ (xs : List ℕ). 32 ∷ (target_text t ++ (44 ∷ xs))) e))

  long_lexed : (high : ℕ) → high < 65536 → AreLexed (comma ∷ constant (decimal high) ∷ [])
  long_lexed high fits = comma_lexed (constant (decimal high) ∷ []) (constant_lexed high (decimal high) [] (decimal_constant high (omega (arith, fits))) refl tt)

  long_read : (m : LongName) (word high : ℕ) → (m ≡ long.Lrlk → ⊥) → show_with (target_text t) (insn.Long m word high) ≡ (long_row m).name ++ codes " " ++ target_text t ++ codes "," ++ decimal high
      → field_of (target.Instruction (form.Long m)) 0 ≡ field.Word16 → field_of (target.Instruction (form.Long m)) 1 ≡ field.Number 16 → insn_of (form.Long m) (word ∷ high ∷ []) ≡ insn.Long m word high
      → IsLabelName text → t.after < 65536 → word < 65536 → high < 16 → ReadsItem (item.Named (insn.Long m word high) t)
  long_read m word high other shown_so first second same is small fits limit =
      let p = target.Instruction (form.Long m) in
      let parts = mnemonic_parts (long_row m).name (long_mnemonic m) in
      let lexed = long_lexed high (omega (arith, limit)) in
      let alone : HasNumbers p (constant_tree (long_text word) ∷ constant_tree (decimal high) ∷ []) (word ∷ high ∷ []) =
      two_numbers p (constant_tree (long_text word)) (constant_tree (decimal high)) (pos word) (pos high) word high (word_number word fits) (rw first (word16 word fits)) (decimal_number high (omega (arith, limit))) (rw second (number 16 high limit (omega arith))) in
      record {
        word = (long_row m).name;
        tokens = target_words text t.after (comma ∷ constant (decimal high) ∷ []);
        put = p;
        trees = target_tree text t.after ∷ constant_tree (decimal high) ∷ [];
        is_first = parts.0;
        free = parts.1;
        lexed = lexed_after (constant (decimal high) ∷ []) is small lexed;
        short = target_short text t.after (comma ∷ constant (decimal high) ∷ []) is.1 small lexed (omega arith);
        shown = shown_so ∙ five (long_row m).name (codes " ") (target_text t) (codes ",") (decimal high) ∙ shown_after (long_row m).name (decimal high) (constant (decimal high) ∷ []) (append-nil (decimal high));
        says = mnemonic_says (family.Long m) (target_words text t.after (comma ∷ constant (decimal high) ∷ [])) (form.Long m) (target_tree text t.after ∷ constant_tree (decimal high) ∷ []) (long_mnemonic m) (long_target m text t.after (decimal high) other);
        sized = sym (size_of_form (form.Long m) (word ∷ high ∷ [])) ∙ ap size_of same ∙ size_words (insn.Long m word high);
        coded = refl;
        means = λ modules places number m' names section offset given.
            let met = ap (λ (k : ℕ). pos k) (sym (same_number word given.0 given.1)) in
            ap (λ (ns : List ℕ). words (insn_of (form.Long m) ns))
            (first_replaced modules places number m' names section offset p (target_tree text t.after) (constant_tree (long_text word)) (constant_tree (decimal high) ∷ []) word (high ∷ []) first
            (target_word modules places number m' names section offset text t.after word small fits (given.2 ∙ met))
            (numbers_alone modules places number m' names section offset p (constant_tree (long_text word) ∷ constant_tree (decimal high) ∷ []) (word ∷ high ∷ []) alone))
            ∙ ap words same;
        takes = λ table placed. first_taken p table text t.after (constant_tree (long_text word)) (constant_tree (decimal high) ∷ []) _ placed small (ap (λ (f : Field). relocation_of f) first) (alone table);
      }

  lrlk_read : (word high : ℕ) → IsLabelName text → t.after < 65536 → word < 65536 → high < 8 → ReadsItem (item.Named (insn.Long long.Lrlk word high) t)
  lrlk_read word high is small fits limit =
      let p = target.Instruction (form.Long long.Lrlk) in
      let parts = mnemonic_parts (long_row long.Lrlk).name (long_mnemonic long.Lrlk) in
      let tokens = name (register_text high) ∷ comma ∷ target_words text t.after [] in
      let register = register_name high limit in
      let few = register.short in
      let alone : HasNumbers p (Single (Name (register_text high)) ∷ constant_tree (long_text word) ∷ []) (high ∷ word ∷ []) =
      two_numbers p (Single (Name (register_text high))) (constant_tree (long_text word)) (pos high) (pos word) high word (register_number high limit) (number 8 high limit (omega arith)) (word_number word fits) (word16 word fits) in
      record {
        word = (long_row long.Lrlk).name;
        tokens = tokens;
        put = p;
        trees = Single (Name (register_text high)) ∷ target_tree text t.after ∷ [];
        is_first = parts.0;
        free = parts.1;
        lexed = (register.lexed (44 ∷ texts (target_words text t.after [])) refl, register.some, register.quiet, omega (arith, few), comma_before (target_words text t.after []) (target_lexed text t.after [] is.0 is.1 small refl refl tt));
        short =
            let size = length-append (register_text high) (44 ∷ texts (target_words text t.after [])) in
            let all = ap length (texts_target text t.after []) in
            let both = length-append (text ++ after_text t.after) [] in
            let one = length-append text (after_text t.after) in
            let after = few_after t.after small in
            let name_few = is.1 in
            omega (arith, size, all, both, one, after, few, name_few);
        shown = four (codes "LRLK AR") (decimal high) (codes ",") (target_text t) ∙ ap (λ (xs : List ℕ). codes "LRLK AR" ++ (decimal high ++ (44 ∷ xs))) (sym (texts_target text t.after [] ∙ append-nil (target_text t)));
        says = mnemonic_says (family.Long long.Lrlk) tokens (form.Long long.Lrlk) (Single (Name (register_text high)) ∷ target_tree text t.after ∷ []) (long_mnemonic long.Lrlk) (lrlk_target (register_text high) text t.after);
        sized = refl;
        coded = refl;
        means = λ modules places number m' names section offset given.
            let met = ap (λ (k : ℕ). pos k) (sym (same_number word given.0 given.1)) in
            ap (λ (ns : List ℕ). words (insn_of (form.Long long.Lrlk) ns))
            (second_replaced modules places number m' names section offset p (Single (Name (register_text high))) (target_tree text t.after) (constant_tree (long_text word)) high word refl
            (target_word modules places number m' names section offset text t.after word small fits (given.2 ∙ met))
            (numbers_alone modules places number m' names section offset p (Single (Name (register_text high)) ∷ constant_tree (long_text word) ∷ []) (high ∷ word ∷ []) alone));
        takes = λ table placed. second_taken p table text t.after (Single (Name (register_text high))) (constant_tree (long_text word)) _ placed small refl (alone table);
      }

  long_mem_read : (m : LongMemName) (word : ℕ) (a : Addr) → IsLabelName text → t.after < 65536 → word < 65536 → AddrInRange a → ReadsItem (item.Named (insn.LongMem m word a) t)
  long_mem_read m word a is small fits h =
      let f = form_of a in
      let p = target.Instruction (form.LongMem m f) in
      let rest = front a (back a) in
      let others = front_trees f (low_of a) (back_trees f (next_of a)) in
      let numbers = front_numbers a (back_numbers a) in
      let parts = mnemonic_parts (long_mem_row m).name (long_mem_mnemonic m) in
      let lexed = comma_lexed rest (front_lexed a (back a) h (back_ends a) (back_lexed a h)) in
      let few = front_few a (back a) in
      let fewer = back_few a in
      let alone : HasNumbers p (constant_tree (long_text word) ∷ others) (word ∷ numbers) = following p a (constant_tree (long_text word)) word (word_number word fits) (word16 word fits) refl h in
      record {
        word = (long_mem_row m).name;
        tokens = target_words text t.after (comma ∷ rest);
        put = p;
        trees = target_tree text t.after ∷ others;
        is_first = parts.0;
        free = parts.1;
        lexed = lexed_after rest is small lexed;
        short = target_short text t.after (comma ∷ rest) is.1 small lexed (omega (arith, few, fewer));
        shown = six (long_mem_row m).name (codes " ") (target_text t) (codes ",") (place_text a) (tail_text a)
            ∙ shown_after (long_mem_row m).name (place_text a ++ tail_text a) rest (front_text a (back a) ∙ ap (λ (xs : List ℕ). place_text a ++ xs) (back_text a));
        says = mnemonic_says (family.LongMem m) (target_words text t.after (comma ∷ rest)) (form.LongMem m f) (target_tree text t.after ∷ others) (long_mem_mnemonic m) (long_mem_target m f (low_of a) (next_of a) text t.after);
        sized = refl;
        coded = refl;
        means = λ modules places number m' names section offset given.
            let met = ap (λ (k : ℕ). pos k) (sym (same_number word given.0 given.1)) in
            ap (λ (ns : List ℕ). words (insn_of (form.LongMem m f) ns))
            (first_replaced modules places number m' names section offset p (target_tree text t.after) (constant_tree (long_text word)) others word numbers refl
            (target_word modules places number m' names section offset text t.after word small fits (given.2 ∙ met))
            (numbers_alone modules places number m' names section offset p (constant_tree (long_text word) ∷ others) (word ∷ numbers) alone))
            ∙ ap words (same a);
        takes = λ table placed. first_taken p table text t.after (constant_tree (long_text word)) others _ placed small refl (alone table);
      }
    where
      same : (a : Addr) → insn_of (form.LongMem m (form_of a)) (word ∷ front_numbers a (back_numbers a)) ≡ insn.LongMem m word a
      same (addr.Direct low) = refl
      same (addr.Indirect c None) = refl
      same (addr.Indirect c (Some n)) = refl

  jump_read : (m : JumpName) (word : ℕ) (c : Change) (o : Option ℕ) → IsLabelName text → t.after < 65536 → word < 65536 → NextInRange o → ReadsItem (item.Named (insn.Jump m word c o) t)
  jump_read m word c o is small fits h =
      let a = addr.Indirect c o in
      let p = target.Instruction (form.Jump m c) in
      let rest = changing c (next (register_of o)) in
      let others = next_trees (register_of o) in
      let parts = mnemonic_parts (jump_row m).name (jump_mnemonic m) in
      let lexed = comma_lexed rest (changing_lexed c (next (register_of o)) (next_lexed o h)) in
      let few = front_few a (back a) in
      let fewer = back_few a in
      let alone : HasNumbers p (constant_tree (long_text word) ∷ others) (word ∷ next_numbers o) = following p a (constant_tree (long_text word)) word (word_number word fits) (word16 word fits) refl h in
      record {
        word = (jump_row m).name;
        tokens = target_words text t.after (comma ∷ rest);
        put = p;
        trees = target_tree text t.after ∷ others;
        is_first = parts.0;
        free = parts.1;
        lexed = lexed_after rest is small lexed;
        short = target_short text t.after (comma ∷ rest) is.1 small lexed (omega (arith, few, fewer));
        shown = six (jump_row m).name (codes " ") (target_text t) (codes ",") (change_text c) (next_text o)
            ∙ shown_after (jump_row m).name (change_text c ++ next_text o) rest (changing_text c (next (register_of o)) ∙ ap (λ (xs : List ℕ). change_text c ++ xs) (next_printed o));
        says = mnemonic_says (family.Jump m) (target_words text t.after (comma ∷ rest)) (form.Jump m c) (target_tree text t.after ∷ others) (jump_mnemonic m) (jump_target m c (register_of o) text t.after);
        sized = refl;
        coded = refl;
        means = λ modules places number m' names section offset given.
            let met = ap (λ (k : ℕ). pos k) (sym (same_number word given.0 given.1)) in
            ap (λ (ns : List ℕ). words (insn_of (form.Jump m c) ns))
            (first_replaced modules places number m' names section offset p (target_tree text t.after) (constant_tree (long_text word)) others word (next_numbers o) refl
            (target_word modules places number m' names section offset text t.after word small fits (given.2 ∙ met))
            (numbers_alone modules places number m' names section offset p (constant_tree (long_text word) ∷ others) (word ∷ next_numbers o) alone))
            ∙ ap words (same o);
        takes = λ table placed. first_taken p table text t.after (constant_tree (long_text word)) others _ placed small refl (alone table);
      }
    where
      same : (o : Option ℕ) → insn_of (form.Jump m c) (word ∷ next_numbers o) ≡ insn.Jump m word c o
      same None = refl
      same (Some n) = refl

  pub named_read : (i : Insn) → IsNamed value i t → ReadsItem (item.Named i t)
  named_read (insn.Long long.Lrlk word high) h = let n = h.in_range in lrlk_read word high h.met.name h.met.small n.0 n.1
  named_read (insn.Long m word high) h = let n = h.in_range in long_read m word high (λ e. absurd (cc)) refl refl refl refl h.met.name h.met.small n.0 n.1
  named_read (insn.LongMem m word a) h = let n = h.in_range in long_mem_read m word a h.met.name h.met.small n.0 n.1
  named_read (insn.Jump m word c o) h = let n = h.in_range in jump_read m word c o h.met.name h.met.small n.0 n.1
  named_read i h = let none = h.word in absurd (cc)
