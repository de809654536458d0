-- Words printed as data make these words.
use Rattle.std.proofs.Common.{◌≡◌, ℕ, ◌<◌, ◌^◌, pos, List, [], ◌∷◌, ◌++◌, Ok, codes, arith, refl, ap, ◌∙◌}
use Rattle.c25_meaning_instructions.specs.Show.{long_text}
use Rattle.c25_meaning_instructions.specs.Table.{words}
use Rattle.c25_meaning_instructions.specs.declared.insn.Insn.{Insn}
use Rattle.c25_meaning_language.specs.Operands.{operands_of}
use Rattle.c25_meaning_assembly.specs.AssemblyLine.{Put, act_of}
use Rattle.c25_meaning_assembly.specs.StatementLine.{with_operand}
use Rattle.c25_meaning_assembly.specs.declared.assembly.DataWidth.TheVariants as width
use Rattle.c25_meaning_assembly.specs.declared.assembly.Directive.TheVariants as directive
use Rattle.c25_meaning_assembly.specs.declared.assembly.Target.TheVariants as target
use Rattle.c25_print_laws.specs.Saying.{Says, Makes}
use Rattle.c25_print_laws.proofs.Lines.{IsQuiet, quiet_words, read_words}
use Rattle.c25_print_laws.proofs.Numerals.{word_constant}
use Rattle.c25_print_laws.proofs.ReadBack.{word_number}
use Rattle.c25_print_laws.proofs.Tokens.{placed}
use Rattle.c25_print_laws.proofs.Values.{constant_tree, whole_word, one_number, two_numbers}
use Rattle.c25_print_laws.proofs.Words.{constant, comma, constant_lexed, comma_lexed}

-- a line that says an instruction makes its words
abbrev pub instruction_words : (text : List ℕ) (i : Insn) → Says text i → Makes text (words i)
instruction_words text i s = record { target = target.Instruction s.form; numbers = s.numbers; puts = s.puts; words_are = ap words s.insn }

pub one_read : (text : List ℕ) (at : ℕ) → act_of directive.Word [] (operands_of (placed at (constant text ∷ []))) ≡ Ok (Put (target.Data width.Word) (constant_tree text ∷ []))
unfolding act_of with_operand
one_read text at = refl

pub two_read : (text other : List ℕ) (at : ℕ)
    → act_of directive.Word [] (operands_of (placed at (constant text ∷ comma ∷ constant other ∷ []))) ≡ Ok (Put (target.Data width.Word) (constant_tree text ∷ constant_tree other ∷ []))
unfolding act_of with_operand
two_read text other at = refl

abbrev pub one_word : (n : ℕ) → n < 2 ^ 16 → Makes (codes " .word " ++ long_text n) (n ∷ [])
one_word n h = record {
  target = (target.Data width.Word);
  numbers = n ∷ [];
  puts = record {
    trees = constant_tree (long_text n) ∷ [];
    read = read_words (constant (long_text n) ∷ []) (constant_lexed n (long_text n) [] (word_constant n h) refl tt) ∙ rw (one_read (long_text n) 7) refl;
    valued = one_number (target.Data width.Word) (constant_tree (long_text n)) (pos n) n (word_number n h) (whole_word n h);
  };
  words_are = refl;
}

abbrev pub two_words : (m n : ℕ) → m < 2 ^ 16 → n < 2 ^ 16 → Makes (codes " .word " ++ long_text m ++ codes "," ++ long_text n) (m ∷ n ∷ [])
two_words m n g h = record {
  target = (target.Data width.Word);
  numbers = m ∷ n ∷ [];
  puts = record {
    trees = constant_tree (long_text m) ∷ constant_tree (long_text n) ∷ [];
    read = read_words (constant (long_text m) ∷ comma ∷ constant (long_text n) ∷ [])
        (constant_lexed m (long_text m) (comma ∷ constant (long_text n) ∷ []) (word_constant m g) refl (comma_lexed (constant (long_text n) ∷ []) (constant_lexed n (long_text n) [] (word_constant n h) refl tt)))
        ∙ rw (two_read (long_text m) (long_text n) 7) refl;
    valued = two_numbers (target.Data width.Word) (constant_tree (long_text m)) (constant_tree (long_text n)) (pos m) (pos n) m n (word_number m g) (whole_word m g) (word_number n h) (whole_word n h);
  };
  words_are = refl;
}

-- ---- expansion leaves such lines alone

pub one_quiet : (n : ℕ) → n < 2 ^ 16 → IsQuiet (codes " .word " ++ long_text n)
one_quiet n h = quiet_words (constant (long_text n) ∷ []) (constant_lexed n (long_text n) [] (word_constant n h) refl tt) (omega arith)

pub two_quiet : (m n : ℕ) → m < 2 ^ 16 → n < 2 ^ 16 → IsQuiet (codes " .word " ++ long_text m ++ codes "," ++ long_text n)
two_quiet m n g h =
    quiet_words (constant (long_text m) ∷ comma ∷ constant (long_text n) ∷ [])
    (constant_lexed m (long_text m) (comma ∷ constant (long_text n) ∷ []) (word_constant m g) refl (comma_lexed (constant (long_text n) ∷ []) (constant_lexed n (long_text n) [] (word_constant n h) refl tt))) (omega arith)
