-- What lines of a label, a first word and tokens are read as.
use Rattle.std.proofs.Common.{◌≡◌, ℕ, zero, suc, ◌+◌, ◌-◌, ◌/◌, ◌%◌, ◌<◌, ◌≤◌, ◌==◌, true, false, ◌&&◌, List, [], ◌∷◌, ◌++◌, length, nat_le, codes, Option, Some, None, Ok, refl, arith}
use Rattle.std.specs.Prelude.{slice_index, unwrap_or}
use Rattle.std.specs.List.{list_all}
use Rattle.std.proofs.lemmas.Bool.{and_parts}
use Rattle.std.proofs.lemmas.Bool.Decides.{nat_tests}
use Rattle.c25_meaning_common.specs.Bytes.{begins_name, goes_on_name, is_field, is_plain, is_visible}
use Rattle.c25_meaning_common.specs.Digits.{four_digits, hex_digit}
use Rattle.c25_meaning_language.specs.Arguments.{folded}
use Rattle.c25_meaning_language.specs.Lexeme.{lexeme}
use Rattle.c25_meaning_language.specs.Line.{without_colon}
use Rattle.c25_meaning_language.specs.Operands.{operands_of}
use Rattle.c25_meaning_language.specs.Tree.{Tree}
use Rattle.c25_meaning_language.specs.declared.line.TokenKind.TheVariants as kind
use Rattle.c25_meaning_language.specs.declared.line.Lexeme.TheVariants.{Token}
use Rattle.c25_meaning_language.specs.declared.statement.Form.{Form}
use Rattle.c25_meaning_instructions.specs.Table.{row_of}
use Rattle.c25_meaning_instructions.specs.declared.mnemonic.Mnemonic.{Mnemonic}
use Rattle.c25_meaning_instructions.specs.declared.mnemonic.Spelling.TheVariants.{Row}
use Rattle.c25_meaning_assembly.specs.AssemblyLine.{AssemblyAct, Enter, Label, Put, act_of, directive_of, read_statement}
use Rattle.c25_meaning_assembly.specs.declared.assembly.Directive.TheVariants as directive
use Rattle.c25_meaning_assembly.specs.declared.assembly.Target.TheVariants as target
use Rattle.c25_print_laws.proofs.Lines.{is_free, is_mnemonic, is_none, is_word, none_of, word_parts}
use Rattle.c25_print_laws.proofs.Mnemonics.{spells}
use Rattle.c25_print_laws.proofs.Numerals.{all_of}
use Rattle.c25_print_laws.proofs.Operations.{AreOperands}
use Rattle.c25_print_laws.proofs.Tokens.{Word, is_quiet, placed}
use Rattle.c25_print_laws.proofs.Words.{name}
use Rattle.c25_layout.specs.Hints.{is_name}
use Rattle.c25_layout_laws.proofs.LabelledLines.{IsLabelField, directive_line, instruction_line}
use Rattle.c25_layout_laws.proofs.Remarked.{AreAfter, IsLexed}
use Rattle.c25_layout_laws.proofs.Targets.{name_bytes}

-- ---- labels

name_field : (b : ℕ) → goes_on_name b ≡ true → is_field b ≡ true
name_field b h = grind (arith, nat_tests)

no_colon : (b : ℕ) → goes_on_name b ≡ true → (b == 58) ≡ false
no_colon b h = grind (arith, nat_tests)

no_comment : (b : ℕ) → begins_name b ≡ true → ((b == 42) ≡ false) × ((b == 59) ≡ false)
no_comment b h = (grind (arith, nat_tests), grind (arith, nat_tests))

few : (n : ℕ) → n ≤ 128 → nat_le n 128 ≡ true
few n h = grind (arith, nat_tests)

never_colon : (xs : List ℕ) (k : ℕ) → list_all goes_on_name xs ≡ true → (slice_index xs k == 58) ≡ false
never_colon [] k h = refl
never_colon (x ∷ xs) zero h = no_colon x (and_parts (goes_on_name x) (list_all goes_on_name xs) h).0
never_colon (x ∷ xs) (suc k) h = never_colon xs k (and_parts (goes_on_name x) (list_all goes_on_name xs) h).1

whole : (text : List ℕ) → list_all goes_on_name text ≡ true → without_colon text ≡ text
whole text all = rw (never_colon text (length text - 1) all) refl

pub label_field : (text : List ℕ) → is_name text ≡ true → length text ≤ 128 → IsLabelField text (Some text)
label_field [] is short = absurd (cc)
label_field (b ∷ text) is short =
    let all = name_bytes (b ∷ text) is in
    let begins = (and_parts (begins_name b) (list_all goes_on_name text) is).0 in
    let stated = no_comment b begins in
    record {
      fields = all_of goes_on_name is_field (b ∷ text) name_field all;
      given = rw (whole (b ∷ text) all, begins, all, few (length (b ∷ text)) short) refl;
      stated = λ rest. rw (stated.0, stated.1) refl;
    }

pub no_label : IsLabelField [] None
no_label = record { fields = refl; given = refl; stated = λ rest. refl }

-- ---- first words and tokens

-- a line with this first word and these tokens says this, whatever its label is and whatever ends it
abbrev pub Says : List ℕ → List Word → AssemblyAct → Type 0
Says word tokens act = (field : List ℕ) (label : Option (List ℕ)) (tail : List ℕ) → IsLabelField field label → AreAfter tokens tail → read_statement (field ++ 9 ∷ (word ++ tail)) ≡ Ok (record { label = label; act = act })

pub mnemonic_says : (row : Mnemonic) (ws : List Word) (f : Form) (es : List Tree) → is_mnemonic (row_of row).name ≡ true → AreOperands row ws f es → Says (row_of row).name ws (Put (target.Instruction f) es)
mnemonic_says row ws f es is are field label tail labelled after =
    let w = (row_of row).name in
    let all = and_parts (is_word w && is_none (directive_of w)) (is_free w) is in
    let both = and_parts (is_word w) (is_none (directive_of w)) all.0 in
    let parts = word_parts w both.0 in
    let s = after.scanned (length field + 1 + length w) in
    instruction_line field w tail label labelled parts.0 parts.1 parts.2 after.ends (placed (length field + 1 + length w + 1) ws) s.0 s.1 (Put (target.Instruction f) es)
    (none_of (directive_of w) both.1) (rw (spells (Row row), are (length field + 1 + length w + 1)) refl)

pub words_say : (ws : List Word) (act : AssemblyAct) → ((label : List ℕ) (at : ℕ) → act_of directive.Word label (operands_of (placed at ws)) ≡ Ok act) → Says (codes ".word") ws act
unfolding directive_of
words_say ws act does field label tail labelled after =
    let parts = word_parts (codes ".word") refl in
    let s = after.scanned (length field + 1 + 5) in
    directive_line field (codes ".word") tail label labelled parts.0 parts.1 parts.2 after.ends (placed (length field + 1 + 5 + 1) ws) s.0 s.1 directive.Word act refl refl (does (unwrap_or label []) (length field + 1 + 5 + 1))

pub label_says : (text : List ℕ) → Says (codes ".label") (name text ∷ []) (Label text)
unfolding directive_of act_of
label_says text field label tail labelled after =
    let parts = word_parts (codes ".label") refl in
    let s = after.scanned (length field + 1 + 6) in
    directive_line field (codes ".label") tail label labelled parts.0 parts.1 parts.2 after.ends (placed (length field + 1 + 6 + 1) (name text ∷ [])) s.0 s.1 directive.Label (Label text) refl refl refl

-- ---- sections

-- the string of a part's section
abbrev pub section_string : ℕ → Word
section_string address = record { kind = kind.Quoted; text = 34 ∷ 112 ∷ (four_digits address ++ 34 ∷ []) }

-- a hexadecimal digit in a string
record IsDigitByte (b : ℕ) : Type 0 where
  plain : is_plain b ≡ true
  unquoted : (b == 34) ≡ false
  quiet : is_quiet b ≡ true
  visible : is_visible b ≡ true

digit_byte : (n : ℕ) → n < 16 → IsDigitByte (hex_digit n)
digit_byte n h = record { plain = grind (arith, nat_tests); unquoted = grind (arith, nat_tests); quiet = grind (arith, nat_tests); visible = grind (arith, nat_tests) }

module _ (a b c d : ℕ) (p : IsDigitByte a) (q : IsDigitByte b) (r : IsDigitByte c) (s : IsDigitByte d) where
  string_lexed : lexeme (34 ∷ 112 ∷ a ∷ b ∷ c ∷ d ∷ 34 ∷ []) ≡ Token kind.Quoted 7
  unfolding lexeme
  string_lexed = rw (p.unquoted, q.unquoted, r.unquoted, s.unquoted, p.plain, q.plain, r.plain, s.plain) refl

  string_quiet : list_all is_quiet (34 ∷ 112 ∷ a ∷ b ∷ c ∷ d ∷ 34 ∷ []) ≡ true
  string_quiet = rw (p.quiet, q.quiet, r.quiet, s.quiet) refl

  string_entered : (label : List ℕ) (at : ℕ) → act_of directive.Sect label (operands_of (placed at (record { kind = kind.Quoted; text = 34 ∷ 112 ∷ a ∷ b ∷ c ∷ d ∷ 34 ∷ [] } ∷ []))) ≡ Ok (Enter (112 ∷ a ∷ b ∷ c ∷ d ∷ []))
  unfolding act_of folded
  string_entered label at = rw (p.unquoted, q.unquoted, r.unquoted, s.unquoted, p.visible, q.visible, r.visible, s.visible) refl

pub section_lexed : (address : ℕ) → IsLexed (section_string address ∷ [])
section_lexed address =
    let p = digit_byte (address / 256 / 16 % 16) (omega arith) in
    let q = digit_byte (address / 256 % 16) (omega arith) in
    let r = digit_byte (address / 16 % 16) (omega arith) in
    let s = digit_byte (address % 16) (omega arith) in (
      string_lexed _ _ _ _ p q r s,
      omega arith,
      string_quiet _ _ _ _ p q r s,
      omega arith,
      tt,
    )

pub section_says : (address : ℕ) → Says (codes ".sect") (section_string address ∷ []) (Enter (112 ∷ four_digits address))
unfolding directive_of
section_says address field label tail labelled after =
    let p = digit_byte (address / 256 / 16 % 16) (omega arith) in
    let q = digit_byte (address / 256 % 16) (omega arith) in
    let r = digit_byte (address / 16 % 16) (omega arith) in
    let s = digit_byte (address % 16) (omega arith) in
    let parts = word_parts (codes ".sect") refl in
    let scanned = after.scanned (length field + 1 + 5) in
    directive_line field (codes ".sect") tail label labelled parts.0 parts.1 parts.2 after.ends (placed (length field + 1 + 5 + 1) (section_string address ∷ [])) scanned.0 scanned.1 directive.Sect (Enter (112 ∷ four_digits address)) refl refl
    (string_entered _ _ _ _ p q r s (unwrap_or label []) (length field + 1 + 5 + 1))
