-- The front of a line of an instruction: a blank and a mnemonic, and what its operands are read as.
use Rattle.std.proofs.Common.{◌≡◌, ℕ, suc, ◌+◌, ◌-◌, ◌<◌, Bool, true, false, ◌&&◌, List, [], ◌∷◌, ◌++◌, length, take, drop, nat_lt, codes, Option, Some, None, Result, Ok, refl, ap, ◌∙◌, arith, ◌*◌, ◌≤◌, nat_le}
use Rattle.std.specs.List.{list_all, prefix_len, take_while}
use Rattle.std.proofs.Math.Seq.{take-append_seam, drop-append_seam}
use Rattle.std.proofs.lemmas.Bool.{and_from, and_parts}
use Rattle.std.proofs.lemmas.List.{length-append}
use Rattle.std.proofs.lemmas.List.Folds.{list_all-append}
use Rattle.std.proofs.lemmas.Bool.Decides.{nat_tests}
use Rattle.c25_meaning_common.specs.Bytes.{is_blank, is_field, is_visible}
use Rattle.c25_meaning_common.specs.Results.{◌>>=◌, told}
use Rattle.c25_meaning_language.specs.Lexeme.{lexeme}
use Rattle.c25_meaning_language.specs.Line.{Piece, Part, Parts, Scan, scan, scan_from, statement_of, label_in, word_in, word_of, word_start, word_end, past_field, part_from, first_word, some_text}
use Rattle.c25_meaning_language.specs.Line.{statement_by as parts_by}
use Rattle.c25_meaning_language.specs.declared.line.LineFault.{LineFault}
use Rattle.c25_meaning_language.specs.Operands.{operands_of, line_fault}
use Rattle.c25_meaning_language.specs.declared.statement.FaultKind.{FaultKind}
use Rattle.c25_meaning_assembly.specs.AssemblyLine.{Statement, act_of, directive_of, directive_in, instructing, read_statement, statement_by, act_by}
use Rattle.c25_meaning_assembly.specs.declared.assembly.Directive.{Directive}
use Rattle.c25_meaning_assembly.specs.declared.assembly.Directive.TheVariants as directive
use Rattle.c25_meaning_expansion.specs.Acts.{directive_of as expanding_of}
use Rattle.c25_meaning_expansion.specs.ExpansionRules.{directive_in as expanding}
use Rattle.c25_meaning_expansion.specs.declared.expansion.Directive as expansion
use Rattle.c25_print_laws.proofs.Numerals.{front_passes, front_taken}
use Rattle.c25_print_laws.proofs.Tokens.{Word, texts, placed, behind, AreLexed, scanned, is_quiet, texts_quiet, texts_short}

-- a line that expansion leaves alone, if no name stands for a text or a macro
pub record IsQuiet (text : List ℕ) : Type 0 where
  pub unmoved : expanding (first_word text) ≡ None
  pub quiet : list_all is_quiet text ≡ true
  pub short : length text ≤ 1024

-- ---- words

-- whether a text may stand as a first word
abbrev pub is_word : List ℕ → Bool
is_word w = list_all is_field w && list_all is_visible w && nat_lt 0 (length w)

-- whether no directive was found
abbrev pub is_none : Option Directive → Bool
is_none None = true
is_none (Some d) = false

-- whether no directive of expansion was found
abbrev pub is_unmoved : Option expansion.Directive → Bool
is_unmoved None = true
is_unmoved (Some d) = false

abbrev pub is_free : List ℕ → Bool
is_free w = list_all is_quiet w && nat_le (length w) 20 && is_unmoved (expanding (Some w))

abbrev pub is_mnemonic : List ℕ → Bool
is_mnemonic w = is_word w && is_none (directive_of w) && is_free w

pub none_of : (o : Option Directive) → is_none o ≡ true → o ≡ None
none_of None h = refl
none_of (Some d) h = absurd (grind arith)

pub unmoved_of : (o : Option expansion.Directive) → is_unmoved o ≡ true → o ≡ None
unmoved_of None h = refl
unmoved_of (Some d) h = absurd (grind arith)

-- ---- where its parts are

module _ (w tail : List ℕ) (fields : list_all is_field w ≡ true) (visible : list_all is_visible w ≡ true) (some : 0 < length w) (ends : prefix_len is_field tail ≡ 0) where
  no_blank : (b : ℕ) → is_field b ≡ true → is_blank b ≡ false
  no_blank b h = grind (arith, nat_tests)

  blanks : prefix_len is_blank (w ++ tail) ≡ 0
  blanks = of w fields some where
    of : (v : List ℕ) → list_all is_field v ≡ true → 0 < length v → prefix_len is_blank (v ++ tail) ≡ 0
    of [] all has = absurd (omega arith)
    of (b ∷ v) all has = rw (no_blank b (and_parts (is_field b) (list_all is_field v) all).0) refl

  start : word_start (32 ∷ (w ++ tail)) ≡ 1
  start = rw blanks refl

  ending : past_field 1 (32 ∷ (w ++ tail)) ≡ suc (length w)
  ending = rw (front_passes is_field w tail fields ends) (omega arith)

  word_ends : word_end (32 ∷ (w ++ tail)) ≡ suc (length w)
  word_ends = ap (λ k. past_field k (32 ∷ (w ++ tail))) start ∙ ending

  some_of : some_text w ≡ Some w
  some_of = of w some where
    of : (v : List ℕ) → 0 < length v → some_text v ≡ Some v
    of [] has = absurd (omega arith)
    of (b ∷ v) has = refl

  first : first_word (32 ∷ (w ++ tail)) ≡ Some w
  first = ap (λ k. some_text (take_while is_field (drop k (32 ∷ (w ++ tail))))) start ∙ ap some_text (front_taken is_field w tail fields ends) ∙ some_of

  whole_word : word_of 1 w ≡ Ok (Some (record { start = 1; text = w }))
  whole_word = of w visible some where
    of : (v : List ℕ) → list_all is_visible v ≡ true → 0 < length v → word_of 1 v ≡ Ok (Some (record { start = 1; text = v }))
    of [] all has = absurd (omega arith)
    of (b ∷ v) all has = rw all refl

  word : word_in (32 ∷ (w ++ tail)) ≡ Ok (Some (record { start = 1; text = w }))
  word =
      let less : suc (length w) - 1 ≡ length w = omega arith in
      ap (λ k. word_of k (take (past_field k (32 ∷ (w ++ tail)) - k) (drop k (32 ∷ (w ++ tail))))) start
      ∙ ap (λ k. word_of 1 (take (k - 1) (w ++ tail))) ending
      ∙ ap (λ k. word_of 1 (take k (w ++ tail))) less
      ∙ ap (word_of 1) (take-append_seam w tail)
      ∙ whole_word

  joined : (l : Result (Option (List ℕ)) LineFault) (r : Result (Option Part) LineFault) (s : Scan) (text : List ℕ) (p : Part) (pieces : List Piece) (stop : ℕ)
      → l ≡ Ok None → r ≡ Ok (Some p) → s ≡ record { pieces = pieces; fault = None; stop = stop }
      → parts_by l r s text ≡ Ok (record { label = None; word = Some p; pieces = pieces; comment = part_from stop (drop stop text) })
  joined l r s text p pieces stop a b c = rw (a, b, c) refl

  parts : (pieces : List Piece) (stop : ℕ) → scan 0 (suc (length w)) tail ≡ record { pieces = pieces; fault = None; stop = stop }
      → statement_of (32 ∷ (w ++ tail)) ≡ Ok (record { label = None; word = Some (record { start = 1; text = w }); pieces = pieces; comment = part_from stop (drop stop (32 ∷ (w ++ tail))) })
  unfolding statement_of
  parts pieces stop e =
      joined (label_in (32 ∷ (w ++ tail))) (word_in (32 ∷ (w ++ tail))) (scan_from (word_end (32 ∷ (w ++ tail))) (32 ∷ (w ++ tail))) (32 ∷ (w ++ tail)) (record { start = 1; text = w }) pieces stop
      refl word (ap (λ k. scan_from k (32 ∷ (w ++ tail))) word_ends ∙ ap (scan 0 (suc (length w))) (drop-append_seam w tail) ∙ e)

  -- what a line says whose first word is no directive
  line : (pieces : List Piece) (stop : ℕ) → directive_of w ≡ None → scan 0 (suc (length w)) tail ≡ record { pieces = pieces; fault = None; stop = stop }
      → read_statement (32 ∷ (w ++ tail)) ≡ (instructing w (operands_of pieces) >>= λ act. Ok (record { label = None; act = act }))
  unfolding statement_by
  line pieces stop none e =
      ap (λ o. statement_by o (32 ∷ (w ++ tail))) (ap directive_in first ∙ none)
      ∙ ap (λ (r : Result Parts LineFault). told line_fault r >>= says) (parts pieces stop e)
    where
      says : Parts → Result Statement FaultKind
      says p = act_by None p >>= λ act. Ok (record { label = p.label; act = act })

  -- what a line says that puts words
  word_line : (pieces : List Piece) (stop : ℕ) → directive_of w ≡ Some directive.Word → scan 0 (suc (length w)) tail ≡ record { pieces = pieces; fault = None; stop = stop }
      → read_statement (32 ∷ (w ++ tail)) ≡ (act_of directive.Word [] (operands_of pieces) >>= λ act. Ok (record { label = None; act = act }))
  unfolding statement_by
  word_line pieces stop some_directive e =
      ap (λ o. statement_by o (32 ∷ (w ++ tail))) (ap directive_in first ∙ some_directive)
      ∙ ap (λ (r : Result Parts LineFault). told line_fault r >>= says) (parts pieces stop e)
    where
      says : Parts → Result Statement FaultKind
      says p = act_by (Some directive.Word) p >>= λ act. Ok (record { label = p.label; act = act })

-- ---- a first word and its operands

-- the text after a first word
abbrev pub spaced : List Word → List ℕ
spaced [] = []
spaced (w ∷ ws) = 32 ∷ texts (w ∷ ws)

spaced_ends : (ws : List Word) → prefix_len is_field (spaced ws) ≡ 0
spaced_ends [] = refl
spaced_ends (w ∷ ws) = refl

spaced_scanned : (ws : List Word) (at : ℕ) → AreLexed ws → (stop : ℕ) × (scan 0 at (spaced ws) ≡ record { pieces = placed (at + 1) ws; fault = None; stop = stop })
unfolding scan lexeme
spaced_scanned [] at h = (at, refl)
spaced_scanned (w ∷ ws) at h = (behind (at + 1) (w ∷ ws), scanned (w ∷ ws) (at + 1) h)

spaced_quiet : (ws : List Word) → AreLexed ws → (list_all is_quiet (spaced ws) ≡ true) × (length (spaced ws) ≤ 20 * length ws + 1)
spaced_quiet [] h = (refl, omega arith)
spaced_quiet (w ∷ ws) h = (texts_quiet (w ∷ ws) h, let short = texts_short (w ∷ ws) h in omega (arith, short))

-- what may stand as a first word
pub word_parts : (w : List ℕ) → is_word w ≡ true → (list_all is_field w ≡ true) × (list_all is_visible w ≡ true) × (0 < length w)
word_parts w is =
    let two = and_parts (list_all is_field w && list_all is_visible w) (nat_lt 0 (length w)) is in
    let one = and_parts (list_all is_field w) (list_all is_visible w) two.0 in
    let has = two.1 in
    (one.0, one.1, grind (arith, nat_tests, has))

-- the line of a mnemonic and its operands is read as the mnemonic's instruction
pub read_line : (w : List ℕ) (ws : List Word) → is_mnemonic w ≡ true → AreLexed ws
    → read_statement (32 ∷ (w ++ spaced ws)) ≡ (instructing w (operands_of (placed (suc (length w) + 1) ws)) >>= λ act. Ok (record { label = None; act = act }))
read_line w ws is lexed =
    let all = and_parts (is_word w && is_none (directive_of w)) (is_free w) is in
    let both = and_parts (is_word w) (is_none (directive_of w)) all.0 in
    let parts = word_parts w both.0 in
    let pieces = spaced_scanned ws (suc (length w)) lexed in
    line w (spaced ws) parts.0 parts.1 parts.2 (spaced_ends ws) (placed (suc (length w) + 1) ws) pieces.0 (none_of (directive_of w) both.1) pieces.1

-- expansion leaves a line alone whose first word is not one of its directives
pub quiet_line : (w : List ℕ) (ws : List Word) → is_word w ≡ true → is_free w ≡ true → AreLexed ws → length ws ≤ 20 → IsQuiet (32 ∷ (w ++ spaced ws))
quiet_line w ws is free lexed few =
    let parts = word_parts w is in
    let two = and_parts (list_all is_quiet w && nat_le (length w) 20) (is_unmoved (expanding (Some w))) free in
    let one = and_parts (list_all is_quiet w) (nat_le (length w) 20) two.0 in
    let short : length w ≤ 20 = let has = one.1 in grind (arith, nat_tests) in
    let tail = spaced_quiet ws lexed in
    record {
      unmoved = ap expanding (first w (spaced ws) parts.0 parts.1 parts.2 (spaced_ends ws)) ∙ unmoved_of (expanding (Some w)) two.1;
      quiet = list_all-append is_quiet w (spaced ws) ∙ and_from (list_all is_quiet w) (list_all is_quiet (spaced ws)) one.0 tail.0;
      short = let sum = length-append w (spaced ws) in let rest = tail.1 in omega (arith, sum, short, rest, few);
    }

pub quiet_mnemonic : (w : List ℕ) (ws : List Word) → is_mnemonic w ≡ true → AreLexed ws → length ws ≤ 20 → IsQuiet (32 ∷ (w ++ spaced ws))
quiet_mnemonic w ws is lexed few =
    let all = and_parts (is_word w && is_none (directive_of w)) (is_free w) is in
    quiet_line w ws (and_parts (is_word w) (is_none (directive_of w)) all.0).0 all.1 lexed few

pub quiet_words : (ws : List Word) → AreLexed ws → length ws ≤ 20 → IsQuiet (32 ∷ (codes ".word" ++ spaced ws))
unfolding expanding_of
quiet_words ws lexed few = quiet_line (codes ".word") ws refl refl lexed few

-- the line of `.word` and its operands is read as words
pub read_words : (ws : List Word) → AreLexed ws
    → read_statement (32 ∷ (codes ".word" ++ spaced ws)) ≡ (act_of directive.Word [] (operands_of (placed 7 ws)) >>= λ act. Ok (record { label = None; act = act }))
unfolding directive_of
read_words ws lexed =
    let parts = word_parts (codes ".word") refl in
    let pieces = spaced_scanned ws 6 lexed in
    word_line (codes ".word") (spaced ws) parts.0 parts.1 parts.2 (spaced_ends ws) (placed 7 ws) pieces.0 refl pieces.1
