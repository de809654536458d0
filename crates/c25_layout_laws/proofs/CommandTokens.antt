-- The tokens of the command file of parts.
use Rattle.std.proofs.Common.{◌≡◌, ℕ, suc, ◌+◌, ◌*◌, ◌-◌, ◌/◌, ◌%◌, ◌^◌, ◌<◌, ◌==◌, ◌||◌, min, Bool, true, false, List, [], ◌∷◌, ◌++◌, length, map, codes, nat_lt, Option, Some, None, refl, ap, ◌∙◌, arith, append_assoc}
use Rattle.std.specs.Char.{to_ascii_lowercase}
use Rattle.std.specs.List.{list_all, prefix_len}
use Rattle.std.specs.Str.{bytes_eq}
use Rattle.std.proofs.Math.Seq.{take-append_seam}
use Rattle.std.proofs.lemmas.Bool.{and_parts}
use Rattle.std.proofs.lemmas.Bool.Decides.{nat_tests}
use Rattle.std.proofs.lemmas.Slice.Eq.{bytes_eq-Decides}
use Rattle.c25_layout.specs.declared.layout.Part.{Part}
use Rattle.c25_meaning_common.specs.Bytes.{is_space}
use Rattle.c25_meaning_common.specs.Digits.{digit, hex_digit}
use Rattle.c25_meaning_instructions.specs.Show.{long_text}
use Rattle.c25_meaning_linking.specs.CommandTokens.{Token, is_word, lexeme, scan, word_kind}
use Rattle.c25_meaning_linking.specs.declared.command_token.Keyword.TheVariants as keyword
use Rattle.c25_meaning_linking.specs.declared.command_token.Kind.{Kind}
use Rattle.c25_meaning_linking.specs.declared.command_token.Kind.TheVariants as kind
use Rattle.c25_meaning_linking.specs.declared.command_token.Lexeme.TheVariants as piece
use Rattle.c25_meaning_linking.specs.declared.command_token.Sign.{Sign}
use Rattle.c25_meaning_linking.specs.declared.command_token.Sign.TheVariants as sign
use Rattle.c25_print_laws.proofs.Numerals.{digit_of_hex, front_passes}
use Rattle.c25_layout_laws.specs.Listed.{section_of}

-- ---- pieces of a command's text

-- a piece of a text, and the token that it is: none for a blank
pub record Unit_ : Type 0 where
  pub text : List ℕ
  pub token : Option (Kind × List ℕ)

abbrev pub add : Option (Kind × List ℕ) → ℕ → List Token → List Token
add None at ts = ts
add (Some (k, t)) at ts = record { kind = k; place = at; text = t } ∷ ts

-- the tokens of pieces, and then those of what comes after them
abbrev pub toks : ℕ → List Unit_ → (ℕ → List Token) → List Token
toks at [] later = later at
toks at (u ∷ us) later = add u.token at (toks (at + length u.text) us later)

abbrev pub unit_texts : List Unit_ → List ℕ
unit_texts [] = []
unit_texts (u ∷ us) = u.text ++ unit_texts us

-- a piece in front of a text is its token
abbrev pub IsUnit : Unit_ → List ℕ → Type 0
IsUnit u rest = (at : ℕ) → scan 0 at (u.text ++ rest) ≡ add u.token at (scan 0 (at + length u.text) rest)

abbrev pub AreUnits : List Unit_ → List ℕ → Type 0
AreUnits [] rest = Unit {0}
AreUnits (u ∷ us) rest = IsUnit u (unit_texts us ++ rest) × AreUnits us rest

pub scanned : (us : List Unit_) (rest : List ℕ) (at : ℕ) → AreUnits us rest → scan 0 at (unit_texts us ++ rest) ≡ toks at us (λ at. scan 0 at rest)
scanned [] rest at h = refl
scanned (u ∷ us) rest at h = ap (scan 0 at) (append_assoc u.text (unit_texts us) rest) ∙ h.0 at ∙ ap (add u.token at) (scanned us rest (at + length u.text) h.1)

-- ---- blanks, signs and words

abbrev pub blank : Unit_
blank = record { text = 32 ∷ []; token = None }

abbrev pub feed : Unit_
feed = record { text = 10 ∷ []; token = None }

abbrev pub sign_unit : ℕ → Sign → Unit_
sign_unit b s = record { text = b ∷ []; token = Some (kind.Sign s, []) }

abbrev pub word_unit : List ℕ → Kind → Unit_
word_unit w k = record { text = w; token = Some (k, w) }

is_blank : (rest : List ℕ) → IsUnit blank rest
unfolding scan lexeme
is_blank rest at = refl

pub is_feed : (rest : List ℕ) → IsUnit feed rest
unfolding scan lexeme
is_feed rest at = refl

pub is_open : (rest : List ℕ) → IsUnit (sign_unit 123 sign.OpenBrace) rest
unfolding scan lexeme
is_open rest at = refl

pub is_close : (rest : List ℕ) → IsUnit (sign_unit 125 sign.CloseBrace) rest
unfolding scan lexeme
is_close rest at = refl

is_colon : (rest : List ℕ) → IsUnit (sign_unit 58 sign.Colon) rest
unfolding scan lexeme
is_colon rest at = refl

is_equals : (rest : List ℕ) → IsUnit (sign_unit 61 sign.Equals) rest
unfolding scan lexeme
is_equals rest at = refl

is_comma : (rest : List ℕ) → IsUnit (sign_unit 44 sign.Comma) rest
unfolding scan lexeme
is_comma rest at = refl

run_on : (word rest : List ℕ) (at : ℕ) → scan (length word) at (word ++ rest) ≡ scan 0 (at + length word) rest
unfolding scan
run_on [] rest at = ap (λ k. scan 0 k rest) (omega arith)
run_on (b ∷ word) rest at = run_on word rest (at + 1) ∙ ap (λ k. scan 0 k rest) (omega arith)

no_space : (b : ℕ) → is_word b ≡ true → is_space b ≡ false
no_space b h = grind (arith, nat_tests)

word_lexeme : (b : ℕ) (word rest : List ℕ) → list_all is_word (b ∷ word) ≡ true → prefix_len is_word rest ≡ 0 → lexeme (b ∷ (word ++ rest)) ≡ piece.Word (length (b ∷ word))
unfolding lexeme
word_lexeme b word rest all ends =
    let first = (and_parts (is_word b) (list_all is_word word) all).0 in
    let passes = front_passes is_word word rest (and_parts (is_word b) (list_all is_word word) all).1 ends in
    let size : 1 + prefix_len is_word (word ++ rest) ≡ suc (length word) = omega (arith, passes) in
    rw (no_space b first, first) (ap piece.Word size)

is_word_unit : (w : List ℕ) (k : Kind) (rest : List ℕ) → 0 < length w → list_all is_word w ≡ true → word_kind w ≡ k → prefix_len is_word rest ≡ 0 → IsUnit (word_unit w k) rest
unfolding scan
is_word_unit [] k rest some all kind_is ends at = absurd (omega (arith, some))
is_word_unit (b ∷ word) k rest some all kind_is ends at =
    let less : suc (length word) - 1 ≡ length word = omega arith in
    let here : at + 1 + length word ≡ at + suc (length word) = omega arith in
    rw (word_lexeme b word rest all ends, less, run_on word rest (at + 1), take-append_seam word rest, here) (ap (λ (x : Kind). record { kind = x; place = at; text = b ∷ word } ∷ scan 0 (at + suc (length word)) rest) kind_is)

-- ---- the words of a command

differ : (xs ys : List ℕ) → (xs ≡ ys → ⊥) → bytes_eq xs ys ≡ false
differ xs ys apart = on (bytes_eq xs ys) refl
  where
    on : (b : Bool) → bytes_eq xs ys ≡ b → b ≡ false
    on true e = absurd (apart ((bytes_eq-Decides xs ys).0 e))
    on false e = refl

module _ (a b c d : ℕ) (p : a < 16) (q : b < 16) (r : c < 16) (s : d < 16) where
  abbrev digits : List ℕ
  digits = hex_digit a ∷ hex_digit b ∷ hex_digit c ∷ hex_digit d ∷ []

  word_digit : (n : ℕ) → n < 16 → is_word (hex_digit n) ≡ true
  word_digit n h = grind (arith, nat_tests)

  digits_word : list_all is_word digits ≡ true
  digits_word = rw (word_digit a p, word_digit b q, word_digit c r, word_digit d s) refl

  name_word : list_all is_word (112 ∷ digits) ≡ true
  name_word = digits_word

  long_word : list_all is_word (48 ∷ (digits ++ 104 ∷ [])) ≡ true
  long_word = rw (word_digit a p, word_digit b q, word_digit c r, word_digit d s) refl

  no_page : bytes_eq (map to_ascii_lowercase (112 ∷ digits)) (codes "page") ≡ false
  no_page = differ (map to_ascii_lowercase (112 ∷ digits)) (codes "page") (λ e. let sizes : 5 ≡ 4 = ap length e in omega (arith, sizes))

  name_kind : word_kind (112 ∷ digits) ≡ kind.Name
  unfolding word_kind
  name_kind = rw no_page refl

  no_x : (n : ℕ) → n < 16 → (hex_digit n == 120 || hex_digit n == 88) ≡ false
  no_x n h = grind (arith, nat_tests)

  hex_below : (n : ℕ) → n < 16 → nat_lt (digit (hex_digit n)) 16 ≡ true
  hex_below n h = grind (arith, nat_tests)

  long_kind : word_kind (48 ∷ (digits ++ 104 ∷ [])) ≡ kind.Number (((a * 16 + b) * 16 + c) * 16 + d)
  unfolding word_kind
  long_kind =
      let of_a = digit_of_hex a p in
      let of_b = digit_of_hex b q in
      let of_c = digit_of_hex c r in
      let of_d = digit_of_hex d s in
      let least : min (((((0 * 16 + digit (hex_digit a)) * 16 + digit (hex_digit b)) * 16 + digit (hex_digit c)) * 16 + digit (hex_digit d))) (2 ^ 32 - 1) ≡ ((a * 16 + b) * 16 + c) * 16 + d = omega (arith, of_a, of_b, of_c, of_d, p, q, r, s) in
      rw (no_x a p, hex_below a p, hex_below b q, hex_below c r, hex_below d s) (ap kind.Number least)

-- the name of a part's section
pub name_unit : (address : ℕ) (rest : List ℕ) → prefix_len is_word rest ≡ 0 → IsUnit (word_unit (section_of address) kind.Name) rest
name_unit address rest ends =
    is_word_unit (section_of address) kind.Name rest (omega arith)
    (name_word (address / 256 / 16 % 16) (address / 256 % 16) (address / 16 % 16) (address % 16) (omega arith) (omega arith) (omega arith) (omega arith))
    (name_kind (address / 256 / 16 % 16) (address / 256 % 16) (address / 16 % 16) (address % 16) (omega arith) (omega arith) (omega arith) (omega arith)) ends

-- a number of 16 bits
pub long_unit : (n : ℕ) (rest : List ℕ) → n < 65536 → prefix_len is_word rest ≡ 0 → IsUnit (word_unit (long_text n) (kind.Number n)) rest
long_unit n rest small ends =
    let whole : (((n / 256 / 16 % 16) * 16 + n / 256 % 16) * 16 + n / 16 % 16) * 16 + n % 16 ≡ n = omega (arith, small) in
    is_word_unit (long_text n) (kind.Number n) rest (omega arith)
    (long_word (n / 256 / 16 % 16) (n / 256 % 16) (n / 16 % 16) (n % 16) (omega arith) (omega arith) (omega arith) (omega arith))
    (long_kind (n / 256 / 16 % 16) (n / 256 % 16) (n / 16 % 16) (n % 16) (omega arith) (omega arith) (omega arith) (omega arith) ∙ ap kind.Number whole) ends

keyword_load : (rest : List ℕ) → prefix_len is_word rest ≡ 0 → IsUnit (word_unit (codes "load") (kind.Keyword keyword.Load)) rest
unfolding word_kind
keyword_load rest ends = is_word_unit (codes "load") (kind.Keyword keyword.Load) rest (omega arith) refl refl ends

keyword_page : (rest : List ℕ) → prefix_len is_word rest ≡ 0 → IsUnit (word_unit (codes "PAGE") (kind.Keyword keyword.Page)) rest
unfolding word_kind
keyword_page rest ends = is_word_unit (codes "PAGE") (kind.Keyword keyword.Page) rest (omega arith) refl refl ends

keyword_run : (rest : List ℕ) → prefix_len is_word rest ≡ 0 → IsUnit (word_unit (codes "run") (kind.Keyword keyword.Run)) rest
unfolding word_kind
keyword_run rest ends = is_word_unit (codes "run") (kind.Keyword keyword.Run) rest (omega arith) refl refl ends

pub keyword_sections : (rest : List ℕ) → prefix_len is_word rest ≡ 0 → IsUnit (word_unit (codes "SECTIONS") (kind.Keyword keyword.Sections)) rest
unfolding word_kind
keyword_sections rest ends = is_word_unit (codes "SECTIONS") (kind.Keyword keyword.Sections) rest (omega arith) refl refl ends

number_0 : (rest : List ℕ) → prefix_len is_word rest ≡ 0 → IsUnit (word_unit (codes "0") (kind.Number 0)) rest
unfolding word_kind
number_0 rest ends = is_word_unit (codes "0") (kind.Number 0) rest (omega arith) refl refl ends

-- ---- lines

abbrev pub run_units : Option ℕ → List Unit_
run_units None = feed ∷ []
run_units (Some run) = sign_unit 44 sign.Comma ∷ blank ∷ word_unit (codes "run") (kind.Keyword keyword.Run) ∷ blank ∷ sign_unit 61 sign.Equals ∷ blank ∷ word_unit (long_text run) (kind.Number run) ∷ feed ∷ []

abbrev pub line_units : Part → List Unit_
line_units p =
    blank ∷ blank ∷ word_unit (section_of p.address) kind.Name ∷ blank ∷ sign_unit 58 sign.Colon ∷ blank ∷ word_unit (codes "load") (kind.Keyword keyword.Load) ∷ blank ∷ sign_unit 61 sign.Equals ∷ blank
    ∷ word_unit (long_text p.address) (kind.Number p.address) ∷ blank ∷ word_unit (codes "PAGE") (kind.Keyword keyword.Page) ∷ blank ∷ word_unit (codes "0") (kind.Number 0) ∷ run_units p.run

abbrev pub RunFits : Option ℕ → Type 0
RunFits None = Unit {0}
RunFits (Some run) = run < 65536

run_units_are : (o : Option ℕ) (rest : List ℕ) → RunFits o → AreUnits (run_units o) rest × (prefix_len is_word (unit_texts (run_units o) ++ rest) ≡ 0)
run_units_are None rest h = ((is_feed rest, tt), refl)
run_units_are (Some run) rest h = (
  (is_comma _, (is_blank _, (keyword_run _ refl, (is_blank _, (is_equals _, (is_blank _, (long_unit run (10 ∷ rest) h refl, (is_feed rest, tt)))))))),
  refl,
)

pub line_units_are : (p : Part) (rest : List ℕ) → p.address < 65536 → RunFits p.run → AreUnits (line_units p) rest
line_units_are p rest small fits =
    let run = run_units_are p.run rest fits in (is_blank _, (is_blank _, (name_unit p.address _ refl, (is_blank _, (is_colon _, (is_blank _, (keyword_load _ refl, (is_blank _, (is_equals _, (is_blank _, (long_unit p.address _ small refl, (is_blank _, (keyword_page _ refl, (is_blank _, (number_0 _ run.1, run.0)))))))))))))))
