-- Words are ASCII, and so are texts.
use Rattle.std.proofs.Common.{◌≡◌, ℕ, suc, ◌<◌, ◌+◌, Bool, true, false, cond, eqb, ◌&&◌, drop, List, [], ◌∷◌, take, get_or, Option, Some, None, refl, sym, ap, subst, arith}
use Rattle.std.specs.List.{prefix_len}
use Rattle.std.specs.Option.{option_map_or}
use Rattle.std.specs.Str.{IsAscii, IsUtf8}
use Rattle.std.proofs.lemmas.Str.{IsUtf8-from_ascii}
use Rattle.std.proofs.lemmas.Str.Ascii.{IsAscii-nil, IsAscii-cons}
use Rattle.std.proofs.lemmas.Bool.Decides.{nat_tests}
use Rattle.c25_meaning_common.specs.Bytes.{is_space}
use Rattle.c25_meaning_linking.specs.CommandTokens.{is_word, sign_of, lexeme, comment_len}
use Rattle.c25_meaning_linking.specs.declared.command_token.Sign.{Sign}
use Rattle.c25_meaning_linking.specs.declared.command_token.Lexeme.TheVariants as piece

byte_small : (b : ℕ) → is_word b ≡ true → b < 128
byte_small b e = grind (arith, nat_tests)

suc_is : (n : ℕ) → 1 + n ≡ suc n
suc_is n = omega arith

one_more : (n b : ℕ) (text : List ℕ) → take (1 + n) (b ∷ text) ≡ b ∷ take n text
one_more n b text = ap (λ (k : ℕ). take k (b ∷ text)) (suc_is n)

-- what passes from the front on is ASCII
IsAscii-prefix : (text : List ℕ) → IsAscii (take (prefix_len is_word text) text)
IsAscii-prefix [] = IsAscii-nil
IsAscii-prefix (b ∷ text) = by_first (is_word b) refl (IsAscii-prefix text) where
  by_first : (passes : Bool) → passes ≡ is_word b → IsAscii (take (prefix_len is_word text) text) → IsAscii (take (prefix_len is_word (b ∷ text)) (b ∷ text))
  by_first true e later =
      let longer : take (prefix_len is_word (b ∷ text)) (b ∷ text) ≡ b ∷ take (prefix_len is_word text) text =
      rw (sym e) (one_more (prefix_len is_word text) b text) in
      subst IsAscii (sym longer) (IsAscii-cons b (take (prefix_len is_word text) text) (byte_small b (sym e)) later)
  by_first false e later = rw (sym e) IsAscii-nil

-- a word is what passes from the front on
chosen : (a b c : Bool) (m n : ℕ) (o : Option ℕ) (s : Option Sign)
    → (cond a piece.Blank (cond b (piece.Word m) (cond c (option_map_or (λ k. piece.Comment (k + 2)) o piece.OpenComment) (option_map_or piece.Sign s piece.Stray)))) ≡ piece.Word n → n ≡ m
chosen true b c m n o s e = absurd cc
chosen false true c m n o s e = cc
chosen false false true m n None s e = absurd cc
chosen false false true m n (Some x) s e = absurd cc
chosen false false false m n o None e = absurd cc
chosen false false false m n o (Some x) e = absurd cc

pub word_text : (text : List ℕ) (n : ℕ) → piece.Word n ≡ lexeme text → IsUtf8 (take n text)
unfolding lexeme
word_text text n e =
    let is : n ≡ prefix_len is_word text =
    chosen (is_space (get_or text 0 0)) (is_word (get_or text 0 0)) (eqb (get_or text 0 0) 47 && eqb (get_or text 1 0) 42) (prefix_len is_word text) n (comment_len (drop 2 text)) (sign_of (get_or text 0 0)) (sym e) in
    subst (λ (k : ℕ). IsUtf8 (take k text)) (sym is) (IsUtf8-from_ascii (take (prefix_len is_word text) text) (IsAscii-prefix text))
