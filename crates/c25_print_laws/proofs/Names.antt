-- The names of auxiliary registers and ports: each is one token, and has its number.
use Rattle.std.proofs.Common.{◌≡◌, ℕ, zero, suc, ◌<◌, ◌≤◌, ◌==◌, true, false, List, [], ◌∷◌, ◌++◌, length, nat_le, Some, refl, ap, ◌∙◌, arith}
use Rattle.std.specs.List.{list_all, prefix_len}
use Rattle.std.specs.Fmt.{decimal, digits}
use Rattle.c25_meaning_common.specs.Bytes.{is_blank, begins_name, goes_on_name}
use Rattle.c25_meaning_language.specs.Lexeme.{lexeme, name_of}
use Rattle.c25_meaning_language.specs.declared.line.TokenKind.TheVariants as kind
use Rattle.c25_meaning_language.specs.declared.line.Lexeme.TheVariants.{Token}
use Rattle.c25_meaning_language.specs.Value.{predefined}
use Rattle.std.proofs.lemmas.Bool.Decides.{nat_tests}
use Rattle.c25_print_laws.proofs.Numerals.{all_of, front_passes}
use Rattle.c25_print_laws.proofs.Tokens.{is_quiet}

-- a text is the name of a number wherever nothing follows that goes on with it
pub record IsNameOf (n : ℕ) (text : List ℕ) : Type 0 where
  pub lexed : (more : List ℕ) → prefix_len goes_on_name more ≡ 0 → lexeme (text ++ more) ≡ Token kind.Name (length text)
  pub some : 0 < length text
  pub quiet : list_all is_quiet text ≡ true
  pub short : length text ≤ 20
  pub value : predefined text ≡ Some n

first : (a : ℕ) (more : List ℕ) → is_blank a ≡ false → (a == 59) ≡ false → begins_name a ≡ true → lexeme (a ∷ more) ≡ name_of (prefix_len goes_on_name (a ∷ more))
unfolding lexeme
first a more blank comment begins = rw (blank, comment, begins) refl

of_length : (n : ℕ) → nat_le n 128 ≡ true → name_of n ≡ Token kind.Name n
of_length n h = rw h refl

quiet_name : (b : ℕ) → goes_on_name b ≡ true → is_quiet b ≡ true
quiet_name b h = grind (arith, nat_tests)

le_20 : (n : ℕ) → nat_le n 20 ≡ true → n ≤ 20
le_20 n h = grind (arith, nat_tests)

named : (n a : ℕ) (bs : List ℕ) → is_blank a ≡ false → (a == 59) ≡ false → begins_name a ≡ true → list_all goes_on_name (a ∷ bs) ≡ true → nat_le (length (a ∷ bs)) 128 ≡ true → nat_le (length (a ∷ bs)) 20 ≡ true
    → predefined (a ∷ bs) ≡ Some n → IsNameOf n (a ∷ bs)
named n a bs blank comment begins all short few value = record {
  lexed = λ more ends. first a (bs ++ more) blank comment begins ∙ ap name_of (front_passes goes_on_name (a ∷ bs) more all ends) ∙ of_length (length (a ∷ bs)) short;
  some = omega arith;
  quiet = all_of goes_on_name is_quiet (a ∷ bs) quiet_name all;
  short = le_20 (length (a ∷ bs)) few;
  value = value;
}

-- AR0 to AR7
pub register_name : (n : ℕ) → n < 8 → IsNameOf n (65 ∷ 82 ∷ decimal n)
unfolding digits
register_name zero h = named 0 65 (82 ∷ 48 ∷ []) refl refl refl refl refl refl refl
register_name (suc zero) h = named 1 65 (82 ∷ 49 ∷ []) refl refl refl refl refl refl refl
register_name (suc (suc zero)) h = named 2 65 (82 ∷ 50 ∷ []) refl refl refl refl refl refl refl
register_name (suc (suc (suc zero))) h = named 3 65 (82 ∷ 51 ∷ []) refl refl refl refl refl refl refl
register_name (suc (suc (suc (suc zero)))) h = named 4 65 (82 ∷ 52 ∷ []) refl refl refl refl refl refl refl
register_name (suc (suc (suc (suc (suc zero))))) h = named 5 65 (82 ∷ 53 ∷ []) refl refl refl refl refl refl refl
register_name (suc (suc (suc (suc (suc (suc zero)))))) h = named 6 65 (82 ∷ 54 ∷ []) refl refl refl refl refl refl refl
register_name (suc (suc (suc (suc (suc (suc (suc zero))))))) h = named 7 65 (82 ∷ 55 ∷ []) refl refl refl refl refl refl refl
register_name (suc (suc (suc (suc (suc (suc (suc (suc n)))))))) h = absurd (omega arith)

-- PA0 to PA15
pub port_name : (n : ℕ) → n < 16 → IsNameOf n (80 ∷ 65 ∷ decimal n)
unfolding digits
port_name zero h = named 0 80 (65 ∷ 48 ∷ []) refl refl refl refl refl refl refl
port_name (suc zero) h = named 1 80 (65 ∷ 49 ∷ []) refl refl refl refl refl refl refl
port_name (suc (suc zero)) h = named 2 80 (65 ∷ 50 ∷ []) refl refl refl refl refl refl refl
port_name (suc (suc (suc zero))) h = named 3 80 (65 ∷ 51 ∷ []) refl refl refl refl refl refl refl
port_name (suc (suc (suc (suc zero)))) h = named 4 80 (65 ∷ 52 ∷ []) refl refl refl refl refl refl refl
port_name (suc (suc (suc (suc (suc zero))))) h = named 5 80 (65 ∷ 53 ∷ []) refl refl refl refl refl refl refl
port_name (suc (suc (suc (suc (suc (suc zero)))))) h = named 6 80 (65 ∷ 54 ∷ []) refl refl refl refl refl refl refl
port_name (suc (suc (suc (suc (suc (suc (suc zero))))))) h = named 7 80 (65 ∷ 55 ∷ []) refl refl refl refl refl refl refl
port_name (suc (suc (suc (suc (suc (suc (suc (suc zero)))))))) h = named 8 80 (65 ∷ 56 ∷ []) refl refl refl refl refl refl refl
port_name (suc (suc (suc (suc (suc (suc (suc (suc (suc zero))))))))) h = named 9 80 (65 ∷ 57 ∷ []) refl refl refl refl refl refl refl
port_name (suc (suc (suc (suc (suc (suc (suc (suc (suc (suc zero)))))))))) h = named 10 80 (65 ∷ 49 ∷ 48 ∷ []) refl refl refl refl refl refl refl
port_name (suc (suc (suc (suc (suc (suc (suc (suc (suc (suc (suc zero))))))))))) h = named 11 80 (65 ∷ 49 ∷ 49 ∷ []) refl refl refl refl refl refl refl
port_name (suc (suc (suc (suc (suc (suc (suc (suc (suc (suc (suc (suc zero)))))))))))) h = named 12 80 (65 ∷ 49 ∷ 50 ∷ []) refl refl refl refl refl refl refl
port_name (suc (suc (suc (suc (suc (suc (suc (suc (suc (suc (suc (suc (suc zero))))))))))))) h = named 13 80 (65 ∷ 49 ∷ 51 ∷ []) refl refl refl refl refl refl refl
port_name (suc (suc (suc (suc (suc (suc (suc (suc (suc (suc (suc (suc (suc (suc zero)))))))))))))) h = named 14 80 (65 ∷ 49 ∷ 52 ∷ []) refl refl refl refl refl refl refl
port_name (suc (suc (suc (suc (suc (suc (suc (suc (suc (suc (suc (suc (suc (suc (suc zero))))))))))))))) h = named 15 80 (65 ∷ 49 ∷ 53 ∷ []) refl refl refl refl refl refl refl
port_name (suc (suc (suc (suc (suc (suc (suc (suc (suc (suc (suc (suc (suc (suc (suc (suc n)))))))))))))))) h = absurd (omega arith)
