-- A token lies within its text, and its first and its last byte are ASCII.
use Rattle.std.proofs.Common.{◌≡◌, ℕ, ◌+◌, ◌-◌, ◌<◌, ◌≤◌, Bool, true, false, not, cond, eqb, ◌&&◌, List, [], ◌∷◌, length, get_or, take, drop, Option, Some, None, refl, sym, ap, subst, ◌∙◌, nat_lt, inl, inr, arith}
use Rattle.std.specs.Option.{option_map}
use Rattle.std.specs.List.{prefix_len, list_all, take_while}
use Rattle.std.proofs.lemmas.Bool.{cond_both, eqb-true, and_parts, true_from_ne_false, both_ways, false≢true, cases_lt}
use Rattle.std.proofs.lemmas.Bool.Decides.{nat_tests}
use Rattle.std.proofs.lemmas.List.{get_or_past, get_or-take, get_or-drop, length-drop, length-take}
use Rattle.std.proofs.lemmas.List.Sums.{prefix_len_passes, prefix_len-le-length}
use Rattle.std.proofs.lemmas.List.Folds.{length-prefix_len, list_all_at}
use Rattle.c25_meaning_common.specs.Bytes.{is_blank, is_digit, is_letter_or_digit, begins_name, goes_on_name, is_plain}
use Rattle.c25_meaning_language.specs.Lexeme.{lexeme, name_of, constant_of, character_of, quoted_by, quoted_len, dotted_of, sign_by, double_sign, single_sign}
use Rattle.c25_meaning_language.specs.declared.line.Lexeme.{Lexeme}
use Rattle.c25_meaning_language.specs.declared.line.Lexeme.TheVariants.{Blank, Comment, Token, Fault}
use Rattle.c25_meaning_language.specs.declared.line.LineFault.{LineFault}
use Rattle.c25_meaning_language.specs.declared.line.TokenKind.{TokenKind}
use Rattle.c25_meaning_language.specs.declared.line.LineFault.TheVariants as fault
use Rattle.c25_meaning_language.specs.declared.line.TokenKind.TheVariants as kind
use Rattle.c25_meaning_language.specs.declared.line.Sign.TheVariants as sign
use Rattle.c25_meaning_language.specs.declared.line.Sign.{Sign}

pub record Fits (t : List ℕ) (n : ℕ) : Type 0 where
  pub first : get_or t 0 0 < 128
  pub some : 0 < n
  pub within : n ≤ length t
  pub last : get_or t (n - 1) 0 < 128

abbrev pub TokenFits : List ℕ → Lexeme → Type 0
TokenFits t l = (k : TokenKind) (n : ℕ) → l ≡ Token k n → Fits t n

-- a byte that is not 0 lies within
inside : (t : List ℕ) (i : ℕ) → 0 < get_or t i 0 → i < length t
inside t i h = elim (cases_lt i (length t)) [ inl l ↦ l | inr l ↦ absurd (omega (arith, get_or_past t i 0 l)) ]

-- a run of bytes that pass an ASCII test, the first among them
abbrev is_some_sign : Option Sign → Bool
is_some_sign None = false
is_some_sign (Some s) = true

run_fits : (p : ℕ → Bool) → ((b : ℕ) → p b ≡ true → b < 128) → (t : List ℕ) → p (get_or t 0 0) ≡ true → 0 < length t → Fits t (prefix_len p t)
run_fits p ascii [] h l = absurd (omega (arith, l))
run_fits p ascii (b ∷ bs) h l =
    let some : 0 < prefix_len p (b ∷ bs) = rw h (omega arith) in
    record {
      first = ascii b h;
      some = some;
      within = prefix_len-le-length p (b ∷ bs);
      last = ascii _ (prefix_len_passes p (b ∷ bs) (prefix_len p (b ∷ bs) - 1) 0 (omega (arith, some)));
    }

goes_on_ascii : (b : ℕ) → goes_on_name b ≡ true → b < 128
goes_on_ascii b h = grind (arith, nat_tests)

alphanumeric_ascii : (b : ℕ) → is_letter_or_digit b ≡ true → b < 128
alphanumeric_ascii b h = grind (arith, nat_tests)

plain_ascii : (b : ℕ) → is_plain b ≡ true → b < 128
plain_ascii b h = grind (arith, nat_tests)

begins_goes : (b : ℕ) → begins_name b ≡ true → goes_on_name b ≡ true
begins_goes b h = grind (arith, nat_tests)

digit_letter : (b : ℕ) → is_digit b ≡ true → is_letter_or_digit b ≡ true
digit_letter b h = grind (arith, nat_tests)

len_of : (k k' : TokenKind) (n n' : ℕ) → Token k n ≡ Token k' n' → n ≡ n'
len_of k k' n n' e = cc

fault_fits : (t : List ℕ) (f : LineFault) → TokenFits t (Fault f)
fault_fits t f k n e = cc

name_fits : (t : List ℕ) → begins_name (get_or t 0 0) ≡ true → TokenFits t (name_of (prefix_len goes_on_name t))
name_fits t h =
    let some : 0 < length t = inside t 0 (grind (arith, nat_tests)) in
    cond_both _ _ _ (TokenFits t)
    (λ _ k n e. subst (Fits t) (len_of _ k _ n e) (run_fits goes_on_name goes_on_ascii t (begins_goes (get_or t 0 0) h) some))
    (λ _. fault_fits t _)

constant_fits : (t : List ℕ) → is_digit (get_or t 0 0) ≡ true → TokenFits t (constant_of (take_while is_letter_or_digit t))
constant_fits t h =
    let some : 0 < length t = inside t 0 (grind (arith, nat_tests)) in
    cond_both _ _ _ (TokenFits t)
    (λ _ k n e. subst (Fits t) (sym (length-prefix_len is_letter_or_digit t) ∙ len_of _ k _ n e) (run_fits is_letter_or_digit alphanumeric_ascii t (digit_letter (get_or t 0 0) h) some))
    (λ _. fault_fits t _)

-- a byte at i that is a quote
quote_at : (t : List ℕ) (i : ℕ) → eqb (get_or t i 0) 39 ≡ true → (i < length t) × (get_or t i 0 < 128)
quote_at t i h = let e : get_or t i 0 ≡ 39 = eqb-true _ _ h in (inside t i (omega arith), omega arith)

ends_at : (t : List ℕ) (i : ℕ) (k : TokenKind) → get_or t 0 0 < 128 → (i < length t) × (get_or t i 0 < 128) → TokenFits t (Token k (i + 1))
ends_at t i k f l k' n e =
    let same : i + 1 ≡ n = len_of k k' (i + 1) n e in
    let at : i ≡ n - 1 = omega arith in
    record { first = f; some = omega arith; within = omega (arith, l.0); last = subst (λ (j : ℕ). get_or t j 0 < 128) at l.1 }

character_fits : (t : List ℕ) (c d e : ℕ) → get_or t 1 0 ≡ c → get_or t 2 0 ≡ d → get_or t 3 0 ≡ e → get_or t 0 0 < 128 → TokenFits t (character_of c d e)
character_fits t c d e p q r f = cond_both (eqb c 39 && eqb d 39 && eqb e 39) (Token kind.Character 4) _ (TokenFits t)
    (λ h. ends_at t 3 kind.Character f (quote_at t 3 (ap (λ x. eqb x 39) r ∙ (and_parts (eqb c 39 && eqb d 39) (eqb e 39) h).1)))
    (λ _. cond_both (is_plain c && not (eqb c 39) && eqb d 39) (Token kind.Character 3) (Fault fault.OpenQuote) (TokenFits t)
    (λ h. ends_at t 2 kind.Character f (quote_at t 2 (ap (λ x. eqb x 39) q ∙ (and_parts (is_plain c && not (eqb c 39)) (eqb d 39) h).1)))
    (λ _. fault_fits t fault.OpenQuote))

-- how a string goes on within its text
abbrev Within : Bool → List ℕ → Option ℕ → Type 0
Within inside bs None = Unit {0}
Within true bs (Some n) = (0 < n) × (n ≤ length bs)
Within false bs (Some n) = n ≤ length bs

one_more : (b : ℕ) (bs : List ℕ) (inside was : Bool) (o : Option ℕ) → Within inside bs o → Within was (b ∷ bs) (option_map (λ n. n + 1) o)
one_more b bs inside was None h = tt
one_more b bs true true (Some n) h = (omega arith, omega arith)
one_more b bs true false (Some n) h = omega arith
one_more b bs false true (Some n) h = (omega arith, omega arith)
one_more b bs false false (Some n) h = omega arith

pub string_within : (inside : Bool) (bs : List ℕ) → Within inside bs (quoted_len inside bs)
string_within true [] = tt
string_within false [] = omega arith
string_within true (b ∷ bs) = one_more b bs _ true _ (string_within (not (eqb b 34)) bs)
string_within false (b ∷ bs) = cond_both (eqb b 34) _ _ (Within false (b ∷ bs)) (λ _. one_more b bs true false _ (string_within true bs)) (λ _. omega arith)

all_plain_at : (xs : List ℕ) (i : ℕ) → i < length xs → list_all is_plain xs ≡ true → get_or xs i 0 < 128
all_plain_at xs i l h = plain_ascii _ (true_from_ne_false _ (λ no. both_ways _ (list_all_at is_plain xs i 0 l no) h))

quoted_fits : (t : List ℕ) (o : Option ℕ) → get_or t 0 0 < 128 → 0 < length t → Within true (drop 1 t) o → TokenFits t (quoted_by o (drop 1 t))
quoted_fits t None f l w = fault_fits t _
quoted_fits t (Some m) f l w =
    let at : m < length t = omega (arith, w.1, length-drop 1 t) in
    cond_both _ _ _ (TokenFits t)
    (λ h. ends_at t m _ f (at, subst (λ (b : ℕ). b < 128) (place m w.0 at) (all_plain_at (take m (drop 1 t)) (m - 1) (short m w) h)))
    (λ _. fault_fits t _)
  where
    short : (m : ℕ) → (0 < m) × (m ≤ length (drop 1 t)) → m - 1 < length (take m (drop 1 t))
    short m w = omega (arith, w.0, w.1, length-take m (drop 1 t))

    place : (m : ℕ) → 0 < m → m < length t → get_or (take m (drop 1 t)) (m - 1) 0 ≡ get_or t m 0
    place m p l =
        let e : 1 + (m - 1) ≡ m = omega arith in
        get_or-take m (drop 1 t) (m - 1) 0 (omega arith) ∙ get_or-drop 1 t (m - 1) 0 ∙ ap (λ (j : ℕ). get_or t j 0) e

dotted_fits : (t : List ℕ) → get_or t 0 0 < 128 → 0 < length t → TokenFits t (dotted_of (drop 1 t))
dotted_fits t f l =
    let rest : List ℕ = drop 1 t in
    cond_both (begins_name (get_or rest 0 0)) (Token kind.DottedName (prefix_len goes_on_name rest + 1)) (Fault fault.StrayText) (TokenFits t)
    (λ h. let run = run_fits goes_on_name goes_on_ascii rest (begins_goes (get_or rest 0 0) h) (inside rest 0 (positive _ h)) in
    let e : 1 + (prefix_len goes_on_name rest - 1) ≡ prefix_len goes_on_name rest = omega (arith, run.some) in
    ends_at t (prefix_len goes_on_name rest) kind.DottedName f
    (omega (arith, run.within, run.some, length-drop 1 t), subst (λ (b : ℕ). b < 128) (get_or-drop 1 t (prefix_len goes_on_name rest - 1) 0 ∙ ap (λ (j : ℕ). get_or t j 0) e) run.last))
    (λ _. fault_fits t fault.StrayText)
  where
    positive : (b : ℕ) → begins_name b ≡ true → 0 < b
    positive b h = grind (arith, nat_tests)

-- what a sign asks of its bytes
abbrev Signed : ℕ → Option Sign → Type 0
Signed b o = is_some_sign o ≡ true → (0 < b) × (b < 128)

sign_fits : (t : List ℕ) (one two : Option Sign) → Signed (get_or t 0 0) two → Signed (get_or t 1 0) two → Signed (get_or t 0 0) one → TokenFits t (sign_by two one)
sign_fits t None None h g f = fault_fits t _
sign_fits t (Some o) None h g f = ends_at t 0 _ (f refl).1 (inside t 0 (f refl).0, (f refl).1)
sign_fits t one (Some s) h g f = ends_at t 1 _ (h refl).1 (inside t 1 (g refl).0, (g refl).1)

second_ascii : (b c : ℕ) → Signed c (double_sign b c)
second_ascii b c =
    either (eqb b 60) 60 sign.ShiftLeft _ refl (either (eqb b 62) 62 sign.ShiftRight _ refl (either (eqb b 60) 61 sign.LessOrEqual _ refl (either (eqb b 62) 61 sign.GreaterOrEqual _ refl (either (eqb b 61) 61 sign.Equal _ refl (either (eqb b 33) 61 sign.NotEqual None refl (λ h. absurd (false≢true h)))))))
  where
    either : (first : Bool) (second : ℕ) (s : Sign) (o : Option Sign) → (nat_lt 0 second && nat_lt second 128) ≡ true → Signed c o → Signed c (cond (first && eqb c second) (Some s) o)
    either first second s o fits rest = cond_both (first && eqb c second) (Some s) o (Signed c) (λ h _. let e : c ≡ second = eqb-true c second (and_parts first (eqb c second) h).1 in grind (arith, nat_tests)) (λ _. rest)

first_ascii : (b c : ℕ) → Signed b (double_sign b c)
first_ascii b c h = grind (arith, nat_tests)

single_ascii : (b : ℕ) → Signed b (single_sign b)
single_ascii b h = grind (arith, nat_tests)

-- what a token is, it fits
pub token_fits : (t : List ℕ) → TokenFits t (lexeme t)
unfolding lexeme
token_fits t =
    let b : ℕ = get_or t 0 0 in
    cond_both (is_blank b) Blank _ (TokenFits t) (λ _ k n e. blank_no k n e)
    (λ _. cond_both (eqb b 59) Comment _ (TokenFits t) (λ _ k n e. comment_no k n e)
    (λ _. cond_both (begins_name b) (name_of (prefix_len goes_on_name t)) _ (TokenFits t) (name_fits t)
    (λ _. cond_both (is_digit b) (constant_of (take_while is_letter_or_digit t)) _ (TokenFits t) (constant_fits t)
    (λ _. cond_both (eqb b 39) (character_of (get_or t 1 0) (get_or t 2 0) (get_or t 3 0)) _ (TokenFits t) (λ h. character_fits t _ _ _ refl refl refl (quote_at t 0 h).1)
    (λ _. cond_both (eqb b 34) (quoted_by (quoted_len true (drop 1 t)) (drop 1 t)) _ (TokenFits t) (λ h. let q : b ≡ 34 = eqb-true _ _ h in quoted_fits t _ (omega arith) (inside t 0 (omega arith)) (string_within true (drop 1 t)))
    (λ _. cond_both (eqb b 46) (dotted_of (drop 1 t)) _ (TokenFits t) (λ h. let q : b ≡ 46 = eqb-true _ _ h in dotted_fits t (omega arith) (inside t 0 (omega arith)))
    (λ _. sign_fits t (single_sign b) (double_sign b (get_or t 1 0)) (first_ascii b (get_or t 1 0)) (second_ascii b (get_or t 1 0)) (single_ascii b))))))))
  where
    blank_no : (k : TokenKind) (n : ℕ) → Blank ≡ Token k n → Fits t n
    blank_no k n e = cc

    comment_no : (k : TokenKind) (n : ℕ) → Comment ≡ Token k n → Fits t n
    comment_no k n e = cc
