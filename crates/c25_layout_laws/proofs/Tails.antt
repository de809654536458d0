-- Tokens end before a tab, so that what comes after it changes none.
use Rattle.std.proofs.Common.{◌≡◌, ℕ, zero, suc, ◌+◌, ◌≤◌, ◌==◌, ◌&&◌, not, Bool, true, false, if◌then◌else◌, List, [], ◌∷◌, ◌++◌, length, take, Option, Some, None, option_map, refl, ap, sym, ◌∙◌, arith}
use Rattle.std.specs.Prelude.{slice_index}
use Rattle.std.specs.List.{list_all, prefix_len, take_while}
use Rattle.c25_meaning_common.specs.Bytes.{is_blank, is_digit, is_letter_or_digit, begins_name, goes_on_name, is_plain}
use Rattle.c25_meaning_language.specs.Lexeme.{character_of, constant_of, dotted_of, double_sign, lexeme, name_of, quoted_by, quoted_len, sign_by, single_sign}
use Rattle.c25_meaning_language.specs.declared.line.LineFault.TheVariants.{OpenQuote, StrayText}
use Rattle.c25_meaning_language.specs.declared.line.TokenKind.{TokenKind}
use Rattle.c25_meaning_language.specs.declared.line.TokenKind.TheVariants as kind
use Rattle.c25_meaning_language.specs.declared.line.Lexeme.{Lexeme}
use Rattle.c25_meaning_language.specs.declared.line.Lexeme.TheVariants.{Blank, Comment, Token, Fault}

-- the lexeme that a first byte chooses
abbrev chosen : (blank comment name digit quote string dot : Bool) → (named constant character quoted dotted signed : Lexeme) → Lexeme
chosen blank comment name digit quote string dot named constant character quoted dotted signed =
    if blank then Blank
    else (if comment then Comment
    else (if name then named
    else (if digit then constant
    else (if quote then character
    else (if string then quoted
    else (if dot then dotted
    else signed))))))

module _ (k : TokenKind) (n : ℕ) where
  -- a lexeme that is this token stays it
  abbrev Stays : Lexeme → Lexeme → Type 0
  Stays old new = old ≡ Token k n → new ≡ Token k n

  chosen_stays : (blank comment name digit quote string dot : Bool) (a b c d e f a' b' c' d' e' f' : Lexeme)
      → Stays a a' → Stays b b' → Stays c c' → Stays d d' → Stays e e' → Stays f f'
      → Stays (chosen blank comment name digit quote string dot a b c d e f) (chosen blank comment name digit quote string dot a' b' c' d' e' f')
  chosen_stays true comment name digit quote string dot a b c d e f a' b' c' d' e' f' p q r s t u h = absurd (cc)
  chosen_stays false true name digit quote string dot a b c d e f a' b' c' d' e' f' p q r s t u h = absurd (cc)
  chosen_stays false false true digit quote string dot a b c d e f a' b' c' d' e' f' p q r s t u h = p h
  chosen_stays false false false true quote string dot a b c d e f a' b' c' d' e' f' p q r s t u h = q h
  chosen_stays false false false false true string dot a b c d e f a' b' c' d' e' f' p q r s t u h = r h
  chosen_stays false false false false false true dot a b c d e f a' b' c' d' e' f' p q r s t u h = s h
  chosen_stays false false false false false false true a b c d e f a' b' c' d' e' f' p q r s t u h = t h
  chosen_stays false false false false false false false a b c d e f a' b' c' d' e' f' p q r s t u h = u h

  module _ (more : List ℕ) where
    -- the text with a tab and more after it
    abbrev tabbed : List ℕ → List ℕ
    tabbed text = text ++ 9 ∷ more

    prefix_same : (p : ℕ → Bool) (text : List ℕ) → p 9 ≡ false → prefix_len p (tabbed text) ≡ prefix_len p text
    prefix_same p [] tab = rw tab refl
    prefix_same p (b ∷ text) tab = go (p b) (prefix_same p text tab)
      where
        go : (t : Bool) → prefix_len p (tabbed text) ≡ prefix_len p text → (if t then 1 + prefix_len p (tabbed text) else 0) ≡ (if t then 1 + prefix_len p text else 0)
        go true same = ap (λ (m : ℕ). 1 + m) same
        go false same = refl

    prefix_taken : (p : ℕ → Bool) (text : List ℕ) → take (prefix_len p text) (tabbed text) ≡ take (prefix_len p text) text
    prefix_taken p [] = refl
    prefix_taken p (b ∷ text) = go (p b) (prefix_taken p text)
      where
        go : (t : Bool) → take (prefix_len p text) (tabbed text) ≡ take (prefix_len p text) text
            → take (if t then 1 + prefix_len p text else 0) (b ∷ tabbed text) ≡ take (if t then 1 + prefix_len p text else 0) (b ∷ text)
        go true same =
            let one : 1 + prefix_len p text ≡ suc (prefix_len p text) = omega arith in
            ap (λ (m : ℕ). take m (b ∷ tabbed text)) one ∙ ap (λ (xs : List ℕ). b ∷ xs) same ∙ sym (ap (λ (m : ℕ). take m (b ∷ text)) one)
        go false same = refl

    run_same : (p : ℕ → Bool) (text : List ℕ) → p 9 ≡ false → take_while p (tabbed text) ≡ take_while p text
    run_same p text tab = ap (λ (m : ℕ). take m (tabbed text)) (prefix_same p text tab) ∙ prefix_taken p text

    -- ---- a character

    open_character : (x y : Bool) → (if x && false && false then Token kind.Character 4 else (if y && not x && false then Token kind.Character 3 else Fault OpenQuote)) ≡ Token k n → ⊥
    open_character true true h = cc
    open_character true false h = cc
    open_character false true h = cc
    open_character false false h = cc

    character_stays : (b : ℕ) (text : List ℕ)
        → Stays (character_of (slice_index (b ∷ text) 1) (slice_index (b ∷ text) 2) (slice_index (b ∷ text) 3)) (character_of (slice_index (b ∷ tabbed text) 1) (slice_index (b ∷ tabbed text) 2) (slice_index (b ∷ tabbed text) 3))
    character_stays b [] h = absurd (cc)
    character_stays b (c ∷ []) h = absurd (open_character (c == 39) (is_plain c) h)
    character_stays b (c ∷ d ∷ []) h = h
    character_stays b (c ∷ d ∷ e ∷ text) h = h

    -- ---- a string

    counted : (o : Option ℕ) (m : ℕ) → option_map (λ (j : ℕ). j + 1) o ≡ Some m → (j : ℕ) × (o ≡ Some j) × (j + 1 ≡ m)
    counted None m h = absurd (cc)
    counted (Some j) m h = (j, refl, cc)

    quoted_same : (flag : Bool) (text : List ℕ) (m : ℕ) → quoted_len flag text ≡ Some m → (quoted_len flag (tabbed text) ≡ Some m) × (m ≤ length text)
    quoted_same true [] m h = absurd (cc)
    quoted_same false [] m h = let none : 0 ≡ m = cc in (h, omega (arith, none))
    quoted_same true (b ∷ text) m h =
        let c = counted (quoted_len (not (b == 34)) text) m h in
        let rest = quoted_same (not (b == 34)) text c.0 c.1 in
        let few = rest.1 in
        let more = c.2 in
        (ap (option_map (λ (j : ℕ). j + 1)) rest.0 ∙ ap Some more, omega (arith, few, more))
    quoted_same false (b ∷ text) m h = go (b == 34) h (quoted_same true text)
      where
        go : (t : Bool) → (if t then option_map (λ (j : ℕ). j + 1) (quoted_len true text) else Some 0) ≡ Some m
            → ((j : ℕ) → quoted_len true text ≡ Some j → (quoted_len true (tabbed text) ≡ Some j) × (j ≤ length text))
            → ((if t then option_map (λ (j : ℕ). j + 1) (quoted_len true (tabbed text)) else Some 0) ≡ Some m) × (m ≤ length (b ∷ text))
        go true h each =
            let c = counted (quoted_len true text) m h in
            let rest = each c.0 c.1 in
            let few = rest.1 in
            let more = c.2 in
            (ap (option_map (λ (j : ℕ). j + 1)) rest.0 ∙ ap Some more, omega (arith, few, more))
        go false h each = let none : 0 ≡ m = cc in (h, omega (arith, none))

    taken_same : (m : ℕ) (text : List ℕ) → m ≤ length text → take m (tabbed text) ≡ take m text
    taken_same zero text few = refl
    taken_same (suc m) [] few = absurd (omega (arith, few))
    taken_same (suc m) (b ∷ text) few = ap (λ (xs : List ℕ). b ∷ xs) (taken_same m text (omega (arith, few)))

    quoted_stays : (text : List ℕ) → Stays (quoted_by (quoted_len true text) text) (quoted_by (quoted_len true (tabbed text)) (tabbed text))
    quoted_stays text = go (quoted_len true text) refl
      where
        go : (o : Option ℕ) → quoted_len true text ≡ o → Stays (quoted_by o text) (quoted_by (quoted_len true (tabbed text)) (tabbed text))
        go None e h = absurd (cc)
        go (Some m) e h =
            let same = quoted_same true text m e in
            ap (λ (o : Option ℕ). quoted_by o (tabbed text)) same.0
            ∙ ap (λ (xs : List ℕ). if list_all is_plain xs then Token kind.Quoted (m + 1) else Fault StrayText) (taken_same m text same.1)
            ∙ h

    -- ---- a name with a dot, and a sign

    dotted_stays : (text : List ℕ) → Stays (dotted_of text) (dotted_of (tabbed text))
    dotted_stays [] h = absurd (cc)
    dotted_stays (b ∷ text) h = ap (λ (m : ℕ). if begins_name b then Token kind.DottedName (m + 1) else Fault StrayText) (prefix_same goes_on_name (b ∷ text) refl) ∙ h

    never : (x : Bool) → (x && false) ≡ false
    never true = refl
    never false = refl

    alone : (b : ℕ) → double_sign b 0 ≡ double_sign b 9
    alone b = rw (never (b == 60), never (b == 62), never (b == 61), never (b == 33)) refl

    sign_stays : (b : ℕ) (text : List ℕ) → Stays (sign_by (double_sign b (slice_index (b ∷ text) 1)) (single_sign b)) (sign_by (double_sign b (slice_index (b ∷ tabbed text) 1)) (single_sign b))
    sign_stays b [] h = ap (λ o. sign_by o (single_sign b)) (sym (alone b)) ∙ h
    sign_stays b (c ∷ text) h = h

    -- ---- any token

    pub token_stays : (b : ℕ) (text : List ℕ) → lexeme (b ∷ text) ≡ Token k n → lexeme (b ∷ tabbed text) ≡ Token k n
    unfolding lexeme
    token_stays b text =
        chosen_stays (is_blank b) (b == 59) (begins_name b) (is_digit b) (b == 39) (b == 34) (b == 46)
        (name_of (prefix_len goes_on_name (b ∷ text))) (constant_of (take_while is_letter_or_digit (b ∷ text)))
        (character_of (slice_index (b ∷ text) 1) (slice_index (b ∷ text) 2) (slice_index (b ∷ text) 3))
        (quoted_by (quoted_len true text) text) (dotted_of text) (sign_by (double_sign b (slice_index (b ∷ text) 1)) (single_sign b))
        (name_of (prefix_len goes_on_name (b ∷ tabbed text))) (constant_of (take_while is_letter_or_digit (b ∷ tabbed text)))
        (character_of (slice_index (b ∷ tabbed text) 1) (slice_index (b ∷ tabbed text) 2) (slice_index (b ∷ tabbed text) 3))
        (quoted_by (quoted_len true (tabbed text)) (tabbed text)) (dotted_of (tabbed text)) (sign_by (double_sign b (slice_index (b ∷ tabbed text) 1)) (single_sign b))
        (λ h. ap name_of (prefix_same goes_on_name (b ∷ text) refl) ∙ h) (λ h. ap constant_of (run_same is_letter_or_digit (b ∷ text) refl) ∙ h)
        (character_stays b text) (quoted_stays text) (dotted_stays text) (sign_stays b text)
