-- A line's text that has a fault of 10 to 13 has a part with it, which lies within the line.
use Rattle.std.proofs.Common.{◌≡◌, ℕ, zero, suc, ◌+◌, ◌-◌, ◌<◌, Bool, true, false, not, cond, eqb, ◌&&◌, nat_le, List, [], ◌∷◌, length, get_or, take, drop, Option, Some, None, Result, Ok, Err, refl, sym, ap, subst, ◌∙◌, arith}
use Rattle.std.specs.Prelude.{IsSome}
use Rattle.std.specs.List.{prefix_len, list_all, take_while}
use Rattle.std.proofs.lemmas.Bool.{cond_both, eqb-true}
use Rattle.std.proofs.lemmas.Bool.Decides.{nat_tests}
use Rattle.std.proofs.lemmas.List.{length-drop, length-take, get_or-drop, drop-drop}
use Rattle.std.proofs.lemmas.List.Sums.{prefix_len-le-length}
use Rattle.c25_meaning_common.specs.Bytes.{is_blank, is_digit, is_field, is_letter_or_digit, begins_name, goes_on_name, is_plain, is_visible}
use Rattle.c25_meaning_language.specs.Constant.{is_constant}
use Rattle.c25_meaning_language.specs.Fragments.{is_beyond_ascii}
use Rattle.c25_meaning_language.specs.Lexeme.{lexeme, name_of, constant_of, character_of, quoted_by, quoted_len, dotted_of, sign_by, double_sign, single_sign}
use Rattle.c25_meaning_language.specs.Line as line
use Rattle.c25_meaning_language.specs.Line.{FailsAt, Operands, Parts, Scan, comment_line, is_comment_line, label_end, label_in, label_of, line_of, scan_from, statement_by, statement_of, word_end, word_in, word_of, word_start}
use Rattle.c25_meaning_language.specs.declared.line.Lexeme.{Lexeme}
use Rattle.c25_meaning_language.specs.declared.line.Lexeme.TheVariants.{Blank, Comment, Token, Fault}
use Rattle.c25_meaning_language.specs.declared.line.LineFault.{LineFault}
use Rattle.c25_meaning_language.specs.declared.line.LineFault.TheVariants as fault
use Rattle.c25_meaning_language.specs.declared.line.Sign.{Sign}
use Rattle.c25_meaning_language.specs.declared.line.TokenKind.{TokenKind}
use Rattle.c25_meaning_language.specs.declared.line.TokenKind.TheVariants as kind
use Rattle.c25_text.proofs.Shown.{operands_shown}
use Rattle.c25_places.specs.Refused.{IsWithin}
use Rattle.c25_places.specs.TextPart.{character_part, field_part, label_or_more, part_from, scan_part, stop_part, stray_at, text_part, token_part, word_or_scan}
use Rattle.c25_places.specs.declared.part.Part.{Part}

-- ---- which lexeme has which fault

-- neither of two faults
pub record Earlier (f : LineFault) : Type 0 where
  pub quote : f ≡ fault.OpenQuote → ⊥
  pub stray : f ≡ fault.StrayText → ⊥

same_fault : (f g : LineFault) → Fault f ≡ Fault g → f ≡ g
same_fault f g h = cc

either : (f : LineFault) (b : Bool) (k : TokenKind) (n : ℕ) (g : LineFault) → (f ≡ g → ⊥) → cond b (Token k n) (Fault g) ≡ Fault f → ⊥
either f true k n g apart h = absurd (cc)
either f false k n g apart h = apart (sym (same_fault g f h))

no_character : (f : LineFault) (c d e : ℕ) → Earlier f → character_of c d e ≡ Fault f → ⊥
no_character f c d e apart =
    cond_both (eqb c 39 && eqb d 39 && eqb e 39) (Token kind.Character 4) _ (λ (l : Lexeme). l ≡ Fault f → ⊥) (λ _ h. cc)
    (λ _. either f (is_plain c && not (eqb c 39) && eqb d 39) kind.Character 3 fault.OpenQuote apart.quote)

no_quoted : (f : LineFault) (o : Option ℕ) (rest : List ℕ) → Earlier f → quoted_by o rest ≡ Fault f → ⊥
no_quoted f None rest apart h = apart.quote (sym (same_fault _ f h))
no_quoted f (Some n) rest apart h = either f (list_all is_plain (take n rest)) kind.Quoted (n + 1) fault.StrayText apart.stray h

no_sign : (f : LineFault) (two one : Option Sign) → Earlier f → sign_by two one ≡ Fault f → ⊥
no_sign f (Some s) one apart h = absurd (cc)
no_sign f None (Some s) apart h = absurd (cc)
no_sign f None None apart h = apart.stray (sym (same_fault _ f h))

-- what follows names and constants has the other two faults
later : (f : LineFault) (t : List ℕ) → Earlier f
    → cond (eqb (get_or t 0 0) 39) (character_of (get_or t 1 0) (get_or t 2 0) (get_or t 3 0))
    (cond (eqb (get_or t 0 0) 34) (quoted_by (quoted_len true (drop 1 t)) (drop 1 t))
    (cond (eqb (get_or t 0 0) 46) (dotted_of (drop 1 t))
    (sign_by (double_sign (get_or t 0 0) (get_or t 1 0)) (single_sign (get_or t 0 0))))) ≡ Fault f → ⊥
later f t apart =
    cond_both (eqb (get_or t 0 0) 39) _ _ (λ (l : Lexeme). l ≡ Fault f → ⊥) (λ _. no_character f (get_or t 1 0) (get_or t 2 0) (get_or t 3 0) apart)
    (λ _. cond_both (eqb (get_or t 0 0) 34) _ _ (λ (l : Lexeme). l ≡ Fault f → ⊥) (λ _. no_quoted f (quoted_len true (drop 1 t)) (drop 1 t) apart)
    (λ _. cond_both (eqb (get_or t 0 0) 46) _ _ (λ (l : Lexeme). l ≡ Fault f → ⊥) (λ _. either f (begins_name (get_or (drop 1 t) 0 0)) kind.DottedName (prefix_len goes_on_name (drop 1 t) + 1) fault.StrayText apart.stray)
    (λ _. no_sign f (double_sign (get_or t 0 0) (get_or t 1 0)) (single_sign (get_or t 0 0)) apart)))

begins_goes : (b : ℕ) → begins_name b ≡ true → goes_on_name b ≡ true
begins_goes b h = grind (arith, nat_tests)

digit_goes : (b : ℕ) → is_digit b ≡ true → is_letter_or_digit b ≡ true
digit_goes b h = grind (arith, nat_tests)

-- a name that is too long goes on at its first byte
long_name : (t : List ℕ) → lexeme t ≡ Fault fault.BadLabel → goes_on_name (get_or t 0 0) ≡ true
unfolding lexeme
long_name t =
    let b : ℕ = get_or t 0 0 in
    cond_both (is_blank b) Blank _ (λ (l : Lexeme). l ≡ Fault fault.BadLabel → goes_on_name b ≡ true) (λ _ h. absurd (cc))
    (λ _. cond_both (eqb b 59) Comment _ (λ (l : Lexeme). l ≡ Fault fault.BadLabel → goes_on_name b ≡ true) (λ _ h. absurd (cc))
    (λ _. cond_both (begins_name b) (name_of (prefix_len goes_on_name t)) _ (λ (l : Lexeme). l ≡ Fault fault.BadLabel → goes_on_name b ≡ true) (λ holds _. begins_goes b holds)
    (λ _. cond_both (is_digit b) (constant_of (take_while is_letter_or_digit t)) _ (λ (l : Lexeme). l ≡ Fault fault.BadLabel → goes_on_name b ≡ true)
    (λ _ h. absurd (either fault.BadLabel (is_constant (take_while is_letter_or_digit t)) kind.Constant (length (take_while is_letter_or_digit t)) fault.BadConstant (λ e. cc) h))
    (λ _ h. absurd (later fault.BadLabel t (record { quote = λ e. cc; stray = λ e. cc }) h)))))

-- a constant that is refused goes on at its first byte
bad_constant : (t : List ℕ) → lexeme t ≡ Fault fault.BadConstant → is_letter_or_digit (get_or t 0 0) ≡ true
unfolding lexeme
bad_constant t =
    let b : ℕ = get_or t 0 0 in
    cond_both (is_blank b) Blank _ (λ (l : Lexeme). l ≡ Fault fault.BadConstant → is_letter_or_digit b ≡ true) (λ _ h. absurd (cc))
    (λ _. cond_both (eqb b 59) Comment _ (λ (l : Lexeme). l ≡ Fault fault.BadConstant → is_letter_or_digit b ≡ true) (λ _ h. absurd (cc))
    (λ _. cond_both (begins_name b) (name_of (prefix_len goes_on_name t)) _ (λ (l : Lexeme). l ≡ Fault fault.BadConstant → is_letter_or_digit b ≡ true)
    (λ _ h. absurd (either fault.BadConstant (nat_le (prefix_len goes_on_name t) 128) kind.Name (prefix_len goes_on_name t) fault.BadLabel (λ e. cc) h))
    (λ _. cond_both (is_digit b) (constant_of (take_while is_letter_or_digit t)) _ (λ (l : Lexeme). l ≡ Fault fault.BadConstant → is_letter_or_digit b ≡ true) (λ holds _. digit_goes b holds)
    (λ _ h. absurd (later fault.BadConstant t (record { quote = λ e. cc; stray = λ e. cc }) h)))))

-- ---- runs of bytes

first_passes : (p : ℕ → Bool) (t : List ℕ) → 0 < length t → p (get_or t 0 0) ≡ true → 0 < prefix_len p t
first_passes p [] l h = absurd (omega (arith, l))
first_passes p (b ∷ bs) l h = rw h (omega arith)

not_all : (p : ℕ → Bool) (n : ℕ) (t : List ℕ) → list_all p (take n t) ≡ false → (prefix_len p t < n) × (prefix_len p t < length t)
not_all p zero t h = absurd (cc)
not_all p (suc n) [] h = absurd (cc)
not_all p (suc n) (b ∷ bs) h = by (p b) (not_all p n bs) h
  where
    by : (c : Bool) → (list_all p (take n bs) ≡ false → (prefix_len p bs < n) × (prefix_len p bs < length bs)) → (c && list_all p (take n bs)) ≡ false → (cond c (1 + prefix_len p bs) 0 < suc n) × (cond c (1 + prefix_len p bs) 0 < length (b ∷ bs))
    by true more h = (omega (arith, (more h).0), omega (arith, (more h).1))
    by false more h = (omega arith, omega arith)

run_within : (p : ℕ → Bool) (at : ℕ) (text : List ℕ) → at < length text → p (get_or (drop at text) 0 0) ≡ true → IsWithin text (part_from at (prefix_len p (drop at text)))
run_within p at text l h =
    let some : 0 < prefix_len p (drop at text) = first_passes p (drop at text) (omega (arith, length-drop at text)) h in
    record { some = omega (arith, some); within = omega (arith, l, prefix_len-le-length p (drop at text), length-drop at text) }

character_within : (at : ℕ) (text : List ℕ) → at < length text → IsWithin text (character_part at text)
character_within at text l =
    record { some = omega arith; within = omega (arith, l, prefix_len-le-length is_beyond_ascii (drop at text), length-drop at text) }

-- ---- the token with a fault

-- at a quote stands a string
is_quote : (t : List ℕ) → get_or t 0 0 ≡ 34 → lexeme t ≡ quoted_by (quoted_len true (drop 1 t)) (drop 1 t)
unfolding lexeme
is_quote t e = rw e refl

stray_quoted : (o : Option ℕ) (rest : List ℕ) → quoted_by o rest ≡ Fault fault.StrayText → prefix_len is_plain rest < length rest
stray_quoted None rest h = absurd (cc)
stray_quoted (Some n) rest h =
    cond_both (list_all is_plain (take n rest)) (Token kind.Quoted (n + 1)) (Fault fault.StrayText) (λ (l : Lexeme). l ≡ Fault fault.StrayText → prefix_len is_plain rest < length rest)
    (λ _ e. absurd (cc)) (λ apart _. (not_all is_plain n rest apart).1) h

stray_within : (at : ℕ) (text : List ℕ) → at < length text → lexeme (drop at text) ≡ Fault fault.StrayText → stray_at at text < length text
stray_within at text l h =
    cond_both (eqb (get_or text at 0) 34) (at + 1 + prefix_len is_plain (drop (at + 1) text)) at (λ (n : ℕ). n < length text) quoted (λ _. l)
  where
    quoted : eqb (get_or text at 0) 34 ≡ true → at + 1 + prefix_len is_plain (drop (at + 1) text) < length text
    quoted holds =
        let here : at + 0 ≡ at = omega arith in
        let first : get_or (drop at text) 0 0 ≡ 34 = get_or-drop at text 0 0 ∙ ap (λ (i : ℕ). get_or text i 0) here ∙ eqb-true (get_or text at 0) 34 holds in
        let rest : drop 1 (drop at text) ≡ drop (at + 1) text = drop-drop 1 at text in
        let short : prefix_len is_plain (drop 1 (drop at text)) < length (drop 1 (drop at text)) = stray_quoted _ (drop 1 (drop at text)) (sym (is_quote (drop at text) first) ∙ h) in
        let moved : prefix_len is_plain (drop (at + 1) text) < length (drop (at + 1) text) = subst (λ (t : List ℕ). prefix_len is_plain t < length t) rest short in
        omega (arith, moved, length-drop (at + 1) text)

token_within : (f : LineFault) (at : ℕ) (text : List ℕ) → at < length text → lexeme (drop at text) ≡ Fault f → IsWithin text (token_part f at text)
token_within fault.BadLabel at text l h = run_within goes_on_name at text l (long_name (drop at text) h)
token_within fault.BadConstant at text l h = run_within is_letter_or_digit at text l (bad_constant (drop at text) h)
token_within fault.OpenQuote at text l h = record { some = omega arith; within = omega (arith, l) }
token_within fault.StrayText at text l h = character_within (stray_at at text) text (stray_within at text l h)

same_part : (p q : Part) → Some p ≡ Some q → p ≡ q
same_part p q h = cc

-- ---- lines

scan_within : (at : ℕ) (text : List ℕ) (p : Part) → scan_part at text ≡ Some p → IsWithin text p
unfolding scan_part
scan_within at text p = by (scan_from at text).fault (operands_shown text at)
  where
    by : (f : Option LineFault) → Operands text at (scan_from at text) f → stop_part f (scan_from at text).stop text ≡ Some p → IsWithin text p
    by None o h = absurd (cc)
    by (Some f) o h = subst (IsWithin text) (same_part _ p h) (token_within f (scan_from at text).stop text o.1.0 o.1.1)

word_refused : (at : ℕ) (word : List ℕ) (f : LineFault) → word_of at word ≡ Err f → list_all is_visible word ≡ false
word_refused at [] f h = absurd (cc)
word_refused at (b ∷ rest) f h = by (list_all is_visible (b ∷ rest)) h
  where
    by : (c : Bool) → (let r : Result (Option line.Part) LineFault = cond c (Ok (Some (record { start = at; text = b ∷ rest }))) (Err fault.StrayText) in r) ≡ Err f → c ≡ false
    by true h = absurd (cc)
    by false h = refl

label_refused : (field : List ℕ) (f : LineFault) → label_of field ≡ Err f → 0 < length field
label_refused [] f h = absurd (cc)
label_refused (b ∷ rest) f h = omega arith

field_within : (text : List ℕ) (f : LineFault) → word_in text ≡ Err f → IsWithin text (field_part text)
field_within text f h =
    let start : ℕ = word_start text in
    let short = not_all is_visible (word_end text - start) (drop start text) (word_refused start (take (word_end text - start) (drop start text)) f h) in
    character_within (start + prefix_len is_visible (drop start text)) text (omega (arith, short.1, length-drop start text))

more_within : (w : Result (Option line.Part) LineFault) (text : List ℕ) (p : Part) → word_in text ≡ w → word_or_scan w text ≡ Some p → IsWithin text p
more_within (Err f) text p was h = subst (IsWithin text) (same_part _ p h) (field_within text f was)
more_within (Ok word) text p was h = scan_within (word_end text) text p h

label_within : (l : Result (Option (List ℕ)) LineFault) (text : List ℕ) (p : Part) → label_in text ≡ l → label_or_more l text ≡ Some p → IsWithin text p
label_within (Err f) text p was h =
    let some : 0 < length (take (label_end text) text) = label_refused (take (label_end text) text) f was in
    subst (IsWithin text) (same_part _ p h)
    (record { some = omega (arith, some, length-take (label_end text) text); within = omega (arith, prefix_len-le-length is_field (drop 0 text), length-drop 0 text) })
label_within (Ok label) text p was h = more_within (word_in text) text p refl h

pub text_within : (text : List ℕ) (p : Part) → text_part text ≡ Some p → IsWithin text p
unfolding text_part
text_within text p h = label_within (label_in text) text p refl h

-- a line with a fault has a part with it
some_by : (l : Result (Option (List ℕ)) LineFault) (w : Result (Option line.Part) LineFault) (f : Option LineFault) (text : List ℕ) (e : LineFault)
    → label_in text ≡ l → word_in text ≡ w → (scan_from (word_end text) text).fault ≡ f
    → statement_by l w (record { pieces = (scan_from (word_end text) text).pieces; fault = f; stop = (scan_from (word_end text) text).stop }) text ≡ Err e → IsSome (text_part text)
unfolding text_part scan_part
some_by (Err g) w f text e hl hw hf h = rw hl refl
some_by (Ok l) (Err g) f text e hl hw hf h = rw (hl, hw) refl
some_by (Ok l) (Ok w) None text e hl hw hf h = absurd (cc)
some_by (Ok l) (Ok w) (Some g) text e hl hw hf h = rw (hl, hw, hf) refl

line_by : (b : Bool) (text : List ℕ) (e : LineFault) → (let r : Result Parts LineFault = cond b (Ok (comment_line text)) (statement_of text) in r) ≡ Err e → IsSome (text_part text)
unfolding statement_of
line_by true text e h = absurd (cc)
line_by false text e h = some_by (label_in text) (word_in text) (scan_from (word_end text) text).fault text e refl refl refl h

pub text_refused : (text : List ℕ) (e : LineFault) → line_of text ≡ Err e → IsSome (text_part text)
text_refused text e h = line_by (is_comment_line text) text e h
