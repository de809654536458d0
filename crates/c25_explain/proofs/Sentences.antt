-- The first sentence of a text, one character after another.
use Rattle.std.proofs.Common.{◌≡◌, ◌∙◌, ◌==◌, ◌&&◌, ◌+◌, ◌<◌, ◌≤◌, ℕ, Bool, true, false, ap, append-nil, append_assoc, drop, encode_utf8, encode_utf8_all, get_or, length, sym, List, [], ◌∷◌, ◌++◌}
use Rattle.std.proofs.lemmas.List.{at_drop_all, at_drop_more}
use Rattle.std.specs.Prelude.{if◌then◌else◌}
use Rattle.c25_explain.specs.Sentence.{in_one_line, is_blank, sentence_left}

-- what is left of a sentence at a character
left_at : (cs : List ℕ) (n c : ℕ) (stopped : Bool) → (n < length cs) × (c ≡ get_or cs n c) → sentence_left stopped (drop n cs) ≡ (if stopped && is_blank c then [] else in_one_line c ∷ sentence_left (c == 46) (drop (n + 1) cs))
left_at cs n c stopped h =
    at_drop_more (sentence_left stopped) cs n c h.0
    ∙ ap (λ x. if stopped && is_blank x then [] else in_one_line x ∷ sentence_left (x == 46) (drop (n + 1) cs)) (sym h.1)

-- the sentence ends before a blank
pub ends : (cs : List ℕ) (n c : ℕ) (stopped : Bool) (bytes whole : List ℕ) → (n < length cs) × (c ≡ get_or cs n c) → stopped ≡ true → is_blank c ≡ true → bytes ++ encode_utf8_all (sentence_left stopped (drop n cs)) ≡ whole → bytes ≡ whole
ends cs n c stopped bytes whole at stop blank left =
    let none : sentence_left stopped (drop n cs) ≡ [] = left_at cs n c stopped at ∙ ap (λ (b : Bool). if b && is_blank c then [] else in_one_line c ∷ sentence_left (c == 46) (drop (n + 1) cs)) stop ∙ ap (λ (b : Bool). if b then [] else in_one_line c ∷ sentence_left (c == 46) (drop (n + 1) cs)) blank in
    sym (append-nil bytes) ∙ ap (λ cs. bytes ++ encode_utf8_all cs) (sym none) ∙ left

-- the text ends
pub text_ends : (cs : List ℕ) (n : ℕ) (stopped : Bool) (bytes whole : List ℕ) → length cs ≤ n → bytes ++ encode_utf8_all (sentence_left stopped (drop n cs)) ≡ whole → bytes ≡ whole
text_ends cs n stopped bytes whole end left =
    let none : sentence_left stopped (drop n cs) ≡ [] = at_drop_all (sentence_left stopped) cs n end in
    sym (append-nil bytes) ∙ ap (λ cs. bytes ++ encode_utf8_all cs) (sym none) ∙ left

-- the sentence goes on
pub goes_on : (cs : List ℕ) (n m c : ℕ) (stopped : Bool) (bytes longer whole : List ℕ) → (n < length cs) × (c ≡ get_or cs n c) → (stopped && is_blank c) ≡ false → m ≡ n + 1 → longer ≡ bytes ++ encode_utf8 (in_one_line c) → bytes ++ encode_utf8_all (sentence_left stopped (drop n cs)) ≡ whole → longer ++ encode_utf8_all (sentence_left (c == 46) (drop m cs)) ≡ whole
goes_on cs n m c stopped bytes longer whole at on next pushed left =
    let more : sentence_left stopped (drop n cs) ≡ in_one_line c ∷ sentence_left (c == 46) (drop (n + 1) cs) = left_at cs n c stopped at ∙ ap (λ (b : Bool). if b then [] else in_one_line c ∷ sentence_left (c == 46) (drop (n + 1) cs)) on in
    ap (λ l. l ++ encode_utf8_all (sentence_left (c == 46) (drop m cs))) pushed
    ∙ ap (λ (k : ℕ). (bytes ++ encode_utf8 (in_one_line c)) ++ encode_utf8_all (sentence_left (c == 46) (drop k cs))) next
    ∙ append_assoc bytes (encode_utf8 (in_one_line c)) (encode_utf8_all (sentence_left (c == 46) (drop (n + 1) cs)))
    ∙ ap (λ l. bytes ++ encode_utf8_all l) (sym more) ∙ left
