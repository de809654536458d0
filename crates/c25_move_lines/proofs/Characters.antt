-- Texts, one character after another.
use Rattle.std.proofs.Common.{◌≡◌, ◌∙◌, ◌+◌, ◌<◌, ◌≤◌, ℕ, ap, append-nil, append_assoc, drop, encode_utf8, encode_utf8_all, get_or, length, sym, List, [], ◌∷◌, ◌++◌}
use Rattle.std.proofs.lemmas.List.{at_drop_all, at_drop_more}

-- the text ends
pub text_ends : (cs : List ℕ) (n : ℕ) (bytes whole : List ℕ) → length cs ≤ n → bytes ++ encode_utf8_all (drop n cs) ≡ whole → bytes ≡ whole
text_ends cs n bytes whole end left =
    sym (append-nil bytes) ∙ ap (λ cs. bytes ++ cs) (sym (at_drop_all encode_utf8_all cs n end)) ∙ left

-- the text goes on
pub goes_on : (cs : List ℕ) (n m c : ℕ) (bytes longer whole : List ℕ) → (n < length cs) × (c ≡ get_or cs n c) → m ≡ n + 1 → longer ≡ bytes ++ encode_utf8 c → bytes ++ encode_utf8_all (drop n cs) ≡ whole → longer ++ encode_utf8_all (drop m cs) ≡ whole
goes_on cs n m c bytes longer whole at next pushed left =
    ap (λ l. l ++ encode_utf8_all (drop m cs)) pushed
    ∙ ap (λ (k : ℕ). (bytes ++ encode_utf8 c) ++ encode_utf8_all (drop k cs)) next
    ∙ append_assoc bytes (encode_utf8 c) (encode_utf8_all (drop (n + 1) cs))
    ∙ ap (λ x. bytes ++ (encode_utf8 x ++ encode_utf8_all (drop (n + 1) cs))) at.1
    ∙ ap (λ l. bytes ++ l) (sym (at_drop_more encode_utf8_all cs n c at.0)) ∙ left
