-- Texts that grow at their end.
use Rattle.std.proofs.Common.{◌≡◌, ℕ, List, [], ◌∷◌, ◌++◌, Result, Ok, Err, OnOk, ap, ◌∙◌, append_assoc}

-- a piece, and two more with a blank before each
counts_joined : (s0 s1 s2 s3 a b c : List ℕ) → s1 ≡ s0 ++ a → s2 ≡ s1 ++ 32 ∷ b → s3 ≡ s2 ++ 32 ∷ c → s3 ≡ s0 ++ (a ++ (32 ∷ []) ++ b ++ (32 ∷ []) ++ c)
counts_joined s0 s1 s2 s3 a b c p q r =
    r
    ∙ ap (λ (x : List ℕ). x ++ 32 ∷ c) (q ∙ ap (λ (x : List ℕ). x ++ 32 ∷ b) p)
    ∙ simp append_assoc

-- a piece, and two more with a blank before each, where the call that appends the last answers
pub counts_told : {X E : Type 0} (r : Result X E) (s0 s1 s2 s3 a b c : List ℕ) → s1 ≡ s0 ++ a → s2 ≡ s1 ++ 32 ∷ b → OnOk r (s3 ≡ s2 ++ 32 ∷ c)
    → OnOk r (s3 ≡ s0 ++ (a ++ (32 ∷ []) ++ b ++ (32 ∷ []) ++ c))
counts_told (Ok x) s0 s1 s2 s3 a b c p q r = counts_joined s0 s1 s2 s3 a b c p q r
counts_told (Err e) s0 s1 s2 s3 a b c p q r = r

-- a line of four pieces and a name, with a blank after the second
line_joined : (s0 s1 s2 s3 s4 s5 head x y name : List ℕ) → s1 ≡ s0 ++ head → s2 ≡ s1 ++ x → s3 ≡ s2 ++ 32 ∷ [] → s4 ≡ s3 ++ y → s5 ≡ s4 ++ 32 ∷ name ++ 10 ∷ []
    → s5 ≡ s0 ++ (head ++ x ++ (32 ∷ []) ++ y ++ (32 ∷ []) ++ name ++ 10 ∷ [])
line_joined s0 s1 s2 s3 s4 s5 head x y name p q r s t =
    t
    ∙ ap (λ (z : List ℕ). z ++ 32 ∷ name ++ 10 ∷ []) (s ∙ ap (λ (z : List ℕ). z ++ y) (r ∙ ap (λ (z : List ℕ). z ++ 32 ∷ []) (q ∙ ap (λ (z : List ℕ). z ++ x) p)))
    ∙ simp append_assoc

-- a line of four pieces and a name, where the call that appends the name answers
pub line_told : {X E : Type 0} (r : Result X E) (s0 s1 s2 s3 s4 s5 head x y name : List ℕ) → s1 ≡ s0 ++ head → s2 ≡ s1 ++ x → s3 ≡ s2 ++ 32 ∷ [] → s4 ≡ s3 ++ y → OnOk r (s5 ≡ s4 ++ 32 ∷ name ++ 10 ∷ [])
    → OnOk r (s5 ≡ s0 ++ (head ++ x ++ (32 ∷ []) ++ y ++ (32 ∷ []) ++ name ++ 10 ∷ []))
line_told (Ok z) s0 s1 s2 s3 s4 s5 head x y name p q r s t = line_joined s0 s1 s2 s3 s4 s5 head x y name p q r s t
line_told (Err e) s0 s1 s2 s3 s4 s5 head x y name p q r s t = t

-- the whole text
pub text_joined : (s0 s1 s2 s3 s4 head symbols ranges last : List ℕ) → s0 ≡ [] → s1 ≡ s0 ++ head → s2 ≡ s1 ++ symbols → s3 ≡ s2 ++ ranges → s4 ≡ s3 ++ last → s4 ≡ head ++ symbols ++ ranges ++ last
text_joined s0 s1 s2 s3 s4 head symbols ranges last none p q r s =
    s
    ∙ ap (λ (x : List ℕ). x ++ last) (r ∙ ap (λ (x : List ℕ). x ++ ranges) (q ∙ ap (λ (x : List ℕ). x ++ symbols) (p ∙ ap (λ (x : List ℕ). x ++ head) none)))
