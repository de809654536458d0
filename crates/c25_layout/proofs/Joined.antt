-- Texts that grow at their end, where the call that appends the last piece answers.
use Rattle.std.proofs.Common.{◌≡◌, ℕ, List, ◌++◌, Result, Ok, Err, OnOk, ap, ◌∙◌, append_assoc}

-- two pieces
two : (s0 s1 s2 a b : List ℕ) → s1 ≡ s0 ++ a → s2 ≡ s1 ++ b → s2 ≡ s0 ++ (a ++ b)
two s0 s1 s2 a b p q = q ∙ ap (λ (x : List ℕ). x ++ b) p ∙ append_assoc s0 a b

pub two_joined : {X E : Type 0} (r : Result X E) (s0 s1 s2 a b : List ℕ) → s1 ≡ s0 ++ a → OnOk r (s2 ≡ s1 ++ b) → OnOk r (s2 ≡ s0 ++ (a ++ b))
two_joined (Ok x) s0 s1 s2 a b p q = two s0 s1 s2 a b p q
two_joined (Err e) s0 s1 s2 a b p q = q

-- three pieces
pub three_joined : {X E : Type 0} (r : Result X E) (s0 s1 s2 s3 a b c : List ℕ) → s1 ≡ s0 ++ a → s2 ≡ s1 ++ b → OnOk r (s3 ≡ s2 ++ c) → OnOk r (s3 ≡ s0 ++ (a ++ b ++ c))
three_joined r s0 s1 s2 s3 a b c p q t = two_joined r s0 s2 s3 (a ++ b) c (two s0 s1 s2 a b p q) t

-- five pieces
pub five_joined : {X E : Type 0} (r : Result X E) (s0 s1 s2 s3 s4 s5 a b c d e : List ℕ) → s1 ≡ s0 ++ a → s2 ≡ s1 ++ b → s3 ≡ s2 ++ c → s4 ≡ s3 ++ d → OnOk r (s5 ≡ s4 ++ e)
    → OnOk r (s5 ≡ s0 ++ (a ++ b ++ c ++ d ++ e))
five_joined r s0 s1 s2 s3 s4 s5 a b c d e p q t u v =
    two_joined r s0 s4 s5 (a ++ b ++ c ++ d) e (two s0 s3 s4 (a ++ b ++ c) d (two s0 s2 s3 (a ++ b) c (two s0 s1 s2 a b p q) t) u) v
