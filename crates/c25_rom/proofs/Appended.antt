-- A text to which four pieces are appended.
use Rattle.std.proofs.Common.{◌≡◌, ℕ, List, ◌++◌, Result, Ok, Err, OnOk, ap, ◌∙◌, append_assoc}

four_joined : (s0 s1 s2 s3 s4 a b c d : List ℕ) → s1 ≡ s0 ++ a → s2 ≡ s1 ++ b → s3 ≡ s2 ++ c → s4 ≡ s3 ++ d → s4 ≡ s0 ++ (a ++ b ++ c ++ d)
four_joined s0 s1 s2 s3 s4 a b c d p q r s =
    s ∙ ap (λ (x : List ℕ). x ++ d) (r ∙ ap (λ (x : List ℕ). x ++ c) (q ∙ ap (λ (x : List ℕ). x ++ b) p)) ∙ simp append_assoc

pub four_told : {X E : Type 0} (result : Result X E) (s0 s1 s2 s3 s4 a b c d : List ℕ) → s1 ≡ s0 ++ a → s2 ≡ s1 ++ b → s3 ≡ s2 ++ c → OnOk result (s4 ≡ s3 ++ d)
    → OnOk result (s4 ≡ s0 ++ (a ++ b ++ c ++ d))
four_told (Ok x) s0 s1 s2 s3 s4 a b c d p q r s = four_joined s0 s1 s2 s3 s4 a b c d p q r s
four_told (Err e) s0 s1 s2 s3 s4 a b c d p q r s = s
