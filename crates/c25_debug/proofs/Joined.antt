-- A text that is appended in three parts.
use Rattle.std.proofs.Common.{◌≡◌, ℕ, ◌++◌, List, append_assoc}

pub three_parts : (text a s0 w0 s1 w1 s2 w2 name words end x y z : List ℕ) → x ≡ text ++ a → y ≡ x ++ (s0 ++ w0 ++ s1 ++ w1 ++ s2 ++ w2) → z ≡ y ++ (name ++ words ++ end)
    → z ≡ text ++ (a ++ s0 ++ w0 ++ s1 ++ w1 ++ s2 ++ w2 ++ name ++ words ++ end)
three_parts text a s0 w0 s1 w1 s2 w2 name words end x y z ex ey ez = rw (ez, ey, ex) (simp append_assoc)
