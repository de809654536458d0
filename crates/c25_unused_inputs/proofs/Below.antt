-- Lines and counts of the ports below a number, and of one port more.
use Rattle.std.proofs.Common.{◌≡◌, ◌∙◌, ℕ, ◌+◌, List, [], ◌∷◌, ◌++◌, ap, sym, add-one}
use Rattle.c25_unused_inputs.specs.Ports.{count_at, count_of, counts_below, had_below, had_line, unread_below, unread_line}

pub counts_more : (first now : ℕ → List ℕ) (port : ℕ) (made after : List ℕ) (n : ℕ) → after ≡ made ++ n ∷ [] → made ≡ counts_below first port → n ≡ count_of (now port) → now port ≡ first port
    → after ≡ counts_below first (port + 1)
counts_more first now port made after n pushed is counted same =
    pushed ∙ ap (λ xs. xs ++ n ∷ []) is ∙ ap (λ m. counts_below first port ++ m ∷ []) (counted ∙ ap count_of same) ∙ ap (counts_below first) (sym (add-one port))

pub unread_more : (had left : List ℕ) (port : ℕ) (made after line : List ℕ) → after ≡ made ++ line → made ≡ unread_below had left port → line ≡ unread_line port (count_at had port) (count_at left port)
    → after ≡ unread_below had left (port + 1)
unread_more had left port made after line pushed is same =
    pushed ∙ ap (λ xs. xs ++ line) is ∙ ap (λ m. unread_below had left port ++ m) same ∙ ap (unread_below had left) (sym (add-one port))

pub had_more : (had : List ℕ) (port : ℕ) (made after line : List ℕ) → after ≡ made ++ line → made ≡ had_below had port → line ≡ had_line port (count_at had port) → after ≡ had_below had (port + 1)
had_more had port made after line pushed is same =
    pushed ∙ ap (λ xs. xs ++ line) is ∙ ap (λ m. had_below had port ++ m) same ∙ ap (had_below had) (sym (add-one port))
