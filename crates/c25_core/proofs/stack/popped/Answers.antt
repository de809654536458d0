use Rattle.std.proofs.Common.{◌≡◌, ℕ, List, [], ◌∷◌, length, get_or, refl, arith, rules}
use Rattle.c25_meaning_processor.specs.Effect.{popped}
use Rattle.c25_core.proofs.stack.popped.Goals as goal

-- the stack of eight words after a pop, word by word
of_eight : (s : List ℕ) → length s ≡ 8 → get_or s 1 0 ∷ get_or s 2 0 ∷ get_or s 3 0 ∷ get_or s 4 0 ∷ get_or s 5 0 ∷ get_or s 6 0 ∷ get_or s 7 0 ∷ get_or s 7 0 ∷ [] ≡ popped s
of_eight (a ∷ b ∷ c ∷ d ∷ e ∷ f ∷ g ∷ h ∷ []) len = refl
of_eight _ len = absurd (omega arith)

pub returns : goal.returns
returns c = let len : length c.args.stack ≡ 8 = search rules in of_eight c.args.stack len
