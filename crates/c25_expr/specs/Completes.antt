-- Whether tokens complete an expression, found without its tree: by the parentheses that are open, and
-- whether an operand has to come.
use Rattle.std.specs.Prelude.{ℕ, zero, suc, ◌+◌, Bool, true, false, List, [], ◌∷◌, Option, Some, None, is_some, ◌&&◌, not, ◌==◌}
use Rattle.c25_meaning_language.specs.Tree.{Mark, Operand, Signed, Stray}
use Rattle.c25_meaning_language.specs.Reading.{Frame, Open, Pending, After, unary_of, binary_of, is_open, is_close}

-- how many parentheses and unary operators are open
abbrev pub nesting : List Frame → ℕ
nesting [] = 0
nesting (Open ∷ fs) = nesting fs + 1
nesting (Pending op ∷ fs) = nesting fs + 1
nesting (After l op ∷ fs) = nesting fs

-- how many parentheses are open
abbrev pub opens : List Frame → ℕ
opens [] = 0
opens (Open ∷ fs) = opens fs + 1
opens (Pending op ∷ fs) = opens fs
opens (After l op ∷ fs) = opens fs

-- after a sign where an operand has to come, which is a unary operator (first flag) or opens a group (second
-- flag): whether an operand still has to come, and how many parentheses are open; None where the sign may not
-- stand there
abbrev pub behind_open : ℕ → Bool → Bool → Option (Bool × ℕ)
behind_open n true b = Some (true, n)
behind_open n false true = Some (true, n + 1)
behind_open n false false = None

-- whether an operand has to come, and how many parentheses are open, after a closing parenthesis; None where
-- none is open
abbrev pub behind_close : ℕ → Option (Bool × ℕ)
behind_close zero = None
behind_close (suc n) = Some (false, n)

-- whether an operand has to come, and how many parentheses are open, after a sign that follows an operand,
-- which is a binary operator (first flag) or ends a group (second flag)
abbrev pub behind_follow : ℕ → Bool → Bool → Option (Bool × ℕ)
behind_follow n true b = Some (true, n)
behind_follow n false true = behind_close n
behind_follow n false false = None

-- whether an operand has to come, and how many parentheses are open, after one more token; None where the
-- token may not stand there
abbrev pub behind : Bool → ℕ → Mark → Option (Bool × ℕ)
behind true n (Operand l) = Some (false, n)
behind true n (Signed s) = behind_open n (is_some (unary_of s)) (is_open s)
behind true n Stray = None
behind false n (Operand l) = None
behind false n (Signed s) = behind_follow n (is_some (binary_of s)) (is_close s)
behind false n Stray = None

-- what `more` says after a token, if the token may stand there, else false
abbrev pub completes_on : (Bool → ℕ → Bool) → Option (Bool × ℕ) → Bool
completes_on more None = false
completes_on more (Some p) = more p.0 p.1

-- whether tokens complete an expression of which the front was read: the flag says whether an operand has to
-- come, the number how many parentheses are open
abbrev pub completes : List Mark → Bool → ℕ → Bool
completes [] b n = not b && n == 0
completes (m ∷ ms) b n = completes_on (completes ms) (behind b n m)
