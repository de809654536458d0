-- Which bytes of a line stand outside quotes and the comment (this project's own; quotes as in SPRU018,
-- assembler description, character strings and constants). A quote is closed by the next byte that is that
-- quote, or by the end of the text, so this is defined for any text.
use Rattle.std.specs.Prelude.{ℕ, ◌+◌, Bool, true, false, ◌||◌, ◌==◌, if◌then◌else◌, List, [], ◌∷◌, length, Option, Some, None, option_map}
use Rattle.c25_meaning_language.specs.declared.quoting.Quoting.{Quoting}
use Rattle.c25_meaning_language.specs.declared.quoting.Quoting.TheVariants.{Outside, Within, Throughout, Comment}

-- where the byte after `b` stands, if `b` stands here: 34 and 39 are the quotes, 59 is `;`
abbrev pub behind : ℕ → Quoting → Quoting
behind b Outside = if b == 34 || b == 39 then Within b else (if b == 59 then Comment else Outside)
behind b (Within quote) = if b == quote then Outside else Within quote
behind b Throughout = Throughout
behind b Comment = Comment

-- whether a byte is the one sought and stands outside quotes and the comment
abbrev pub is_outer : ℕ → ℕ → Quoting → Bool
is_outer sought b Outside = b == sought
is_outer sought b _ = false

-- how many bytes stand before the first byte sought outside quotes and the comment; all where there is none
unfoldable pub outer_len : ℕ → Quoting → List ℕ → ℕ
outer_len sought quoting [] = 0
outer_len sought quoting (b ∷ rest) = if is_outer sought b quoting then 0 else 1 + outer_len sought (behind b quoting) rest

-- the place of the last one sought in a text: a place further on, if there is one, or else 0, if the byte at
-- the front is one
abbrev pub or_before : Option ℕ → Bool → Option ℕ
or_before (Some n) here = Some n
or_before None true = Some 0
or_before None false = None

-- the place of the last comma outside quotes and the comment, if there is one
unfoldable pub last_comma : Quoting → List ℕ → Option ℕ
last_comma quoting [] = None
last_comma quoting (b ∷ rest) = or_before (option_map (λ n. n + 1) (last_comma (behind b quoting) rest)) (is_outer 44 b quoting)

-- how many bytes stand before the last comma outside quotes and the comment; all where there is none
abbrev pub last_comma_len : List ℕ → ℕ
last_comma_len text = elim (last_comma Outside text) [ None ↦ length text | Some n ↦ n ]
