-- What names stand for in substitution, and the fragments of a text (SPRU018, macro language: substitution
-- symbols, forced substitution `:name:`, unique labels `name?`; what is a unit outside quotes is this
-- project's own).
use Rattle.std.specs.Prelude.{ℕ, zero, suc, ◌+◌, ◌-◌, max, nat_le, ◌==◌, Bool, true, false, ◌&&◌, if◌then◌else◌, List, [], ◌∷◌, length, take, drop, slice_index, Option, Some, None, option_map, option_and_then}
use Rattle.std.specs.List.{prefix_len, take_while, list_any}
use Rattle.std.specs.Map.{lookup}
use Rattle.std.specs.Option.{option_or}
use Rattle.std.specs.Str.{bytes_eq}
use Rattle.c25_meaning_common.specs.Bytes.{is_digit, is_letter_or_digit, begins_name, goes_on_name}
use Rattle.c25_meaning_language.specs.Quoting.{behind}
use Rattle.c25_meaning_language.specs.declared.quoting.Quoting.{Quoting}
use Rattle.c25_meaning_language.specs.declared.quoting.Quoting.TheVariants.{Outside, Within, Throughout, Comment}

-- ---- names

-- the text that a name stands for, if it stands for one
abbrev pub Replacements : Type 0
Replacements = List ℕ → Option (List ℕ)

-- what names stand for inside an expansion: the macro's arguments first, then the names of `.asg` and `.eval`
abbrev pub visible : List (List ℕ × List ℕ) → List (List ℕ × List ℕ) → Replacements
visible arguments texts name = option_or (lookup (bytes_eq name) arguments) (lookup (bytes_eq name) texts)

-- these names, except those set aside, which stand for nothing
abbrev pub without : List (List ℕ) → Replacements → Replacements
without aside names name = if list_any (bytes_eq name) aside then None else names name

-- ---- a text in fragments

-- a fragment of a text: bytes that stay as they are; `name?`; or a name that is replaced by a text, and the
-- quoting in which that text begins
pub data Fragment : Type 0 where
  Kept : (text : List ℕ) → Fragment
  Numbered : (name : List ℕ) → Fragment
  Replaced : (name : List ℕ) (text : List ℕ) (quoting : Quoting) → Fragment

-- the fragment at the front of a text, and how many bytes of the text it covers
pub record Front : Type 0 where
  pub fragment : Fragment
  pub size : ℕ

-- the first `size` bytes of a text, as they are
abbrev pub kept : ℕ → List ℕ → Front
kept size text = record { fragment = Kept (take size text); size = size }

-- whether a byte is not an ASCII character
abbrev pub is_beyond_ascii : ℕ → Bool
is_beyond_ascii b = nat_le 128 b

-- one byte, or a whole run of bytes that are not ASCII characters
abbrev pub character : List ℕ → Front
character text = kept (max (prefix_len is_beyond_ascii text) 1) text

-- the name between two colons at the front of a text, if the text begins with one
abbrev pub between_colons : List ℕ → Option (List ℕ)
between_colons text =
    if slice_index text 0 == 58 && (begins_name (slice_index text 1) && slice_index text (prefix_len goes_on_name (drop 1 text) + 1) == 58)
    then Some (take_while goes_on_name (drop 1 text)) else None

-- the quoting in which the text begins that replaces a name here: inside quotes it is quoted throughout
abbrev pub inside : Quoting → Quoting
inside Outside = Outside
inside (Within quote) = Throughout
inside Throughout = Throughout
inside Comment = Comment

-- the fragment of a whole name: `name?` if a `?` follows, a replaced name if it stands for a text, else the
-- name as it is
abbrev pub whole_name : Replacements → List ℕ → Bool → Front
whole_name names name true = record { fragment = Numbered name; size = length name + 1 }
whole_name names name false = elim (names name) [
  | None ↦ record { fragment = Kept name; size = length name }
  | Some text ↦ record { fragment = Replaced name text Outside; size = length name }
]

-- the fragment at the front outside quotes: a whole constant, a whole name with a dot before it, a whole
-- name, or a character
abbrev pub unit : Replacements → List ℕ → Front
unit names text =
    if is_digit (slice_index text 0) then kept (prefix_len is_letter_or_digit text) text
    else (if slice_index text 0 == 46 && begins_name (slice_index text 1) then kept (prefix_len goes_on_name (drop 1 text) + 1) text
    else (if begins_name (slice_index text 0) then whole_name names (take_while goes_on_name text) (slice_index text (prefix_len goes_on_name text) == 63)
    else character text))

-- the fragment at the front without forced substitution: inside quotes and comments names are not looked for
abbrev pub unforced : Replacements → Quoting → List ℕ → Front
unforced names Outside text = unit names text
unforced names _ text = character text

-- forced substitution: the name between two colons at the front and the text that it stands for; comments
-- have none
abbrev pub forced : Replacements → Quoting → List ℕ → Option (List ℕ × List ℕ)
forced names Comment text = None
forced names _ text = option_and_then (λ name. option_map (λ inner. (name, inner)) (names name)) (between_colons text)

-- the fragment of a forced substitution, which covers both colons; else the other fragment
abbrev pub forced_or : Option (List ℕ × List ℕ) → Quoting → Front → Front
forced_or (Some s) quoting other = record { fragment = Replaced s.0 s.1 (inside quoting); size = length s.0 + 2 }
forced_or None quoting other = other

-- the fragment at the front of a text that is not empty: a forced substitution goes first
unfoldable pub front : Replacements → Quoting → List ℕ → Front
front names quoting text = forced_or (forced names quoting text) quoting (unforced names quoting text)

-- the fragments of a text, where a fragment before it still covers `skip` bytes. Three texts, where `k` alone
-- stands for a text, `1`:
--    LAC k     Kept " ", Kept "LAC", Kept " ", Replaced "k" "1" Outside
--   :k:k5 k?   Replaced "k" "1" Outside, Kept "k5", Kept " ", Numbered "k"
--   'k:k:      Kept "'", Kept "k", Replaced "k" "1" Throughout
unfoldable pub fragments : Replacements → Quoting → ℕ → List ℕ → List Fragment
fragments names quoting skip [] = []
fragments names quoting (suc skip) (b ∷ rest) = fragments names quoting skip rest
fragments names quoting zero (b ∷ rest) =
    (front names quoting (b ∷ rest)).fragment ∷ fragments names (behind b quoting) ((front names quoting (b ∷ rest)).size - 1) rest
