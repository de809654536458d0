-- Substitution: names that stand for texts are replaced in a line (SPRU018, macro language: substitution
-- symbols, recursive substitution; that `name?` becomes `name_` and the number of the expansion, and the
-- limits, are this project's own).
use Rattle.std.specs.Prelude.{ℕ, zero, suc, ◌+◌, max, nat_le, if◌then◌else◌, List, [], ◌∷◌, ◌++◌, length, take, drop, Result, Ok, Err}
use Rattle.std.specs.Fmt.{decimal}
use Rattle.c25_meaning_language.specs.Line.{is_comment_line}
use Rattle.c25_meaning_language.specs.Fragments.{Replacements, without, Fragment, Kept, Numbered, Replaced, fragments}
use Rattle.c25_meaning_language.specs.Quoting.{last_comma_len}
use Rattle.c25_meaning_language.specs.declared.long_line.LongLine.{LongLine}
use Rattle.c25_meaning_language.specs.declared.quoting.Quoting.{Quoting}
use Rattle.c25_meaning_language.specs.declared.quoting.Quoting.TheVariants.{Outside, Comment}

-- ---- what a text becomes

-- the text that comes out, and how many replacements it took
pub record Draft : Type 0 where
  pub text : List ℕ
  pub replacements : ℕ

-- a text as it is, without replacements
abbrev pub as_is : List ℕ → Draft
as_is text = record { text = text; replacements = 0 }

-- the first draft with the second after it
abbrev pub joined : Draft → Draft → Draft
joined a b = record { text = a.text ++ b.text; replacements = a.replacements + b.replacements }

-- what comes out of each fragment, one after the other
abbrev pub all_joined : (Fragment → Draft) → List Fragment → Draft
all_joined write [] = as_is []
all_joined write (p ∷ ps) = joined (write p) (all_joined write ps)

-- what comes out of a fragment in the expansion of this number; `replace` gives what comes out of the text
-- that a name stands for
abbrev pub drafted_by : (List ℕ → List ℕ → Quoting → Draft) → ℕ → Fragment → Draft
drafted_by replace number (Kept text) = as_is text
drafted_by replace number (Numbered name) = as_is (name ++ 95 ∷ decimal number)
drafted_by replace number (Replaced name text quoting) = joined (record { text = []; replacements = 1 }) (replace name text quoting)

-- what comes out of a text that begins in this quoting: each text that replaces a name is substituted in
-- turn, with that name set aside, to a depth of at most `depth`
unfoldable pub drafted : ℕ → Replacements → ℕ → List (List ℕ) → Quoting → List ℕ → Draft
drafted zero names number aside quoting text = as_is []
drafted (suc depth) names number aside quoting text =
    all_joined (drafted_by (λ name inner begins. drafted depth names number (aside ++ name ∷ []) begins inner) number)
    (fragments (without aside names) quoting 0 text)

-- ---- lines

-- the fault of a line that has too many bytes or takes too many replacements
abbrev pub too_long : LongLine
too_long = record {}

-- the text, if it has at most 1,024 bytes and took at most 1,024 replacements
abbrev pub measured : Draft → Result (List ℕ) LongLine
measured d = if nat_le (max (length d.text) d.replacements) 1024 then Ok d.text else Err too_long

-- what comes out of a text of a line; a depth of 1,025 limits nothing, since what nests deeper takes more
-- than 1,024 replacements
abbrev pub rewritten : Replacements → ℕ → Quoting → List ℕ → Draft
rewritten names number quoting text = drafted 1025 names number [] quoting text

-- the quoting in which a line begins: a comment line is a comment from its first byte on
abbrev pub line_quoting : List ℕ → Quoting
line_quoting line = if is_comment_line line then Comment else Outside

-- a line with its names replaced, in the expansion of this number (0 outside expansions); or LongLine
abbrev pub substituted : Replacements → ℕ → List ℕ → Result (List ℕ) LongLine
substituted names number line = measured (rewritten names number (line_quoting line) line)

-- a line of `.asg` or `.eval`: nothing is replaced from the last comma outside quotes and the comment on
abbrev pub substituted_before_comma : Replacements → ℕ → List ℕ → Result (List ℕ) LongLine
substituted_before_comma names number line =
    measured (joined (rewritten names number Outside (take (last_comma_len line) line)) (as_is (drop (last_comma_len line) line)))

-- a line of `.macro`: nothing is replaced
abbrev pub unsubstituted : List ℕ → Result (List ℕ) LongLine
unsubstituted line = measured (as_is line)
