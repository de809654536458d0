-- What the types of substitution stand for, and what is written for a line.
use Rattle.std.specs.Prelude.{◌≡◌, ◌<◌, ◌≤◌, ℕ, max, List, [], ◌∷◌, length, Option, Some, None, Result, Ok, Err}
use Rattle.std.specs.String.{string_bytes}
use Rattle.c25_meaning_language.specs.Fragments.{Replacements, visible, without}
use Rattle.c25_meaning_language.specs.Substitution.{Draft, as_is, drafted, drafted_by, joined, rewritten}
use Rattle.c25_meaning_language.specs.Fragments as meaning
use Rattle.c25_meaning_language.specs.declared.long_line.LongLine.{LongLine}
use Rattle.c25_meaning_common.specs.declared.failure.Failure.{Failure}
use Rattle.c25_meaning_common.specs.declared.failure.Failure.TheVariants.{NoMemory, Fault}
use Rattle.c25_substitution.specs.declared.visible.Visible.{Visible}
use Rattle.c25_substitution.specs.declared.fragments.Fragment.{Fragment}
use Rattle.c25_substitution.specs.declared.fragments.Fragment.TheVariants.{Kept, Numbered, Replaced}
use Rattle.c25_substitution.specs.declared.output.Output.{Output}
use Rattle.c25_substitution.specs.declared.change.Change.{Change}
use Rattle.c25_meaning_language.specs.declared.quoting.Quoting.{Quoting}

-- the texts that names stand for at a line
abbrev pub names_of : Visible → Replacements
names_of v = visible (elim v.arguments [ None ↦ [] | Some arguments ↦ arguments.now ]) v.texts.now

-- the fragment of the definition that a fragment of the code stands for
abbrev pub fragment_of : Fragment → meaning.Fragment
fragment_of (Kept text) = meaning.Kept text.now
fragment_of (Numbered name) = meaning.Numbered name.now
fragment_of (Replaced name text quoting) = meaning.Replaced name.now text.now quoting

-- what a text becomes of which this is the first change: the front before it stays, the fragment is replaced
-- with no other name set aside, and the rest is rewritten
abbrev pub changed : Replacements → ℕ → Change → Draft
changed names number c =
    joined (as_is c.front.now)
    (joined (drafted_by (λ name inner begins. drafted 1024 names number (name ∷ []) begins inner) number (fragment_of c.fragment)) (rewritten names number c.quoting c.rest.now))

-- the first change of a text that begins in this quoting; None where all of it stays as it is
abbrev pub IsFirstChange : Replacements → Quoting → List ℕ → Option Change → Type 0
IsFirstChange names quoting text None = (number : ℕ) → rewritten names number quoting text ≡ as_is text
IsFirstChange names quoting text (Some c) = (number : ℕ) → rewritten names number quoting text ≡ changed names number c

-- the text that is written so far, and how many replacements that took
abbrev pub written_so_far : Output → Draft
written_so_far o = record { text = string_bytes o.text; replacements = o.replacements }

-- what is written has at most 1,024 bytes and took at most 1,024 replacements
abbrev pub IsWithin : Draft → Type 0
IsWithin d = (length d.text ≤ 1024) × (d.replacements ≤ 1024)

-- what is written has more than 1,024 bytes or took more than 1,024 replacements
abbrev pub IsBeyond : Draft → Type 0
IsBeyond d = 1024 < max (length d.text) d.replacements

-- why nothing more is written: memory ran out, or there would be too much
abbrev pub Refuses : Draft → Failure LongLine → Type 0
Refuses d (NoMemory e) = Unit {0}
Refuses d (Fault f) = IsBeyond d

-- more was written after what was there, or all of it would be too much
abbrev pub Writes : {A : Type 0} → Draft → Draft → Result A (Failure LongLine) → Draft → Type 0
Writes old more (Ok x) new = (new ≡ joined old more) × IsWithin new
Writes old more (Err e) new = Refuses (joined old more) e

-- all of a text was written, or there would be too much
abbrev pub IsAll : Draft → Result Output (Failure LongLine) → Type 0
IsAll all (Ok out) = (written_so_far out ≡ all) × IsWithin all
IsAll all (Err e) = Refuses all e
