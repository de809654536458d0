-- The names that the rules make for local labels outside of macros.
use Rattle.std.specs.Prelude.{◌≡◌, ◌⊎◌, ℕ, ◌<◌, List, [], ◌++◌, codes, length, replicate, slice_index_or}
use Rattle.std.specs.Fmt.{decimal}
use Rattle.std.specs.Str.Iter.{HasSubslice}

-- where local labels get names: the text of the source, and how many blocks of local labels began before
pub record Scope : Type 0 where
  pub source : List ℕ
  pub blocks : ℕ

-- how the name of a local label of this digit begins
abbrev pub beginning : ℕ → List ℕ
beginning digit = codes "Z" ++ decimal digit ++ codes "N"

-- a name with this many `_` after it
abbrev pub longer : ℕ → List ℕ → List ℕ
longer count name = name ++ replicate count 95

-- a name with as few `_` after it as are needed for one that does not stand in the source
pub record IsFree (source name free : List ℕ) : Type 0 where
  pub count : ℕ
  pub is : free ≡ longer count name
  pub stands_nowhere : ¬ (HasSubslice source free)
  pub others_stand : (fewer : ℕ) → fewer < count → HasSubslice source (longer fewer name)

-- the name of the local label of this digit: `Z1N3` is that of `$1` where three blocks began before
abbrev pub IsNewName : Scope → (digit : ℕ) → (name : List ℕ) → Type 0
IsNewName scope digit name = IsFree scope.source (beginning digit ++ decimal scope.blocks) name

-- the names of the local labels `$0` to `$9`, by their digits
pub record AreNewNames (scope : Scope) (labels : List (List ℕ)) : Type 0 where
  pub count : length labels ≡ 10
  pub each : (digit : ℕ) → digit < 10 → IsNewName scope digit (slice_index_or labels digit [])

-- a name that begins as that of a local label stands in a text
abbrev pub HasLocalNames : List ℕ → Type 0
HasLocalNames text = (digit : ℕ) × (digit < 10) × HasSubslice text (beginning digit)

-- the text in which the rules look for names that they make: that of the source, or an empty one where no name stands in it that
-- begins as one of theirs
abbrev pub IsLookedThrough : (source text : List ℕ) → Type 0
IsLookedThrough source text = (text ≡ source) ⊎ ((text ≡ []) × (¬ (HasLocalNames source)))
