-- The bounds that expansion keeps: how many lines it reads and gives, and how many blocks are open at once
-- (this project's own).
use Rattle.std.specs.Prelude.{◌≡◌, ℕ, ◌+◌, ◌≤◌, max, List, [], ◌∷◌, ◌++◌, ⊤}
use Rattle.c25_meaning_expansion.specs.Files.{Files}
use Rattle.c25_meaning_expansion.specs.Rows.{Row}
use Rattle.c25_meaning_language.specs.Value.{Table}
use Rattle.c25_meaning_expansion.specs.Expansion.{SourceFrame, Mode, Reading, Acting, InMacro, InLoop, Config, Rewriting, Gives, Goes, Finishes, Faults, Misses, depth}
use Rattle.c25_meaning_expansion.specs.ExpansionRuns.{rewrite}
use Rattle.c25_meaning_expansion.specs.declared.expansion.Branch.{Branch}

-- a rewriting that gives a line, ends or fails, so that rewriting does not merely go on
abbrev pub IsLast : Rewriting → Type 0
IsLast (Goes d) = ⊥
IsLast (Gives row d) = ⊤
IsLast (Finishes d) = ⊤
IsLast (Faults place kind) = ⊤
IsLast (Misses place name) = ⊤

-- ---- numbers in a configuration

-- how many blocks of its kind are open inside the body that is being collected
abbrev pub nested_of : Mode → ℕ
nested_of (InMacro name parameters body nested) = nested
nested_of (InLoop turns body nested) = nested
nested_of Reading = 0
nested_of (Acting place act) = 0

-- how many lines wait to be acted on after their label was given: 1 or 0
abbrev pub pending : Mode → ℕ
pending (Acting place act) = 1
pending Reading = 0
pending (InMacro name parameters body nested) = 0
pending (InLoop turns body nested) = 0

-- how many loops are being collected, each of which opens a block afterwards: 1 or 0
abbrev pub collecting : Mode → ℕ
collecting (InLoop turns body nested) = 1
collecting Reading = 0
collecting (Acting place act) = 0
collecting (InMacro name parameters body nested) = 0

-- the largest number of `.if`s that are open inside the skipped lines of one of these `.if`s
abbrev pub nesting : List Branch → ℕ
nesting [] = 0
nesting (b ∷ bs) = max b.nested (nesting bs)

-- the largest number of `.if`s that are open inside the skipped lines of one `.if`, in these files,
-- expansions and turns
abbrev pub deepest : List SourceFrame → ℕ
deepest [] = 0
deepest (f ∷ fs) = max (nesting f.branches) (deepest fs)

-- the largest number of `.if`s that are open inside the skipped lines of one `.if`, in all files, expansions
-- and turns that are open
abbrev pub skipping : Config → ℕ
skipping c = deepest (c.frame ∷ c.outer)

-- the bounds of a configuration: each nested block and each call took one line of the 200,000 that may be
-- read, and at most 32 blocks are open
pub record IsBounded (c : Config) : Type 0 where
  pub collected : nested_of c.mode + c.left ≤ 200000
  pub skipped : skipping c + c.left ≤ 200000
  pub expansions : c.names.count + pending c.mode + c.left ≤ 200000
  pub blocks : depth c + collecting c.mode ≤ 32

-- ---- many rewritings

-- rewritings lead from one configuration to another, each under a symbol table of its own, and give these
-- lines
pub data Gave (files : Files) : Config → List Row → Config → Type 0 where
  nothing : {c : Config} → Gave files c [] c
  more : {old mid new : Config} {rows : List Row} (s : Table) → Gave files old rows mid → rewrite files s mid ≡ Goes new → Gave files old rows new
  line : {old mid new : Config} {rows : List Row} {row : Row} (s : Table) →
      Gave files old rows mid → rewrite files s mid ≡ Gives row new → Gave files old (rows ++ row ∷ []) new
