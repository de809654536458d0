-- What a command file says to the linker (SPRU018, linker description, the directives MEMORY and SECTIONS,
-- and the option -e; that there are two pages of 65,536 words is the TMS320C25's).
use Rattle.std.specs.Prelude.{◌≡◌, ℕ, ◌+◌, ◌<◌, ◌≤◌, List, [], ◌∷◌, All, Option, None, IfSome}

-- a range of MEMORY: its page, its name, its first address and its number of words
pub record RangeData : Type 0 where
  pub page : ℕ
  pub name : List ℕ
  pub origin : ℕ
  pub size : ℕ

-- where a section is to be loaded: in any range, in the range of a name, or at an address
pub data TargetData : Type 0 where
  Anywhere : TargetData
  InRange : List ℕ → TargetData
  At : ℕ → TargetData

-- what SECTIONS says of one section; a page only where `PAGE` names one, and a run address only where `run =`
-- gives one
pub record PlacingData : Type 0 where
  pub name : List ℕ
  pub target : TargetData
  pub page : Option ℕ
  pub run : Option ℕ

-- a command: the name of the entry, the ranges of MEMORY and the sections of SECTIONS, each if it is given
pub record CommandData : Type 0 where
  pub entry : Option (List ℕ)
  pub memory : Option (List RangeData)
  pub sections : Option (List PlacingData)

-- the command of an empty text
abbrev pub nothing : CommandData
nothing = record { entry = None; memory = None; sections = None }

-- a range lies on page 0 or 1, has words, and ends within its page
pub record IsRange (r : RangeData) : Type 0 where
  pub page : r.page ≤ 1
  pub words : 0 < r.size
  pub within : r.origin + r.size ≤ 65536

-- this word of the range's page lies in the range
abbrev pub HasWord : RangeData → ℕ → Type 0
HasWord r word = (r.origin ≤ word) × (word < r.origin + r.size)

-- two ranges of one page have different names and no word in common
pub record AreApart (r s : RangeData) : Type 0 where
  pub names : r.page ≡ s.page → ¬ (r.name ≡ s.name)
  pub words : r.page ≡ s.page → (word : ℕ) → HasWord r word → ¬ HasWord s word

-- two sections have different names
abbrev pub AreOthers : PlacingData → PlacingData → Type 0
AreOthers p q = ¬ (p.name ≡ q.name)

-- a relation holds of each item of a list with each later item
abbrev pub Pairwise : {A : Type 0} → (A → A → Type 0) → List A → Type 0
Pairwise holds [] = Unit {0}
Pairwise holds (x ∷ xs) = All (holds x) xs × Pairwise holds xs

-- what every command keeps: ranges lie within their pages and apart from one another, and no section is
-- listed twice or put on a page above 1
pub record IsCommand (c : CommandData) : Type 0 where
  pub ranges : IfSome c.memory (All IsRange)
  pub apart : IfSome c.memory (Pairwise AreApart)
  pub sections : IfSome c.sections (Pairwise AreOthers)
  pub pages : IfSome c.sections (All (λ p. IfSome p.page (λ n. n ≤ 1)))
