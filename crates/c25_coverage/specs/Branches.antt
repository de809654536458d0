-- How often the conditional branches on the lines of the sources are taken, and how often they pass (SPRU014, "Instruction
-- Set Summary").
use Rattle.std.specs.Prelude.{ℕ, ◌*◌, ◌/◌, ◌-◌, ◌==◌, ◌||◌, Bool, true, false, List, [], ◌∷◌, ◌++◌, Option, None, Some, fold, nat_lt, if◌then◌else◌}
use Rattle.std.specs.BTreeMap.{insert_entry, is_at}
use Rattle.std.specs.FinMap as finite
use Rattle.std.specs.List.{flat_map, list_any}
use Rattle.std.specs.Map.{lookup}
use Rattle.std.specs.Option.{option_map}
use Rattle.std.specs.Ordering.{nat_cmp}
use Rattle.std.specs.Str.{bytes_eq}
use Rattle.c25_coverage.specs.Lines.{more}
use Rattle.c25_coverage.specs.declared.branches.Ways.{Ways}
use Rattle.c25_meaning_instructions.specs.Table.{jump_row}
use Rattle.c25_meaning_instructions.specs.declared.mnemonic.JumpName.{JumpName}
use Rattle.c25_meaning_instructions.specs.declared.mnemonic.JumpName.TheVariants as jump
use Rattle.c25_meaning_linking.specs.Linking.{ImageData, line_at}

-- ---- which instructions are conditional branches

-- the jumps that are taken only under a condition: all but B and CALL
abbrev pub conditional_names : List JumpName
conditional_names =
    jump.Bc ∷ jump.Bnc ∷ jump.Bv ∷ jump.Bgz ∷ jump.Blez ∷ jump.Blz ∷ jump.Bgez ∷ jump.Bnz ∷ jump.Bz ∷ jump.Bnv ∷ jump.Bbz ∷ jump.Bbnz ∷ jump.Bioz ∷ jump.Banz ∷ []

-- whether an instruction with this first word is a conditional branch: the high byte is that of the row
abbrev pub is_conditional : ℕ → Bool
is_conditional word = list_any (λ name. word / 256 * 256 == (jump_row name).base) conditional_names

-- whether the instruction that is loaded at an address of page 0 is a conditional branch
abbrev pub is_branch : Option ℕ → Bool
is_branch None = false
is_branch (Some word) = is_conditional word

abbrev pub branch_at : ImageData → ℕ → Bool
branch_at image address = is_branch (finite.get image.program address)

-- an address, if a conditional branch is there
abbrev pub branch_if : Bool → ℕ → List ℕ
branch_if branches address = if branches then address ∷ [] else []

-- the addresses where the conditional branches of an image run
abbrev pub branches_of : ImageData → List ℕ
branches_of image =
    flat_map (λ m. branch_if (branch_at image m.address) m.address) image.marks
    ++ flat_map (λ m. branch_if (branch_at image m.load) m.run) image.run_marks

-- ---- branches with their lines

-- a conditional branch: the file and the line where it stands in the sources, how often it acted, and how often it passed
pub record CountedBranch : Type 0 where
  pub file : List ℕ
  pub line : ℕ
  pub acts : ℕ
  pub passes : ℕ

-- a conditional branch that stands in this line, if it is one and its line is known
abbrev pub counted_branch : Bool → Option (List ℕ × ℕ) → (acts passes : ℕ) → List CountedBranch
counted_branch false place acts passes = []
counted_branch true None acts passes = []
counted_branch true (Some place) acts passes = record { file = place.0; line = place.1; acts = acts; passes = passes } ∷ []

-- the conditional branches of an image whose lines are known: first those that run where they are loaded, then those that run
-- in block B0, each with the counts of the address where it runs
abbrev pub counted_branches : ImageData → (acts passes : ℕ → ℕ) → List CountedBranch
counted_branches image acts passes =
    flat_map (λ m. counted_branch (branch_at image m.address) (line_at m.address image.lines) (acts m.address) (passes m.address)) image.marks
    ++ flat_map (λ m. counted_branch (branch_at image m.load) (line_at m.load image.lines) (acts m.run) (passes m.run)) image.run_marks

-- ---- lines of a file, each with the ways of its branches

-- how often the branches of a line were taken, and how often they passed, with one more branch
abbrev pub more_ways : Option Ways → CountedBranch → Ways
more_ways ways branch =
    record {
      taken = more (option_map (λ w. w.taken) ways) (branch.acts - branch.passes);
      passed = more (option_map (λ w. w.passed) ways) branch.passes;
    }

-- the lines of a file with the ways of their branches, in the order of the lines, with one more branch
abbrev pub with_branch : List ℕ → List (ℕ × Ways) → CountedBranch → List (ℕ × Ways)
with_branch file lines branch =
    if bytes_eq branch.file file
    then insert_entry nat_cmp lines branch.line (more_ways (lookup (is_at (nat_cmp branch.line)) lines) branch)
    else lines

-- the lines of a file in which conditional branches stand, in ascending order, each with the sums of its branches
abbrev pub ways_of : List CountedBranch → List ℕ → List (ℕ × Ways)
ways_of branches file = fold (with_branch file) [] branches

-- whether one of the branches of a line acted
abbrev pub have_acted : Ways → Bool
have_acted ways = nat_lt 0 ways.taken || nat_lt 0 ways.passed
