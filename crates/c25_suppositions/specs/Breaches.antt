-- Which supposition a state does not meet.
use Rattle.std.specs.Prelude.{◌≡◌, ℕ, ◌%◌, ◌^◌, Bool, true, false, not, ◌&&◌, ◌||◌, Option, None, Some}
use Rattle.c25_meaning_instructions.specs.declared.insn.Insn.{Insn}
use Rattle.c25_meaning_instructions.specs.Table.{size_of}
use Rattle.c25_meaning_pages.specs.Known.{Knowledge}
use Rattle.c25_meaning_pages.specs.KnownAfter.{written_address}
use Rattle.c25_meaning_pages.specs.Supposed.{IsSupposed, LetsNoOther, goes_by_accumulator}
use Rattle.c25_meaning_processor.specs.declared.lines.Lines.{Lines}
use Rattle.c25_meaning_processor.specs.State.{State}
use Rattle.c25_meaning_processor.specs.Statements.{Statements, standing}
use Rattle.c25_meaning_processor.specs.Step.{advanced, begun, has}
use Rattle.c25_suppositions.specs.declared.breach.Breach.{Breach}
use Rattle.c25_suppositions.specs.declared.breach.Breach.TheVariants.{OtherLine, WritesSpared, GoesElsewhere}

-- the instruction that acts in a step from a state, with these interrupt lines
pub record Acting (statements : Statements) (lines : Lines) (s : State) (i : Insn) : Type 0 where
  pub awake : (begun lines s).asleep ≡ false
  pub stands : standing statements (begun lines s).cnf s.world (begun lines s).pc ≡ Some i

-- the instruction that acts in a step writes this data word, which it is supposed not to write
pub record WritesWord (statements : Statements) (knowledge : Knowledge) (lines : Lines) (s : State) (word : ℕ) : Type 0 where
  pub insn : Insn
  pub acts : Acting statements lines s insn
  pub spared : knowledge.spared (begun lines s).pc ≡ Some word
  pub written : written_address insn (advanced (size_of insn) (begun lines s)) ≡ Some word

-- the instruction that acts in a step goes by the accumulator to this address, to which it is supposed not to go
pub record GoesTo (statements : Statements) (knowledge : Knowledge) (lines : Lines) (s : State) (target : ℕ) : Type 0 where
  pub insn : Insn
  pub acts : Acting statements lines s insn
  pub goes : goes_by_accumulator insn ≡ true
  pub target_is : target ≡ (begun lines s).acc.value % 2 ^ 16
  pub elsewhere : knowledge.may_go (begun lines s).pc target ≡ false

-- a state does not meet a supposition, with the interrupt lines of its step
abbrev pub IsBreach : Statements → Knowledge → Lines → State → Breach → Type 0
IsBreach statements knowledge lines s OtherLine = LetsNoOther knowledge (s.world.words 4) → ⊥
IsBreach statements knowledge lines s (WritesSpared word) = WritesWord statements knowledge lines s word
IsBreach statements knowledge lines s (GoesElsewhere target) = GoesTo statements knowledge lines s target

-- ---- what the code has

-- a mask of interrupt lines lets a line through only if these lines have it
abbrev pub lets_line : (lines mask line : ℕ) → Bool
lets_line lines mask line = not (has mask line) || has lines line

-- a mask lets none of the three lines through that these lines do not have
abbrev pub lets_no_other : (lines mask : ℕ) → Bool
lets_no_other lines mask = lets_line lines mask 1 && lets_line lines mask 2 && lets_line lines mask 4

-- what was found of the instruction at the address where the processor acts, if it is awake: a breach, or that its word is spared
-- and that it goes where it is supposed to go
abbrev pub IsFound : Statements → Knowledge → Lines → State → Option Breach → Type 0
IsFound statements knowledge lines s None =
    ((i : Insn) (word : ℕ) → Acting statements lines s i → knowledge.spared (begun lines s).pc ≡ Some word
    → written_address i (advanced (size_of i) (begun lines s)) ≡ Some word → ⊥)
    × ((i : Insn) → Acting statements lines s i → goes_by_accumulator i ≡ true
    → knowledge.may_go (begun lines s).pc ((begun lines s).acc.value % 2 ^ 16) ≡ true)
IsFound statements knowledge lines s (Some breach) = IsBreach statements knowledge lines s breach

-- the data word that is spared and written, if it is the same
abbrev pub IsSparedWritten : (spared written : Option ℕ) → Option ℕ → Type 0
IsSparedWritten spared written None = (word : ℕ) → spared ≡ Some word → written ≡ Some word → ⊥
IsSparedWritten spared written (Some word) = (spared ≡ Some word) × (written ≡ Some word)

-- the address to which an instruction goes by the accumulator and is supposed not to go
abbrev pub IsWrongTarget : (may_go : ℕ → Bool) → Insn → (acc : ℕ) → Option ℕ → Type 0
IsWrongTarget may_go i acc None = goes_by_accumulator i ≡ true → may_go (acc % 2 ^ 16) ≡ true
IsWrongTarget may_go i acc (Some target) = (goes_by_accumulator i ≡ true) × (target ≡ acc % 2 ^ 16) × (may_go target ≡ false)

-- the supposition that an instruction does not meet, by the word that it is to spare, the word that it writes and the accumulator
abbrev pub IsBreachBy : (spared written : Option ℕ) → (may_go : ℕ → Bool) → Insn → (acc : ℕ) → Option Breach → Type 0
IsBreachBy spared written may_go i acc None = IsSparedWritten spared written None × IsWrongTarget may_go i acc None
IsBreachBy spared written may_go i acc (Some OtherLine) = ⊥
IsBreachBy spared written may_go i acc (Some (WritesSpared word)) = IsSparedWritten spared written (Some word)
IsBreachBy spared written may_go i acc (Some (GoesElsewhere target)) = IsWrongTarget may_go i acc (Some target)

-- the state of a step meets all suppositions, or there is a breach
abbrev pub IsJudged : Statements → Knowledge → Lines → State → Option Breach → Type 0
IsJudged statements knowledge lines s None = IsSupposed statements knowledge lines s
IsJudged statements knowledge lines s (Some breach) = IsBreach statements knowledge lines s breach
