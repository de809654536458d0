-- How a walk through the lines of a source ends.
use Rattle.std.specs.Prelude.{◌≡◌, ◌⊎◌, ℕ, ◌≤◌, Bool, true, false, nat_lt, List, length, Option, Some, None, Ok, Err}
use Rattle.std.specs.Cow.{cow_str_bytes}
use Rattle.std.specs.Option.{option_map}
use Rattle.c25_macro.specs.Expander.{shown}
use Rattle.c25_macro.specs.Tracers.{Moved, Trace, fault_in}
use Rattle.c25_macro.specs.declared.answer.ExpLine.{ExpLine}
use Rattle.c25_meaning_assembly.specs.Sections.{PendingItem, Progress, name_count}
use Rattle.c25_meaning_expansion.specs.Files.{Files}
use Rattle.c25_meaning_common.specs.declared.placed.FileLine.{FileLine}
use Rattle.c25_meaning_assembly.specs.ModuleOfSource.{read_and_pass}
use Rattle.c25_phases.specs.View.{progress_of}
use Rattle.c25_asm.specs.Seen.{seen_by, seen_of}
use Rattle.c25_asm.specs.Trails.{Reaches, PassesAll, IsUnexpanded, IsWrongLine, ComesWith}
use Rattle.c25_asm.specs.declared.walk.End.{End}
use Rattle.c25_asm.specs.declared.walk.End.TheVariants as end
use Rattle.c25_asm.specs.declared.walk.Turn.{Turn}
use Rattle.c25_asm.specs.declared.walk.Turn.TheVariants as turn

-- the lines so far have at most 65,535 names
abbrev pub HasFewNames : Progress → Type 0
HasFewNames p = name_count p.names p.declared ≤ 65535

-- whether the item of the sought number is among these; false where no number is sought
abbrev pub has_come : (sought : Option ℕ) → List PendingItem → Bool
has_come None items = false
has_come (Some number) items = nat_lt number (length items)

-- what one line more leads to
abbrev pub Passes : ExpLine → Progress → (sought : Option ℕ) → Turn → Type 0
Passes line p sought (turn.On q) =
    (read_and_pass (shown line) p ≡ Ok (progress_of q.value)) × HasFewNames (progress_of q.value) × (has_come sought (progress_of q.value).items ≡ false)
Passes line p sought (turn.Ended (end.Passed q)) = ⊥
Passes line p sought (turn.Ended (end.Reached text)) =
    (q : Progress) × (read_and_pass (shown line) p ≡ Ok q) × (has_come sought q.items ≡ true) × (text ≡ line.text)
Passes line p sought (turn.Ended (end.Refused f seen)) =
    (read_and_pass (shown line) p ≡ Err (fault_in f)) × (option_map seen_of seen ≡ seen_by (fault_in f) (shown line) p)

-- the sought item comes with a line of this text, after these lines that opened what is open
abbrev pub ComesSought : Files → (name : List ℕ) → (sought : Option ℕ) → List (FileLine ℕ) → (text : List ℕ) → Type 0
ComesSought files name None trail text = ⊥
ComesSought files name (Some number) trail text = ComesWith files name number trail text

-- how a walk through the lines of the module of a name ends, with these lines that opened what is open
abbrev pub Ends : Files → (name : List ℕ) → (sought : Option ℕ) → List (FileLine ℕ) → End → Type 0
Ends files name sought trail (end.Passed p) =
    PassesAll files name (progress_of p.value) × HasFewNames (progress_of p.value) × (has_come sought (progress_of p.value).items ≡ false)
Ends files name sought trail (end.Reached text) = ComesSought files name sought trail (cow_str_bytes text)
Ends files name sought trail (end.Refused f seen) =
    IsUnexpanded files name (fault_in f) trail (option_map seen_of seen) ⊎ IsWrongLine files name (fault_in f) trail (option_map seen_of seen)

-- how a walk ends that begins after some lines
abbrev pub EndsWalk : Trace → Progress → (sought : Option ℕ) → Trace → End → Type 0
EndsWalk old made sought new end = (name : List ℕ) → Reaches old.files name old.at made old.trail → Ends old.files name sought new.trail end

-- a walk goes on from one trace to another, and `next` is what the lines have made by then
pub record LeadsOn (old : Trace) (made : Progress) (sought : Option ℕ) (new : Trace) (next : Progress) : Type 0 where
  pub moved : Moved old new
  pub few : HasFewNames next
  pub before : has_come sought next.items ≡ false
  pub leads : (name : List ℕ) → Reaches old.files name old.at made old.trail → Reaches old.files name new.at next new.trail

-- what one rewriting more leads to
abbrev pub Advances : Trace → Progress → (sought : Option ℕ) → Trace → Turn → Type 0
Advances old made sought new (turn.On q) = LeadsOn old made sought new (progress_of q.value)
Advances old made sought new (turn.Ended e) = EndsWalk old made sought new e
