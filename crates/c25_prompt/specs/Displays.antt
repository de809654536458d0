-- What is displayed after each command that leads to another state, as gdb's `display` has it: it has numbers from 1
-- on, in the order in which it was asked for, and no number is given twice (the lines are this project's own).
use Rattle.std.specs.Prelude.{ℕ, ◌+◌, ◌==◌, Bool, true, false, not, List, [], ◌∷◌, ◌++◌, codes, filter, nat_lt, if◌then◌else◌}
use Rattle.std.specs.Fmt.{decimal}
use Rattle.std.specs.List.{flat_map, list_any}
use Rattle.c25_meaning_processor.specs.State.{State}
use Rattle.c25_prompt_lines.specs.declared.command.Shown.{Shown}
use Rattle.c25_prompt.specs.Shown.{shown_text}
use Rattle.c25_prompt.specs.declared.displays.Display.{Display}

-- what is displayed, and how many numbers were given
pub record DisplayData : Type 0 where
  pub shown : List Display
  pub given : ℕ

-- nothing, and no number was given
abbrev pub no_displays : DisplayData
no_displays = record { shown = []; given = 0 }

-- ---- lines

-- the line of what is displayed at a state: its number, and what `print` shows
abbrev pub display_line : State → Display → List ℕ
display_line s d = decimal d.number ++ codes ": " ++ shown_text s d.what

-- the lines of all that is displayed
abbrev pub displays_text : State → DisplayData → List ℕ
displays_text s ds = flat_map (display_line s) ds.shown

-- ---- one more, and one less

-- whether a number is left for one more
abbrev pub can_display : DisplayData → Bool
can_display ds = nat_lt ds.given 4294967295

-- what is displayed under the next number
abbrev pub next_display : DisplayData → Shown → Display
next_display ds what = record { number = ds.given + 1; what = what }

-- what is displayed after one more was asked for
abbrev pub with_display : DisplayData → Shown → DisplayData
with_display ds what = if can_display ds then record { shown = ds.shown ++ next_display ds what ∷ []; given = ds.given + 1 } else ds

-- the answer to `display` with an operand: its line, or that no number is left
abbrev pub display_text : State → DisplayData → Shown → List ℕ
display_text s ds what = if can_display ds then display_line s (next_display ds what) else codes "full\n"

-- whether something is displayed under a number
abbrev pub is_displayed : DisplayData → ℕ → Bool
is_displayed ds number = list_any (λ d. d.number == number) ds.shown

-- what is displayed after a number was taken away, whether it was one or not
abbrev pub without_display : DisplayData → ℕ → DisplayData
without_display ds number = record { shown = filter (λ d. not (d.number == number)) ds.shown; given = ds.given }

-- what is displayed after all was taken away: the numbers go on
abbrev pub without_displays : DisplayData → DisplayData
without_displays ds = record { shown = []; given = ds.given }

-- the answer to `undisplay` with a number: it was one and is taken away, or it was none
abbrev pub undisplayed_text : Bool → ℕ → List ℕ
undisplayed_text true number = codes "cleared " ++ decimal number ++ codes "\n"
undisplayed_text false number = codes "none " ++ decimal number ++ codes "\n"

-- the answer to `undisplay` alone: a line for each number that is taken away
abbrev pub all_undisplayed : DisplayData → List ℕ
all_undisplayed ds = flat_map (λ d. undisplayed_text true d.number) ds.shown
