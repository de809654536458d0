-- What is shown next to the line of a fault of the command file.
use Rattle.std.specs.Prelude.{◌≡◌, ℕ, List, [], ◌++◌, Option, Some, None, codes}
use Rattle.c25_cmd.specs.Refused.{RefusedAtData}
use Rattle.c25_explain.specs.Details.{refused_text}
use Rattle.c25_file_hints.specs.CommandFiles.{HintData, hint_on, hint_text}
use Rattle.c25_file_hints.specs.Wanted.{IsWantedOn, wanted_text}
use Rattle.c25_file_hints.specs.declared.wanted.Wanted.{Wanted}
use Rattle.c25_meaning_common.specs.Faults.{placed_text}

-- the line of the file's name and number with what is missing or wrong
abbrev pub hinted : (file : List ℕ) → (line : ℕ) → HintData → List ℕ
hinted file line hint = placed_text file line (hint_text hint) ++ codes "\n"

-- the line of the file's name and number with what is wanted, if anything is known
abbrev pub wanted_line : (file : List ℕ) → (line : ℕ) → Option Wanted → List ℕ
wanted_line file line None = []
wanted_line file line (Some wanted) = placed_text file line (wanted_text wanted) ++ codes "\n"

-- a text has what is missing or wrong, if this is known, and else what is wanted
abbrev pub ShowsHint : Option HintData → (file : List ℕ) → (line : ℕ) → (text : List ℕ) → RefusedAtData → List ℕ → Type 0
ShowsHint (Some hint) file line text standing shown = shown ≡ hinted file line hint
ShowsHint None file line text standing shown = (wanted : Option Wanted) × IsWantedOn text line standing wanted × (shown ≡ wanted_line file line wanted)

-- a text has what is missing, wrong or wanted at the fault in this line of the text of a command file
abbrev pub ShowsRemark : (file : List ℕ) → (line : ℕ) → (text : List ℕ) → RefusedAtData → List ℕ → Type 0
ShowsRemark file line text standing shown = ShowsHint (hint_on text line standing) file line text standing shown

-- a text has the line with what stands at the fault in this line of the text of a command file, and one with what is missing,
-- wrong or wanted there
abbrev pub ShowsHinted : (file : List ℕ) → (line : ℕ) → (text : List ℕ) → RefusedAtData → List ℕ → Type 0
ShowsHinted file line text standing shown = (remark : List ℕ) × ShowsRemark file line text standing remark × (shown ≡ refused_text file line standing ++ remark)
