-- The task `explain`.
use Rattle.std.specs.Prelude.{◌≡◌, ◌⊎◌, ℕ, ◌<◌, List, ◌++◌, Option, Some, None, codes, option_map}
use Rattle.std.specs.Fmt.{decimal}
use Rattle.std.specs.Io.KnownBytes.{Appends, Keeps}
use Rattle.c25_explain.specs.Explanation.{Explains, ExplainsName, IsSummaryOfAll, whole_text}
use Rattle.c25_explain.specs.RunEnds.{ExplainsEnd, end_text}
use Rattle.c25_explain.specs.declared.parts.Explanation.{Explanation}
use Rattle.c25_explain.specs.declared.run_ends.RunEnd.{RunEnd}
use Rattle.c25_options.specs.Task.{Gives}
use Rattle.c25_reference.specs.Entries as entries
use Rattle.c25_reference.specs.Entries.{entry_named}
use Rattle.c25_reference.specs.declared.entry.Entry.{Entry}
use Rattle.c25_report.specs.Ending.{IsPrinted, IsShort}
use Rattle.c25_report.specs.declared.ending.Ending.{Ending}
use Rattle.c25_report.specs.declared.ending.Ending.TheVariants as ending
use Rattle.c25_tasks.specs.Tells.{IsLineOf, Printed}
use Rattle.c25_warning_pages.specs.Pages as pages
use Rattle.c25_warning_pages.specs.Pages.{IsListOfAll, IsPageNamed}
use Rattle.c25_warning_pages.specs.declared.page.Page.{Page}

-- the line of a number that no fault has
abbrev pub unknown_line : ℕ → List ℕ
unknown_line number = codes "explain: no fault has the number " ++ decimal number

-- the line of a word that is no number from 0 to 255, and that no fault, end of a run, warning, instruction or directive has as its name
abbrev pub unknown_name_line : List ℕ → List ℕ
unknown_name_line word =
    codes "explain: no fault, end of a run, warning, instruction or directive has the number or the name " ++ word
    ++ codes ": c25 explain lists faults and warnings"

-- a text is printed part by part; where that fails, nothing is known of what was printed
abbrev pub PrintsParts : List ℕ → Ending → Printed → Type 0
PrintsParts text e out = ((e ≡ ending.Done) × Appends out.0 out.1 text) ⊎ (e ≡ ending.Unprinted)

-- what is done with an answer: an explanation goes to standard output; where there is none this line is
-- reported, unless memory runs out, and nothing goes to standard output
abbrev pub TellsAnswer : (unknown : List ℕ) → Option Explanation → Ending → Printed → Type 0
TellsAnswer unknown (Some explanation) e out = PrintsParts (whole_text explanation) e out
TellsAnswer unknown None e out = IsLineOf unknown e × Keeps out.0 out.1

-- the number is explained
abbrev pub Explained : ℕ → Ending → Printed → Type 0
Explained number e out = (answer : Option Explanation) × Explains number answer × TellsAnswer (unknown_line number) answer e out

-- what is done with the entry of the reference that a name has: it goes to standard output; where there is none this line is
-- reported, unless memory runs out, and nothing goes to standard output
abbrev pub TellsEntry : (unknown : List ℕ) → Option Entry → Ending → Printed → Type 0
TellsEntry unknown (Some entry) e out = PrintsParts (entries.whole_text entry) e out
TellsEntry unknown None e out = IsLineOf unknown e × Keeps out.0 out.1

-- the name of an instruction or of a directive is explained, letters in either case
abbrev pub ExplainedEntry : List ℕ → Ending → Printed → Type 0
ExplainedEntry name e out =
    (answer : Option Entry) × (option_map (λ it. it.name.now) answer ≡ entry_named name) × TellsEntry (unknown_name_line name) answer e out

-- what is done with the answer to the name of a warning: its page goes to standard output; where there is none it is taken for the
-- name of an instruction or of a directive
abbrev pub TellsPage : List ℕ → Option Page → Ending → Printed → Type 0
TellsPage name (Some page) e out = PrintsParts (pages.whole_text page) e out
TellsPage name None e out = ExplainedEntry name e out

-- the name of a warning is explained
abbrev pub ExplainedWarning : List ℕ → Ending → Printed → Type 0
ExplainedWarning name e out = (answer : Option Page) × IsPageNamed name answer × TellsPage name answer e out

-- what is done with the answer to the name of an end of a run: an explanation goes to standard output; where there is
-- none it is taken for the name of a warning
abbrev pub TellsEndAnswer : List ℕ → Option RunEnd → Ending → Printed → Type 0
TellsEndAnswer name (Some end) e out = PrintsParts (end_text end) e out
TellsEndAnswer name None e out = ExplainedWarning name e out

-- the name of an end of a run is explained
abbrev pub ExplainedEnd : List ℕ → Ending → Printed → Type 0
ExplainedEnd name e out = (answer : Option RunEnd) × ExplainsEnd name answer × TellsEndAnswer name answer e out

-- what is done with the answer to the name of a fault: an explanation goes to standard output; where there is
-- none it is taken for the name of an end of a run
abbrev pub TellsNamed : List ℕ → Option Explanation → Ending → Printed → Type 0
TellsNamed name (Some explanation) e out = PrintsParts (whole_text explanation) e out
TellsNamed name None e out = ExplainedEnd name e out

-- the name is explained
abbrev pub ExplainedName : List ℕ → Ending → Printed → Type 0
ExplainedName name e out = (answer : Option Explanation) × ExplainsName name answer × TellsNamed name answer e out

-- the word is explained: as a number, where it is one from 0 to 255, and else as a name
abbrev pub ExplainedWord : List ℕ → Ending → Printed → Type 0
ExplainedWord word e out =
    ((number : ℕ) × (number < 256) × Gives word number × Explained number e out)
    ⊎ (((number : ℕ) → number < 256 → Gives word number → ⊥) × ExplainedName word e out)

-- the list of all faults, and then that of all warnings
abbrev pub IsWholeList : List ℕ → Type 0
IsWholeList text = (faults warnings : List ℕ) × IsSummaryOfAll faults × IsListOfAll warnings × (text ≡ faults ++ warnings)

-- this list goes to standard output; or memory runs out, and nothing does
abbrev pub Listed : Ending → Printed → Type 0
Listed e out =
    ((text : List ℕ) × IsWholeList text × IsPrinted text ending.Done e out.0 out.1) ⊎ (IsShort e × Keeps out.0 out.1)

-- what is done: the word is explained, and without a word all faults and warnings are listed
abbrev pub ExplainedTold : Option (List ℕ) → Ending → Printed → Type 0
ExplainedTold None e out = Listed e out
ExplainedTold (Some word) e out = ExplainedWord word e out
