-- What is shown of a faulty line of a source: the part of it that is refused, and its trail, the lines that led
-- there.
use Rattle.std.specs.Prelude.{◌≡◌, ◌⊎◌, ℕ, List, [], ◌∷◌, ◌++◌, codes, Option, Some, None, option_and_then, unwrap_or, Ok, String}
use Rattle.std.specs.String.{string_bytes}
use Rattle.std.specs.declared.alloc.Global.{Global}
use Rattle.c25_asm.specs.Seen.{Seen}
use Rattle.c25_asm.specs.Trails.{IsTrail, IsWhole}
use Rattle.c25_chain.specs.declared.fault.ChainFault.{ChainFault}
use Rattle.c25_chain.specs.declared.fault.ChainFault.TheVariants.{Source, NoFile, Object, Command, Link, Hex, Schedule, Samples, Script, File}
use Rattle.c25_disk.specs.Copies.{HasCopied}
use Rattle.c25_disk.specs.Held.{Held, ReadsSources}
use Rattle.c25_earlier.specs.Shown.{ShowsEarlier}
use Rattle.c25_explain.specs.Note.{line_of}
use Rattle.c25_explain.specs.OpenBlocks.{open_text}
use Rattle.c25_explain.specs.Places.{place_text}
use Rattle.c25_explain.specs.TakenNames.{taken_text}
use Rattle.c25_explain.specs.Written.{seen_or_written}
use Rattle.c25_outline.specs.Macros.{macros_in_files}
use Rattle.c25_meaning_common.specs.Faults.{placed_text}
use Rattle.c25_meaning_expansion.specs.Files.{Files, file_name, text_named}
use Rattle.c25_meaning_common.specs.declared.placed.FileLine.{FileLine}
use Rattle.c25_meaning_language.specs.ExpansionFault.{ExpansionFault, Faulty}
use Rattle.c25_explain.specs.declared.trails.NoTrail.{NoTrail}
use Rattle.c25_explain.specs.declared.trails.NoTrail.TheVariants.{Missing, Other}

-- the text of the line at a place
abbrev pub text_at : Files → FileLine ℕ → List ℕ
text_at files place = unwrap_or (option_and_then (λ text. line_of text place.line) (text_named files (file_name files place.file))) []

-- one line of the trail as it is shown: its file, its number and its text
abbrev pub opening_text : Files → FileLine ℕ → List ℕ
opening_text files place = codes "  from " ++ placed_text (file_name files place.file) place.line (text_at files place) ++ codes "\n"

-- all lines of a trail as they are shown
abbrev pub openings_text : Files → List (FileLine ℕ) → List ℕ
openings_text files [] = []
openings_text files (place ∷ places) = opening_text files place ++ openings_text files places

-- the first fault among the sources of these names is this one, these lines opened what is open there, and the
-- line that is refused is seen so, if it is read at all
abbrev pub IsFirstTrail : Files → (sources : List (List ℕ)) → ExpansionFault → List (FileLine ℕ) → Option Seen → Type 0
IsFirstTrail files [] fault trail seen = ⊥
IsFirstTrail files (name ∷ names) fault trail seen = IsTrail files name fault trail seen ⊎ IsWhole files name × IsFirstTrail files names fault trail seen

-- a text shows the part of the line with this fault that is refused, if it is known, in the line as it is read, or as
-- it stands in its file where expansion refuses it or there is no room for it, with a remark that knows the
-- macros of all files that were read; then the line that opened the block that is open at 31 and 32, the lines that begin
-- a macro of the same name at 36, or the line that defined the name first at 26; and then the trail of the fault
abbrev pub ShowsTrail : Files → (sources : List (List ℕ)) → ExpansionFault → List ℕ → Type 0
ShowsTrail files sources fault text =
    (trail : List (FileLine ℕ)) × (seen : Option Seen) × (earlier : List ℕ) × IsFirstTrail files sources fault trail seen × ShowsEarlier files sources fault earlier
    × (text ≡ place_text fault (macros_in_files files) (seen_or_written files fault seen) ++ open_text files fault ++ taken_text files fault ++ earlier ++ openings_text files trail)

-- a text shows that part and that trail in sources on a disk, over their files and at most 256 others that they
-- copy, or is empty
abbrev pub ShowsTrailOver : Held → (sources : List (List ℕ)) → ExpansionFault → List ℕ → Type 0
ShowsTrailOver held sources fault text =
    ((given : Files) × ReadsSources held [] sources (Ok given) × (files : Files) × HasCopied held given 256 files × ShowsTrail files sources fault text) ⊎ (text ≡ [])

-- the name of the file that is asked for
abbrev pub wanted_by : NoTrail → Option (List ℕ)
wanted_by (Missing name) = Some (string_bytes name)
wanted_by Other = None

-- what is shown of a fault: of a line of a source the part that is refused and the trail, of all else nothing
abbrev pub IsTrailText : Held → (sources : List (List ℕ)) → ChainFault (String Global) → List ℕ → Type 0
IsTrailText held sources (Source placed) text = ShowsTrailOver held sources (Faulty (string_bytes placed.place.file) placed.place.line placed.fault) text
IsTrailText held sources (NoFile file line name) text = text ≡ []
IsTrailText held sources (Object placed) text = text ≡ []
IsTrailText held sources (Command placed) text = text ≡ []
IsTrailText held sources (Link placed) text = text ≡ []
IsTrailText held sources (Hex placed) text = text ≡ []
IsTrailText held sources (Schedule line) text = text ≡ []
IsTrailText held sources (Samples line) text = text ≡ []
IsTrailText held sources (Script line) text = text ≡ []
IsTrailText held sources (File placed) text = text ≡ []
