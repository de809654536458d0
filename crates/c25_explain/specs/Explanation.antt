-- What an explanation is of, what it says as a whole, and which numbers have one.
use Rattle.std.specs.Char.{to_ascii_lowercase}
use Rattle.std.specs.Prelude.{◌≡◌, ℕ, ◌<◌, All, AllPairs, Any, List, [], ◌∷◌, ◌++◌, Option, Some, None, codes, map}
use Rattle.std.specs.Borrow.{Bor}
use Rattle.c25_disk.specs.FaultNames.{file_fault_name, file_fault_number}
use Rattle.c25_meaning_linking.specs.CommandFaults.{command_name, command_number}
use Rattle.c25_meaning_common.specs.Faults.{numbered}
use Rattle.c25_hex.specs.Faults.{hex_name, hex_number}
use Rattle.c25_meaning_language.specs.Faults.{fault_name, fault_number}
use Rattle.c25_meaning_objects.specs.Faults.{object_name, object_number}
use Rattle.c25_meaning_linking.specs.LinkFaults.{link_name, link_number}
use Rattle.c25_explain.specs.Sentence.{first_sentence}
use Rattle.c25_explain.specs.declared.fault.AnyFault.{AnyFault}
use Rattle.c25_explain.specs.declared.fault.AnyFault.TheVariants.{Memory, Source, Object, Command, Link, Map, Rom, Hex, Schedule, Samples, Script, Hint, OddLength, LengthsDiffer, TooLong, TooManySections, File}
use Rattle.c25_explain.specs.declared.parts.Explanation.{Explanation}

-- ---- faults

-- the number of a fault
abbrev pub number_of : AnyFault → ℕ
number_of Memory = 9
number_of (Source kind) = fault_number kind
number_of (Object fault) = object_number fault
number_of (Command fault) = command_number fault
number_of (Link fault) = link_number fault
number_of Map = 77
number_of Rom = 79
number_of (Hex fault) = hex_number fault
number_of Schedule = 90
number_of Samples = 91
number_of Script = 95
number_of Hint = 92
number_of OddLength = 93
number_of LengthsDiffer = 94
number_of TooLong = 96
number_of TooManySections = 97
number_of (File fault) = file_fault_number fault

-- the name of a fault
abbrev pub name_of : AnyFault → List ℕ
name_of Memory = codes "NoMemory"
name_of (Source kind) = fault_name kind
name_of (Object fault) = object_name fault
name_of (Command fault) = command_name fault
name_of (Link fault) = link_name fault
name_of Map = codes "BadMap"
name_of Rom = codes "PastRom"
name_of (Hex fault) = hex_name fault
name_of Schedule = codes "BadSchedule"
name_of Samples = codes "BadSamples"
name_of Script = codes "BadCommand"
name_of Hint = codes "BadHint"
name_of OddLength = codes "OddLength"
name_of LengthsDiffer = codes "LengthsDiffer"
name_of TooLong = codes "TooLong"
name_of TooManySections = codes "TooManySections"
name_of (File fault) = file_fault_name fault

-- the number and the name of a fault, as a fault's line ends with them
abbrev pub heading : AnyFault → List ℕ
heading fault = numbered (number_of fault) (name_of fault)

-- the fault of a number, or none where no fault has it
abbrev pub IsFaultOf : ℕ → Option AnyFault → Type 0
IsFaultOf number None = (fault : AnyFault) → number_of fault ≡ number → ⊥
IsFaultOf number (Some fault) = number_of fault ≡ number

-- ---- explanations

-- an explanation has the number and the name of this fault
pub record IsExplanationOf (fault : AnyFault) (explanation : Explanation) : Type 0 where
  pub number : explanation.number ≡ number_of fault
  pub name : explanation.name.now ≡ name_of fault

-- the answer to a number: the explanation of its fault, or nothing where no fault has it
abbrev pub Explains : ℕ → Option Explanation → Type 0
Explains number None = IsFaultOf number None
Explains number (Some explanation) = (fault : AnyFault) × IsFaultOf number (Some fault) × IsExplanationOf fault explanation

-- two names are alike but for the case of their letters
abbrev pub IsAlike : List ℕ → List ℕ → Type 0
IsAlike name other = map to_ascii_lowercase name ≡ map to_ascii_lowercase other

-- the answer to a name, whatever the case of its letters: the explanation of the fault that has it, or nothing
-- where no fault has it
abbrev pub ExplainsName : List ℕ → Option Explanation → Type 0
ExplainsName name None = (fault : AnyFault) → IsAlike (name_of fault) name → ⊥
ExplainsName name (Some explanation) = (fault : AnyFault) × IsAlike (name_of fault) name × IsExplanationOf fault explanation

-- the explanations of all faults, by rising numbers
pub record AreAll (explanations : List Explanation) : Type 0 where
  pub only : All (λ e. (fault : AnyFault) × IsExplanationOf fault e) explanations
  pub each : (fault : AnyFault) → Any (IsExplanationOf fault) explanations
  pub rising : AllPairs (λ e later. e.number < later.number) explanations

-- ---- texts

-- number and name, meaning, example if there is one, and advice, with an empty line between them
abbrev pub text_with : Option (Bor (List ℕ)) → Explanation → List ℕ
text_with None e = numbered e.number e.name.now ++ codes "\n\n" ++ e.meaning.now ++ codes "\n" ++ e.advice.now
text_with (Some example) e = numbered e.number e.name.now ++ codes "\n\n" ++ e.meaning.now ++ codes "\n" ++ example.now ++ codes "\n" ++ e.advice.now

-- all of an explanation
abbrev pub whole_text : Explanation → List ℕ
whole_text e = text_with e.example e

-- the line of a fault in the list of all: its number and name, and the first sentence of what it means
abbrev pub summary_line : Explanation → List ℕ
summary_line e = numbered e.number e.name.now ++ codes ": " ++ first_sentence e.meaning.now ++ codes "\n"

-- the lines of faults
abbrev pub summaries : List Explanation → List ℕ
summaries [] = []
summaries (e ∷ es) = summary_line e ++ summaries es

-- a text is the list of all faults
abbrev pub IsSummaryOfAll : List ℕ → Type 0
IsSummaryOfAll text = (explanations : List Explanation) × AreAll explanations × (text ≡ summaries explanations)
