-- All faults of sources, as `--all` shows them.
use Rattle.std.specs.Prelude.{◌≡◌, ◌⊎◌, ℕ, nat_lt, if◌then◌else◌, List, [], ◌∷◌, ◌++◌, length, take, codes, Option, Some, Ok}
use Rattle.std.specs.String.{string_bytes}
use Rattle.c25_chain.specs.FaultText.{refusal_text}
use Rattle.c25_chain.specs.Modules.{asm_refusal}
use Rattle.c25_chain.specs.declared.fault.ChainFault.{ChainFault}
use Rattle.c25_disk.specs.Copies.{HasCopied}
use Rattle.c25_disk.specs.Held.{Held, ReadsSources}
use Rattle.c25_meaning_assembly.specs.AllFaults.{all_faults}
use Rattle.c25_meaning_expansion.specs.Files.{Files}
use Rattle.c25_meaning_language.specs.ExpansionFault.{ExpansionFault}
use Rattle.c25_explain.specs.declared.all_faults.MissingFile.{MissingFile}

-- the line of a fault of a source
abbrev pub fault_line : ExpansionFault → List ℕ
fault_line f = refusal_text (asm_refusal f) ++ codes "\n"

-- the lines of faults
abbrev pub fault_lines : List ExpansionFault → List ℕ
fault_lines [] = []
fault_lines (f ∷ fs) = fault_line f ++ fault_lines fs

-- the line that stands for the faults of a source that are not shown
abbrev pub more_line : (name : List ℕ) → List ℕ
more_line name = name ++ codes ": more faults are not shown\n"

-- at most 100 faults of a source, each in its line, and whether there are more
abbrev pub source_lines : (name : List ℕ) → List ExpansionFault → List ℕ
source_lines name faults = fault_lines (take 100 faults) ++ (if nat_lt 100 (length faults) then more_line name else [])

-- the faults of sources, in their order
abbrev pub sources_lines : Files → (sources : List (List ℕ)) → List ℕ
sources_lines files [] = []
sources_lines files (name ∷ names) = source_lines name (all_faults files name) ++ sources_lines files names

-- a text follows the line of this fault in another
abbrev pub Follows : ChainFault (List ℕ) → (all rest : List ℕ) → Type 0
Follows refusal all rest = refusal_text refusal ++ codes "\n" ++ rest ≡ all

-- with the line of this fault before it a text has all faults of sources on a disk, over their files and at
-- most 256 others that they copy; or it is empty
abbrev pub ShowsOthers : Held → (sources : List (List ℕ)) → ChainFault (List ℕ) → List ℕ → Type 0
ShowsOthers held sources refusal text =
    ((given : Files) × ReadsSources held [] sources (Ok given) × (files : Files) × HasCopied held given 256 files × Follows refusal (sources_lines files sources) text) ⊎ (text ≡ [])

-- the name of the file that is asked for
abbrev pub wanted_by : MissingFile → Option (List ℕ)
wanted_by fault = Some (string_bytes fault.name)
