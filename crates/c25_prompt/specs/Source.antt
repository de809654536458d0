-- Where the instruction at PC stands in the sources, and the lines there.
use Rattle.std.specs.Prelude.{◌≡◌, ℕ, List, Option, Some, None}
use Rattle.c25_meaning_debugger.specs.Debugger.{source_line_at}
use Rattle.c25_meaning_debugger.specs.Texts.{SourceLine}
use Rattle.c25_meaning_image.specs.declared.mark.RunMark.{RunMark}
use Rattle.c25_meaning_instructions.specs.declared.insn.Insn.{Insn}
use Rattle.c25_meaning_linking.specs.Linking.{ImageData}
use Rattle.c25_meaning_processor.specs.State.{State}
use Rattle.c25_meaning_processor.specs.WordStep.{IsFetchedBy, mark_found}
use Rattle.c25_prompt_lines.specs.Addresses.{ProgramData}
use Rattle.c25_prompt_texts.specs.SourceLines.{place_around}

-- the line of the instruction that is fetched at PC from block B0, which is that of the address where it is loaded;
-- where none is fetched, that of the instruction at PC
abbrev pub fetched_place : ImageData → State → RunMark → Option Insn → SourceLine
fetched_place image s m None = source_line_at image s.registers.pc
fetched_place image s m (Some i) = source_line_at image m.load

-- the line of the instruction at PC, given the run mark of the instruction that runs there in B0, if there is one
abbrev pub IsPlaceBy : ImageData → State → Option RunMark → SourceLine → Type 0
IsPlaceBy image s None place = place ≡ source_line_at image s.registers.pc
IsPlaceBy image s (Some m) place =
    (i : Option Insn) × IsFetchedBy s.registers.cnf s.world s.registers.pc (Some m) i × (place ≡ fetched_place image s m i)

-- the line of a source at which the instruction at PC stands, if it is known
abbrev pub IsPlace : ImageData → State → SourceLine → Type 0
IsPlace image s place = IsPlaceBy image s (mark_found s.registers.cnf s.world s.registers.pc) place

-- a text has the lines of the source around that of the instruction at PC
abbrev pub AreLinesThere : ProgramData → State → List ℕ → Type 0
AreLinesThere program s text = (place : SourceLine) × IsPlace program.image s place × (text ≡ place_around program.texts place)
