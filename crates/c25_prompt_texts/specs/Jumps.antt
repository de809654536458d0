-- Jumps of a run (this project's own).
use Rattle.std.specs.Prelude.{ℕ, List, ◌++◌, codes}
use Rattle.std.specs.Fmt.{decimal}
use Rattle.std.specs.List.{flat_map}
use Rattle.c25_meaning_common.specs.Digits.{four_digits}
use Rattle.c25_meaning_debugger.specs.Debugger.{source_line_at}
use Rattle.c25_meaning_debugger.specs.Texts.{SourceLine, source_line_end}
use Rattle.c25_meaning_linking.specs.Linking.{ImageData}
use Rattle.c25_prompt_texts.specs.declared.jumps.Jump.{Jump}

-- the line of a jump: how many steps were done with it, from where and to where it led, and where the instruction
-- there stands in the sources, if it is known
abbrev pub jump_line : SourceLine → Jump → List ℕ
jump_line source j = decimal j.steps ++ codes " " ++ four_digits j.from ++ codes " " ++ four_digits j.to ++ source_line_end source

-- the lines of jumps in a program
abbrev pub jumps_text : ImageData → List Jump → List ℕ
jumps_text image jumps = flat_map (λ j. jump_line (source_line_at image j.from) j) jumps
