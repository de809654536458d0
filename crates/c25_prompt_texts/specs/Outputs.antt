-- The outputs of a run, each with its step (this project's own).
use Rattle.std.specs.Prelude.{ℕ, List, ◌++◌, codes}
use Rattle.std.specs.Fmt.{decimal}
use Rattle.std.specs.List.{flat_map}
use Rattle.c25_meaning_processor.specs.RunText.{output_line}
use Rattle.c25_prompt_texts.specs.declared.outputs.TimedOutput.{TimedOutput}

-- the line of an output: how many steps were done with the one that put it out, then its port and its word, as a run
-- prints them
abbrev pub output_shown : TimedOutput → List ℕ
output_shown o = decimal o.steps ++ codes " " ++ output_line (o.port, o.word)

-- the lines of outputs
abbrev pub outputs_shown : List TimedOutput → List ℕ
outputs_shown outputs = flat_map output_shown outputs
