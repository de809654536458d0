-- the copies of the files so far
use Rattle.std.proofs.Common.{◌≡◌, map, take}
use Rattle.c25_prompt_lines.specs.SourceTexts.{files_of}
use Rattle.c25_prompting.proofs.Copied.{copied}
use Rattle.c25_prompting.proofs.texts.texts_of.Given as goal

abbrev pub invariant-loop-number : goal.invariant-loop-number
invariant-loop-number l = files_of l.texts.items ≡ map (copied l.files) (take l.number l.files)
