-- Explanations of the ends of runs.
use Rattle.std.specs.Prelude.{◌≡◌, ℕ, List, ◌++◌, Option, Some, None, codes}
use Rattle.c25_explain.specs.Explanation.{IsAlike}
use Rattle.c25_explain.specs.declared.run_ends.RunEnd.{RunEnd}
use Rattle.c25_meaning_processor.specs.RunText.{stop_name}
use Rattle.c25_meaning_processor.specs.declared.stop.Stop.{Stop}

-- the reason of this name, whatever the case of its letters, or none where no reason has it
abbrev pub IsStopNamed : List ℕ → Option Stop → Type 0
IsStopNamed name None = (stop : Stop) → IsAlike (stop_name stop) name → ⊥
IsStopNamed name (Some stop) = IsAlike (stop_name stop) name

-- the answer to a name: the explanation of the end of a run that has it, or nothing where none has it
abbrev pub ExplainsEnd : List ℕ → Option RunEnd → Type 0
ExplainsEnd name None = IsStopNamed name None
ExplainsEnd name (Some end) = (stop : Stop) × IsStopNamed name (Some stop) × (end.name.now ≡ stop_name stop)

-- name, meaning and example, with an empty line between them
abbrev pub end_text : RunEnd → List ℕ
end_text end = end.name.now ++ codes "\n\n" ++ end.meaning.now ++ codes "\n" ++ end.example.now
