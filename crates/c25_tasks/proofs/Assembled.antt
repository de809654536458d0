-- The output files of a source over files that were read from a disk.
use Rattle.std.proofs.Common.{◌≡◌, ◌∙◌, inr, subst, ℕ, List}
use Rattle.std.specs.Prelude.{Option, Result, Ok, Err, Vec}
use Rattle.std.specs.Result.{IsErrAnd}
use Rattle.std.specs.declared.alloc.Global.{Global}
use Rattle.c25_chain.specs.Refusal.{Fault, refusal_of}
use Rattle.c25_disk.specs.Held.{Held}
use Rattle.c25_disk.specs.declared.writing.Output.{Output}
use Rattle.c25_fronts.specs.Adding.{assembled_name}
use Rattle.c25_inputs.proofs.Fails.{over_short}
use Rattle.c25_inputs.specs.Files.{ComesTo, ReadsAll}
use Rattle.c25_meaning_common.specs.Results.{IsNoMemory, MeetsBy}
use Rattle.c25_meaning_expansion.specs.Files.{Files}
use Rattle.c25_tasks.specs.Assembly.{AsmOutputs, asm_written, one_source, output_files}

module _ (held : Held) (definitions : List (List ℕ)) (source object : List ℕ) (listing : Option (List ℕ)) (given : Files) where
  abbrev Outputs : List ℕ → Result (Vec Output Global) Fault → Type 0
  Outputs name answer = ComesTo held given (λ files result. MeetsBy refusal_of output_files (asm_written object listing files name) result) answer

  pub outputs_of_name : (seen name : List ℕ) (answer : Result (Vec Output Global) Fault) → ReadsAll held (one_source source definitions) (Ok given) → seen ≡ name → name ≡ assembled_name definitions source
      → ComesTo held given (λ files result. MeetsBy refusal_of output_files (asm_written object listing files seen) result) answer → AsmOutputs held definitions source object listing answer
  outputs_of_name seen name answer read same named comes = inr (given, read, subst (λ (n : List ℕ). Outputs n answer) (same ∙ named) comes)

  pub outputs_short : (answer : Result (Vec Output Global) Fault) → ReadsAll held (one_source source definitions) (Ok given) → IsErrAnd answer IsNoMemory → AsmOutputs held definitions source object listing answer
  outputs_short (Ok outputs) read short = absurd short
  outputs_short (Err fault) read short =
      inr (given, read, over_short held given (λ files result. MeetsBy refusal_of output_files (asm_written object listing files (assembled_name definitions source)) result) fault short)
