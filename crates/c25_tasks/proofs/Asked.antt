-- Sessions of the debugger by a script or at the prompt.
use Rattle.std.proofs.Common.{◌≡◌, sym, subst, ℕ, Bool, false, true, List}
use Rattle.std.specs.Borrow.{Bor}
use Rattle.std.specs.Prelude.{Option, Some, None}
use Rattle.c25_disk.specs.Held.{Held}
use Rattle.c25_inputs.specs.Files.{SourceNames}
use Rattle.c25_source_notes.specs.declared.notes.SourceNotes.{SourceNotes}
use Rattle.c25_options.specs.Task.{text_of}
use Rattle.c25_options.specs.declared.task.RunFiles.{RunFiles}
use Rattle.c25_report.specs.declared.ending.Ending.{Ending}
use Rattle.c25_tasks.specs.Debugging.{DebugsAsked, DebugsTold, HasNoCommands}
use Rattle.c25_tasks.specs.Prompting.{PromptsTold}
use Rattle.c25_tasks.specs.Tells.{Printed}

module _ (held : Held) (notes : SourceNotes) (sources : SourceNames) (asked : Option (Bor (List ℕ))) (interactive : Bool) (files : RunFiles) (input : Option (List ℕ)) (e : Ending) (note : List ℕ) (out : Printed) where
  -- what is done, where it is known which commands are asked for
  of_asked : (given : Option (Bor (List ℕ))) (flag : Bool) → asked ≡ given → interactive ≡ flag → DebugsAsked held notes sources (text_of given) flag files input e note out → DebugsAsked held notes sources (text_of asked) interactive files input e note out
  of_asked given flag is same done =
      subst (λ (a : Option (Bor (List ℕ))). DebugsAsked held notes sources (text_of a) interactive files input e note out) (sym is)
      (subst (λ (b : Bool). DebugsAsked held notes sources (text_of given) b files input e note out) (sym same) done)

  pub by_script : (script : Bor (List ℕ)) → asked ≡ Some script → interactive ≡ false → DebugsTold held notes sources script.now files e note out → DebugsAsked held notes sources (text_of asked) interactive files input e note out
  by_script script is same told = of_asked (Some script) false is same told

  pub at_prompt : asked ≡ None → interactive ≡ true → PromptsTold held notes sources files input e note out → DebugsAsked held notes sources (text_of asked) interactive files input e note out
  at_prompt is same told = of_asked None true is same told

  pub neither : asked ≡ None → interactive ≡ false → HasNoCommands e note out → DebugsAsked held notes sources (text_of asked) interactive files input e note out
  neither is same none = of_asked None false is same none

  pub both : (script : Bor (List ℕ)) → asked ≡ Some script → interactive ≡ true → HasNoCommands e note out → DebugsAsked held notes sources (text_of asked) interactive files input e note out
  both script is same none = of_asked (Some script) true is same none
