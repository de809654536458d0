-- What is put together is a note.
use Rattle.std.proofs.Common.{◌≡◌, ◌∙◌, ◌++◌, ℕ, List, string_bytes}
use Rattle.std.specs.Prelude.{IfOk, Result, Ok, Err, String}
use Rattle.std.specs.declared.alloc.Global.{Global}
use Rattle.c25_meaning_common.specs.declared.no_memory.NoMemory.{NoMemory}
use Rattle.c25_explain.specs.Explanation.{IsExplanationOf}
use Rattle.c25_explain.specs.Note.{IsNoteOf, example_line, lesson, note_with, shown_text}
use Rattle.c25_explain.specs.declared.fault.AnyFault.{AnyFault}
use Rattle.c25_explain.specs.declared.note.Shown.{Shown}
use Rattle.c25_explain.specs.declared.parts.Explanation.{Explanation}

pub explains : (fault : AnyFault) (e : Explanation) (shows : Shown) (behind shown meant example : List ℕ) (note : Result (String Global) NoMemory)
    → IsExplanationOf fault e → shown ≡ shown_text shows ++ behind → meant ≡ lesson e → example ≡ example_line e.number
    → IfOk note (λ n. string_bytes n ≡ note_with shown meant example) → IfOk note (λ n. IsNoteOf fault shows behind (string_bytes n))
explains fault e shows behind shown meant example (Ok n) is of_line of_e of_number put = (e, is, put ∙ (λ i. note_with (of_line i) (of_e i) (of_number i)))
explains fault e shows behind shown meant example (Err error) is of_line of_e of_number put = tt
