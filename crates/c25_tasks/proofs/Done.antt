-- What is done for a task.
use Rattle.std.proofs.Common.{◌≡◌, ◌∙◌, ap, sym, subst, ℕ, List, [], Bor, Option, string_bytes}
use Rattle.c25_disk.specs.Held.{Held}
use Rattle.c25_report.specs.declared.ending.Ending.{Ending}
use Rattle.c25_report.specs.declared.ending.Report.{Report}
use Rattle.c25_options.specs.Task.{text_of}
use Rattle.c25_options.specs.declared.task.Task.{Task}
use Rattle.c25_fronts.specs.Folders.{Opens}
use Rattle.c25_tasks.specs.Program.{Does, DoesTask, DoesUnless, Effect, definitions_of, effect_of, first_refused}
use Rattle.c25_tasks.specs.Tells.{Printed, Wrote}

-- what is done with an ending is done with the report of it that has no note
pub reported : (held : Held) (opens : Opens) (input : Option (List ℕ)) (task : Task) (ending : Ending) (report : Report) (out : Printed) (written : Wrote)
    → report.ending ≡ ending → string_bytes report.note ≡ [] → DoesTask held opens input task (record { ending = ending; note = []; out = out; written = written }) → DoesTask held opens input task (effect_of report out written)
reported held opens input task ending report out written same none does =
    subst (λ (e : Ending). DoesTask held opens input task (record { ending = e; note = string_bytes report.note; out = out; written = written })) (sym same)
    (subst (λ (note : List ℕ). DoesTask held opens input task (record { ending = ending; note = note; out = out; written = written })) (sym none) does)

pub does : (held : Held) (opens : Opens) (input : Option (List ℕ)) (task given : Task) (e : Effect) → task ≡ given → DoesTask held opens input given e → DoesTask held opens input task e
does held opens input task given e is done = subst (λ (t : Task). DoesTask held opens input t e) (sym is) done

-- ---- definitions

-- what is done where it is known which definition is refused
pub does_unless : (held : Held) (opens : Opens) (input : Option (List ℕ)) (task : Task) (e : Effect) (definitions : List (List ℕ)) (found given : Option (Bor (List ℕ)))
    → definitions ≡ definitions_of task → text_of found ≡ first_refused definitions → found ≡ given → DoesUnless (text_of given) held opens input task e → Does held opens input task e
does_unless held opens input task e definitions found given same refused is done =
    let of_given : text_of given ≡ first_refused (definitions_of task) = ap text_of (sym is) ∙ refused ∙ ap first_refused same in
    subst (λ (o : Option (List ℕ)). DoesUnless o held opens input task e) of_given done
