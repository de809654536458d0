-- Words as they are read.
use Rattle.std.proofs.Common.{◌≡◌, ◌∙◌, ap, arith, subst, sym, ℕ, ◌<◌, ◌≤◌, List, length, map, string_bytes}
use Rattle.std.proofs.lemmas.List.{length-map}
use Rattle.std.specs.Prelude.{Result, Ok, Err, String}
use Rattle.std.specs.declared.alloc.Global.{Global}
use Rattle.clap.specs.declared.error.Error.{Error}
use Rattle.c25_meaning_common.specs.declared.failure.Failure.{Failure}
use Rattle.c25_meaning_common.specs.declared.failure.Failure.TheVariants as failure
use Rattle.c25_meaning_common.specs.declared.no_memory.NoMemory.{NoMemory}
use Rattle.c25_options.specs.Arranged.{arranged}
use Rattle.c25_options.proofs.Ordered.{arranged_long, arranged_short}
use Rattle.c25_options.specs.Task.{Reads}
use Rattle.c25_options.specs.declared.task.Task.{Task}
use Rattle.c25_options.specs.declared.task.Task.TheVariants.{RunStandardInput}
use Rattle.c25_tasks.specs.Program.{AreRead}

-- words that are read in the order in which these stand
pub are_read : (words read : List (String Global)) (answer : Result Task (Failure Error)) → map string_bytes read ≡ arranged (map string_bytes words)
    → (length read < 2 → answer ≡ Ok RunStandardInput) → (2 ≤ length read → Reads (map string_bytes read) answer) → AreRead (map string_bytes words) answer
are_read words read answer ordered none some =
    let long : length (arranged (map string_bytes words)) ≡ length read = ap length (sym ordered) ∙ length-map read string_bytes in (
      λ low. none (subst (λ (n : ℕ). n < 2) long (arranged_short (map string_bytes words) low)),
      λ high. subst (λ (ws : List (List ℕ)). Reads ws answer) ordered (some (subst (λ (n : ℕ). 2 ≤ n) long (arranged_long (map string_bytes words) high))),
    )

-- memory runs out only where there are arguments
pub none_read : (words : List (String Global)) (n : NoMemory) → 2 ≤ length words → AreRead (map string_bytes words) (Err (failure.NoMemory n))
none_read words n long =
    (λ low. absurd (omega (arith, long, subst (λ (k : ℕ). k < 2) (length-map words string_bytes) low)), λ high. tt)
