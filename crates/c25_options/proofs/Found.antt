-- What a task that was found, or an error of what was found, says of the words.
use Rattle.std.proofs.Common.{◌≡◌, ◌∙◌, ◌∷◌, IfErr, List, Option, Result, Ok, Err, [], None, ap, subst, sym, inl, inr}
use Rattle.clap.specs.Words.{Text, subcommand_of}
use Rattle.clap.specs.Faults.{fault_of}
use Rattle.clap.specs.Kinds.{HasKind, Kinds, or_else}
use Rattle.clap.specs.Values.{kind_of}
use Rattle.clap.specs.declared.error.Error.{Error}
use Rattle.clap.specs.declared.error.kind.ErrorKind.{ErrorKind}
use Rattle.clap.specs.declared.error.kind.ErrorKind.TheVariants.{OutOfMemory}
use Rattle.c25_meaning_common.specs.declared.failure.Failure.{Failure}
use Rattle.c25_meaning_common.specs.declared.failure.Failure.TheVariants.{NoMemory, Fault}
use Rattle.c25_options.specs.Program.{program}
use Rattle.c25_options.specs.Task.{IsAskedBy, IsWantOfMemory, Reads, ReadsFound, RefusesBy}
use Rattle.c25_options.specs.Together.{found_error, kinds_of, words_fault}
use Rattle.c25_options.specs.declared.task.Task.{Task}

-- words of which `clap` has no fault have the kinds of what it finds
kinds_are : (words : List Text) → fault_of program words ≡ [] → words_fault words ≡ kinds_of (found_error (subcommand_of program words))
kinds_are words none = ap (λ (k : Kinds). or_else k (kinds_of (found_error (subcommand_of program words)))) none

pub reads : (words : List Text) (result : Result Task (Failure Error)) → fault_of program words ≡ []
    → ReadsFound (found_error (subcommand_of program words)) (IsAskedBy (subcommand_of program words)) result → Reads words result
reads words (Ok task) none found = (kinds_are words none ∙ ap kinds_of found.0, found.1)
reads words (Err failure) none found = subst (λ (k : Kinds). RefusesBy k failure) (sym (kinds_are words none)) found

-- an error of no kind is out of memory
only_short : (e : Error) → HasKind [] e → kind_of e ≡ OutOfMemory
only_short e (inl is) = is
only_short e (inr none) = absurd none

-- words that `clap` refuses are refused with its kinds
pub refuses : (words : List Text) (error : Error) (kinds : Kinds) → kinds ≡ fault_of program words → HasKind kinds error → HasKind (words_fault words) error
refuses words error [] is has = inl (only_short error has)
refuses words error (k ∷ ks) is has = subst (λ (kinds : Kinds). HasKind (or_else kinds (kinds_of (found_error (subcommand_of program words)))) error) is has

pub short : (error : Option ErrorKind) (Is : Task → Type 0) (result : Result Task (Failure Error)) → error ≡ None → ReadsFound error Is result → IfErr result IsWantOfMemory
short error Is (Ok task) none found = tt
short error Is (Err (NoMemory n)) none found = tt
short error Is (Err (Fault e)) none found = only_short e (subst (λ (o : Option ErrorKind). HasKind (kinds_of o) e) none found)
