-- Statuses of words that are no task.
use Rattle.std.proofs.Common.{◌≡◌, ◌∙◌, ap, refl, sym, ℕ}
use Rattle.clap.specs.Values.{kind_of}
use Rattle.clap.specs.declared.error.Error.{Error}
use Rattle.clap.specs.declared.error.kind.ErrorKind.{ErrorKind}
use Rattle.clap.specs.declared.error.kind.ErrorKind.TheVariants.{OutOfMemory}
use Rattle.c25_meaning_common.specs.declared.failure.Failure.{Failure}
use Rattle.c25_meaning_common.specs.declared.failure.Failure.TheVariants as failure
use Rattle.c25_report.specs.Ending.{kind_status, words_status}
use Rattle.c25_options.specs.Task.{IsWantOfMemory}

of_kind : (kind : ErrorKind) → (kind ≡ OutOfMemory → ⊥) → kind_status kind ≡ 2
of_kind OutOfMemory other = absurd (other refl)
of_kind kind other = refl

pub other_kind : (fault : Failure Error) (status : ℕ) → status ≡ 2 → (IsWantOfMemory fault → ⊥) → status ≡ words_status fault
other_kind (failure.NoMemory n) status two other = absurd (other tt)
other_kind (failure.Fault error) status two other = two ∙ sym (of_kind (kind_of error) other)

pub want_of_memory : (fault : Failure Error) (status : ℕ) → status ≡ 1 → IsWantOfMemory fault → status ≡ words_status fault
want_of_memory (failure.NoMemory n) status one want = one
want_of_memory (failure.Fault error) status one want = one ∙ ap kind_status (sym want)
