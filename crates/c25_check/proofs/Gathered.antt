-- Sources checked over files that were read from a disk.
use Rattle.std.proofs.Common.{◌≡◌, subst, ℕ, List}
use Rattle.std.specs.Prelude.{Result, Err}
use Rattle.c25_chain.specs.Refusal.{Fault}
use Rattle.c25_disk.specs.Held.{Held}
use Rattle.c25_meaning_common.specs.Results.{IsNoMemory}
use Rattle.c25_meaning_expansion.specs.Files.{Files}
use Rattle.c25_check.specs.declared.check.Checked.{Checked}
use Rattle.c25_check.specs.declared.showing.Showing.{Showing}
use Rattle.c25_check.specs.Checking.{Checks, ChecksOver}
use Rattle.c25_inputs.proofs.Fails.{over_short}

pub checks_over : (showing used : Showing) (held : Held) (given : Files) (names sources : List (List ℕ)) (command shown : List ℕ) (answer : Result Checked Fault) → used ≡ showing → sources ≡ names → shown ≡ command → ChecksOver used held given sources shown answer → ChecksOver showing held given names command answer
checks_over showing used held given names sources command shown answer so named same comes =
    let of_showing = subst (λ (s : Showing). ChecksOver s held given sources shown answer) so comes in
    subst (λ (t : List ℕ). ChecksOver showing held given names t answer) same (subst (λ (ns : List (List ℕ)). ChecksOver showing held given ns shown answer) named of_showing)

pub checks_short : (showing : Showing) (held : Held) (given : Files) (names : List (List ℕ)) (command : List ℕ) (fault : Fault) → IsNoMemory fault → ChecksOver showing held given names command (Err fault)
checks_short showing held given names command fault short = over_short held given (λ files result. Checks showing files names command result) fault short
