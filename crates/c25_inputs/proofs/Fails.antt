-- Refusals that are passed on, and files that need not be named.
use Rattle.std.proofs.Common.{◌≡◌, sym, subst, ℕ, List, [], append-nil, arith}
use Rattle.std.proofs.lemmas.List.Elements.{All-nil}
use Rattle.std.specs.Borrow.{Bor}
use Rattle.std.specs.Prelude.{Option, Some, Result, Ok, Err, String}
use Rattle.std.specs.declared.alloc.Global.{Global}
use Rattle.std.specs.Result.{IsErrAnd}
use Rattle.c25_chain.specs.Refusal.{Fault}
use Rattle.c25_disk.specs.Held.{Held, IsAllOf}
use Rattle.c25_meaning_expansion.specs.Files.{Files}
use Rattle.c25_meaning_common.specs.Results.{IsNoMemory}
use Rattle.c25_meaning_common.specs.declared.failure.Failure.TheVariants as failure
use Rattle.c25_inputs.specs.Files.{ComesTo, FailsWith, IsUnread, ReadsNamed, ReadsOptional}
use Rattle.c25_options.specs.Task.{text_of}

abbrev is_held : Held → List ℕ × List ℕ → Type 0
is_held held file = IsAllOf (held file.0) file.1

-- ---- failures that are passed on

pub fails_with : {A : Type 0} (answer : Result A Fault) (fault : Fault) (holds : Fault → Type 0) → IsErrAnd answer (λ e. e ≡ fault) → holds fault → FailsWith answer holds
fails_with (Ok a) fault holds is held = absurd is
fails_with (Err e) fault holds is held = subst holds (sym is) held

-- ---- files that need not be named

-- a file that is named is read
pub optional_named : (held : Held) (asked : Option (Bor (List ℕ))) (name : Bor (List ℕ)) (answer : Result (String Global) Fault) → asked ≡ Some name → ReadsNamed held name.now answer → ReadsOptional held (text_of asked) answer
optional_named held asked name answer is read = subst (λ (a : Option (Bor (List ℕ))). ReadsOptional held (text_of a) answer) (sym is) (of_name answer read)
  where
    of_name : (r : Result (String Global) Fault) → ReadsNamed held name.now r → ReadsOptional held (Some name.now) r
    of_name (Ok text) all = all
    of_name (Err fault) unread = unread

-- ---- out of memory

pub over_short : {A : Type 0} (held : Held) (given : Files) (comes_to : Files → Result A Fault → Type 0) (fault : Fault) → IsNoMemory fault → ComesTo {A = A} held given comes_to (Err fault)
over_short held given comes_to (failure.NoMemory n) short =
    (Err (failure.NoMemory n), (given, record { copies = []; behind = sym (append-nil given); few = omega arith; read = All-nil (is_held held) }, tt), tt)
over_short held given comes_to (failure.Fault f) short = absurd short

pub unread_short : (name : List ℕ) (fault : Fault) → IsNoMemory fault → IsUnread name fault
unread_short name (failure.NoMemory n) short = (failure.NoMemory n, tt, tt)
unread_short name (failure.Fault f) short = absurd short
