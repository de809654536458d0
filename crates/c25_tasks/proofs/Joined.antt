-- What links object files.
use Rattle.std.proofs.Common.{◌≡◌, inl, inr, sym, subst, ℕ, List, []}
use Rattle.std.specs.Prelude.{Result, Ok, Err}
use Rattle.std.specs.Result.{IsErrAnd}
use Rattle.c25_chain.specs.Linked.{IsLinked, LinksUnder}
use Rattle.c25_chain.specs.Refusal.{Fault, refusal_of}
use Rattle.c25_chain.specs.declared.built.Built.{Built}
use Rattle.c25_disk.specs.Held.{Held, IsAllOf}
use Rattle.c25_meaning_expansion.specs.Files.{Files}
use Rattle.c25_meaning_objects.specs.Module.{Contents}
use Rattle.c25_meaning_common.specs.Results.{FailsBy}
use Rattle.c25_meaning_common.specs.declared.failure.Failure.TheVariants as failure
use Rattle.c25_tasks.specs.Linking.{LinksFiles, LinksFrom}
use Rattle.c25_inputs.specs.Objects.{AreFiles, modules_in}

pub objects_refused : (files : Files) (text : List ℕ) (fault : Fault) → FailsBy refusal_of (modules_in files) fault → LinksFiles files text (Err fault)
objects_refused files text (failure.NoMemory n) refused = tt
objects_refused files text (failure.Fault f) refused = inl refused

pub link_refused : (files : Files) (text shown : List ℕ) (modules : List Contents) (fault : Fault) → modules_in files ≡ Ok modules → shown ≡ text → LinksUnder modules shown (Err fault) → LinksFiles files text (Err fault)
link_refused files text shown modules (failure.NoMemory n) read same refused = tt
link_refused files text shown modules (failure.Fault f) read same refused =
    inr (modules, read, subst (λ (t : List ℕ). LinksUnder modules t (Err (failure.Fault f))) same refused)

pub files_told : (files : Files) (text : List ℕ) (answer : Result Built Fault) (fault : Fault) → IsErrAnd answer (λ e. e ≡ fault) → LinksFiles files text (Err fault) → LinksFiles files text answer
files_told files text (Ok built) fault is told = absurd is
files_told files text (Err e) fault is told = subst (λ (f : Fault). LinksFiles files text (Err f)) (sym is) told

pub objects_told : (files shown : Files) (text : List ℕ) (answer : Result Built Fault) (fault : Fault) → shown ≡ files → FailsBy refusal_of (modules_in shown) fault → IsErrAnd answer (λ e. e ≡ fault) → LinksFiles files text answer
objects_told files shown text answer fault same refused is =
    files_told files text answer fault is (objects_refused files text fault (subst (λ (fs : Files). FailsBy refusal_of (modules_in fs) fault) same refused))

pub link_told : (files : Files) (text shown : List ℕ) (modules : List Contents) (answer : Result Built Fault) (fault : Fault) → modules_in files ≡ Ok modules → shown ≡ text → LinksUnder modules shown (Err fault) → IsErrAnd answer (λ e. e ≡ fault) → LinksFiles files text answer
link_told files text shown modules answer fault read same refused is = files_told files text answer fault is (link_refused files text shown modules fault read same refused)

pub linked_from : (held : Held) (command : List ℕ) (objects : List (List ℕ)) (text shown : List ℕ) (files : Files) (modules : List Contents) (built : Built) → IsAllOf (held command) text → AreFiles held objects files → modules_in files ≡ Ok modules → shown ≡ text → IsLinked modules shown built.linked → built.listings.items ≡ [] → LinksFrom held command objects (Ok built)
linked_from held command objects text shown files modules built all are read same linked none =
    inr (text, all, inr (files, are, (modules, read, subst (λ (t : List ℕ). IsLinked modules t built.linked) same linked, none)))
