-- What is read from a disk, and what is written to one.
use Rattle.std.specs.Prelude.{◌≡◌, ◌⊎◌, ⊤, ℕ, List, [], ◌∷◌, ◌++◌, Option, Some, None, is_some, false, if◌then◌else◌, Result, Ok, Err, IfOk, IfErr, String}
use Rattle.std.specs.List.{All}
use Rattle.std.specs.String.{string_bytes}
use Rattle.std.specs.declared.alloc.Global.{Global}
use Rattle.c25_meaning_expansion.specs.Files.{Files, text_named}
pub use Rattle.c25_files.specs.Whole.{IsAllOf}
use Rattle.c25_meaning_common.specs.declared.failure.Failure.{Failure}
use Rattle.c25_meaning_common.specs.declared.failure.Failure.TheVariants.{NoMemory, Fault}
use Rattle.c25_meaning_common.specs.declared.placed.Placed.{Placed}
use Rattle.c25_disk.specs.declared.fault.FileFault.{FileFault}
use Rattle.c25_disk.specs.declared.fault.FileFault.TheVariants.{CannotRead, FileTwice}

-- the bytes of files by their names, where they are known
abbrev pub Held : Type 0
Held = List ℕ → Option (List ℕ)

-- known files grow by these at their end
abbrev pub Adds : Option Files → Option Files → Files → Type 0
Adds None new added = ⊤
Adds (Some files) None added = ⊥
Adds (Some files) (Some after) added = after ≡ files ++ added

-- known files stay as they were
abbrev pub Stay : Option Files → Option Files → Type 0
Stay old new = Adds old new []

-- each text is all of the file of its name
abbrev pub AreAsHeld : Held → Files → Type 0
AreAsHeld held files = All (λ file. IsAllOf (held file.0) file.1) files

-- this is the fault of the file of this name, unless memory ran out
abbrev pub IsOfFile : List ℕ → FileFault → Failure (Placed (String Global) FileFault) → Type 0
IsOfFile name kind (NoMemory n) = Unit {0}
IsOfFile name kind (Fault f) = (string_bytes f.place ≡ name) × (f.fault ≡ kind)

-- the fault of a file that is to be a source after these: it is one of them (37), or else it cannot be read
-- (8)
abbrev pub source_fault : Files → List ℕ → FileFault
source_fault files name = if is_some (text_named files name) then FileTwice else CannotRead

-- a file's text is added to these under its name, or why not
abbrev pub AddsSource : Held → Files → Files → List ℕ → Result (Unit {0}) (Failure (Placed (String Global) FileFault)) → Type 0
AddsSource held files after name (Ok done) =
    (text : List ℕ) × IsAllOf (held name) text × (is_some (text_named files name) ≡ false) × (after ≡ files ++ (name, text) ∷ [])
AddsSource held files after name (Err failure) = IsOfFile name (source_fault files name) failure

-- the sources of names, read one by one after these, or the first fault
abbrev pub ReadsSources : Held → Files → List (List ℕ) → Result Files (Failure (Placed (String Global) FileFault)) → Type 0
ReadsSources held files [] result = result ≡ Ok files
ReadsSources held files (name ∷ names) result =
    IfErr result (IsOfFile name (source_fault files name)) × IfOk result (λ _. ⊥)
    ⊎ ((text : List ℕ) × IsAllOf (held name) text × (is_some (text_named files name) ≡ false) × ReadsSources held (files ++ (name, text) ∷ []) names result)
