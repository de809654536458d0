-- Failures of files as failures of the chain; files that need not be named; tasks over sources of a disk.
use Rattle.std.specs.Prelude.{◌≡◌, ◌⊎◌, ℕ, List, [], Option, Some, None, Result, Ok, Err, String}
use Rattle.std.specs.String.{string_bytes}
use Rattle.std.specs.declared.alloc.Global.{Global}
use Rattle.c25_chain.specs.Refusal.{Fault}
use Rattle.c25_chain.specs.declared.fault.ChainFault.{ChainFault}
use Rattle.c25_chain.specs.declared.fault.ChainFault.TheVariants.{Source, NoFile, Object, Command, Link, Hex, Schedule, Samples, Script, File}
use Rattle.c25_disk.specs.Copies.{EndsOver}
use Rattle.c25_disk.specs.Held.{Held, IsAllOf, IsOfFile, ReadsSources}
use Rattle.c25_fronts.specs.Adding.{AddsDefinitions, assembled_names}
use Rattle.c25_options.specs.Task.{texts_of}
use Rattle.c25_inputs.specs.declared.sources.Sources.{Sources}
use Rattle.c25_meaning_common.specs.declared.placed.Placed.{Placed}
use Rattle.c25_disk.specs.declared.fault.FileFault.{FileFault}
use Rattle.c25_disk.specs.declared.fault.FileFault.TheVariants.{CannotRead}
use Rattle.c25_disk.specs.declared.work.CopyFault.{CopyFault}
use Rattle.c25_disk.specs.declared.work.CopyFault.TheVariants as copy
use Rattle.c25_meaning_expansion.specs.Files.{Files}
use Rattle.c25_meaning_common.specs.declared.failure.Failure.{Failure}
use Rattle.c25_meaning_common.specs.declared.failure.Failure.TheVariants as failure

-- ---- faults

-- a failure of a file as a failure of the chain
abbrev pub IsToldOfFile : Failure (Placed (String Global) FileFault) → Fault → Type 0
IsToldOfFile (failure.NoMemory n) (failure.NoMemory m) = Unit {0}
IsToldOfFile (failure.NoMemory n) (failure.Fault r) = ⊥
IsToldOfFile (failure.Fault f) (failure.NoMemory m) = ⊥
IsToldOfFile (failure.Fault f) (failure.Fault r) = r ≡ File f

-- a failure of a task over files that may be copied as a failure of the chain
abbrev pub IsToldOfCopies : Failure (CopyFault (ChainFault (String Global))) → Fault → Type 0
IsToldOfCopies (failure.NoMemory n) (failure.NoMemory m) = Unit {0}
IsToldOfCopies (failure.NoMemory n) (failure.Fault r) = ⊥
IsToldOfCopies (failure.Fault f) (failure.NoMemory m) = ⊥
IsToldOfCopies (failure.Fault (copy.File f)) (failure.Fault r) = r ≡ File f
IsToldOfCopies (failure.Fault (copy.Work g)) (failure.Fault r) = r ≡ g

-- the name of the copied file that a fault asks for
abbrev pub missing_name : ChainFault (String Global) → Option (List ℕ)
missing_name (NoFile file line name) = Some (string_bytes name)
missing_name (Source placed) = None
missing_name (Object placed) = None
missing_name (Command faulty) = None
missing_name (Link faulty) = None
missing_name (Hex placed) = None
missing_name (Schedule line) = None
missing_name (Samples line) = None
missing_name (Script line) = None
missing_name (File f) = None

-- an answer is a failure of which this holds
abbrev pub FailsWith : {A : Type 0} → Result A Fault → (Fault → Type 0) → Type 0
FailsWith (Ok a) holds = ⊥
FailsWith (Err fault) holds = holds fault

-- ---- files that are named

-- the file of this name cannot be read (8), or memory ran out
abbrev pub IsUnread : List ℕ → Fault → Type 0
IsUnread name fault = (failure : Failure (Placed (String Global) FileFault)) × IsOfFile name CannotRead failure × IsToldOfFile failure fault

-- the text of the file of this name, or why it is not read
abbrev pub ReadsNamed : Held → List ℕ → Result (String Global) Fault → Type 0
ReadsNamed held name (Ok text) = IsAllOf (held name) (string_bytes text)
ReadsNamed held name (Err fault) = IsUnread name fault

-- what follows the text of the file of this name, or that it cannot be read
abbrev pub AfterNamed : {A : Type 0} → Held → List ℕ → (List ℕ → Result A Fault → Type 0) → Result A Fault → Type 0
AfterNamed held name next answer = FailsWith answer (IsUnread name) ⊎ ((text : List ℕ) × IsAllOf (held name) text × next text answer)

-- ---- files that need not be named

-- a file is named and cannot be read (8), or memory ran out
abbrev pub IsUnreadOptional : Option (List ℕ) → Fault → Type 0
IsUnreadOptional None fault = ⊥
IsUnreadOptional (Some name) fault = IsUnread name fault

-- a text is all of the file of this name, or empty where none is named
abbrev pub IsOptional : Held → Option (List ℕ) → List ℕ → Type 0
IsOptional held None text = text ≡ []
IsOptional held (Some name) text = IsAllOf (held name) text

-- the text of a file that need not be named, or why it is not read
abbrev pub ReadsOptional : Held → Option (List ℕ) → Result (String Global) Fault → Type 0
ReadsOptional held name (Ok text) = IsOptional held name (string_bytes text)
ReadsOptional held name (Err fault) = IsUnreadOptional name fault

-- what follows the text of a file that need not be named, or that it cannot be read
abbrev pub AfterOptional : {A : Type 0} → Held → Option (List ℕ) → (List ℕ → Result A Fault → Type 0) → Result A Fault → Type 0
AfterOptional held name next answer = FailsWith answer (IsUnreadOptional name) ⊎ ((text : List ℕ) × IsOptional held name text × next text answer)

-- ---- sources

-- the names of sources, the symbols that are defined in front of each: texts NAME=VALUE, or NAME, and the folders in which
-- files are looked for that they copy
pub record SourceNames : Type 0 where
  pub names : List (List ℕ)
  pub definitions : List (List ℕ)
  pub folders : List (List ℕ)

abbrev pub source_names : Sources → SourceNames
source_names sources =
    record { names = texts_of sources.names.now; definitions = texts_of sources.definitions.now; folders = texts_of sources.folders.now }

-- sources in front of which no symbols are defined, and no folders
abbrev pub plain_names : List (List ℕ) → SourceNames
plain_names names = record { names = names; definitions = []; folders = [] }

-- the names of the texts that are assembled: those of the sources, or of their fronts where symbols are defined
abbrev pub assembled_in : SourceNames → List (List ℕ)
assembled_in sources = assembled_names sources.definitions sources.names

-- one of these sources is among those before it (37) or cannot be read (8), or a front cannot be added (37), or memory ran out
abbrev pub ReadsNone : Held → SourceNames → Failure (Placed (String Global) FileFault) → Type 0
ReadsNone held sources failure =
    ReadsSources held [] sources.names (Err failure)
    ⊎ ((read : Files) × ReadsSources held [] sources.names (Ok read) × AddsDefinitions sources.definitions sources.names read (Err failure))

-- the sources of names, and their fronts after them where symbols are defined
abbrev pub ReadsTexts : Held → SourceNames → Result Files (Failure (Placed (String Global) FileFault)) → Type 0
ReadsTexts held sources (Ok files) =
    (read : Files) × ReadsSources held [] sources.names (Ok read) × AddsDefinitions sources.definitions sources.names read (Ok files)
ReadsTexts held sources (Err failure) = ReadsNone held sources failure

-- the same, its failure as one of the chain
abbrev pub ReadsAll : Held → SourceNames → Result Files Fault → Type 0
ReadsAll held sources (Ok files) = ReadsTexts held sources (Ok files)
ReadsAll held sources (Err fault) = (failure : Failure (Placed (String Global) FileFault)) × ReadsNone held sources failure × IsToldOfFile failure fault

-- these sources are refused, or memory ran out
abbrev pub IsRefusedSource : {A : Type 0} → Held → SourceNames → Result A Fault → Type 0
IsRefusedSource held sources answer = FailsWith answer (λ fault. ReadsAll held sources (Err fault))

-- what follows these sources, or that one of them is refused
abbrev pub AfterSources : {A : Type 0} → Held → SourceNames → (Files → Result A Fault → Type 0) → Result A Fault → Type 0
AfterSources held sources next answer = IsRefusedSource held sources answer ⊎ ((given : Files) × ReadsAll held sources (Ok given) × next given answer)

-- ---- work over files

-- the answer of a task, its failure as one of the chain
abbrev pub IsToldOf : {A : Type 0} → Result A (Failure (CopyFault (ChainFault (String Global)))) → Result A Fault → Type 0
IsToldOf (Ok a) (Ok b) = b ≡ a
IsToldOf (Ok a) (Err fault) = ⊥
IsToldOf (Err failure) (Ok b) = ⊥
IsToldOf (Err failure) (Err fault) = IsToldOfCopies failure fault

-- the answer of a task over given files and at most 256 others that it asks for: a result over the files that
-- are there in the end, or that the file which it then lacks cannot be read (8)
abbrev pub ComesToBy : {A : Type 0} → (missing : ChainFault (String Global) → Option (List ℕ)) → Held → Files → (Files → Result A Fault → Type 0) → Result A Fault → Type 0
ComesToBy {A} missing held given comes_to answer =
    (result : Result A (Failure (CopyFault (ChainFault (String Global))))) × EndsOver held given comes_to missing result × IsToldOf result answer

-- the answer of a task that asks for a copied file by its fault 30
abbrev pub ComesTo : {A : Type 0} → Held → Files → (Files → Result A Fault → Type 0) → Result A Fault → Type 0
ComesTo held given comes_to answer = ComesToBy missing_name held given comes_to answer
