-- The modules of object files.
use Rattle.std.specs.Prelude.{◌≡◌, ◌⊎◌, ℕ, List, [], ◌∷◌, ◌++◌, map, Result, Ok, Err, Vec}
use Rattle.std.specs.declared.alloc.Global.{Global}
use Rattle.c25_chain.specs.Refusal.{Fault}
use Rattle.c25_chain.specs.declared.fault.ChainFault.{ChainFault}
use Rattle.c25_chain.specs.declared.fault.ChainFault.TheVariants.{Object}
use Rattle.c25_disk.specs.Held.{AreAsHeld, Held}
use Rattle.c25_meaning_expansion.specs.Files.{Files}
use Rattle.c25_meaning_objects.specs.Module.{Contents}
use Rattle.c25_meaning_objects.specs.RecordReading.{module_of}
use Rattle.c25_meaning_common.specs.Results.{◌>>=◌, fold_ok, told}
use Rattle.c25_inputs.specs.Files.{FailsWith, IsUnread}
use Rattle.c25_inputs.specs.declared.objects.Object as code

-- the names and the bytes of files
abbrev pub objects_of : List code.Object → Files
objects_of objects = map (λ o. (o.name.now, o.bytes.items)) objects

-- the names of files
abbrev pub names_in : Files → List (List ℕ)
names_in files = map (λ file. file.0) files

-- the files of these names, each with all that it has
pub record AreFiles (held : Held) (names : List (List ℕ)) (files : Files) : Type 0 where
  pub named : names_in files ≡ names
  pub as_held : AreAsHeld held files

-- one of the files of these names cannot be read (8) and those before it were, or memory ran out
pub record IsUnreadAmong (held : Held) (names : List (List ℕ)) (fault : Fault) : Type 0 where
  pub before : List (List ℕ)
  pub files : Files
  pub name : List ℕ
  pub after : List (List ℕ)
  pub among : names ≡ before ++ name ∷ after
  pub read : AreFiles held before files
  pub unread : IsUnread name fault

-- the bytes of the files of these names, or why they are not read
abbrev pub ReadsBytes : Held → List (List ℕ) → Result (Vec code.Object Global) Fault → Type 0
ReadsBytes held names (Ok objects) = AreFiles held names (objects_of objects.items)
ReadsBytes held names (Err fault) = IsUnreadAmong held names fault

-- what follows the files of names, or that one of them cannot be read
abbrev pub AfterObjects : {A : Type 0} → Held → List (List ℕ) → (Files → Result A Fault → Type 0) → Result A Fault → Type 0
AfterObjects held names next answer = FailsWith answer (IsUnreadAmong held names) ⊎ ((files : Files) × AreFiles held names files × next files answer)

-- the module of a file, or why its bytes are invalid
abbrev pub module_in : List ℕ × List ℕ → Result Contents (ChainFault (List ℕ))
module_in file = told (λ fault. Object (record { place = file.0; fault = fault })) (module_of file.1)

-- the modules with that of one more file, or its fault
abbrev pub with_object : List Contents → List ℕ × List ℕ → Result (List Contents) (ChainFault (List ℕ))
with_object modules file = module_in file >>= λ m. Ok (modules ++ m ∷ [])

-- the modules of files, in order, or the first fault
abbrev pub modules_in : Files → Result (List Contents) (ChainFault (List ℕ))
modules_in files = fold_ok with_object [] files
