-- Why a file cannot be opened or read, by the error of the system.
use Rattle.std.specs.IoError.{error_kind, raw_os_error}
use Rattle.std.specs.Prelude.{◌≡◌, ⊤, ℕ, ℤ, List, Option, Some, None, option_map, unsigned_abs}
use Rattle.std.specs.declared.io.Error.{Error}
use Rattle.std.specs.declared.io.ErrorKind.{ErrorKind}
use Rattle.std.specs.declared.io.ErrorKind.TheVariants as error
use Rattle.c25_disk.specs.declared.refusal.Refusal.{Refusal}
use Rattle.c25_disk.specs.declared.refusal.Refusal.TheVariants.{Missing, Forbidden, IsFolder, FileInPath, LongName, LinkCircle, System}

-- the reason that an error of this kind and with this number of the system, where it has one, stands for
abbrev pub refusal_by : ErrorKind → (number : Option ℤ) → Option Refusal
refusal_by error.NotFound number = Some Missing
refusal_by error.PermissionDenied number = Some Forbidden
refusal_by error.IsADirectory number = Some IsFolder
refusal_by error.NotADirectory number = Some FileInPath
refusal_by error.InvalidFilename number = Some LongName
refusal_by error.FilesystemLoop number = Some LinkCircle
refusal_by kind number = option_map (λ n. System (unsigned_abs n)) number

-- an error of the system stands for this reason
abbrev pub IsOfSystem : Refusal → Type 0
IsOfSystem why = (e : Error) × (refusal_by (error_kind e) (raw_os_error e) ≡ Some why)

-- what may be said of why the file of a name cannot be opened or read
abbrev pub Refuses : Type 1
Refuses = List ℕ → Refusal → Type 0

-- anything may be said
abbrev pub any_reason : Refuses
any_reason name why = ⊤
