-- Files that are looked for in folders.
use Rattle.std.specs.Prelude.{◌≡◌, ◌⊎◌, ℕ, ◌==◌, ◌||◌, Bool, false, nat_lt, if◌then◌else◌, List, [], ◌∷◌, ◌++◌, Option, Some, None, codes, length, map, slice_get}
use Rattle.std.specs.List.{list_any}
use Rattle.std.specs.Str.{bytes_eq}
use Rattle.c25_disk.specs.Held.{Held}
use Rattle.c25_disk.specs.Refusals.{Refuses}
use Rattle.c25_disk.specs.declared.refusal.Refusal.{Refusal}

-- which names can be opened, where that is known
abbrev pub Opens : Type 0
Opens = List ℕ → Option Bool

-- the place of a name in a folder
abbrev pub place_in : List ℕ → List ℕ → List ℕ
place_in name folder = folder ++ codes "/" ++ name

-- the places of a name in folders, in their order
abbrev pub places : List ℕ → List (List ℕ) → List (List ℕ)
places name = map (place_in name)

-- a place of more than 4,096 bytes cannot be opened
abbrev pub can_open : Opens → Opens
can_open opens place = if nat_lt 4096 (length place) then Some false else opens place

-- the bytes of a file, where the first place that can be opened is known, and they are
abbrev pub found_in : Held → Opens → List (List ℕ) → Option (List ℕ)
found_in held opens [] = None
found_in held opens (place ∷ rest) =
    elim (can_open opens place) [ None ↦ None | Some can ↦ if can then held place else found_in held opens rest ]

-- a name that begins with a slash
abbrev pub begins_at_root : List ℕ → Bool
begins_at_root [] = false
begins_at_root (byte ∷ bytes) = byte == 47

-- whether this name is given and is this one
abbrev pub is_name_of : List ℕ → Option (List ℕ) → Bool
is_name_of name None = false
is_name_of name (Some given) = bytes_eq name given

-- a name that is tried only as it stands: that of a source, or of a file next to the sources, or one that begins at the
-- root
abbrev pub stands_alone : (sources : List (List ℕ)) → (beside : List (Option (List ℕ))) → List ℕ → Bool
stands_alone sources beside name = begins_at_root name || (list_any (bytes_eq name) sources || list_any (is_name_of name) beside)

-- what a disk holds where files are looked for in folders too: the file of a name as it stands if it can be opened, and else the first
-- that can be opened in a folder
abbrev pub in_folders : (sources : List (List ℕ)) → (beside : List (Option (List ℕ))) → (folders : List (List ℕ)) → Opens → Held → Held
in_folders sources beside folders opens held name =
    if length folders == 0 || stands_alone sources beside name then held name
    else elim (opens name) [ None ↦ None | Some can ↦ if can then held name else found_in held opens (places name folders) ]

-- what may be said of why a file cannot be read that is looked for in folders too: what may be said of its name as it stands, or of its place in one of
-- the folders
abbrev pub RefusesIn : Refuses → (folders : List (List ℕ)) → List ℕ → Refusal → Type 0
RefusesIn refuses folders name why =
    refuses name why ⊎ ((k : ℕ) × (folder : List ℕ) × (slice_get folders k ≡ Some folder) × refuses (place_in name folder) why)
