-- The names of old files and of the new ones.
use Rattle.std.specs.Prelude.{ℕ, ◌==◌, ◌&&◌, Bool, true, false, if◌then◌else◌, List, [], ◌∷◌, bytes_eq, unwrap_or}
use Rattle.std.specs.Path.{path_file_name, path_join}

-- the last part of a file's name, after its folders
abbrev pub last_part : List ℕ → List ℕ
last_part name = unwrap_or (path_file_name name) name

-- the name of the new file in a folder
abbrev pub new_name : (folder old : List ℕ) → List ℕ
new_name folder old = path_join folder (last_part old)

-- a name without the `./` that begin it
unfoldable pub plain : List ℕ → List ℕ
plain [] = []
plain (c ∷ []) = c ∷ []
plain (c ∷ (d ∷ cs)) = if (c == 46 && d == 47) then plain cs else c ∷ d ∷ cs

-- whether a name is one of these
unfoldable pub is_among : List (List ℕ) → List ℕ → Bool
is_among [] name = false
is_among (n ∷ ns) name = if bytes_eq (plain name) (plain n) then true else is_among ns name

-- whether one of some names is among others
unfoldable pub meet : (names others : List (List ℕ)) → Bool
meet [] others = false
meet (n ∷ ns) others = if is_among others n then true else meet ns others
