-- What maps and lists of names and their texts stand for, and where a name is first found in one.
use Rattle.std.specs.Prelude.{◌≡◌, ◌<◌, ℕ, List, map, length, take, slice_index_or, String, Option, None, true, MatchOption}
use Rattle.std.specs.declared.alloc.Global.{Global}
use Rattle.std.specs.Map.{lookup}
use Rattle.std.specs.Str.{bytes_eq}
use Rattle.std.specs.String.{string_bytes}

-- the entries of a map or list, with names and texts as bytes
abbrev pub pairs : List (String Global × String Global) → List (List ℕ × List ℕ)
pairs entries = map (λ e. (string_bytes e.0, string_bytes e.1)) entries

-- the first entry of a name stands at this place
pub record IsFirstOf (name : List ℕ) (entries : List (String Global × String Global)) (place : ℕ) : Type 0 where
  pub within : place < length entries
  pub none_before : lookup (bytes_eq name) (pairs (take place entries)) ≡ None
  pub named : (e : String Global × String Global) → bytes_eq name (string_bytes (slice_index_or entries place e).0) ≡ true

-- the place of the first entry of a name; None where there is no such entry
abbrev pub IsPlaceOf : List ℕ → List (String Global × String Global) → Option ℕ → Type 0
IsPlaceOf name entries place = MatchOption place (lookup (bytes_eq name) (pairs entries) ≡ None) (IsFirstOf name entries)
