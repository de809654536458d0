-- The names that owned strings stand for.
use Rattle.std.specs.Prelude.{ℕ, List, map, String}
use Rattle.std.specs.declared.alloc.Global.{Global}
use Rattle.std.specs.String.{string_bytes}

-- names by their bytes
abbrev pub bytes_of_names : List (String Global) → List (List ℕ)
bytes_of_names names = map string_bytes names
