-- What the entries of a map from names to texts stand for.
use Rattle.std.specs.Prelude.{ℕ, List, map, String}
use Rattle.std.specs.declared.alloc.Global.{Global}
use Rattle.std.specs.String.{string_bytes}

-- entries with their names as bytes
abbrev pub named_texts : List (String Global × List ℕ) → List (List ℕ × List ℕ)
named_texts entries = map (λ e. (string_bytes e.0, e.1)) entries
